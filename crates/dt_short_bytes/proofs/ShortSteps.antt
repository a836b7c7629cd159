-- One step of what is read or written by groups, at the bytes that the code sees.
use Rattle.std.proofs.Common.{◌≡◌, ℕ, zero, suc, ◌+◌, ◌-◌, ◌*◌, ◌/◌, ◌%◌, ◌^◌, ◌<◌, ◌≤◌, Bool, true, false, cond, eqb, ltb, not, List, [], ◌∷◌, ◌++◌, length, take, drop, get_or, Result, Ok, Err, refl, sym, ap, subst, ◌∙◌, arith}
use Rattle.std.proofs.lemmas.Bool.{eqb-true, lt-ltb, le-ltb, ne_eqb, not-false}
use Rattle.std.proofs.lemmas.Nat.{pow-add, pow_pos}
use Rattle.std.proofs.Math.Pow.{pow_mono}
use Rattle.std.proofs.lemmas.List.{take_all, append_assoc}
use Rattle.dt_record.specs.Spelling.{varint, varint_within}
use Rattle.dt_short_bytes.specs.declared.short_pieces.Stop.{Stop}
use Rattle.dt_short_bytes.specs.declared.short_pieces.Stop.TheVariants.{Short, Bad}
use Rattle.dt_short_bytes.specs.ShortReading.{◌>>=◌, is_wrong_group, groups_at, presence_at}
use Rattle.dt_short_bytes.proofs.ShortVarint.{wider}

abbrev pub behind_first : List ℕ → List ℕ
behind_first xs = take (length xs - 1) (drop 1 xs)

behind_is : (b : ℕ) (after : List ℕ) → behind_first (b ∷ after) ≡ after
behind_is b after = take_all (length (b ∷ after) - 1) after (omega arith)

pub groups_none : (more : ℕ) (xs : List ℕ) → length xs < 1 → groups_at more xs ≡ Err Short
unfolding groups_at
groups_none zero [] lt = refl
groups_none (suc more) [] lt = refl
groups_none more (b ∷ after) lt = absurd (omega arith)

wrong_behind : (more n : ℕ) → is_wrong_group (suc more) n ≡ eqb n 0
wrong_behind more n = ap (λ (t : Bool). cond t (not (eqb n 1)) (eqb n 0)) (ne_eqb (suc more) 0 (λ e. omega arith))

abbrev Answer : Type 0
Answer = Result (ℕ × List ℕ) Stop

wrong_last : (after : List ℕ) (b : ℕ) (t : Bool) → not t ≡ true → cond {A = Answer} t (Ok (1, after)) (Err (Bad (length after + 1))) ≡ Err (Bad (length (b ∷ after)))
wrong_last after b true e = absurd cc
wrong_last after b false e = ap (λ (k : ℕ). Err (Bad k)) (let s : length after + 1 ≡ suc (length after) = omega arith in s)

pub groups_wrong : (more n : ℕ) (xs : List ℕ) → 1 ≤ length xs → n ≡ get_or xs 0 0 → is_wrong_group more n ≡ true → groups_at more xs ≡ Err (Bad (length xs))
unfolding groups_at
groups_wrong more n [] long head wrong = absurd (omega arith)
groups_wrong zero n (b ∷ after) long head wrong =
    let e : not (eqb b 1) ≡ true = ap (λ (k : ℕ). not (eqb k 1)) (sym head) ∙ wrong in
    wrong_last after b (eqb b 1) e
groups_wrong (suc more) n (b ∷ after) long head wrong =
    let e : eqb b 0 ≡ true = ap (λ (k : ℕ). eqb k 0) (sym head) ∙ sym (wrong_behind more n) ∙ wrong in
    ap (λ (t : Bool). cond {A = Answer} t (Err (Bad (length after + 1))) (cond (ltb b 128) (Ok (b, after)) (groups_at more after >>= λ high. Ok (b - 128 + 128 * high.0, high.1)))) e
    ∙ ap (λ (k : ℕ). Err (Bad k)) (let s : length after + 1 ≡ suc (length after) = omega arith in s)

pub groups_small : (more n : ℕ) (xs : List ℕ) → 1 ≤ length xs → n ≡ get_or xs 0 0 → is_wrong_group more n ≡ false → n < 128 → groups_at more xs ≡ Ok (n, behind_first xs)
unfolding groups_at
groups_small more n [] long head right low = absurd (omega arith)
groups_small zero n (b ∷ after) long head right low =
    let same : n ≡ b = head in
    let e : not (eqb b 1) ≡ false = ap (λ (k : ℕ). not (eqb k 1)) (sym same) ∙ right in
    let one : eqb b 1 ≡ true = not-false (eqb b 1) e in
    let b-is : b ≡ 1 = eqb-true b 1 one in
    ap (λ (t : Bool). cond {A = Answer} t (Ok (1, after)) (Err (Bad (length after + 1)))) one
    ∙ ap (λ (k : ℕ). Ok (k, after)) (sym b-is ∙ sym same) ∙ ap (λ (t : List ℕ). Ok (n, t)) (sym (behind_is b after))
groups_small (suc more) n (b ∷ after) long head right low =
    let same : n ≡ b = head in
    let e : eqb b 0 ≡ false = ap (λ (k : ℕ). eqb k 0) (sym same) ∙ sym (wrong_behind more n) ∙ right in
    let small : ltb b 128 ≡ true = lt-ltb b 128 (omega arith) in
    ap (λ (t : Bool). cond {A = Answer} t (Err (Bad (length after + 1))) (cond (ltb b 128) (Ok (b, after)) (groups_at more after >>= λ high. Ok (b - 128 + 128 * high.0, high.1)))) e
    ∙ ap (λ (t : Bool). cond {A = Answer} t (Ok (b, after)) (groups_at more after >>= λ high. Ok (b - 128 + 128 * high.0, high.1))) small
    ∙ ap (λ (k : ℕ). Ok (k, after)) (sym same) ∙ ap (λ (t : List ℕ). Ok (n, t)) (sym (behind_is b after))

pub groups_high : (more n : ℕ) (xs : List ℕ) (r : Result (ℕ × List ℕ) Stop) → 1 ≤ length xs → n ≡ get_or xs 0 0 → is_wrong_group more n ≡ false → 128 ≤ n
    → groups_at (more - 1) (behind_first xs) ≡ r → groups_at more xs ≡ (r >>= λ high. Ok (n - 128 + 128 * high.0, high.1))
unfolding groups_at
groups_high more n [] r long head right high others = absurd (omega arith)
groups_high zero n (b ∷ after) r long head right high others =
    let one : n ≡ 1 = eqb-true n 1 (not-false (eqb n 1) right) in
    absurd (omega arith)
groups_high (suc more) n (b ∷ after) r long head right high others =
    let same : n ≡ b = head in
    let e : eqb b 0 ≡ false = ap (λ (k : ℕ). eqb k 0) (sym same) ∙ sym (wrong_behind more n) ∙ right in
    let large : ltb b 128 ≡ false = le-ltb b 128 (omega arith) in
    let before : suc more - 1 ≡ more = omega arith in
    let read : groups_at more after ≡ r = ap (λ (k : ℕ). groups_at k after) (sym before) ∙ ap (groups_at (suc more - 1)) (sym (behind_is b after)) ∙ others in
    ap (λ (t : Bool). cond {A = Answer} t (Err (Bad (length after + 1))) (cond (ltb b 128) (Ok (b, after)) (groups_at more after >>= λ high. Ok (b - 128 + 128 * high.0, high.1)))) e
    ∙ ap (λ (t : Bool). cond {A = Answer} t (Ok (b, after)) (groups_at more after >>= λ high. Ok (b - 128 + 128 * high.0, high.1))) large
    ∙ ap (λ (s : Result (ℕ × List ℕ) Stop). s >>= λ high. Ok (b - 128 + 128 * high.0, high.1)) read
    ∙ ap (λ (k : ℕ). r >>= λ high. Ok (k - 128 + 128 * high.0, high.1)) (sym same)

pub small_below : (more n : ℕ) → is_wrong_group more n ≡ false → n < 128 → n < 2 ^ (7 * more + 1)
small_below zero n right low =
    let one : n ≡ 1 = eqb-true n 1 (not-false (eqb n 1) right) in
    omega arith
small_below (suc more) n right low = omega (arith, wider more, pow_pos (7 * more + 1))

pub some_more : (more n : ℕ) → is_wrong_group more n ≡ false → 128 ≤ n → 0 < more
some_more zero n right high =
    let one : n ≡ 1 = eqb-true n 1 (not-false (eqb n 1) right) in
    absurd (omega arith)
some_more (suc more) n right high = omega arith

pub high_below : (more n high : ℕ) → 0 < more → n < 256 → high < 2 ^ (7 * (more - 1) + 1) → n - 128 + 128 * high < 2 ^ (7 * more + 1)
high_below zero n high some byte below = absurd (omega arith)
high_below (suc more) n high some byte below =
    let before : suc more - 1 ≡ more = omega arith in
    let limit : high < 2 ^ (7 * more + 1) = subst (λ (k : ℕ). high < 2 ^ (7 * k + 1)) before below in
    omega (arith, wider more)

pub within_64 : (more n : ℕ) → more ≤ 9 → n < 2 ^ (7 * more + 1) → n < 2 ^ 64
within_64 more n le lt =
    let wide : 2 ^ (7 * more + 1) ≤ 2 ^ 64 = pow_mono {i = 7 * more + 1} {j = 64} (omega arith) in
    omega arith

-- ---- the presence bytes

pub presence_none : (bytes fields : ℕ) (xs : List ℕ) → bytes ≡ 0 → presence_at bytes fields xs ≡ Ok (0, xs)
unfolding presence_at
presence_none zero fields xs e = refl
presence_none (suc bytes) fields xs e = absurd (omega arith)

pub presence_short : (bytes fields : ℕ) (xs : List ℕ) → (bytes ≡ 0 → ⊥) → length xs < 1 → presence_at bytes fields xs ≡ Err Short
unfolding presence_at
presence_short zero fields xs some lt = absurd (some refl)
presence_short (suc bytes) fields [] some lt = refl
presence_short (suc bytes) fields (b ∷ after) some lt = absurd (omega arith)

pub presence_past : (bytes fields n : ℕ) (xs : List ℕ) → (bytes ≡ 0 → ⊥) → 1 ≤ length xs → n ≡ get_or xs 0 0 → 2 ^ fields ≤ n → presence_at bytes fields xs ≡ Err (Bad (length xs))
unfolding presence_at
presence_past zero fields n xs some long head past = absurd (some refl)
presence_past (suc bytes) fields n [] some long head past = absurd (omega arith)
presence_past (suc bytes) fields n (b ∷ after) some long head past =
    let same : n ≡ b = head in
    let limit = 2 ^ fields in
    let e : ltb b (2 ^ fields) ≡ false = le-ltb b (2 ^ fields) (subst (λ (k : ℕ). 2 ^ fields ≤ k) same past) in
    ap (λ (t : Bool). cond {A = Answer} t (presence_at bytes (fields - 8) after >>= λ high. Ok (b + 256 * high.0, high.1)) (Err (Bad (length after + 1)))) e
    ∙ ap (λ (k : ℕ). Err (Bad k)) (let s : length after + 1 ≡ suc (length after) = omega arith in s)

pub presence_on : (bytes fields n : ℕ) (xs : List ℕ) (r : Result (ℕ × List ℕ) Stop) → (bytes ≡ 0 → ⊥) → 1 ≤ length xs → n ≡ get_or xs 0 0 → n < 2 ^ fields
    → presence_at (bytes - 1) (fields - 8) (behind_first xs) ≡ r → presence_at bytes fields xs ≡ (r >>= λ high. Ok (n + 256 * high.0, high.1))
unfolding presence_at
presence_on zero fields n xs r some long head low others = absurd (some refl)
presence_on (suc bytes) fields n [] r some long head low others = absurd (omega arith)
presence_on (suc bytes) fields n (b ∷ after) r some long head low others =
    let same : n ≡ b = head in
    let e : ltb b (2 ^ fields) ≡ true = lt-ltb b (2 ^ fields) (subst (λ (k : ℕ). k < 2 ^ fields) same low) in
    let before : suc bytes - 1 ≡ bytes = omega arith in
    let read : presence_at bytes (fields - 8) after ≡ r =
    ap (λ (k : ℕ). presence_at k (fields - 8) after) (sym before) ∙ ap (presence_at (suc bytes - 1) (fields - 8)) (sym (behind_is b after)) ∙ others in
    ap (λ (t : Bool). cond {A = Answer} t (presence_at bytes (fields - 8) after >>= λ high. Ok (b + 256 * high.0, high.1)) (Err (Bad (length after + 1)))) e
    ∙ ap (λ (s : Result (ℕ × List ℕ) Stop). s >>= λ high. Ok (b + 256 * high.0, high.1)) read
    ∙ ap (λ (k : ℕ). r >>= λ high. Ok (k + 256 * high.0, high.1)) (sym same)

pub bits_below : (bytes n high : ℕ) → (bytes ≡ 0 → ⊥) → n < 256 → high < 2 ^ (8 * (bytes - 1)) → n + 256 * high < 2 ^ (8 * bytes)
bits_below zero n high some byte below = absurd (some refl)
bits_below (suc bytes) n high some byte below =
    let before : suc bytes - 1 ≡ bytes = omega arith in
    let limit : high < 2 ^ (8 * bytes) = subst (λ (k : ℕ). high < 2 ^ (8 * k)) before below in
    let wide : 2 ^ (8 * suc bytes) ≡ 256 * 2 ^ (8 * bytes) = ap (λ (k : ℕ). 2 ^ k) (let s : 8 * suc bytes ≡ 8 + 8 * bytes = omega arith in s) ∙ pow-add 2 8 (8 * bytes) in
    omega arith

pub within_32 : (bytes n : ℕ) → bytes ≤ 4 → n < 2 ^ (8 * bytes) → n < 2 ^ 32
within_32 bytes n le lt =
    let wide : 2 ^ (8 * bytes) ≤ 2 ^ 32 = pow_mono {i = 8 * bytes} {j = 32} (omega arith) in
    omega arith

-- ---- writing a number

within_longer : (more n : ℕ) → n < 2 ^ (7 * more + 1) → varint_within more n ≡ varint_within (suc more) n
within_longer zero n lt =
    let low : ltb n 128 ≡ true = lt-ltb n 128 (omega arith) in
    sym (ap (λ (t : Bool). cond t (n ∷ []) ((128 + n % 128) ∷ varint_within zero (n / 128))) low)
within_longer (suc more) n lt =
    let below : n / 128 < 2 ^ (7 * more + 1) = omega (arith, wider more) in
    ap (λ (t : List ℕ). cond (ltb n 128) (n ∷ []) ((128 + n % 128) ∷ t)) (within_longer more (n / 128) below)

pub varint_last : (n : ℕ) → n < 128 → varint n ≡ n ∷ []
unfolding varint
varint_last n lt = ap (λ (t : Bool). cond t (n ∷ []) ((128 + n % 128) ∷ varint_within 8 (n / 128))) (lt-ltb n 128 lt)

pub varint_more : (n : ℕ) → 128 ≤ n → n < 2 ^ 64 → varint n ≡ (128 + n % 128) ∷ varint (n / 128)
unfolding varint
varint_more n le lt =
    let below : n / 128 < 2 ^ (7 * 8 + 1) = omega arith in
    ap (λ (t : Bool). cond t (n ∷ []) ((128 + n % 128) ∷ varint_within 8 (n / 128))) (le-ltb n 128 le)
    ∙ ap (λ (t : List ℕ). (128 + n % 128) ∷ t) (within_longer 8 (n / 128) below)

pub pushed : (old out text : List ℕ) (b : ℕ) (rest : List ℕ) → out ++ text ≡ old → text ≡ b ∷ rest → (out ++ b ∷ []) ++ rest ≡ old
pushed old out text b rest e same = append_assoc out (b ∷ []) rest ∙ ap (λ (t : List ℕ). out ++ t) (sym same) ∙ e

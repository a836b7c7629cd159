-- The first field of a header that isn't whole or breaks its bound.
use Rattle.std.proofs.Common.{◌≡◌, ℕ, zero, suc, ◌+◌, ◌-◌, ◌<◌, ◌≤◌, ◌⊎◌, inl, inr, Bool, true, false, not, ◌&&◌, ◌||◌, IsTrue, cond, List, [], ◌∷◌, ◌++◌, length, take, drop, get_or, codes, Option, Some, None, refl, sym, ap, ◌∙◌, subst, arith}
use Rattle.std.specs.Prelude.{find, ◌==◌, nat_lt}
use Rattle.std.specs.Option.{option_map}
use Rattle.std.specs.List.{AllByRecursion}
use Rattle.std.specs.Str.{bytes_eq}
use Rattle.std.specs.Cmp.Lexicographic.{bytes_decides}
use Rattle.std.proofs.lemmas.Bool.{cases_lt, lt-ltb}
use Rattle.std.proofs.lemmas.List.{length-take, length-drop}
use Rattle.dt_record.specs.Lawful.{Bound, bound}
use Rattle.dt_record.specs.Spelling.{Version, One, Two, half, word, flag}
use Rattle.dt_record.specs.ProbeFile.{version_number, header_bytes}
use Rattle.dt_record.specs.Answers.{starts_with_any, header_fault}
use Rattle.dt_probe_file.specs.Headers.{header_byte, field_start}

-- The fields of a header, and the first that doesn't hold.

abbrev magic_holds : List ℕ → Bool
magic_holds bytes = bytes_eq (take 8 bytes) (codes "SMPDIFF" ++ 0 ∷ [])

abbrev version_holds : List ℕ → Bool
version_holds bytes = bytes_eq (take 2 bytes) (half 1) || bytes_eq (take 2 bytes) (half 2)

abbrev harts_hold : List ℕ → Bool
harts_hold bytes = starts_with_any (1 ∷ 2 ∷ 3 ∷ 4 ∷ 5 ∷ 6 ∷ 7 ∷ 8 ∷ []) bytes

abbrev flags_hold : List ℕ → Bool
flags_hold bytes = starts_with_any (0 ∷ 1 ∷ []) bytes

abbrev zeros_hold : List ℕ → Bool
zeros_hold bytes = bytes_eq (take 4 bytes) (word 0)

abbrev fault_with : (a b c d e : Bool) → Option ℕ
fault_with a b c d e =
    option_map (λ (x : Bound). x.place) (find (λ (x : Bound). not x.holds) (bound 0 a ∷ bound 8 b ∷ bound 10 c ∷ bound 11 d ∷ bound 12 e ∷ []))

fault_is : (bytes : List ℕ) → header_fault bytes ≡ fault_with (magic_holds bytes) (version_holds (drop 8 bytes)) (harts_hold (drop 10 bytes)) (flags_hold (drop 11 bytes)) (zeros_hold (drop 12 bytes))
fault_is bytes = refl

all_hold : (a b c d e : Bool) → fault_with a b c d e ≡ None → (a ≡ true) × (b ≡ true) × (c ≡ true) × (d ≡ true) × (e ≡ true)
all_hold true true true true true h = (refl, refl, refl, refl, refl)
all_hold false b c d e h = absurd cc
all_hold true false c d e h = absurd cc
all_hold true true false d e h = absurd cc
all_hold true true true false e h = absurd cc
all_hold true true true true false h = absurd cc

first_magic : (a b c d e : Bool) → a ≡ false → fault_with a b c d e ≡ Some 0
first_magic false b c d e h = refl
first_magic true b c d e h = absurd cc

first_version : (a b c d e : Bool) → a ≡ true → b ≡ false → fault_with a b c d e ≡ Some 8
first_version true false c d e g h = refl
first_version false b c d e g h = absurd cc
first_version true true c d e g h = absurd cc

first_harts : (a b c d e : Bool) → a ≡ true → b ≡ true → c ≡ false → fault_with a b c d e ≡ Some 10
first_harts true true false d e f g h = refl
first_harts false b c d e f g h = absurd cc
first_harts true false c d e f g h = absurd cc
first_harts true true true d e f g h = absurd cc

first_flags : (a b c d e : Bool) → a ≡ true → b ≡ true → c ≡ true → d ≡ false → fault_with a b c d e ≡ Some 11
first_flags true true true false e i f g h = refl
first_flags false b c d e i f g h = absurd cc
first_flags true false c d e i f g h = absurd cc
first_flags true true false d e i f g h = absurd cc
first_flags true true true true e i f g h = absurd cc

first_zeros : (a b c d e : Bool) → a ≡ true → b ≡ true → c ≡ true → d ≡ true → e ≡ false → fault_with a b c d e ≡ Some 12
first_zeros true true true true false j i f g h = refl
first_zeros false b c d e j i f g h = absurd cc
first_zeros true false c d e j i f g h = absurd cc
first_zeros true true false d e j i f g h = absurd cc
first_zeros true true true false e j i f g h = absurd cc
first_zeros true true true true true j i f g h = absurd cc

-- Fields byte by byte.

-- so many bytes, each of which may stand at its place
all_fit : (ℕ → ℕ → Bool) → ℕ → List ℕ → Bool
all_fit may zero bytes = true
all_fit may (suc n) [] = false
all_fit may (suc n) (b ∷ bytes) = may 0 b && all_fit (λ j. may (suc j)) n bytes

abbrev from : ℕ → ℕ → ℕ → Bool
from place j b = header_byte (place + j) b

magic_fits : (d : List ℕ) → magic_holds d ≡ all_fit (from 0) 8 d
unfolding all_fit
magic_fits [] = refl
magic_fits (a ∷ []) = refl
magic_fits (a ∷ b ∷ []) = refl
magic_fits (a ∷ b ∷ c ∷ []) = refl
magic_fits (a ∷ b ∷ c ∷ d ∷ []) = refl
magic_fits (a ∷ b ∷ c ∷ d ∷ e ∷ []) = refl
magic_fits (a ∷ b ∷ c ∷ d ∷ e ∷ f ∷ []) = refl
magic_fits (a ∷ b ∷ c ∷ d ∷ e ∷ f ∷ g ∷ []) = refl
magic_fits (a ∷ b ∷ c ∷ d ∷ e ∷ f ∷ g ∷ h ∷ rest) = refl

either : (p q r : Bool) → ((p && r) || (q && r)) ≡ ((p || q) && r)
either true true true = refl
either true true false = refl
either true false true = refl
either true false false = refl
either false true true = refl
either false true false = refl
either false false true = refl
either false false false = refl

never : (p q : Bool) → ((p && false) || (q && false)) ≡ ((p || q) && false)
never p q = either p q false

version_fits : (d : List ℕ) → version_holds d ≡ all_fit (from 8) 2 d
unfolding all_fit half
version_fits [] = refl
version_fits (a ∷ []) = never (a == 1) (a == 2)
version_fits (a ∷ b ∷ rest) = either (a == 1) (a == 2) ((b == 0) && true)

and_true : (p : Bool) → p ≡ (p && true)
and_true true = refl
and_true false = refl

harts_fit : (d : List ℕ) → harts_hold d ≡ all_fit (from 10) 1 d
unfolding all_fit
harts_fit [] = refl
harts_fit (a ∷ rest) = and_true (harts_hold (a ∷ []))

flags_fit : (d : List ℕ) → flags_hold d ≡ all_fit (from 11) 1 d
unfolding all_fit
flags_fit [] = refl
flags_fit (a ∷ rest) = and_true (flags_hold (a ∷ []))

zeros_fit : (d : List ℕ) → zeros_hold d ≡ all_fit (from 12) 4 d
unfolding all_fit word
zeros_fit [] = refl
zeros_fit (a ∷ []) = refl
zeros_fit (a ∷ b ∷ []) = refl
zeros_fit (a ∷ b ∷ c ∷ []) = refl
zeros_fit (a ∷ b ∷ c ∷ d ∷ rest) = refl

both_true : (p q : Bool) → IsTrue p → q ≡ true → (p && q) ≡ true
both_true true q h e = e
both_true false q h e = absurd cc

first_false : (p q : Bool) → p ≡ false → (p && q) ≡ false
first_false false q h = refl
first_false true q h = absurd cc

second_false : (p q : Bool) → q ≡ false → (p && q) ≡ false
second_false true q h = h
second_false false q h = refl

fit_true : (may : ℕ → ℕ → Bool) (n : ℕ) (d : List ℕ) → n ≤ length d → ((j : ℕ) → j < n → IsTrue (may j (get_or d j 0))) → all_fit may n d ≡ true
unfolding all_fit
fit_true may zero d le each = refl
fit_true may (suc n) [] le each = absurd (omega arith)
fit_true may (suc n) (b ∷ d) le each = both_true _ _ (each 0 (omega arith)) (fit_true (λ j. may (suc j)) n d (omega arith) (λ j lt. each (suc j) (omega arith)))

fit_false : (may : ℕ → ℕ → Bool) (n j : ℕ) (d : List ℕ) → j < n → (j < length d → may j (get_or d j 0) ≡ false) → all_fit may n d ≡ false
unfolding all_fit
fit_false may zero j d lt wrong = absurd (omega arith)
fit_false may (suc n) j [] lt wrong = refl
fit_false may (suc n) zero (b ∷ d) lt wrong = first_false _ _ (wrong (omega arith))
fit_false may (suc n) (suc j) (b ∷ d) lt wrong = second_false _ _ (fit_false (λ i. may (suc i)) n j d (omega arith) (λ within. wrong (omega arith)))

pub get_or_behind : (x : List ℕ) (p j : ℕ) → get_or (drop p x) j 0 ≡ get_or x (p + j) 0
get_or_behind x zero j = ap (λ (n : ℕ). get_or x n 0) (let e : j ≡ 0 + j = omega arith in e)
get_or_behind [] (suc p) j = refl
get_or_behind (b ∷ x) (suc p) j =
    let e : suc (p + j) ≡ suc p + j = omega arith in
    get_or_behind x p j ∙ ap (λ (n : ℕ). get_or (b ∷ x) n 0) e

-- the bytes before a place may stand in a header
abbrev pub AreRight : List ℕ → ℕ → Type 0
AreRight x k = (i : ℕ) → i < k → IsTrue (header_byte i (get_or x i 0))

right : (x : List ℕ) (k p n : ℕ) → k ≤ length x → AreRight x k → p + n ≤ k → all_fit (from p) n (drop p x) ≡ true
right x k p n within are le =
    fit_true (from p) n (drop p x) (omega (arith, length-drop p x))
    (λ j lt. subst (λ (b : ℕ). IsTrue (header_byte (p + j) b)) (sym (get_or_behind x p j)) (are (p + j) (omega arith)))

wrong : (x : List ℕ) (k p n : ℕ) → (k < length x → header_byte k (get_or x k 0) ≡ false) → p ≤ k → k < p + n → all_fit (from p) n (drop p x) ≡ false
wrong x k p n is le lt =
    let place : p + (k - p) ≡ k = omega arith in
    fit_false (from p) n (k - p) (drop p x) (omega arith)
    (λ within.
    let inside : k < length x = omega (arith, length-drop p x) in
    subst (λ (m : ℕ). header_byte (p + (k - p)) m ≡ false) (sym (get_or_behind x p (k - p)))
    (subst (λ (m : ℕ). header_byte m (get_or x m 0) ≡ false) (sym place) (is inside)))

start_0 : (k : ℕ) → k < 8 → field_start k ≡ 0
start_0 k lt = ap (λ (t : Bool). cond t 0 (cond (nat_lt k 10) 8 (cond (nat_lt k 11) 10 (cond (nat_lt k 12) 11 12)))) (lt-ltb k 8 lt)

not_below : (m n : ℕ) → n ≤ m → nat_lt m n ≡ false
not_below m n le = grind arith

start_8 : (k : ℕ) → 8 ≤ k → k < 10 → field_start k ≡ 8
start_8 k ge lt = rw (not_below k 8 ge, lt-ltb k 10 lt)

start_10 : (k : ℕ) → 10 ≤ k → k < 11 → field_start k ≡ 10
start_10 k ge lt = rw (not_below k 8 (omega arith), not_below k 10 ge, lt-ltb k 11 lt)

start_11 : (k : ℕ) → 11 ≤ k → k < 12 → field_start k ≡ 11
start_11 k ge lt = rw (not_below k 8 (omega arith), not_below k 10 (omega arith), not_below k 11 ge, lt-ltb k 12 lt)

start_12 : (k : ℕ) → 12 ≤ k → field_start k ≡ 12
start_12 k ge = rw (not_below k 8 (omega arith), not_below k 10 (omega arith), not_below k 11 (omega arith), not_below k 12 ge)

-- The fault is in the field of the first byte that is missing or wrong.
pub fault_at : (x : List ℕ) (k : ℕ) → k < 16 → k ≤ length x → AreRight x k → (k < length x → header_byte k (get_or x k 0) ≡ false) → header_fault x ≡ Some (field_start k)
fault_at x k few within are is =
    elim (cases_lt k 8) [
      | inl lt ↦ first_magic _ _ _ _ _ (magic_fits x ∙ wrong x k 0 8 is (omega arith) (omega arith)) ∙ ap (λ (p : ℕ). Some p) (sym (start_0 k lt))
      | inr ge8 ↦
          let a = magic_fits x ∙ right x k 0 8 within are (omega arith) in
          elim (cases_lt k 10) [
            | inl lt ↦ first_version _ _ _ _ _ a (version_fits (drop 8 x) ∙ wrong x k 8 2 is ge8 lt) ∙ ap (λ (p : ℕ). Some p) (sym (start_8 k ge8 lt))
            | inr ge10 ↦
                let b = version_fits (drop 8 x) ∙ right x k 8 2 within are ge10 in
                elim (cases_lt k 11) [
                  | inl lt ↦ first_harts _ _ _ _ _ a b (harts_fit (drop 10 x) ∙ wrong x k 10 1 is ge10 lt) ∙ ap (λ (p : ℕ). Some p) (sym (start_10 k ge10 lt))
                  | inr ge11 ↦
                      let c = harts_fit (drop 10 x) ∙ right x k 10 1 within are ge11 in
                      elim (cases_lt k 12) [
                        | inl lt ↦ first_flags _ _ _ _ _ a b c (flags_fit (drop 11 x) ∙ wrong x k 11 1 is ge11 lt) ∙ ap (λ (p : ℕ). Some p) (sym (start_11 k ge11 lt))
                        | inr ge12 ↦
                            let d = flags_fit (drop 11 x) ∙ right x k 11 1 within are ge12 in
                            first_zeros _ _ _ _ _ a b c d (zeros_fit (drop 12 x) ∙ wrong x k 12 4 is ge12 few) ∙ ap (λ (p : ℕ). Some p) (sym (start_12 k ge12))
                      ]
                ]
          ]
    ]

-- all bytes of a header may stand there: no field is wrong
pub no_fault : (x : List ℕ) → 16 ≤ length x → AreRight x 16 → header_fault x ≡ None
no_fault x within are =
    all_right _ _ _ _ _ (magic_fits x ∙ right x 16 0 8 within are (omega arith)) (version_fits (drop 8 x) ∙ right x 16 8 2 within are (omega arith))
    (harts_fit (drop 10 x) ∙ right x 16 10 1 within are (omega arith)) (flags_fit (drop 11 x) ∙ right x 16 11 1 within are (omega arith))
    (zeros_fit (drop 12 x) ∙ right x 16 12 4 within are (omega arith))
  where
    all_right : (a b c d e : Bool) → a ≡ true → b ≡ true → c ≡ true → d ≡ true → e ≡ true → fault_with a b c d e ≡ None
    all_right true true true true true f g h i j = refl
    all_right false b c d e f g h i j = absurd cc
    all_right true false c d e f g h i j = absurd cc
    all_right true true false d e f g h i j = absurd cc
    all_right true true true false e f g h i j = absurd cc
    all_right true true true true false f g h i j = absurd cc

-- A whole header.

pub record IsHeader (bytes : List ℕ) : Type 0 where
  pub version : Version
  pub harts : ℕ
  pub wide : Bool
  pub rest : List ℕ
  pub some_hart : 1 ≤ harts
  pub few_harts : harts ≤ 8
  pub spelled : bytes ≡ header_bytes version harts wide ++ rest

cells : (x : List ℕ) → 16 ≤ length x → x ≡ get_or x 0 0 ∷ get_or x 1 0 ∷ get_or x 2 0 ∷ get_or x 3 0 ∷ get_or x 4 0 ∷ get_or x 5 0 ∷ get_or x 6 0 ∷ get_or x 7 0 ∷ get_or x 8 0 ∷ get_or x 9 0 ∷ get_or x 10 0 ∷ get_or x 11 0 ∷ get_or x 12 0 ∷ get_or x 13 0 ∷ get_or x 14 0 ∷ get_or x 15 0 ∷ drop 16 x
cells [] le = absurd (omega arith)
cells (a ∷ []) le = absurd (omega arith)
cells (a ∷ b ∷ []) le = absurd (omega arith)
cells (a ∷ b ∷ c ∷ []) le = absurd (omega arith)
cells (a ∷ b ∷ c ∷ d ∷ []) le = absurd (omega arith)
cells (a ∷ b ∷ c ∷ d ∷ e ∷ []) le = absurd (omega arith)
cells (a ∷ b ∷ c ∷ d ∷ e ∷ f ∷ []) le = absurd (omega arith)
cells (a ∷ b ∷ c ∷ d ∷ e ∷ f ∷ g ∷ []) le = absurd (omega arith)
cells (a ∷ b ∷ c ∷ d ∷ e ∷ f ∷ g ∷ h ∷ []) le = absurd (omega arith)
cells (a ∷ b ∷ c ∷ d ∷ e ∷ f ∷ g ∷ h ∷ i ∷ []) le = absurd (omega arith)
cells (a ∷ b ∷ c ∷ d ∷ e ∷ f ∷ g ∷ h ∷ i ∷ j ∷ []) le = absurd (omega arith)
cells (a ∷ b ∷ c ∷ d ∷ e ∷ f ∷ g ∷ h ∷ i ∷ j ∷ k ∷ []) le = absurd (omega arith)
cells (a ∷ b ∷ c ∷ d ∷ e ∷ f ∷ g ∷ h ∷ i ∷ j ∷ k ∷ l ∷ []) le = absurd (omega arith)
cells (a ∷ b ∷ c ∷ d ∷ e ∷ f ∷ g ∷ h ∷ i ∷ j ∷ k ∷ l ∷ m ∷ []) le = absurd (omega arith)
cells (a ∷ b ∷ c ∷ d ∷ e ∷ f ∷ g ∷ h ∷ i ∷ j ∷ k ∷ l ∷ m ∷ n ∷ []) le = absurd (omega arith)
cells (a ∷ b ∷ c ∷ d ∷ e ∷ f ∷ g ∷ h ∷ i ∷ j ∷ k ∷ l ∷ m ∷ n ∷ o ∷ []) le = absurd (omega arith)
cells (a ∷ b ∷ c ∷ d ∷ e ∷ f ∷ g ∷ h ∷ i ∷ j ∷ k ∷ l ∷ m ∷ n ∷ o ∷ p ∷ rest) le = refl

one_or_other : (p q : Bool) → (p || q) ≡ true → (p ≡ true) ⊎ (q ≡ true)
one_or_other true q h = inl refl
one_or_other false q h = inr h

-- a first byte that is one of some is within their bounds
within_bounds : (low high : ℕ) (wanted : List ℕ) (b : ℕ) (rest : List ℕ) → AllByRecursion (λ w. (low ≤ w) × (w ≤ high)) wanted → starts_with_any wanted (b ∷ rest) ≡ true → (low ≤ b) × (b ≤ high)
within_bounds low high [] b rest each h = absurd cc
within_bounds low high (w ∷ wanted) b rest each h =
    elim (one_or_other (bytes_eq (b ∷ []) (w ∷ [])) (starts_with_any wanted (b ∷ rest)) h) [
      | inl is ↦
          let same : b ∷ [] ≡ w ∷ [] = (bytes_decides (b ∷ []) (w ∷ [])).0 is in
          let number : b ≡ w = cc in
          let low_is = each.0.0 in
          let high_is = each.0.1 in
          (omega arith, omega arith)
      | inr others ↦ within_bounds low high wanted b rest each.1 others
    ]

flag_again : (b : ℕ) → b ≤ 1 → b ≡ flag (not (b == 0))
flag_again zero le = refl
flag_again (suc zero) le = refl
flag_again (suc (suc b)) le = absurd (omega arith)

abbrev HasVersion : List ℕ → Type 0
HasVersion field = (v : Version) × (field ≡ half (version_number v))

version_in : (d : List ℕ) → version_holds d ≡ true → HasVersion (take 2 d)
version_in d h =
    elim (one_or_other (bytes_eq (take 2 d) (half 1)) (bytes_eq (take 2 d) (half 2)) h) [
      | inl is ↦ (One, (bytes_decides (take 2 d) (half 1)).0 is)
      | inr is ↦ (Two, (bytes_decides (take 2 d) (half 2)).0 is)
    ]

spelled_cells : (a b c d e f g h i j k l m n o p : ℕ) (rest : List ℕ) (v : Version) (w : Bool)
    → a ∷ b ∷ c ∷ d ∷ e ∷ f ∷ g ∷ h ∷ [] ≡ codes "SMPDIFF" ++ 0 ∷ [] → i ∷ j ∷ [] ≡ half (version_number v) → l ≡ flag w → m ∷ n ∷ o ∷ p ∷ [] ≡ word 0
    → a ∷ b ∷ c ∷ d ∷ e ∷ f ∷ g ∷ h ∷ i ∷ j ∷ k ∷ l ∷ m ∷ n ∷ o ∷ p ∷ rest ≡ header_bytes v k w ++ rest
unfolding header_bytes half word
spelled_cells a b c d e f g h i j k l m n o p rest v w magic version flags zeros =
    ap (λ (z : List ℕ). z ++ (i ∷ j ∷ k ∷ l ∷ m ∷ n ∷ o ∷ p ∷ rest)) magic
    ∙ ap (λ (z : List ℕ). (codes "SMPDIFF" ++ 0 ∷ []) ++ (z ++ (k ∷ l ∷ m ∷ n ∷ o ∷ p ∷ rest))) version
    ∙ ap (λ (z : ℕ). (codes "SMPDIFF" ++ 0 ∷ []) ++ (half (version_number v) ++ (k ∷ z ∷ m ∷ n ∷ o ∷ p ∷ rest))) flags
    ∙ ap (λ (z : List ℕ). (codes "SMPDIFF" ++ 0 ∷ []) ++ (half (version_number v) ++ (k ∷ flag w ∷ (z ++ rest)))) zeros

header_cells : (a b c d e f g h i j k l m n o p : ℕ) (rest : List ℕ) → header_fault (a ∷ b ∷ c ∷ d ∷ e ∷ f ∷ g ∷ h ∷ i ∷ j ∷ k ∷ l ∷ m ∷ n ∷ o ∷ p ∷ rest) ≡ None → IsHeader (a ∷ b ∷ c ∷ d ∷ e ∷ f ∷ g ∷ h ∷ i ∷ j ∷ k ∷ l ∷ m ∷ n ∷ o ∷ p ∷ rest)
header_cells a b c d e f g h i j k l m n o p rest none =
    let held = all_hold (magic_holds (a ∷ b ∷ c ∷ d ∷ e ∷ f ∷ g ∷ h ∷ [])) (version_holds (i ∷ j ∷ [])) (harts_hold (k ∷ [])) (flags_hold (l ∷ [])) (zeros_hold (m ∷ n ∷ o ∷ p ∷ [])) none in
    let version = version_in (i ∷ j ∷ []) held.1 in
    let harts = within_bounds 1 8 (1 ∷ 2 ∷ 3 ∷ 4 ∷ 5 ∷ 6 ∷ 7 ∷ 8 ∷ []) k [] ((omega arith, omega arith), ((omega arith, omega arith), ((omega arith, omega arith), ((omega arith, omega arith), ((omega arith, omega arith), ((omega arith, omega arith), ((omega arith, omega arith), ((omega arith, omega arith), tt)))))))) held.2 in
    let flags = within_bounds 0 1 (0 ∷ 1 ∷ []) l [] ((omega arith, omega arith), ((omega arith, omega arith), tt)) held.3 in
    record {
      version = version.0;
      harts = k;
      wide = not (l == 0);
      rest = rest;
      some_hart = harts.0;
      few_harts = harts.1;
      spelled =
          spelled_cells a b c d e f g h i j k l m n o p rest version.0 (not (l == 0)) ((bytes_decides (a ∷ b ∷ c ∷ d ∷ e ∷ f ∷ g ∷ h ∷ []) (codes "SMPDIFF" ++ 0 ∷ [])).0 held.0)
          version.1 (flag_again l flags.1) ((bytes_decides (m ∷ n ∷ o ∷ p ∷ []) (word 0)).0 held.4);
    }

long_enough : (x : List ℕ) → header_fault x ≡ None → 16 ≤ length x
unfolding word
long_enough x none =
    let held = all_hold (magic_holds x) (version_holds (drop 8 x)) (harts_hold (drop 10 x)) (flags_hold (drop 11 x)) (zeros_hold (drop 12 x)) none in
    let zeros : take 4 (drop 12 x) ≡ 0 ∷ 0 ∷ 0 ∷ 0 ∷ [] = (bytes_decides (take 4 (drop 12 x)) (word 0)).0 held.4 in
    omega (arith, ap length zeros, length-take 4 (drop 12 x), length-drop 12 x)

-- no field is wrong: the bytes begin with a header
pub header_of : (x : List ℕ) → header_fault x ≡ None → IsHeader x
header_of x none =
    let e = cells x (long_enough x none) in
    subst IsHeader (sym e) (header_cells _ _ _ _ _ _ _ _ _ _ _ _ _ _ _ _ _ (subst (λ (z : List ℕ). header_fault z ≡ None) e none))

in_bounds : (h : ℕ) → 1 ≤ h → h ≤ 8 → harts_hold (h ∷ []) ≡ true
in_bounds zero some few = absurd (omega arith)
in_bounds (suc zero) some few = refl
in_bounds (suc (suc zero)) some few = refl
in_bounds (suc (suc (suc zero))) some few = refl
in_bounds (suc (suc (suc (suc zero)))) some few = refl
in_bounds (suc (suc (suc (suc (suc zero))))) some few = refl
in_bounds (suc (suc (suc (suc (suc (suc zero)))))) some few = refl
in_bounds (suc (suc (suc (suc (suc (suc (suc zero))))))) some few = refl
in_bounds (suc (suc (suc (suc (suc (suc (suc (suc zero)))))))) some few = refl
in_bounds (suc (suc (suc (suc (suc (suc (suc (suc (suc h))))))))) some few = absurd (omega arith)

-- a header has no wrong field
pub header_holds : (v : Version) (harts : ℕ) (wide : Bool) (rest : List ℕ) → 1 ≤ harts → harts ≤ 8 → header_fault (header_bytes v harts wide ++ rest) ≡ None
unfolding header_bytes half word
header_holds One harts false rest some few = ap (λ (c : Bool). fault_with true true c true true) (in_bounds harts some few)
header_holds One harts true rest some few = ap (λ (c : Bool). fault_with true true c true true) (in_bounds harts some few)
header_holds Two harts false rest some few = ap (λ (c : Bool). fault_with true true c true true) (in_bounds harts some few)
header_holds Two harts true rest some few = ap (λ (c : Bool). fault_with true true c true true) (in_bounds harts some few)

flags_are_one : (w z : Bool) → flag w ≡ flag z → w ≡ z
flags_are_one false false e = refl
flags_are_one true true e = refl
flags_are_one false true e = absurd (omega arith)
flags_are_one true false e = absurd (omega arith)

-- what two headers of the same bytes share
pub record SameHeader (v u : Version) (h k : ℕ) (w z : Bool) (x y : List ℕ) : Type 0 where
  pub version : v ≡ u
  pub harts : h ≡ k
  pub wide : w ≡ z
  pub rest : x ≡ y

pub headers_are_one : (v u : Version) (h k : ℕ) (w z : Bool) (x y : List ℕ) → header_bytes v h w ++ x ≡ header_bytes u k z ++ y → SameHeader v u h k w z x y
unfolding header_bytes half word
headers_are_one One One h k w z x y e = record { version = refl; harts = ap (λ (l : List ℕ). get_or l 10 0) e; wide = flags_are_one w z (ap (λ (l : List ℕ). get_or l 11 0) e); rest = ap (drop 16) e }
headers_are_one Two Two h k w z x y e = record { version = refl; harts = ap (λ (l : List ℕ). get_or l 10 0) e; wide = flags_are_one w z (ap (λ (l : List ℕ). get_or l 11 0) e); rest = ap (drop 16) e }
headers_are_one One Two h k w z x y e = absurd (let number : ◌≡◌ {A = ℕ} 1 2 = ap (λ (l : List ℕ). get_or l 8 0) e in omega arith)
headers_are_one Two One h k w z x y e = absurd (let number : ◌≡◌ {A = ℕ} 2 1 = ap (λ (l : List ℕ). get_or l 8 0) e in omega arith)

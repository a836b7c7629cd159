-- The number fields that a loop has read.
use Rattle.std.proofs.Common.{◌≡◌, ℕ, suc, ◌+◌, ◌-◌, ◌/◌, ◌%◌, ◌<◌, ◌≤◌, eqb, List, [], ◌∷◌, ◌++◌, length, take, drop, set, replicate, Result, Ok, Err, refl, sym, ap, ◌∙◌, arith}
use Rattle.std.proofs.lemmas.List.{append_assoc, append-nil, length-take-le, take-append-drop, drop-set-lt, drop-drop, drop-replicate}
use Rattle.dt_short_bytes.specs.declared.short_pieces.Stop.{Stop}
use Rattle.dt_short_bytes.specs.ShortReading.{◌>>=◌, field_at, fields_at, padded, padded_at}

-- the numbers before, with those that were read after them
abbrev pub with_front : List ℕ → Result (List ℕ × List ℕ) Stop → Result (List ℕ × List ℕ) Stop
with_front front (Ok x) = Ok (front ++ x.0, x.1)
with_front front (Err e) = Err e

regroup : (front : List ℕ) (n : ℕ) (r : Result (List ℕ × List ℕ) Stop) → with_front front (r >>= λ others. Ok (n ∷ others.0, others.1)) ≡ with_front (front ++ n ∷ []) r
regroup front n (Ok x) = ap (λ (ns : List ℕ). Ok (ns, x.1)) (sym (append_assoc front (n ∷ []) x.0))
regroup front n (Err e) = refl

pub goes_on : (front : List ℕ) (count i bits : ℕ) (bytes : List ℕ) (n : ℕ) (after : List ℕ) (total : Result (List ℕ × List ℕ) Stop) → i < count
    → field_at (eqb (bits % 2) 1) bytes ≡ Ok (n, after) → with_front front (fields_at (count - i) bits bytes) ≡ total
    → with_front (front ++ n ∷ []) (fields_at (count - (i + 1)) (bits / 2) after) ≡ total
unfolding fields_at
goes_on front count i bits bytes n after total lt h so_far =
    let k : count - i ≡ suc (count - (i + 1)) = omega arith in
    let one : with_front front (fields_at (count - i) bits bytes) ≡ with_front (front ++ n ∷ []) (fields_at (count - (i + 1)) (bits / 2) after) = rw (k, h) (regroup front n (fields_at (count - (i + 1)) (bits / 2) after)) in
    sym one ∙ so_far

pub stops : (e : Stop) (front : List ℕ) (count i bits : ℕ) (bytes : List ℕ) (total : Result (List ℕ × List ℕ) Stop) → i < count
    → field_at (eqb (bits % 2) 1) bytes ≡ Err e → with_front front (fields_at (count - i) bits bytes) ≡ total → total ≡ Err e
unfolding fields_at
stops e front count i bits bytes total lt h so_far =
    let k : count - i ≡ suc (count - (i + 1)) = omega arith in
    let one : with_front front (fields_at (count - i) bits bytes) ≡ Err e = rw (k, h) refl in
    sym so_far ∙ one

pub is_done : (front : List ℕ) (count i bits : ℕ) (bytes : List ℕ) (total : Result (List ℕ × List ℕ) Stop) → count ≤ i
    → with_front front (fields_at (count - i) bits bytes) ≡ total → total ≡ Ok (front, bytes)
unfolding fields_at
is_done front count i bits bytes total le so_far =
    let k : count - i ≡ 0 = omega arith in
    let one : with_front front (fields_at (count - i) bits bytes) ≡ Ok (front, bytes) = rw k (ap (λ (ns : List ℕ). Ok (ns, bytes)) (append-nil front)) in
    sym so_far ∙ one

pub padded_err : (e : Stop) (count bits : ℕ) (bytes : List ℕ) → fields_at count bits bytes ≡ Err e → padded_at count bits bytes ≡ Err e
unfolding padded_at
padded_err e count bits bytes h = ap (λ (r : Result (List ℕ × List ℕ) Stop). r >>= λ numbers. Ok (padded numbers.0, numbers.1)) h

-- numbers that are 0 from a place on are the numbers before it, in as many places
padded_is : (numbers : List ℕ) (i : ℕ) → i ≤ length numbers → drop i numbers ≡ replicate (32 - i) 0 → padded (take i numbers) ≡ numbers
padded_is numbers i le zeros =
    ap (λ (k : ℕ). take i numbers ++ replicate (32 - k) 0) (length-take-le i numbers le) ∙ ap (λ (t : List ℕ). take i numbers ++ t) (sym zeros) ∙ take-append-drop i numbers

pub padded_ok : (count bits : ℕ) (bytes numbers : List ℕ) (i : ℕ) (rest : List ℕ) → i ≤ length numbers → drop i numbers ≡ replicate (32 - i) 0
    → fields_at count bits bytes ≡ Ok (take i numbers, rest) → padded_at count bits bytes ≡ Ok (numbers, rest)
unfolding padded_at
padded_ok count bits bytes numbers i rest le zeros h =
    ap (λ (r : Result (List ℕ × List ℕ) Stop). r >>= λ numbers. Ok (padded numbers.0, numbers.1)) h ∙ ap (λ (ns : List ℕ). Ok (ns, rest)) (padded_is numbers i le zeros)

pub zeros_more : (numbers : List ℕ) (i n : ℕ) → drop i numbers ≡ replicate (32 - i) 0 → drop (i + 1) (set numbers i n) ≡ replicate (32 - (i + 1)) 0
zeros_more numbers i n zeros =
    let less : 32 - i - 1 ≡ 32 - (i + 1) = omega arith in
    drop-set-lt (i + 1) numbers i n (omega arith) ∙ sym (drop-drop 1 i numbers) ∙ ap (drop 1) zeros ∙ drop-replicate 1 (32 - i) 0 ∙ ap (λ (k : ℕ). replicate k 0) less

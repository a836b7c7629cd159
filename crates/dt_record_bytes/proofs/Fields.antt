-- The laws of the fields of a spelling: their lengths, and that bytes are the spelling of their number.
use Rattle.std.proofs.Common.{◌≡◌, ℕ, ◌*◌, ◌<◌, ◌≤◌, ◌^◌, List, [], ◌∷◌, ◌++◌, length, take, drop, get_or, suc, refl, sym, ap, ◌∙◌, subst, arith}
use Rattle.std.specs.List.{flat_map, AllByRecursion}
use Rattle.std.specs.Int.{from_le_bytes, to_le_bytes, w16, w32, w64}
use Rattle.std.proofs.lemmas.Nat.{le_bytes_2, le_bytes_4}
use Rattle.std.proofs.lemmas.List.{take-append-drop, length-append, length-take}
use Rattle.dt_record.specs.Lawful.{FitsList}
use Rattle.dt_record.specs.Spelling.{half, word, double}
use Rattle.dt_record_bytes.proofs.SpellingLaws.{length-double, each_of_front}
use Rattle.dt_record_bytes.proofs.SpellingLaws as laws

pub length-half : (n : ℕ) → length (half n) ≡ 2
unfolding half
length-half n = refl

pub length-word : (n : ℕ) → length (word n) ≡ 4
unfolding word
length-word n = refl

pub length-doubles : (xs : List ℕ) → length (flat_map double xs) ≡ 8 * length xs
length-doubles [] = refl
length-doubles (x ∷ xs) = length-append (double x) (flat_map double xs) ∙ omega (arith, length-double x, length-doubles xs)

-- a front of bytes is the spelling of its number
pub half_at_front : (bytes field front rest : List ℕ) (n : ℕ) → field ≡ front → front ≡ take 2 bytes → rest ≡ drop 2 bytes → length field ≡ 2 → ((i : ℕ) → get_or bytes i 0 < 256) → n ≡ from_le_bytes w16 field → bytes ≡ half n ++ rest
unfolding half
half_at_front bytes field front rest n same is after len each number =
    let each_is = subst (λ (z : List ℕ). (i : ℕ) → get_or z i 0 < 256) (sym (same ∙ is)) (each_of_front 2 bytes each) in
    sym (take-append-drop 2 bytes) ∙ ap (λ (z : List ℕ). z ++ drop 2 bytes) (sym (le_bytes_2 field n len each_is number ∙ same ∙ is)) ∙ ap (λ (z : List ℕ). to_le_bytes w16 n ++ z) (sym after)

pub word_at_front : (bytes field front rest : List ℕ) (n : ℕ) → field ≡ front → front ≡ take 4 bytes → rest ≡ drop 4 bytes → length field ≡ 4 → ((i : ℕ) → get_or bytes i 0 < 256) → n ≡ from_le_bytes w32 field → bytes ≡ word n ++ rest
unfolding word
word_at_front bytes field front rest n same is after len each number =
    let each_is = subst (λ (z : List ℕ). (i : ℕ) → get_or z i 0 < 256) (sym (same ∙ is)) (each_of_front 4 bytes each) in
    sym (take-append-drop 4 bytes) ∙ ap (λ (z : List ℕ). z ++ drop 4 bytes) (sym (le_bytes_4 field n len each_is number ∙ same ∙ is)) ∙ ap (λ (z : List ℕ). to_le_bytes w32 n ++ z) (sym after)

pub double_at_front : (bytes field front rest : List ℕ) (n : ℕ) → field ≡ front → front ≡ take 8 bytes → rest ≡ drop 8 bytes → length field ≡ 8 → ((i : ℕ) → get_or bytes i 0 < 256) → n ≡ from_le_bytes w64 field → bytes ≡ double n ++ rest
double_at_front bytes field front rest n same is after len each number =
    let long : 8 ≤ length bytes = omega (arith, len, ap length (same ∙ is), length-take 8 bytes) in
    laws.double_at_front bytes n long each (number ∙ ap (λ (z : List ℕ). from_le_bytes w64 z) (same ∙ is)) ∙ ap (λ (z : List ℕ). double n ++ z) (sym after)

-- numbers below a bound
pub each_below : (n : ℕ) (xs : List ℕ) → ((i : ℕ) → i < length xs → get_or xs i 0 < n) → AllByRecursion (λ x. x < n) xs
each_below n [] h = tt
each_below n (x ∷ xs) h = (h 0 (omega arith), each_below n xs (λ i lt. h (suc i) (omega arith)))

pub bytes_below : (bytes : List ℕ) (n : ℕ) → length bytes ≡ n → ((i : ℕ) → get_or bytes i 0 < 256) → FitsList n (2 ^ 8) bytes
bytes_below bytes n len each = record { count_is = len; each = each_below (2 ^ 8) bytes (λ i lt. omega (arith, each i)) }

pub line_at_front : (bytes field front : List ℕ) → field ≡ front → front ≡ take 64 bytes → length field ≡ 64 → ((i : ℕ) → get_or bytes i 0 < 256) → FitsList 64 (2 ^ 8) field
line_at_front bytes field front same is len each =
    bytes_below field 64 len (subst (λ (z : List ℕ). (i : ℕ) → get_or z i 0 < 256) (sym (same ∙ is)) (each_of_front 64 bytes each))

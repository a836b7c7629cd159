-- Laws of the numbers of a spelling, for whoever reads them where no call can be made.
use Rattle.std.proofs.Common.{◌≡◌, ℕ, ◌<◌, ◌≤◌, ◌^◌, List, ◌++◌, length, take, drop, get_or, refl, sym, ap, ◌∙◌, inl, inr, lit<, arith}
use Rattle.std.specs.Int.{from_le_bytes, w64}
use Rattle.std.proofs.lemmas.Nat.{le_bytes_8, from_le_bytes-to_le_bytes_8}
use Rattle.std.proofs.lemmas.List.{take-append-drop, length-take, get_or-take, get_or_past}
use Rattle.std.proofs.lemmas.Bool.{cases_lt}
use Rattle.dt_record.specs.Spelling.{double}

-- a number of 64 bits is spelled by eight bytes
pub length-double : (n : ℕ) → length (double n) ≡ 8
unfolding double
length-double n = refl

-- a front of bytes has bytes
pub each_of_front : (n : ℕ) (bytes : List ℕ) → ((i : ℕ) → get_or bytes i 0 < 256) → (i : ℕ) → get_or (take n bytes) i 0 < 256
each_of_front n bytes each i =
    elim (cases_lt i n) [
      | inl below ↦ rw (get_or-take n bytes i 0 below) (each i)
      | inr beyond ↦ rw (get_or_past (take n bytes) i 0 (omega (arith, length-take n bytes))) (lit< tt)
    ]

-- the first eight bytes are the spelling of their number
pub double_at_front : (bytes : List ℕ) (n : ℕ) → 8 ≤ length bytes → ((i : ℕ) → get_or bytes i 0 < 256) → n ≡ from_le_bytes w64 (take 8 bytes) → bytes ≡ double n ++ drop 8 bytes
unfolding double
double_at_front bytes n long each number =
    let size : length (take 8 bytes) ≡ 8 = omega (arith, length-take 8 bytes) in
    sym (take-append-drop 8 bytes) ∙ ap (λ (z : List ℕ). z ++ drop 8 bytes) (sym (le_bytes_8 (take 8 bytes) n size (each_of_front 8 bytes each) number))

-- and of no other number
pub doubles_are_one : (m n : ℕ) (x y : List ℕ) → m < 2 ^ 64 → n < 2 ^ 64 → double m ++ x ≡ double n ++ y → (m ≡ n) × (x ≡ y)
unfolding double
doubles_are_one m n x y f g same = (
  sym (from_le_bytes-to_le_bytes_8 m f) ∙ ap (λ (z : List ℕ). from_le_bytes w64 (take 8 z)) same ∙ from_le_bytes-to_le_bytes_8 n g,
  ap (λ (z : List ℕ). drop 8 z) same,
)

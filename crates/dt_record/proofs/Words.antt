-- Numbers that stand in bytes.
use Rattle.std.proofs.Common.{◌≡◌, ℕ, zero, suc, ◌+◌, ◌*◌, ◌<◌, List, length, get_or, take, drop, refl, ap, ◌∙◌, arith}
use Rattle.std.proofs.lemmas.List.{drop-drop}
use Rattle.std.specs.Int.{from_le_bytes, w64}
use Rattle.dt_record.specs.LentBodies.{double_in, front_words}

pub front_words-length : (n : ℕ) (bytes : List ℕ) → length (front_words n bytes) ≡ n
front_words-length zero bytes = refl
front_words-length (suc n) bytes = ap suc (front_words-length n (drop 8 bytes))

double_in-behind : (i : ℕ) (bytes : List ℕ) → double_in (drop 8 bytes) (8 * i) ≡ double_in bytes (8 * suc i)
double_in-behind i bytes =
    let place : 8 + 8 * i ≡ 8 * suc i = omega arith in
    ap (λ (xs : List ℕ). from_le_bytes w64 (take 8 xs)) (drop-drop (8 * i) 8 bytes ∙ ap (λ (k : ℕ). drop k bytes) place)

pub front_words-at : (n i : ℕ) (bytes : List ℕ) → i < n → get_or (front_words n bytes) i 0 ≡ double_in bytes (8 * i)
front_words-at zero i bytes below = absurd (omega (arith, below))
front_words-at (suc n) zero bytes below = refl
front_words-at (suc n) (suc i) bytes below = front_words-at n i (drop 8 bytes) (omega arith) ∙ double_in-behind i bytes

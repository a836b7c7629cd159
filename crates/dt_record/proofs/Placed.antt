use Rattle.std.proofs.Common.{◌≡◌, ℕ, ◌+◌, ◌-◌, ◌*◌, ◌^◌, ◌%◌, ◌≤◌, ◌<◌, List, ◌++◌, length, take, drop, replicate, ap, arith, ◌∙◌}
use Rattle.std.proofs.lemmas.List.{take-replicate, drop-replicate}
use Rattle.std.proofs.Math.Pow.{pow_mono}
use Rattle.std.proofs.Math.Nat.{mod-eq_of_lt, mul-lt-mul_of_pos_right}
use Rattle.std.proofs.lemmas.Nat.{pow-add, pow_pos}

-- a piece put into zeros has zeros before it and after it
pub put-zeros : (n place width : ℕ) (piece : List ℕ) → length piece ≡ width → place + width ≤ n
    → take place (replicate n 0) ++ piece ++ drop (place + length piece) (replicate n 0) ≡ replicate place 0 ++ piece ++ replicate (n - (place + width)) 0
put-zeros n place width piece long within =
    let before : place ≤ n = omega arith in
    ap (λ (xs : List ℕ). xs ++ piece ++ drop (place + length piece) (replicate n 0)) (take-replicate place n 0 before)
    ∙ ap (λ (xs : List ℕ). replicate place 0 ++ piece ++ xs) (ap (λ k. drop (place + k) (replicate n 0)) long ∙ drop-replicate (place + width) n 0)

-- a mask of so many ones stays within 64 bits
pub ones-fit : (ones width place : ℕ) → ones < 2 ^ width → place + width ≤ 64 → ones * 2 ^ place < 2 ^ 64
ones-fit ones width place few within =
    let within-line : 2 ^ (width + place) ≤ 2 ^ 64 = pow_mono {i = width + place} {j = 64} (omega arith) in
    let product : ones * 2 ^ place < 2 ^ width * 2 ^ place = mul-lt-mul_of_pos_right few (pow_pos place) in
    let joined : 2 ^ (width + place) ≡ 2 ^ width * 2 ^ place = pow-add 2 width place in
    omega arith

-- so shifting it loses nothing
pub shifted-ones : (ones width place : ℕ) → ones < 2 ^ width → place + width ≤ 64 → ones * 2 ^ place % 2 ^ 64 ≡ ones * 2 ^ place
shifted-ones ones width place few within = mod-eq_of_lt (ones-fit ones width place few within)

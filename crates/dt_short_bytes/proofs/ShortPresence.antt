-- The presence bits, counted from the last number on.
use Rattle.std.proofs.Common.{◌≡◌, ℕ, ◌+◌, ◌-◌, ◌*◌, ◌/◌, ◌^◌, ◌<◌, ◌≤◌, Bool, true, false, cond, eqb, not, List, length, get_or, drop, refl, sym, ap, ◌∙◌, arith}
use Rattle.std.specs.Int.{from_bool, div_ceil}
use Rattle.std.proofs.lemmas.List.{drop_more}
use Rattle.std.proofs.lemmas.Nat.{pow-add}
use Rattle.dt_record.specs.Spelling.{presence}

pub bit_is : (t : Bool) → from_bool (not t) ≡ cond t 0 1
bit_is true = refl
bit_is false = refl

pub presence_more : (numbers : List ℕ) (left bits bit : ℕ) → 0 < left → left ≤ length numbers → bits ≡ presence (drop left numbers) → bit ≡ cond (eqb (get_or numbers (left - 1) 0) 0) 0 1
    → 2 * bits + bit ≡ presence (drop (left - 1) numbers)
presence_more numbers left bits bit some within so_far is =
    let back : left - 1 + 1 ≡ left = omega arith in
    let rest : presence (drop (left - 1 + 1) numbers) ≡ bits = ap (λ (k : ℕ). presence (drop k numbers)) back ∙ sym so_far in
    let parts : presence (drop (left - 1) numbers) ≡ cond (eqb (get_or numbers (left - 1) 0) 0) 0 1 + 2 * presence (drop (left - 1 + 1) numbers)
    = ap presence (drop_more numbers (left - 1) 0 (omega arith)) in
    omega arith

pub bound_more : (len left bits bit : ℕ) → 0 < left → left ≤ len → bit ≤ 1 → bits < 2 ^ (len - left) → 2 * bits + bit < 2 ^ (len - (left - 1))
bound_more len left bits bit some within one below =
    let e : len - (left - 1) ≡ 1 + (len - left) = omega arith in
    let double : 2 ^ (len - (left - 1)) ≡ 2 * 2 ^ (len - left) = ap (λ (k : ℕ). 2 ^ k) e ∙ pow-add 2 1 (len - left) in
    omega arith

pub bit_small : (bit : ℕ) → (t : Bool) → bit ≡ cond t 0 1 → bit ≤ 1
bit_small bit true is = omega arith
bit_small bit false is = omega arith

-- one byte for each eight numbers or part of eight
pub eights : (n : ℕ) → div_ceil n 8 ≡ (n + 7) / 8
eights n = omega arith

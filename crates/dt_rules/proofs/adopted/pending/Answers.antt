use Rattle.std.proofs.Common.{◌≡◌, ℕ, ◌<◌, min, bit_and, eqb-true, eq-eqb, sym, ◌∙◌, ap, arith}
use Rattle.std.specs.Int.{bit_at}
use Rattle.std.proofs.lemmas.Nat.Bits.{bit_at_and, bit_at-lt, same_from_bits}
use Rattle.dt_rules.specs.Adopted.{HasOnlyBitsOf}
use Rattle.dt_rules.proofs.adopted.pending.Goals as goal

min-kept : (f m : ℕ) → f < 2 → (f ≡ 1 → m ≡ 1) → min f m ≡ f
min-kept f m small both = grind arith

one_from_min : (f m : ℕ) → m < 2 → min f m ≡ f → f ≡ 1 → m ≡ 1
one_from_min f m small kept one = omega arith

masked : (mask found : ℕ) → HasOnlyBitsOf mask found → bit_and found mask ≡ found
masked mask found only =
    same_from_bits _ _
    (λ place. bit_at_and found mask place ∙ min-kept (bit_at found place) (bit_at mask place) (bit_at-lt found place) (only place))

only_bits : (mask found : ℕ) → bit_and found mask ≡ found → HasOnlyBitsOf mask found
only_bits mask found kept place one =
    one_from_min (bit_at found place) (bit_at mask place) (bit_at-lt mask place)
    (sym (bit_at_and found mask place) ∙ ap (λ n. bit_at n place) kept) one

pub returns-clause-bits : goal.returns-clause-bits
returns-clause-bits c =
    (λ is_masked. only_bits c.args.mask c.args.found (eqb-true _ _ is_masked), λ only. eq-eqb _ _ (masked c.args.mask c.args.found only))

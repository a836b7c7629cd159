use Rattle.std.proofs.Common.{◌≡◌, ℕ, ◌+◌, ◌-◌, ◌^◌, eqb-true, eq-eqb, sym, ◌∙◌, ap, arith}
use Rattle.std.specs.Int.{bit_at}
use Rattle.std.proofs.lemmas.Bool.{ltb-true}
use Rattle.std.proofs.lemmas.Nat.Bits.{bit_at_above, shr_and_one}
use Rattle.dt_rules.proofs.traps.has_code_of.Goals as goal

code_of : (cause code : ℕ) → cause ≡ 2 ^ 63 + code → code ≡ cause - 2 ^ 63
code_of cause code is = omega arith

pub returns-then-code-lt64 : goal.returns-then-code-lt64
returns-then-code-lt64 c =
    let code = c.args.cause - 2 ^ 63 in
    let tested = shr_and_one c.args.mask code in (
      λ set. (code, omega arith, sym tested ∙ eqb-true _ _ set),
      λ is. eq-eqb _ _ (tested ∙ ap (bit_at c.args.mask) (sym (code_of c.args.cause is.0 is.1)) ∙ is.2),
    )

pub returns-else-code-lt64 : goal.returns-else-code-lt64
returns-else-code-lt64 c = (
  λ below. absurd (omega (arith, ltb-true _ _ below)),
  λ is. absurd (omega (arith, is.1, is.2, bit_at_above c.args.mask 64 is.0 (omega arith) (omega (arith, is.1)))),
)

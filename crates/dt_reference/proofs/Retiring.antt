use Rattle.std.proofs.Common.{ℕ, ◌≡◌, Option, Some, None, MatchOption, IsSomeAnd, refl, arith}
use Rattle.dt_decode.specs.declared.instructions.Instr.{Instr}
use Rattle.dt_step.specs.declared.plans.Planned.{Planned}
use Rattle.dt_step.specs.declared.plans.Planned.TheVariants.{Raises}

-- An instruction whose plan isn't a trap raises nothing by itself.

pub none_is_due : {p : Planned} (P : Type 0) (due : Option ℕ) (tval : ℕ → ℕ)
    → MatchOption due P (λ cause. p ≡ Raises cause (tval cause)) → ((cause t : ℕ) → p ≡ Raises cause t → ⊥) → due ≡ None
none_is_due P None tval match_due not_raises = refl
none_is_due P (Some cause) tval match_due not_raises = absurd (not_raises cause (tval cause) match_due)

pub some_and : (o : Option Instr) (i : Instr) (P : Instr → Type 0) → o ≡ Some i → P i → IsSomeAnd o P
some_and None i P is holds = grind (arith)
some_and (Some j) i P is holds = grind (arith)

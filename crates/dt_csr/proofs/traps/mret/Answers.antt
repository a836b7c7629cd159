use Rattle.std.proofs.Common.{ℕ, arith, sym, ◌∙◌, subst}
use Rattle.dt_csr.specs.Kept.{AreKeptInBounds, NamesMode}
use Rattle.dt_csr.proofs.Stacks.{mret_mpp, mret_keeps}
use Rattle.dt_csr.proofs.traps.mret.Goals as goal

pub returns-clause-mpp : goal.returns-clause-mpp
returns-clause-mpp c =
    let P : ℕ → Type 0 = NamesMode in
    subst P (sym c.status_after_mret-c.ensures) (λ e. absurd (omega (arith, sym (mret_mpp c.args.c.now.mstatus) ∙ e)))

pub returns-clause-keeps : goal.returns-clause-keeps
returns-clause-keeps c = λ h.
    let P : ℕ → Type 0 = λ s. AreKeptInBounds (record c.args.c.now { mstatus = s }) in
    subst P (sym c.status_after_mret-c.ensures) (mret_keeps c.args.c.now h)

use Rattle.std.proofs.Common.{ℕ, sym, ◌∙◌, subst}
use Rattle.dt_csr.specs.Kept.{AreKeptInBounds, NamesMode}
use Rattle.dt_csr.proofs.Stacks.{sret_mpp, sret_keeps}
use Rattle.dt_csr.proofs.traps.sret.Goals as goal

pub returns-clause-mpp : goal.returns-clause-mpp
returns-clause-mpp c = λ h.
    let P : ℕ → Type 0 = NamesMode in
    subst P (sym c.status_after_sret-c.ensures) (λ e. h (sym (sret_mpp c.args.c.now.mstatus) ∙ e))

pub returns-clause-keeps : goal.returns-clause-keeps
returns-clause-keeps c = λ h.
    let P : ℕ → Type 0 = λ s. AreKeptInBounds (record c.args.c.now { mstatus = s }) in
    subst P (sym c.status_after_sret-c.ensures) (sret_keeps c.args.c.now h)

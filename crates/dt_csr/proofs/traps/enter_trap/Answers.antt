use Rattle.std.proofs.Common.{ℕ, sym, ◌∙◌, subst}
use Rattle.dt_csr.specs.Kept.{AreKeptInBounds, NamesMode}
use Rattle.dt_csr.proofs.Stacks.{entered_s_keeps, entered_m_keeps, in_s_mpp, in_m_mpp, mode_small, mode_named, from_s_or_u}
use Rattle.dt_csr.proofs.traps.enter_trap.Goals as goal

pub returns-then-delegates-clause-mpp : goal.returns-then-delegates-clause-mpp
returns-then-delegates-clause-mpp c = λ h.
    let P : ℕ → Type 0 = NamesMode in
    subst P (sym c.status_in_s-c.ensures) (λ e. h (sym (in_s_mpp c.args.c.now.mstatus c.args.mode) ∙ e))

pub returns-then-delegates-clause-keeps : goal.returns-then-delegates-clause-keeps
returns-then-delegates-clause-keeps c = λ h even.
    let P : ℕ → Type 0 = λ s. AreKeptInBounds (record c.args.c.now { mstatus = s; sepc = c.args.pc; scause = c.args.cause; stval = c.args.tval }) in
    subst P (sym c.status_in_s-c.ensures)
    (entered_s_keeps c.args.c.now c.args.mode c.args.pc c.args.cause c.args.tval (from_s_or_u c.args.mode c.requires c.if-mode-lt-MACHINE.true) c.ranges.pc.fits even c.ranges.cause.fits c.ranges.tval.fits h)

pub returns-else-mode-lt-MACHINE-clause-mpp : goal.returns-else-mode-lt-MACHINE-clause-mpp
returns-else-mode-lt-MACHINE-clause-mpp c = λ _.
    let P : ℕ → Type 0 = NamesMode in
    subst P (sym c.status_in_m-c.ensures)
    (λ e. mode_named c.args.mode c.requires (sym (in_m_mpp c.args.c.now.mstatus c.args.mode (mode_small c.args.mode c.requires)) ∙ e))

pub returns-else-mode-lt-MACHINE-clause-keeps : goal.returns-else-mode-lt-MACHINE-clause-keeps
returns-else-mode-lt-MACHINE-clause-keeps c = λ h even.
    let P : ℕ → Type 0 = λ s. AreKeptInBounds (record c.args.c.now { mstatus = s; mepc = c.args.pc; mcause = c.args.cause; mtval = c.args.tval }) in
    subst P (sym c.status_in_m-c.ensures)
    (entered_m_keeps c.args.c.now c.args.mode c.args.pc c.args.cause c.args.tval c.requires c.ranges.pc.fits even c.ranges.cause.fits c.ranges.tval.fits h)

use Rattle.std.proofs.Common.{Option, sym, ◌∙◌, subst}
use Rattle.std.specs.Option.{IfSome}
use Rattle.dt_csr.specs.declared.registers.Register.{Register}
use Rattle.dt_csr.specs.declared.state.Csrs.{Csrs}
use Rattle.dt_csr.specs.Access.{ChangesOnly}
use Rattle.dt_csr.specs.Registers.{register_at}
use Rattle.dt_csr.specs.Kept.{AreKeptInBounds, NamesMode}
use Rattle.dt_csr.proofs.Writes.{written_keeps, written_names, written_only, reached_named}
use Rattle.dt_csr.proofs.access.write.Goals as goal

pub returns-in-Some-clause-only : goal.returns-in-Some-clause-only
returns-in-Some-clause-only c =
    let P : Csrs → Type 0 = λ d. ChangesOnly c.in-Some.register c.args.c.now d in
    let Q : Option Register → Type 0 = λ o. IfSome o (λ register. ChangesOnly register c.args.c.now c.store.new.c) in
    subst Q (sym (reached_named (register_at c.args.number) _ c.in-Some.register (sym c.reached.ensures ∙ c.in-Some.is)))
    (subst P (sym c.store.ensures) (written_only c.args.c.now c.in-Some.register c.args.value))

pub returns-in-Some-clause-mpp : goal.returns-in-Some-clause-mpp
returns-in-Some-clause-mpp c = λ h.
    let P : Csrs → Type 0 = λ d. NamesMode d.mstatus in
    subst P (sym c.store.ensures) (written_names c.args.c.now c.in-Some.register c.args.value h)

pub returns-in-Some-clause-keeps : goal.returns-in-Some-clause-keeps
returns-in-Some-clause-keeps c = λ h.
    let P : Csrs → Type 0 = λ d. AreKeptInBounds d in
    subst P (sym c.store.ensures) (written_keeps c.args.c.now c.in-Some.register c.args.value c.ranges.value.fits h)

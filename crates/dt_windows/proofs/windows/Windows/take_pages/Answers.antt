use Rattle.std.proofs.Common.{Bool, Some, sym, subst}
use Rattle.dt_step.specs.declared.plans.Planned.TheVariants.{FencesPages}
use Rattle.dt_windows.specs.Kept.{WindowsView, TakesFence}
use Rattle.dt_windows.proofs.Taking.{takes_all_pages}
use Rattle.dt_windows.proofs.windows.Windows.take_pages.Goals as goal

pub returns-then-all-clause-taken : goal.returns-then-all-clause-taken
returns-then-all-clause-taken c =
    let old : WindowsView = c.args.self.now in
    subst (λ (new : WindowsView). TakesFence old new (FencesPages c.args.va c.args.all) c.args.key) (sym c.take_all_pages.ensures)
    (subst (λ (all : Bool). TakesFence old (record old { all = Some c.args.key }) (FencesPages c.args.va all) c.args.key) (sym c.if-all.true)
    (takes_all_pages old c.args.key c.args.va))

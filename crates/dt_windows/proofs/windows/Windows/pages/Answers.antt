use Rattle.std.proofs.Common.{subst}
use Rattle.dt_windows.specs.Kept.{ArePages, WindowsView}
use Rattle.dt_windows.proofs.Numbers.{pages_in_order}
use Rattle.dt_windows.proofs.windows.Windows.pages.Goals as goal

pub returns-clause-in_order : goal.returns-clause-in_order
returns-clause-in_order c =
    let are = c.self.invariant.are_slots in
    subst (λ (w : WindowsView). ArePages w.pages) c.self.view_is (pages_in_order c.self.inside.fenced.entries are.ordered are.within)

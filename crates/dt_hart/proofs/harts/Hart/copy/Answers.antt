use Rattle.std.proofs.Common.{refl, sym, ap, subst}
use Rattle.dt_local.specs.LocalMemory.{LocalMemory}
use Rattle.dt_stores.specs.Kept.{Kept}
use Rattle.dt_windows.specs.Kept.{WindowsView}
use Rattle.dt_hart.specs.HartView.{HartView}
use Rattle.dt_hart.specs.Standing.{HartStands}
use Rattle.dt_hart.proofs.GoingOn.{kept}
use Rattle.dt_hart.proofs.MarksOn.{alike_stands}
use Rattle.dt_hart.proofs.harts.Hart.copy.Goals as goal

pub returns-clause-stands : goal.returns-clause-stands
returns-clause-stands c = λ s stands.
    let h = c.self.inside in
    alike_stands (kept h.arch h.seq h.stamp h.accesses h.reserved h.windows) _ s
    (record {
      arch = refl;
      seq = refl;
      stamp = refl;
      held = ap (λ (k : Kept). k.held) c.in_ok-stores.ensures;
      ww = ap (λ (k : Kept). k.ww) c.in_ok-stores.ensures;
      wr = ap (λ (k : Kept). k.wr) c.in_ok-stores.ensures;
      keys = ap (λ (l : LocalMemory). l.keys) c.in_ok-local.ensures;
      floor = refl;
      last_read = refl;
      reserved = refl;
      instructions = ap (λ (w : WindowsView). w.instructions) c.in_ok-windows.ensures;
      all = ap (λ (w : WindowsView). w.all) c.in_ok-windows.ensures;
      pages = ap (λ (w : WindowsView). w.pages) c.in_ok-windows.ensures;
    })
    (subst (λ (v : HartView). HartStands v s) (sym c.self.view_is) stands)

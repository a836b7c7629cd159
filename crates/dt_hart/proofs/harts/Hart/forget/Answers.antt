use Rattle.std.proofs.Common.{refl, sym, ap, subst}
use Rattle.dt_local.specs.LocalMemory.{LocalMemory}
use Rattle.dt_stores.specs.Kept.{Kept}
use Rattle.dt_windows.specs.Kept.{WindowsView}
use Rattle.dt_hart.specs.HartView.{HartView}
use Rattle.dt_hart.specs.Standing.{HartStands}
use Rattle.dt_hart.proofs.GoingOn.{kept}
use Rattle.dt_hart.proofs.MarksOn.{alike_stands}
use Rattle.dt_hart.proofs.harts.Hart.forget.Goals as goal

pub returns-clause-stands : goal.returns-clause-stands
returns-clause-stands c = λ s stands.
    let h = c.self.inside in
    alike_stands (kept h.arch h.seq h.stamp h.accesses h.reserved h.windows) _ s
    (record {
      arch = refl;
      seq = refl;
      stamp = refl;
      held = ap (λ (k : Kept). k.held) c.forget.ensures;
      ww = ap (λ (k : Kept). k.ww) c.forget.ensures;
      wr = ap (λ (k : Kept). k.wr) c.forget.ensures;
      keys = ap (λ (l : LocalMemory). l.keys) c.forget-2.ensures;
      floor = refl;
      last_read = refl;
      reserved = refl;
      instructions = ap (λ (w : WindowsView). w.instructions) c.forget-3.ensures;
      all = ap (λ (w : WindowsView). w.all) c.forget-3.ensures;
      pages = ap (λ (w : WindowsView). w.pages) c.forget-3.ensures;
    })
    (subst (λ (v : HartView). HartStands v s) (sym c.self.view_is) stands)

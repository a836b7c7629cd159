use Rattle.std.proofs.Common.{refl, sym, ap, subst}
use Rattle.dt_local.specs.LocalMemory.{LocalMemory}
use Rattle.dt_stores.specs.Kept.{Kept}
use Rattle.dt_windows.specs.Kept.{WindowsView}
use Rattle.dt_hart.specs.HartView.{HartView}
use Rattle.dt_hart.specs.Standing.{HartStands}
use Rattle.dt_hart.proofs.GoingOn.{kept}
use Rattle.dt_hart.proofs.MarksOn.{alike_stands}
use Rattle.dt_hart.proofs.harts.Hart.mark.Goals as goal

pub returns-clause-stands : goal.returns-clause-stands
returns-clause-stands c = λ s stands.
    let h = c.self.inside in
    alike_stands (kept h.arch h.seq h.stamp h.accesses h.reserved h.windows) _ s
    (record {
      arch = refl;
      seq = refl;
      stamp = refl;
      held = ap (λ (k : Kept). k.held) c.mark.ensures.kept;
      ww = ap (λ (k : Kept). k.ww) c.mark.ensures.kept;
      wr = ap (λ (k : Kept). k.wr) c.mark.ensures.kept;
      keys = ap (λ (l : LocalMemory). l.keys) c.mark-2.ensures.kept;
      floor = refl;
      last_read = refl;
      reserved = refl;
      instructions = ap (λ (w : WindowsView). w.instructions) c.mark-3.ensures.kept;
      all = ap (λ (w : WindowsView). w.all) c.mark-3.ensures.kept;
      pages = ap (λ (w : WindowsView). w.pages) c.mark-3.ensures.kept;
    })
    (subst (λ (v : HartView). HartStands v s) (sym c.self.view_is) stands)

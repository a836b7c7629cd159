use Rattle.std.proofs.Common.{ℕ, List, Option, refl, sym, ap, subst, ◌∙◌}
use Rattle.dt_record.specs.declared.keys.Key.{Key}
use Rattle.dt_hart.specs.HartData.{kept_values, number_within, own_number}
use Rattle.dt_hart.specs.HartView.{HartView}
use Rattle.dt_hart.specs.Standing.{HartStands}
use Rattle.dt_hart.proofs.DataOf.{data_of, within_view}
use Rattle.dt_hart.proofs.GoingOn.{kept}
use Rattle.dt_hart.proofs.harts.Hart.state.Goals as goal

pub returns-clause-data : goal.returns-clause-data
returns-clause-data c = λ s stands.
    let h = c.self.inside in
    let own = c.self.inside.windows in
    data_of (kept h.arch h.seq h.stamp h.accesses h.reserved h.windows) _ s
    (record {
      seq = refl;
      arch = record { pc = refl; x = c.named_registers.ensures 0 c.self.invariant.0.zero; mode = refl; v = c.values.ensures; floors = refl };
      order = refl;
      all_pages = c.number_within.ensures.value ∙ ap (λ (o : Option Key). number_within h.seq o) c.all-all.ensures;
      pages = c.in_ok-marks_of.ensures ∙ ap (λ (o : Option Key). kept_values (own_number h.seq o) c.deref.result.now) c.all-all.ensures
          ∙ ap (λ (es : List (ℕ × Key)). kept_values (own_number h.seq own.all) es) (c.deref.ensures.value ∙ c.in_ok-fenced.ensures.value);
      known = c.in_ok-pairs.ensures.value;
      are_pages = c.in_ok-fenced.ensures.in_order;
      are_known = c.in_ok-pairs.ensures.in_order;
    })
    (subst (λ (v : HartView). HartStands v s) (sym c.self.view_is) stands)

pub returns-clause-within : goal.returns-clause-within
returns-clause-within c =
    let h = c.self.inside in
    let own = c.self.inside.windows in
    within_view (kept h.arch h.seq h.stamp h.accesses h.reserved h.windows) c.args.self.now _ c.self.view_is
    (record {
      seq = refl;
      arch = record { pc = refl; x = c.named_registers.ensures 0 c.self.invariant.0.zero; mode = refl; v = c.values.ensures; floors = refl };
      order = refl;
      all_pages = c.number_within.ensures.value ∙ ap (λ (o : Option Key). number_within h.seq o) c.all-all.ensures;
      pages = c.in_ok-marks_of.ensures ∙ ap (λ (o : Option Key). kept_values (own_number h.seq o) c.deref.result.now) c.all-all.ensures
          ∙ ap (λ (es : List (ℕ × Key)). kept_values (own_number h.seq own.all) es) (c.deref.ensures.value ∙ c.in_ok-fenced.ensures.value);
      known = c.in_ok-pairs.ensures.value;
      are_pages = c.in_ok-fenced.ensures.in_order;
      are_known = c.in_ok-pairs.ensures.in_order;
    })
    c.self.invariant.0 c.self.invariant.1

use Rattle.std.proofs.Common.{◌≡◌, ℕ, ◌+◌, length, ap, subst, refl, arith}
use Rattle.dt_local.specs.LocalMemory.{LocalMemory}
use Rattle.dt_local.specs.declared.local.Mark.{Mark}
use Rattle.dt_record.proofs.Undoing.{length-earlier_views}
use Rattle.dt_local.specs.Slots.{known_bytes, slots_before}
use Rattle.dt_local.proofs.local.Local.mark.Goals as goal

pub returns-clause-here : goal.returns-clause-here
returns-clause-here c =
    let steps = c.self.inside.steps in
    let long = length-earlier_views slots_before known_bytes c.self.inside.slots.entries steps.kept.items in
    let counted = steps.kept.ok.0 in
    let place : steps.from + c.len.result ≡ c.args.self.now.from + length c.args.self.now.past =
    subst (λ (l : LocalMemory). steps.from + c.len.result ≡ l.from + length l.past) c.self.view_is (omega (arith, c.len.ensures, long, counted)) in
    let marked : ℕ → Mark = λ n. record { at = n } in
    ap marked place

pub returns-clause-live : goal.returns-clause-live
returns-clause-live c =
    let steps = c.self.inside.steps in
    let long = length-earlier_views slots_before known_bytes c.self.inside.slots.entries steps.kept.items in
    let counted = steps.kept.ok.0 in
    record { keeps = refl; kept = omega arith; reached = omega (arith, c.len.ensures, long, counted) }

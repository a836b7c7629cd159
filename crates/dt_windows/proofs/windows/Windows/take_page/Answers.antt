use Rattle.std.proofs.Common.{◌≡◌, ◌/◌, ℕ, Bool, true, false, if◌then◌else◌, Option, Some, ◌∙◌, ap, refl, sym, subst}
use Rattle.std.specs.Ordering.{nat_cmp}
use Rattle.std.specs.Option.{option_flatten}
use Rattle.std.specs.BTreeMap.{is_at}
use Rattle.std.specs.Map.{lookup}
use Rattle.dt_record.specs.declared.keys.Key.{Key}
use Rattle.dt_step.specs.declared.plans.Planned.TheVariants.{FencesPages}
use Rattle.dt_windows.specs.Kept.{WindowsView, TakesFence}
use Rattle.dt_windows.specs.Marks.{KeepsMarks}
use Rattle.dt_windows.specs.Pages.{windows_of}
use Rattle.dt_windows.proofs.Soundness.{SameSteps, IsSound-stepped, IsSound-widened, windows_of-widened}
use Rattle.dt_windows.proofs.Taking.{takes_page}
use Rattle.dt_record.proofs.Undoing.{at}
use Rattle.dt_windows.proofs.Undoing.{lookup-present, KeepsMarks-stepped}
use Rattle.dt_windows.proofs.windows.Windows.take_page.Goals as goal

pub invariant_of-self : goal.invariant_of-self
invariant_of-self c =
    IsSound-widened c.self.inside.fenced c.add_slot.new.slots c.self.inside.steps c.self.inside.steps c.self.invariant c.add_slot.ensures.widened c.add_slot.ensures.slots
    (record { keeps = refl; from = refl; kept = refl; len = refl })

pub invariant_of-self-in_err-reserve_step : goal.invariant_of-self-in_err-reserve_step
invariant_of-self-in_err-reserve_step c =
    let same = c.reserve_step.ensures in
    IsSound-widened c.self.inside.fenced c.add_slot.new.slots c.self.inside.steps c.reserve_step.new.steps c.self.invariant c.add_slot.ensures.widened c.add_slot.ensures.slots
    (record { keeps = same.keeps; from = same.from; kept = same.kept; len = same.len })

pub invariant_of-self-2 : goal.invariant_of-self-2
invariant_of-self-2 c =
    let same = c.reserve_step.ensures in
    IsSound-stepped c.add_slot.new.slots c.set_key.new.slots c.reserve_step.new.steps c.set_key.new.steps
    (IsSound-widened c.self.inside.fenced c.add_slot.new.slots c.self.inside.steps c.reserve_step.new.steps c.self.invariant c.add_slot.ensures.widened c.add_slot.ensures.slots
    (record { keeps = same.keeps; from = same.from; kept = same.kept; len = same.len }))
    c.set_key.ensures.stepped c.in_ok-reserve_step.ensures.spare c.set_key.ensures.slots

flat : (here : Bool) (key : Key) (old : Option (Option Key)) → option_flatten (if here then Some (Some key) else old) ≡ (if here then Some key else option_flatten old)
flat true key old = refl
flat false key old = refl

pub returns-clause-taken : goal.returns-clause-taken
returns-clause-taken c =
    let w = c.self.inside in
    let page = c.args.va / 4096 in
    let old : WindowsView = windows_of w.instructions w.all w.fenced.entries w.steps in
    let new : WindowsView = windows_of w.instructions w.all c.set_key.new.slots.entries c.set_key.new.steps in
    let updates : (q : ℕ) → lookup (at q) new.pages ≡ (if is_at (nat_cmp page) q then Some c.args.key else lookup (at q) old.pages) = λ q.
    lookup-present q c.set_key.new.slots.entries c.set_key.ensures.slots.ordered
    ∙ ap (λ (o : Option (Option Key)). option_flatten o) (c.set_key.ensures.updates.0 q)
    ∙ flat (is_at (nat_cmp page) q) c.args.key (lookup (at q) c.add_slot.new.slots.entries)
    ∙ ap (λ (o : Option Key). if is_at (nat_cmp page) q then Some c.args.key else o)
    (sym (lookup-present q c.add_slot.new.slots.entries c.add_slot.ensures.slots.ordered) ∙ ap (lookup (at q)) c.add_slot.ensures.widened.pages) in
    subst (λ (v : WindowsView). TakesFence v new (FencesPages (Some c.args.va) false) c.args.key) c.self.view_is
    (takes_page old new c.args.va c.args.key refl refl updates)

pub returns-clause-marks : goal.returns-clause-marks
returns-clause-marks c =
    let w = c.self.inside in
    let same = c.reserve_step.ensures in
    let made : SameSteps w.steps c.reserve_step.new.steps = record { keeps = same.keeps; from = same.from; kept = same.kept; len = same.len } in
    subst (λ (v : WindowsView). KeepsMarks v (windows_of w.instructions w.all c.set_key.new.slots.entries c.set_key.new.steps))
    (windows_of-widened w.fenced.entries c.add_slot.new.slots.entries w.steps c.reserve_step.new.steps w.instructions w.all c.add_slot.ensures.widened c.self.invariant.have made ∙ c.self.view_is)
    (KeepsMarks-stepped c.add_slot.new.slots.entries c.set_key.new.slots.entries c.reserve_step.new.steps c.set_key.new.steps w.instructions w.all w.instructions w.all c.set_key.ensures.stepped)

use Rattle.std.proofs.Common.{◌≡◌, Bool, true, false, cond, Option, Some, None, IsSome, ◌∙◌, refl, sym, subst, ap}
use Rattle.std.specs.Ordering.{nat_cmp}
use Rattle.std.specs.Option.{is_some}
use Rattle.std.specs.BTreeMap.{is_at}
use Rattle.std.specs.Map.{lookup}
use Rattle.dt_local.specs.declared.slots.Slot.{Slot}
use Rattle.dt_local.specs.Slots.{Entries, IsWidened}
use Rattle.dt_record.proofs.Undoing.{at}
use Rattle.dt_local.proofs.Undoing.{IsWidened-insert}
use Rattle.dt_local.proofs.words.add_slot.Goals as goal

some_stays : (b : Bool) (slot : Slot) (o : Option Slot) → IsSome o → IsSome (cond b (Some slot) o)
some_stays true slot o some = refl
some_stays false slot o some = some

none_from_is_some : (o : Option Slot) → is_some o ≡ false → o ≡ None
none_from_is_some None none = refl
none_from_is_some (Some slot) none = cc

pub returns-in_ok-insert-clause-widened : goal.returns-in_ok-insert-clause-widened
returns-in_ok-insert-clause-widened c =
    let old : Entries = c.args.slots.now.entries in
    let made = c.in_ok-insert.ensures.entries in
    let absent = none_from_is_some _ (sym c.contains_key.ensures ∙ c.if-not-contains_key.true) in
    subst (λ (fs : Entries). IsWidened old fs) (sym made)
    (IsWidened-insert c.args.word c.empty_slot.result old c.empty_slot.ensures absent
    (λ other some. subst (λ (o : Option Slot). IsSome o) (sym (c.in_ok-insert.ensures.updates.0 other) ∙ ap (lookup (at other)) made) (some_stays (is_at (nat_cmp c.args.word) other) c.empty_slot.result _ some)))

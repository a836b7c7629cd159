use Rattle.std.proofs.Common.{List, ◌++◌, refl, sym, subst, IsTrue, arith}
use Rattle.std.specs.Option.{option_to_list}
use Rattle.std.proofs.lemmas.List.{append-nil}
use Rattle.dt_record.specs.declared.records.Record.{Record}
use Rattle.dt_record.specs.Actions.{Action, Fenced, Loaded}
use Rattle.dt_sources.specs.Knowing.{AreJudged, KnowingGoesOn}
use Rattle.dt_stores.specs.Places.{is_store_place}
use Rattle.dt_judged.specs.GoingOn.{IsOnward, IsNewNumber, IsAllowedDrain, JudgedGoesOn}
use Rattle.dt_hart.specs.HartView.{HartView}
use Rattle.dt_hart.specs.OwnWrites.{GoesOn}
use Rattle.dt_hart.specs.Settings.{Setting, did, does, key_in, next_key}
use Rattle.dt_hart.specs.Standing.{HartStands, KnowsAtNext}
use Rattle.dt_hart.specs.Taking.{is_placed, IsDrained}
use Rattle.dt_hart.proofs.RecordKinds.{Kind, Idle, Loads, Stores, Fences, Atomics, Drains, IsStore, IsDrain}
use Rattle.dt_hart.proofs.Earlier.{key_after, is_its, next_rises, after_rises, next_below_after}
use Rattle.dt_hart.proofs.KnowingOn.{known_next, drain_write, drain_wrote}
use Rattle.dt_hart.proofs.OwnKeys.{write_is_there}
use Rattle.dt_hart.proofs.StoreNumbers.{number_below}

-- The hart's actions go on being judged.

pub judged_next : JudgedGoesOn → (h : HartView) (s : Setting) (r : Record) → HartStands h s → GoesOn s r → AreJudged s.writes (did s) (key_in s r)
judged_next laws h s r stands g =
    laws.other_record s.writes (did s) (next_key s) (key_in s r) stands.judged (record { hart = sym (is_its s r g); rises = next_rises s r g })

-- what local memory and the store buffer know at the key of the next record
pub known_at : KnowingGoesOn → JudgedGoesOn → KnowsAtNext
known_at knowing judging h s r stands g = record {
  knows = known_next knowing h s r stands g;
  judged = judged_next judging h s r stands g;
}

onward : (s : Setting) (r : Record) → GoesOn s r → IsOnward (key_in s r) (key_after s r)
onward s r g = record { hart = is_its s r g; rises = after_rises s r g }

new_number : (s : Setting) (r : Record) (store : IsStore (key_in s r) r.body) → IsNewNumber (did s) store.store.seq
new_number s r store = λ other there same. absurd (omega (arith, number_below 0 s.before other there, same, store.its))

allowed_drain : (s : Setting) (r : Record) (g : GoesOn s r) (d : IsDrain r.body) → IsDrained (did s) r.body → IsAllowedDrain s.writes (did s) (key_in s r) d.line d.count
allowed_drain s r g d drained = record {
  write = drain_write (key_in s r) d.line d.mask d.bytes;
  there = write_is_there s r g (drain_write (key_in s r) d.line d.mask d.bytes) (drain_wrote s r d);
  is_its = refl;
  on_line = refl;
  bytes = d.bytes;
  took = rw d.is at drained;
}

pub judged_after : JudgedGoesOn → (h : HartView) (s : Setting) (r : Record) (g : GoesOn s r) → HartStands h s → IsDrained (did s) r.body → IsTrue (is_placed (does s r)) → Kind (key_in s r) r.body
    → AreJudged s.writes (did s ++ option_to_list (does s r)) (key_after s r)
judged_after laws h s r g stands drained placed (Idle idle) =
    rw idle.action (subst (λ (l : List Action). AreJudged s.writes l (key_after s r)) (sym (append-nil (did s)))
    (laws.other_record s.writes (did s) (key_in s r) (key_after s r) (judged_next laws h s r stands g) (onward s r g)))
judged_after laws h s r g stands drained placed (Loads load) =
    rw load.action (laws.quiet s.writes (did s) (Loaded load.ask) (key_in s r) (key_after s r) (judged_next laws h s r stands g) (onward s r g) refl)
judged_after laws h s r g stands drained placed (Stores store) =
    let place : IsTrue (is_store_place store.store) = rw store.action at placed in
    rw store.action (laws.stored h.stores s.writes (did s) store.store (key_in s r) (key_after s r) stands.stores (judged_next laws h s r stands g) (onward s r g) place (new_number s r store))
judged_after laws h s r g stands drained placed (Fences f) =
    rw f.action (laws.quiet s.writes (did s) (Fenced f.ww f.wr f.rr) (key_in s r) (key_after s r) (judged_next laws h s r stands g) (onward s r g) refl)
judged_after laws h s r g stands drained placed (Atomics x) =
    rw x.is (laws.quiet s.writes (did s) _ (key_in s r) (key_after s r) (judged_next laws h s r stands g) (onward s r g) refl)
judged_after laws h s r g stands drained placed (Drains d) =
    let allowed = allowed_drain s r g d drained in
    rw d.is (laws.drained h.stores s.writes (did s) d.line d.count (key_in s r) (key_after s r) stands.stores (judged_next laws h s r stands g) (onward s r g) (next_below_after s r g) allowed)

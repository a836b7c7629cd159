-- A worker's memory of the writes of all harts, as they settle. All of it is this project's own. Where it speaks of all
-- writes, these are the writes of the file, in the order of their keys.
use Rattle.std.specs.Prelude.{◌≡◌, ℕ, ◌-◌, not, length, Option, Some, None, List, [], ◌++◌, take, IsTrue, if◌then◌else◌, ◌∷◌}
use Rattle.std.specs.List.{list_all}
use mathlib.Core.List.{IsPrefix}
use Rattle.dt_record.specs.declared.writes.Write.{Write}
use Rattle.dt_record.specs.declared.writes.Note.{Note}
use Rattle.dt_record.specs.Writes.{by_key}
use Rattle.dt_versions.specs.History.{History, history, IsKept, CanAdd}
use Rattle.dt_writes.specs.Apart.{are_apart}
use Rattle.dt_core.specs.Notes.{announced}
use Rattle.dt_core.specs.Machine.{usable_below}
use Rattle.dt_core.specs.Marks.{is_below}
use Rattle.dt_settled.specs.Waiting.{waiting_after}

-- what contracts see: the image, the writes that have settled, those that are announced and wait, and how many notes were seen
pub record SettledView : Type 0 where
  pub image : List ℕ
  pub writes : List Write
  pub waiting : List Write
  pub seen : ℕ

-- nothing is seen
abbrev pub new_settled : List ℕ → SettledView
new_settled image = record { image = image; writes = []; waiting = []; seen = 0 }

-- settled writes and waiting ones are together those that notes announce
abbrev pub AreTold : List Write → List Write → List Note → Type 0
AreTold settled waiting notes = by_key (settled ++ waiting) ≡ by_key (announced notes)

-- A memory that has seen these notes: its settled writes are the first of all, and with the waiting ones they are those that
-- the notes announce.
pub record Stands (v : SettledView) (notes : List Note) (all : List Write) : Type 0 where
  pub front : IsPrefix v.writes all
  pub told : AreTold v.writes v.waiting notes

-- the settled writes are the first of all, and none of the later ones is below the mark
pub record Continues (settled : List Write) (least : Option ℕ) (all : List Write) : Type 0 where
  pub later : List Write
  pub are : all ≡ settled ++ later
  pub after : IsTrue (list_all (λ w. not (is_below least w.key.stamp)) later)

-- the announced writes below a mark are exactly those of all writes
abbrev pub TellBelow : Option ℕ → List Note → List Write → Type 0
TellBelow least notes all = usable_below least (by_key (announced notes)) ≡ usable_below least all

-- What is promised of notes and a mark: memory can hold all writes, no two announced ones have one key, and below the mark
-- the announced ones are exactly those of all.
pub record ArePromised (image : List ℕ) (notes : List Note) (least : Option ℕ) (all : List Write) : Type 0 where
  pub kept : IsKept (history image all)
  pub apart : IsTrue (are_apart (announced notes))
  pub exact : TellBelow least notes all

-- Where that is promised, a memory that has seen the first notes comes to have seen all of them, and it lacks no write below
-- the mark.
abbrev pub Settles : SettledView → SettledView → List Note → Option ℕ → Type 0
Settles old new notes least = (all : List Write) → ArePromised old.image notes least all
    → Stands old (take old.seen notes) all → Stands new notes all × Continues new.writes least all

-- where that is promised, what the memory has seen may be but some more of the notes, and its settled writes are still the first of all
abbrev pub StaysTrue : SettledView → SettledView → List Note → Option ℕ → Type 0
StaysTrue old new notes least = (all : List Write) → ArePromised old.image notes least all
    → Stands old (take old.seen notes) all → Stands new (take new.seen notes) all

-- What moves from the waiting writes to the settled ones.

-- the first waiting write, where it is below the mark
abbrev pub first_below : Option ℕ → List Write → Option Write
first_below least [] = None
first_below least (w ∷ ws) = if is_below least w.key.stamp then Some w else None

-- a write is added where memory can take it, and else leaves all as it was
pub record Adds (w : Write) (old new : History) : Type 0 where
  pub image : new.image ≡ old.image
  pub grows : IsPrefix old.writes new.writes
  pub added : CanAdd old w → new ≡ history old.image (old.writes ++ w ∷ [])
  pub left : (CanAdd old w → ⊥) → new ≡ old

-- writes come to memory one after another
abbrev pub AddsAll : List Write → History → History → Type 0
AddsAll [] old new = new ≡ old
AddsAll (w ∷ ws) old new = (mid : History) × Adds w old mid × AddsAll ws mid new

-- The first waiting writes, each below the mark, have left, and came to memory one after another. Where all of them can be held,
-- all are.
pub record Moves (least : Option ℕ) (old : History) (waited : List Write) (new : History) (waiting : List Write) : Type 0 where
  pub moved : List Write
  pub left : waited ≡ moved ++ waiting
  pub below : IsTrue (list_all (λ w. is_below least w.key.stamp) moved)
  pub image : new.image ≡ old.image
  pub grows : IsPrefix old.writes new.writes
  pub added : IsKept (history old.image (old.writes ++ moved)) → new ≡ history old.image (old.writes ++ moved)
  pub one_by_one : AddsAll moved old new

-- What a look at more notes does, in all cases: their writes come to the waiting ones, as far as the notes were seen, and the first
-- waiting ones, each below the mark, come to memory one after another.
pub record LooksAt (more : List Note) (least : Option ℕ) (old new : SettledView) : Type 0 where
  pub moved : List Write
  pub left : waiting_after old.waiting (take (new.seen - old.seen) more) ≡ moved ++ new.waiting
  pub below : IsTrue (list_all (λ w. is_below least w.key.stamp) moved)
  pub one_by_one : AddsAll moved (history old.image old.writes) (history new.image new.writes)

-- the notes that come behind as many as a memory has seen
abbrev pub SettlesMore : SettledView → SettledView → List Note → Option ℕ → Type 0
SettlesMore old new more least = (before : List Note) → old.seen ≡ length before → Settles old new (before ++ more) least

abbrev pub StaysTrueMore : SettledView → SettledView → List Note → Option ℕ → Type 0
StaysTrueMore old new more least = (before : List Note) → old.seen ≡ length before → StaysTrue old new (before ++ more) least

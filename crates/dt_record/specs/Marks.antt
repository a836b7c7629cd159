-- What notes say of how far each hart has come. All of it is this project's own.
use Rattle.std.specs.Prelude.{◌≡◌, zero, suc, ◌<◌, ◌⊎◌, ◌&&◌, ◌||◌, nat_lt, min, Contains, ℕ, ◌-◌, ◌++◌, ◌==◌, Bool, true, false, Option, Some, None, List, length, slice_index, if◌then◌else◌}
use Rattle.std.specs.List.{filter_map, list_any}
use Rattle.dt_record.specs.declared.writes.Note.{Note}
use Rattle.dt_record.specs.declared.writes.Note.TheVariants.{Mark, End}

-- the stamp of a Mark of this hart
abbrev pub stamp_in : ℕ → Note → Option ℕ
stamp_in hart (Mark h stamp) = if h == hart then Some stamp else None
stamp_in hart _ = None

-- whether it is an End of this hart
abbrev pub ends : ℕ → Note → Bool
ends hart (End h) = h == hart
ends hart _ = false

-- the stamps of the hart's Marks, in order
abbrev pub marks_of : ℕ → List Note → List ℕ
marks_of hart notes = filter_map (stamp_in hart) notes

-- the hart's mark: the stamp of its last Mark, or 0 where it has none
abbrev pub mark_of : ℕ → List Note → ℕ
mark_of hart notes = let marks = marks_of hart notes in slice_index marks (length marks - 1)

-- whether the hart has an End
abbrev pub has_ended : ℕ → List Note → Bool
has_ended hart notes = list_any (ends hart) notes

-- the lesser of a mark and the least of others, where there is one
abbrev pub least_with : ℕ → Option ℕ → ℕ
least_with mark None = mark
least_with mark (Some least) = min mark least

-- the least mark of the harts below `harts` that have no End; none where all have one
abbrev pub least_mark : ℕ → List Note → Option ℕ
least_mark zero notes = None
least_mark (suc hart) notes =
    if has_ended hart notes then least_mark hart notes else Some (least_with (mark_of hart notes) (least_mark hart notes))

-- a record of this cycle may be judged: each hart below `harts` has a last mark strictly above it, or an End
abbrev pub CanJudge : ℕ → List Note → ℕ → Type 0
CanJudge harts notes stamp = (hart : ℕ) → hart < harts → (has_ended hart notes ≡ true) ⊎ (stamp < mark_of hart notes)

-- the same as a test
abbrev pub can_judge : ℕ → List Note → ℕ → Bool
can_judge zero notes stamp = true
can_judge (suc hart) notes stamp = (has_ended hart notes || nat_lt stamp (mark_of hart notes)) && can_judge hart notes stamp

-- some Mark of the hart stands strictly above a cycle
abbrev pub HasMarkAbove : ℕ → List Note → ℕ → Type 0
HasMarkAbove hart notes stamp = (mark : ℕ) × Contains (marks_of hart notes) mark × (stamp < mark)

-- Each hart below `harts` has some Mark strictly above a cycle, or an End. It stays so whatever
-- notes follow, which the last mark need not.
abbrev pub HasPassed : ℕ → List Note → ℕ → Type 0
HasPassed harts notes stamp = (hart : ℕ) → hart < harts → (has_ended hart notes ≡ true) ⊎ HasMarkAbove hart notes stamp

-- what has passed stays passed
abbrev pub PassedGoesOn : Type 0
PassedGoesOn = (harts stamp : ℕ) (notes more : List Note) → HasPassed harts notes stamp → HasPassed harts (notes ++ more) stamp

-- a record that may be judged by a front of the notes has been passed in all of them
abbrev pub JudgedIsPassed : Type 0
JudgedIsPassed = (harts stamp : ℕ) (front more : List Note) → CanJudge harts front stamp → HasPassed harts (front ++ more) stamp

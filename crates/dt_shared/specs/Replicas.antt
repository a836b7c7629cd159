-- What contracts see of a replica, and what it keeps of each hart. All of it is this project's own.
use Rattle.std.specs.Prelude.{◌≡◌, ℕ, ◌<◌, Option, Some, None, List, length, slice_get, slice_set, slice_index_or, if◌then◌else◌, min}
use Rattle.dt_record.specs.declared.writes.Note.{Note}
use Rattle.dt_record.specs.declared.writes.Note.TheVariants.{Mark, End}
use Rattle.dt_shared.specs.declared.progress.Progress.{Progress}
use Rattle.dt_shared.specs.declared.progress.Progress.TheVariants.{At, Ended}
use Rattle.dt_record.specs.Marks.{mark_of, has_ended}

pub record ReplicaState : Type 0 where
  pub harts : ℕ  -- how many harts there are
  pub notes : List Note  -- the notes of the history, as far as it was seen

-- how far the notes say that the hart has come
abbrev pub progress_of : ℕ → List Note → Progress
progress_of hart notes = if has_ended hart notes then Ended else At (mark_of hart notes)

-- the progress of each hart that a note can name
pub record Follows (progress : List Progress) (notes : List Note) : Type 0 where
  pub size : length progress ≡ 256
  pub each : (hart : ℕ) → hart < 256 → slice_get progress hart ≡ Some (progress_of hart notes)

-- after a Mark
abbrev pub marked_at : Progress → ℕ → Progress
marked_at (At before) stamp = At stamp
marked_at Ended stamp = Ended

-- the lower of a mark, if there is one, and a hart's
abbrev pub lower_of : Option ℕ → Progress → Option ℕ
lower_of least Ended = least
lower_of None (At mark) = Some mark
lower_of (Some least) (At mark) = Some (min mark least)

-- a note names harts below 256
abbrev pub IsNamed : Note → Type 0
IsNamed (Mark hart stamp) = hart < 256
IsNamed (End hart) = hart < 256
IsNamed _ = Unit {0}

-- the progress after one more note
abbrev pub followed : List Progress → Note → List Progress
followed progress (Mark hart stamp) = slice_set progress hart (marked_at (slice_index_or progress hart Ended) stamp)
followed progress (End hart) = slice_set progress hart Ended
followed progress _ = progress

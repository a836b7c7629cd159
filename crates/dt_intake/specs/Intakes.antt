-- What is kept of the records of one hart as they are taken, and what there is to tell of them. All of
-- it is this project's own.
use Rattle.std.specs.Prelude.{◌≡◌, ◌≤◌, ◌-◌, ◌==◌, ◌&&◌, ◌||◌, not, nat_lt, ℕ, Bool, true, false, if◌then◌else◌, List, [], ◌∷◌, ◌++◌, length, map, drop}
use Rattle.dt_record.specs.declared.records.Body.{Body}
use Rattle.dt_record.specs.declared.records.Body.TheVariants.{Beat}
use Rattle.dt_record.specs.declared.records.Record.{Record}
use Rattle.dt_record.specs.declared.writes.Note.{Note}
use Rattle.dt_record.specs.declared.writes.Note.TheVariants.{Wrote, End}
use Rattle.dt_writes.specs.OwnWrites.{own_writes_from}
use Rattle.dt_core.specs.Machine.{last_mark}
use Rattle.dt_intake.specs.Fronts.{usable_front}

-- the hart, the records that were taken for it, whether the end of the feed was taken, how many of the
-- usable records were told, whether its End was, and for how many more records there is room
pub record IntakeView : Type 0 where
  pub hart : ℕ
  pub taken : List Record
  pub ended : Bool
  pub told : ℕ
  pub end_told : Bool
  pub room : ℕ

-- nothing is taken
abbrev pub new_intake : ℕ → IntakeView
new_intake hart = record { hart = hart; taken = []; ended = false; told = 0; end_told = false; room = 0 }

abbrev pub is_beat : Body → Bool
is_beat Beat = true
is_beat _ = false

-- the end of the feed is a Beat of hart 255, which no file has
abbrev pub is_feed_end : Record → Bool
is_feed_end r = (r.hart == 255) && is_beat r.body

-- after one more record of the feed
abbrev pub with_record : IntakeView → Record → IntakeView
with_record v r =
    if is_feed_end r then record v { ended = true } else record v { taken = v.taken ++ r ∷ []; room = v.room - 1 }

-- the usable ones of the taken records
abbrev pub usable_of : IntakeView → List Record
usable_of v = usable_front v.hart v.taken

-- the feed has ended, and all that was taken is usable
abbrev pub is_over : IntakeView → Bool
is_over v = v.ended && (length (usable_of v) == length v.taken)

-- how far the hart has come: its End where it is over, and else a Mark with the stamp of the last
-- usable record, where there is one
abbrev pub reach_of : ℕ → Bool → List Record → List Note
reach_of hart over usable = if over then End hart ∷ [] else last_mark hart usable

-- the writes of the usable records behind the first ones, and then how far the hart has come
abbrev pub news_from : ℕ → Bool → ℕ → List Record → List Note
news_from hart over told usable = map Wrote (own_writes_from told (drop told usable)) ++ reach_of hart over usable

-- what there is to tell
abbrev pub news_of : IntakeView → List Note
news_of v = news_from v.hart (is_over v) v.told (usable_of v)

-- whether there is something to tell that was not told: a usable record, or the End
abbrev pub has_news : IntakeView → Bool
has_news v = nat_lt v.told (length (usable_of v)) || (is_over v && not v.end_told)

-- after it was told
abbrev pub after_telling : IntakeView → IntakeView
after_telling v = record v { told = length (usable_of v); end_told = is_over v }

-- so many of the taken records are usable, and so many of these were told
pub record IsCounted (hart : ℕ) (taken : List Record) (usable_len told : ℕ) : Type 0 where
  pub count : usable_len ≡ length (usable_front hart taken)
  pub within : told ≤ usable_len

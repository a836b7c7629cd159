-- The watermark law over lists alone: why a record may be judged before the file has ended. All of
-- it is this project's own.
use Rattle.std.specs.Prelude.{◌≡◌, ℕ, ◌<◌, ◌≤◌, ◌⊎◌, true, Option, Some, None, List, IsTrue}
use mathlib.Core.List.{IsPrefix}
use Rattle.dt_record.specs.declared.records.Record.{Record}
use Rattle.dt_record.specs.declared.writes.Note.{Note}
use Rattle.dt_record.specs.ProbeFile.{AreRecords, no_stamps}
use Rattle.dt_record.specs.Writes.{by_key, writes_of}
use Rattle.dt_versions.specs.History.{writes_until}
use Rattle.dt_record.specs.Marks.{mark_of, has_ended, least_mark, CanJudge, HasPassed}
use Rattle.dt_core.specs.Marks.{is_below}
use Rattle.dt_core.specs.Notes.{announced, writes_below}
use Rattle.dt_core.specs.Sound.{Lists, IsSound}

-- what the notes announce below the least mark is all that the file writes there, and no more; once
-- every hart has ended it is all that the file writes
abbrev pub HoldsBelow : Option ℕ → List Note → List Record → Type 0
HoldsBelow (Some least) notes file = writes_below least (by_key (announced notes)) ≡ writes_below least (writes_of file)
HoldsBelow None notes file = by_key (announced notes) ≡ writes_of file

-- every front of the history of sound lists holds exactly the writes of the file below its least mark
abbrev pub WritesBelowMarkAreAll : Type 0
WritesBelowMarkAreAll = (harts : ℕ) (file : List Record) (l : Lists) (front : List Note)
    → AreRecords harts no_stamps file → IsSound file l → IsPrefix front l.history
    → HoldsBelow (least_mark harts front) front file

-- where a record of this cycle may be judged by a front, the front's writes up to the cycle are exactly those of the file
abbrev pub WritesUntilJudgedAreAll : Type 0
WritesUntilJudgedAreAll = (harts : ℕ) (file : List Record) (l : Lists) (front : List Note) (stamp : ℕ)
    → AreRecords harts no_stamps file → IsSound file l → IsPrefix front l.history → CanJudge harts front stamp
    → writes_until stamp (by_key (announced front)) ≡ writes_until stamp (writes_of file)

-- The same where each hart has passed the cycle in the front, by some Mark of it. This stays true as notes follow, which a last
-- mark above the cycle need not.
abbrev pub WritesUntilPassedAreAll : Type 0
WritesUntilPassedAreAll = (harts : ℕ) (file : List Record) (l : Lists) (front : List Note) (stamp : ℕ)
    → AreRecords harts no_stamps file → IsSound file l → IsPrefix front l.history → HasPassed harts front stamp
    → writes_until stamp (by_key (announced front)) ≡ writes_until stamp (writes_of file)

-- a record of a cycle below the least mark may be judged
abbrev pub BelowMarkMayBeJudged : Type 0
BelowMarkMayBeJudged = (harts stamp : ℕ) (notes : List Note) → IsTrue (is_below (least_mark harts notes) stamp) → CanJudge harts notes stamp

-- The same with "at most" in place of "below" and of "strictly above". Neither holds: `below_is_needed` and
-- `strict_mark_is_needed` say so.

abbrev pub WritesUntilMarkAreAll : Type 0
WritesUntilMarkAreAll = (harts : ℕ) (file : List Record) (l : Lists) (front : List Note) (least : ℕ)
    → AreRecords harts no_stamps file → IsSound file l → IsPrefix front l.history → least_mark harts front ≡ Some least
    → writes_until least (by_key (announced front)) ≡ writes_until least (writes_of file)

abbrev pub EqualMarkIsEnough : Type 0
EqualMarkIsEnough = (harts : ℕ) (file : List Record) (l : Lists) (front : List Note) (stamp : ℕ)
    → AreRecords harts no_stamps file → IsSound file l → IsPrefix front l.history
    → ((hart : ℕ) → hart < harts → (has_ended hart front ≡ true) ⊎ (stamp ≤ mark_of hart front))
    → writes_until stamp (by_key (announced front)) ≡ writes_until stamp (writes_of file)

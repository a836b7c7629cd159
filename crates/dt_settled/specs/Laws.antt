-- Laws of settled writes (this project's own).
use Rattle.std.specs.Prelude.{◌≡◌, ℕ, nat_lt, Option, List, [], ◌++◌, length, take, IsTrue}
use Rattle.std.specs.List.{list_all}
use mathlib.Core.List.{IsPrefix}
use Rattle.dt_record.specs.declared.records.Record.{Record}
use Rattle.dt_record.specs.declared.writes.Note.{Note}
use Rattle.dt_record.specs.declared.writes.Write.{Write}
use Rattle.dt_record.specs.Writes.{writes_of}
use Rattle.dt_core.specs.Laws.{HoldsBelow}
use Rattle.dt_core.specs.Marks.{is_below}
use Rattle.dt_core.specs.Notes.{announced}
use Rattle.dt_core.specs.Sound.{Lists, IsSound}
use Rattle.dt_writes.specs.Apart.{are_apart}
use Rattle.dt_settled.specs.Settling.{SettledView, new_settled, Stands, Continues, TellBelow}

-- a new memory has seen no notes, whatever all writes are
abbrev pub SeeingStarts : Type 0
SeeingStarts = (image : List ℕ) (all : List Write) → Stands (new_settled image) [] all

-- a memory that has seen all notes has seen so many of them when more follow
abbrev pub SeeingGoesOn : Type 0
SeeingGoesOn = (v : SettledView) (notes more : List Note) (all : List Write) → v.seen ≡ length notes
    → Stands v notes all → Stands v (take v.seen (notes ++ more)) all

-- for a cycle below the mark, each write that has not settled is of a later one
abbrev pub EarlyWritesHaveSettled : Type 0
EarlyWritesHaveSettled = (settled all : List Write) (least : Option ℕ) (stamp : ℕ) → Continues settled least all
    → IsTrue (is_below least stamp)
    → (later : List Write) × (all ≡ settled ++ later) × IsTrue (list_all (λ w. nat_lt stamp w.key.stamp) later)

-- no two writes that a front of a sound history announces have one key
abbrev pub SoundNotesAreApart : Type 0
SoundNotesAreApart = (file : List Record) (l : Lists) (front : List Note)
    → IsSound file l → IsPrefix front l.history → IsTrue (are_apart (announced front))

-- what the watermark law says of the notes of a file
abbrev pub FileWritesAreTold : Type 0
FileWritesAreTold = (least : Option ℕ) (notes : List Note) (file : List Record)
    → HoldsBelow least notes file → TellBelow least notes (writes_of file)

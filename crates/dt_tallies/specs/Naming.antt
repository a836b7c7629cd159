use Rattle.std.specs.Prelude.{◌==◌, ◌||◌, Bool, not, if◌then◌else◌, Option, List, [], ◌∷◌, filter}
use Rattle.dt_record.specs.declared.keys.Key.{Key}
use Rattle.dt_record.specs.declared.origins.Letters.{Letters}
use Rattle.dt_record.specs.declared.origins.Sources.{Sources}
use Rattle.dt_record.specs.Keys.{key_below}
use Rattle.dt_record.specs.Letters.{has_letter}
use Rattle.dt_verdict.specs.declared.tallies.Noted.{Noted}
use Rattle.dt_tallies.specs.Counting.{is_below}

-- Which records a report names, and in which order (this project's own).

-- a record is named where it has a letter, or where it read RAM (a load, an LR or an AMO): it then has sources
abbrev pub is_named : Letters → Sources → Bool
is_named letters sources = has_letter letters || not (sources.count == 0)

-- a note among notes in the order of their keys, before those with the same key
abbrev pub insert_note : Noted → List Noted → List Noted
insert_note note [] = note ∷ []
insert_note note (n ∷ ns) = if key_below n.key note.key then n ∷ insert_note note ns else note ∷ n ∷ ns

-- notes in the order of their keys; those with the same key keep their order
abbrev pub notes_by_key : List Noted → List Noted
notes_by_key [] = []
notes_by_key (n ∷ ns) = insert_note n (notes_by_key ns)

-- the notes whose key is below a limit, by key
abbrev pub named_notes : Option Key → List Noted → List Noted
named_notes limit notes = notes_by_key (filter (λ n. is_below limit n.key) notes)

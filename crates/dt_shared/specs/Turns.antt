-- What a seat has while it waits for the slot and has it. All of it is this project's own.
use Rattle.std.specs.Prelude.{◌≡◌, ℕ, List, [], ◌∷◌, ◌++◌}
use Rattle.atomic_table.specs.Seated.{TableId}
use Rattle.dt_record.specs.declared.writes.Note.{Note}
use Rattle.dt_shared.specs.declared.entries.Entry.{Entry}
use Rattle.dt_shared.specs.declared.views.Known.{Known}
use Rattle.dt_shared.specs.Entries.{entries_of}
use Rattle.dt_shared.specs.Moments.{Stored}
use Rattle.dt_shared.specs.Views.{at_rest, holding}
use Rattle.dt_shared.specs.Steps.{Seated}

-- the table of a shared record
abbrev pub IsSized : TableId → Type 0
IsSized id = (id.words ≡ 4) × (id.slots ≡ 1)

-- a seat that stands in no line, for one pass
abbrev pub Rests : Known → ℕ → Seated → Type 0
Rests k made me = me ≡ (at_rest (k ∷ []) made, [])

-- a seat that has the slot, for one pass, with the history
abbrev pub HasTurn : Known → ℕ → ℕ → List Entry → Seated → Type 0
HasTurn k made t history me = (list : Stored) × (list.items ≡ history) × (me ≡ (holding (k ∷ []) made t history, (0, list) ∷ []))

-- some pass stands in no line
abbrev pub IsAtRest : Seated → Type 0
IsAtRest me = (k : Known) × (made : ℕ) × Rests k made me

-- some pass has the slot
abbrev pub IsInTurn : Seated → Type 0
IsInTurn me = (k : Known) × (made : ℕ) × (t : ℕ) × (history : List Entry) × HasTurn k made t history me

-- the pass with this number has it
abbrev pub HasTurnOf : ℕ → Seated → Type 0
HasTurnOf number me = (k : Known) × (made : ℕ) × (t : ℕ) × (history : List Entry) × (k.number ≡ number) × HasTurn k made t history me

-- what a pass knows once its notes stand behind the history
abbrev pub appended : Known → List Entry → List Note → Known
appended k history notes = record k { seen = history ++ entries_of k.number notes; own = k.own ++ notes }

-- what a pass knows once it has seen the history
abbrev pub caught_up : Known → List Entry → Known
caught_up k history = record k { seen = history }

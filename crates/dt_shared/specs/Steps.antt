-- What each kind of atomic step tells the seat that makes it. All of it is this project's own.
use Rattle.std.specs.Prelude.{◌≡◌, ◌≢◌, ℕ, ◌+◌, ◌%◌, ◌^◌, ◌==◌, ◌||◌, not, true, unwrap_or, List, [], ◌∷◌, ◌++◌, map, drop, length, All}
use mathlib.Core.List.{IsPrefix}
use Rattle.atomic_table.specs.Table.{Me}
use Rattle.dt_shared.specs.declared.entries.Entry.{Entry}
use Rattle.dt_shared.specs.declared.views.Known.{Known}
use Rattle.dt_shared.specs.declared.views.View.{View}
use Rattle.dt_shared.specs.Entries.{notes_in, notes_of}
use Rattle.dt_shared.specs.Views.{newcomer, at_rest, waiting, holding}
use Rattle.dt_shared.specs.Moments.{Stored}

-- a seat's view, and the slot where it has it
abbrev pub Seated : Type 0
Seated = Me Stored View

abbrev pub ticket_of : View → ℕ
ticket_of v = unwrap_or v.ticket 0

-- the history that the view has
abbrev pub held_of : View → List Entry
held_of v = unwrap_or v.held []

-- the list in the slot that the seat has
abbrev pub list_of : List (ℕ × Stored) → List Entry
list_of [] = []
list_of (slot ∷ slots) = slot.1.items

-- what a pass knows is true of a history
pub record Agrees (history : List Entry) (k : Known) : Type 0 where
  pub seen : IsPrefix k.seen history
  pub own : k.own ≡ notes_of k.number history

-- a ticket was drawn
abbrev pub Draws : Seated → ℕ → Seated → Type 0
Draws before found after = (t : ℕ) × (after ≡ (waiting before.0.passes before.0.made t, [])) × (found ≡ t % 2 ^ 64)

-- where the ticket is served the slot was taken, with the history, of which is true what the passes know
abbrev pub Comes : Seated → ℕ → Seated → Type 0
Comes before found after =
    (found ≡ ticket_of before.0 % 2 ^ 64 → (list : Stored)
    × (after ≡ (holding before.0.passes before.0.made (ticket_of before.0) list.items, (0, list) ∷ []))
    × All (Agrees list.items) before.0.passes)
    × (found ≢ ticket_of before.0 % 2 ^ 64 → after ≡ before)

-- what stands in the slot behind the history became part of it
abbrev pub published : Seated → Known → Known
published m k = record k { seen = list_of m.1; own = k.own ++ notes_in (drop (length (held_of m.0)) (list_of m.1)) }

abbrev pub Publishes : Seated → ℕ → Seated → Type 0
Publishes before found after =
    after ≡ (holding (map (published before) before.0.passes) before.0.made (ticket_of before.0) (list_of before.1), before.1)

-- the history was seen
abbrev pub looked : Seated → Known → Known
looked m k = record k { seen = held_of m.0 }

abbrev pub Looks : Seated → ℕ → Seated → Type 0
Looks before found after =
    after ≡ (holding (map (looked before) before.0.passes) before.0.made (ticket_of before.0) (held_of before.0), before.1)

-- the slot was given back
abbrev pub Leaves : Seated → ℕ → Seated → Type 0
Leaves before found after = after ≡ (at_rest before.0.passes before.0.made, [])

-- the view from which a pass is cut, and the pass's own
abbrev pub maker : View → View
maker v = at_rest v.passes (v.made + 1)

abbrev pub made_pass : View → View
made_pass v = at_rest (newcomer v.made ∷ []) 0

-- what a seat that took in another knows
abbrev pub joined : View → View → View
joined v u = at_rest (u.passes ++ v.passes) (v.made + u.made)

abbrev pub spent : View
spent = at_rest [] 0

-- the pass has stopped
abbrev pub halted : Known → Known
halted k = record k { stopped = true }

abbrev pub Stops : Seated → ℕ → Seated → Type 0
Stops before found after = after ≡ (at_rest (map halted before.0.passes) before.0.made, [])

-- the pass saw a stop, where the word is not 0
abbrev pub asked : ℕ → Known → Known
asked found k = record k { saw_stop = k.saw_stop || not (found == 0) }

abbrev pub Asks : Seated → ℕ → Seated → Type 0
Asks before found after = after ≡ (at_rest (map (asked found) before.0.passes) before.0.made, [])

-- Words on the views of the seats of a shared record. All of it is this project's own.
use Rattle.std.specs.Prelude.{ℕ, ◌+◌, ◌≡◌, ◌==◌, Bool, false, Some, None, is_some, List, [], ◌∷◌, if◌then◌else◌, All}
use mathlib.Core.Option.{some}
use lib.ListN.{get_elem?}
use Rattle.dt_shared.specs.declared.entries.Entry.{Entry}
use Rattle.dt_shared.specs.declared.views.Known.{Known}
use Rattle.dt_shared.specs.declared.views.View.{View}

-- what a pass knows that has just been made
abbrev pub newcomer : ℕ → Known
newcomer number = record { number = number; seen = []; own = []; stopped = false; saw_stop = false }

-- a seat that stands in no line
abbrev pub at_rest : List Known → ℕ → View
at_rest passes made = record { passes = passes; made = made; ticket = None; held = None }

-- a seat that waits with this ticket
abbrev pub waiting : List Known → ℕ → ℕ → View
waiting passes made ticket = record { passes = passes; made = made; ticket = Some ticket; held = None }

-- a seat that has the slot, with this history
abbrev pub holding : List Known → ℕ → ℕ → List Entry → View
holding passes made ticket history = record { passes = passes; made = made; ticket = Some ticket; held = Some history }

-- P of each seat's view
abbrev pub EachView : List View → (View → Type 0) → Type 0
EachView views P = (seat : ℕ) (v : View) → get_elem? views seat ≡ some v → P v

-- P of each pass that some seat stands for
abbrev pub EachPass : List View → (Known → Type 0) → Type 0
EachPass views P = EachView views (λ v. All P v.passes)

abbrev pub one_if : Bool → ℕ
one_if b = if b then 1 else 0

-- a number of each view, added up
abbrev pub total : (View → ℕ) → List View → ℕ
total f [] = 0
total f (v ∷ vs) = f v + total f vs

-- a number of each pass, added up
abbrev pub tally : (Known → ℕ) → List Known → ℕ
tally f [] = 0
tally f (k ∷ ks) = f k + tally f ks

-- a number of each pass that some seat stands for, added up
abbrev pub over_passes : (Known → ℕ) → List View → ℕ
over_passes f views = total (λ v. tally f v.passes) views

-- 1 for a seat that stands in the line
abbrev pub in_line : View → ℕ
in_line v = one_if (is_some v.ticket)

abbrev pub is_numbered : ℕ → Known → ℕ
is_numbered n k = one_if (k.number == n)

abbrev pub has_stopped : Known → ℕ
has_stopped k = one_if k.stopped

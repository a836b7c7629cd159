-- What contracts see of a pass. All of it is this project's own.
use Rattle.std.specs.Prelude.{◌≡◌, ℕ, ◌<◌, Bool, false, Some, List, [], ◌∷◌, length, slice_get}
use Rattle.atomic_table.specs.Seated.{TableId}
use Rattle.dt_record.specs.declared.writes.Note.{Note}
use Rattle.dt_shared.specs.declared.entries.Entry.{Entry}
use Rattle.dt_shared.specs.declared.views.Known.{Known}
use Rattle.dt_shared.specs.Views.{newcomer}
use Rattle.dt_shared.specs.Steps.{Seated}
use Rattle.dt_shared.specs.Turns.{Rests}

pub record PassState : Type 0 where
  pub of : TableId  -- the shared record that it is a pass of
  pub number : ℕ
  pub seen : List Entry  -- the history, as far as it was seen
  pub own : List Note  -- the notes that it appended, in order
  pub stopped : Bool  -- whether it has stopped
  pub saw_stop : Bool  -- whether it saw that a pass has stopped

-- a pass that has seen and appended nothing
abbrev pub new_pass : TableId → ℕ → PassState
new_pass id number = record { of = id; number = number; seen = []; own = []; stopped = false; saw_stop = false }

abbrev pub pass_state : TableId → Known → PassState
pass_state id k = record { of = id; number = k.number; seen = k.seen; own = k.own; stopped = k.stopped; saw_stop = k.saw_stop }

abbrev pub first_known : List Known → Known
first_known [] = newcomer 0
first_known (k ∷ ks) = k

-- so many new passes; the place of a pass in the list, from 0, is its number
pub record AreNumbered (id : TableId) (count : ℕ) (passes : List PassState) : Type 0 where
  pub size : length passes ≡ count
  pub each : (n : ℕ) → n < count → slice_get passes n ≡ Some (new_pass id n)

-- a seat at rest that stands for the pass with this number alone
abbrev pub SeatStands : ℕ → Seated → Type 0
SeatStands number me = Rests (first_known me.0.passes) me.0.made me × ((first_known me.0.passes).number ≡ number)

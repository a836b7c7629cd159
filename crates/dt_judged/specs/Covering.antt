use Rattle.std.specs.Prelude.{ℕ, ◌≡◌, ◌%◌, Some, List, take, filter, slice_get, IsTrue}
use Rattle.std.specs.Int.{bit_at}
use Rattle.dt_record.specs.Memory.{line_of}
use Rattle.dt_record.specs.Actions.{Action, Held, held_of, store_covers}
use Rattle.dt_stores.specs.declared.answers.DrainAnswer.TheVariants as answer
use Rattle.dt_stores.specs.Draining.{is_waiting_on, drain_answer}
use Rattle.dt_stores.specs.Places.{is_store_place}

-- A drain writes each byte of each store that it takes (this project's own).

-- the stores that a drain of so many stores of a line takes: the first so many that wait there
abbrev pub taken_by : List Action → (line count : ℕ) → List Held
taken_by actions line count = take count (filter (is_waiting_on line) (held_of actions))

-- where a drain is allowed, each byte of a store that it takes lies on its line and has its bit in its
-- mask, since a store is aligned and so lies inside one line
abbrev pub DrainsCoverStores : Type 0
DrainsCoverStores = (actions : List Action) (line count mask : ℕ) (bytes : List ℕ) (i : ℕ) (h : Held) (byte : ℕ)
    → drain_answer actions line count ≡ answer.Took mask bytes → slice_get (taken_by actions line count) i ≡ Some h
    → IsTrue (is_store_place h.store) → IsTrue (store_covers byte h.store)
    → (line_of byte ≡ line) × (bit_at mask (byte % 64) ≡ 1)

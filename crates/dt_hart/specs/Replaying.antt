use Rattle.std.specs.Prelude.{ℕ, ◌≡◌, ◌+◌, ◌++◌, Bool, true, false, if◌then◌else◌, Option, None, Some, option_map, option_to_list, List, zero, suc, length, max, slice_get, IsTrue}
use Rattle.dt_decode.specs.declared.instructions.Instr.{Instr}
use Rattle.dt_decode.specs.declared.instructions.Instr.TheVariants.{FenceI}
use Rattle.dt_record.specs.declared.keys.Key.{Key}
use Rattle.dt_record.specs.declared.records.Record.{Record}
use Rattle.dt_record.specs.declared.records.Body.{Body}
use Rattle.dt_record.specs.declared.records.Body.TheVariants.{Commit}
use Rattle.dt_record.specs.Actions.{Action, last_read}
use Rattle.dt_record.specs.Keys.{key_of}
use Rattle.dt_reference.specs.HartActions.{action_of, actions_of, body_action}
use Rattle.dt_reference.specs.Meaning.{meaning_of}
use Rattle.dt_step.specs.declared.state.Arch.{Arch}
use Rattle.dt_stores.specs.Standing.{StoresStand}
use Rattle.dt_windows.specs.Fences.{is_instruction_fence, last_fence}
use Rattle.dt_hart.specs.declared.accesses.Accesses.{Accesses}
use Rattle.dt_hart.specs.declared.replays.Replayed.{Replayed}
use Rattle.dt_hart.specs.Counting.{IsCounted, key_after}
use Rattle.dt_hart.specs.Fences.{fences_from}
use Rattle.dt_hart.specs.Fronts.{AreDrained, ArePlaced}
use Rattle.dt_hart.specs.Reserving.{reserved_by, reserved_in}
use Rattle.dt_hart.specs.Settings.{last_stamp}
use Rattle.dt_hart.specs.Taking.{IsDrained, is_placed}

-- What records leave of their hart that needs neither registers nor memory over time (this project's own).

-- the stores and the last read go on by a record
pub record Replays (old new : Accesses) (key : Key) (body : Body) : Type 0 where
  pub stores : (actions : List Action) → StoresStand old.stores actions → IsDrained actions body
      → StoresStand new.stores (actions ++ option_to_list (body_action key body))
  pub last_read : new.last_read ≡ max old.last_read (last_read (option_to_list (body_action key body)))

-- FENCE.I (Volume I, chapter 3)
abbrev pub means_fence_i : Option Instr → Bool
means_fence_i (Some FenceI) = true
means_fence_i instr = false

-- a record retires one
abbrev pub is_fence_i : Body → Bool
is_fence_i (Commit retire) = means_fence_i (meaning_of retire.bits)
is_fence_i body = false

-- what was replayed goes on by a record
pub record ReplaysOn (old new : Replayed) (r : Record) : Type 0 where
  pub seq : new.seq ≡ old.seq + 1
  pub stamp : new.stamp ≡ r.stamp
  pub counted : IsCounted new.accesses.stores (key_after (key_of old.seq r))
  pub accesses : IsTrue (is_placed (action_of old.seq r)) → Replays old.accesses new.accesses (key_of old.seq r) r.body
  pub reserved : new.reserved ≡ reserved_by (key_of old.seq r) r.body old.reserved
  pub instructions : new.instructions ≡ (if is_fence_i r.body then Some (key_of old.seq r) else old.instructions)

-- These are the records of a hart that were replayed. Its stores and its last read are theirs where each is placed and
-- each drain takes its stores.
pub record IsReplayed (hart : ℕ) (v : Replayed) (records : List Record) : Type 0 where
  pub seq : v.seq ≡ length records
  pub stamp : v.stamp ≡ last_stamp records
  pub counted : IsCounted v.accesses.stores (record { stamp = v.stamp; hart = hart; seq = v.seq })
  pub stores : ArePlaced records → AreDrained records → StoresStand v.accesses.stores (actions_of records)
  pub last_read : ArePlaced records → v.accesses.last_read ≡ last_read (actions_of records)
  pub reserved : v.reserved ≡ reserved_in records
  pub instructions : (a : Arch) → v.instructions ≡ last_fence is_instruction_fence (fences_from a 0 records)

-- the key of the record with a number among a hart's first records, counted from 1
abbrev pub numbered_key : List Record → ℕ → Option Key
numbered_key records zero = None
numbered_key records (suc place) = option_map (key_of place) (slice_get records place)

use Rattle.std.proofs.Common.{ℕ, ◌≡◌, ◌+◌, List, [], ◌∷◌, ◌++◌, length, option_to_list, refl, arith}
use Rattle.dt_record.specs.declared.records.Record.{Record}
use Rattle.dt_step.specs.declared.state.Arch.{Arch}
use Rattle.dt_reference.specs.HartActions.{action_of, actions_from}
use Rattle.dt_reference.specs.Run.{after_record, state_from}

-- The state and the actions of a hart go on by one record.

pub state_from-snoc : (a : Arch) (records : List Record) (r : Record) → state_from a (records ++ r ∷ []) ≡ after_record (state_from a records) r
state_from-snoc a [] r = refl
state_from-snoc a (x ∷ xs) r = state_from-snoc (after_record a x) xs r

pub actions_from-snoc : (seq : ℕ) (records : List Record) (r : Record)
    → actions_from seq (records ++ r ∷ []) ≡ actions_from seq records ++ option_to_list (action_of (seq + length records) r)
actions_from-snoc seq [] r = grind (arith)
actions_from-snoc seq (x ∷ xs) r = grind (arith, actions_from-snoc (seq + 1) xs r)

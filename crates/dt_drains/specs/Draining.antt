use Rattle.std.specs.Prelude.{ℕ, ◌==◌, List, Result, Ok, Err}
use Rattle.dt_record.specs.declared.reasons.Reason.TheVariants.{StoreData, DrainCount, DrainData, Barrier}
use Rattle.dt_record.specs.Actions.{Action}
use Rattle.dt_stores.specs.declared.answers.DrainAnswer.{DrainAnswer}
use Rattle.dt_stores.specs.declared.answers.DrainAnswer.TheVariants.{Took, Few, Barred, OutOfMemory}
use Rattle.dt_stores.specs.Draining.{drain_answer}
use Rattle.dt_rules.specs.declared.misfits.Misfit.{Misfit}
use Rattle.dt_rules.specs.Checks.{misfit, check, first_difference}

-- The checks of stores and drains after those that all instructions share (this project's own).

-- a store has the bytes that are due
abbrev pub store_data_check : (due found : ℕ) → Result (Unit {0}) Misfit
store_data_check due found = check (due == found) (misfit StoreData due found) (Ok tt)

-- What a drain is, where this is the answer that it is due: so many stores of its line wait, no store
-- bars it, and its mask and then its bytes are those of the stores that it takes. Memory never runs out.
abbrev pub answer_check : DrainAnswer → (mask count : ℕ) → (bytes : List ℕ) → (seq : ℕ) → Result (Unit {0}) Misfit
answer_check (Few held) mask count bytes seq = Err (misfit DrainCount held count)
answer_check (Barred oldest) mask count bytes seq = Err (misfit Barrier oldest seq)
answer_check (Took due dues) mask count bytes seq = check (due == mask) (misfit DrainData due mask) (first_difference DrainData dues bytes)
answer_check OutOfMemory mask count bytes seq = Err (misfit DrainCount 0 count)

-- a drain with this number among the records of its hart, after some actions
abbrev pub drain_check : List Action → (line mask count : ℕ) → (bytes : List ℕ) → (seq : ℕ) → Result (Unit {0}) Misfit
drain_check actions line mask count bytes seq = answer_check (drain_answer actions line count) mask count bytes seq

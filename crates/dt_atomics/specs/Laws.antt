use Rattle.std.specs.Prelude.{ℕ, ◌≡◌, ◌+◌, ◌<◌, ◌↔◌, Some, List, ◌++◌, Result, Ok, IsTrue, nat_lt, slice_get}
use Rattle.std.specs.List.{list_all}
use Rattle.dt_rules.specs.declared.misfits.Passed.{Passed}
use Rattle.dt_record.specs.declared.keys.Key.{Key}
use Rattle.dt_record.specs.declared.writes.Write.{Write}
use Rattle.dt_record.specs.Actions.{Action}
use Rattle.dt_record.specs.LoadSources.{origin_at}
use Rattle.dt_record.specs.Memory.{moment_of}
use Rattle.dt_rules.specs.declared.misfits.Misfit.{Misfit}
use Rattle.dt_atomics.specs.declared.accesses.AtomicAccess.{AtomicAccess}
use Rattle.dt_atomics.specs.Answers.{IsAtomicAnswer, old_value}
use Rattle.dt_atomics.specs.Asking.{reads, writes_now}
use Rattle.dt_atomics.specs.Grounds.{AtomicGrounds}
use Rattle.dt_atomics.specs.Reading.{source_of}
use Rattle.dt_atomics.specs.Values.{new_value}

-- Laws of the answers to atomics (this project's own).

-- no atomic has two answers
abbrev pub AtomicsHaveOneAnswer : Type 0
AtomicsHaveOneAnswer = (g : AtomicGrounds) (key : Key) (x : AtomicAccess) (one other : Result Passed Misfit)
    → IsAtomicAnswer g key x one → IsAtomicAnswer g key x other → one ≡ other

-- and each has one
abbrev pub AtomicsHaveAnAnswer : Type 0
AtomicsHaveAnAnswer = (g : AtomicGrounds) (key : Key) (x : AtomicAccess) → (answer : Result Passed Misfit) × IsAtomicAnswer g key x answer

-- what the hart's actions had for each byte is the same with some writes after the others
abbrev pub HadAlike : (writes later : List Write) → List Action → (moments : ℕ → ℕ) → Type 0
HadAlike writes later actions moments =
    (place : ℕ) (action : Action) → slice_get actions place ≡ Some action → (before : List Action) (byte : ℕ)
    → origin_at (writes ++ later) before (moments place) action byte ≡ origin_at writes before (moments place) action byte

abbrev pub with_writes : AtomicGrounds → List Write → AtomicGrounds
with_writes g writes = record g { writes = writes }

-- writes of later cycles than the atomic's do not change its answer, where they do not change what its hart read before
abbrev pub FirstWritesDecideAtomics : Type 0
FirstWritesDecideAtomics = (g : AtomicGrounds) (later : List Write) (key : Key) (x : AtomicAccess) (answer : Result Passed Misfit)
    → IsTrue (list_all (λ w. nat_lt key.stamp w.key.stamp) later) → HadAlike g.writes later g.actions g.moments
    → IsAtomicAnswer g key x answer ↔ IsAtomicAnswer (with_writes g (g.writes ++ later)) key x answer

-- What an allowed atomic is known by: its record has its instruction's width, says rightly whether memory was written and has
-- what was, and each byte that an LR or AMO reads has its source.
pub record IsExact (g : AtomicGrounds) (key : Key) (x : AtomicAccess) (passed : Passed) : Type 0 where
  pub width : x.said_width ≡ x.width
  pub wrote : x.wrote ≡ writes_now x.op x.wrote
  pub new : x.new ≡ new_value x.op x.wrote x.width (old_value g key x) x.operand
  pub origins : IsTrue (reads x.op) → (place : ℕ) → place < x.width
      → slice_get passed.sources.from place ≡ Some (source_of g.writes (moment_of g.writes key) (x.paddr + place))

abbrev pub AllowedAtomicsAreExact : Type 0
AllowedAtomicsAreExact = (g : AtomicGrounds) (key : Key) (x : AtomicAccess) (passed : Passed)
    → IsAtomicAnswer g key x (Ok passed) → IsExact g key x passed

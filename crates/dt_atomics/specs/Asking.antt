use Rattle.std.specs.Prelude.{◌&&◌, Bool, true, false, not}
use Rattle.dt_step.specs.declared.plans.AtomicOp.{AtomicOp}
use Rattle.dt_step.specs.declared.plans.AtomicOp.TheVariants.{Lr as LoadReserved, Sc as StoreConditional, Amo as ReadModifyWrite}
use Rattle.dt_atomics.specs.declared.accesses.AtomicAccess.{AtomicAccess}

-- What the atomics do with memory (The RISC-V Instruction Set Manual, Volume I, chapter 8).

-- LR and AMO read it
abbrev pub reads : AtomicOp → Bool
reads LoadReserved = true
reads StoreConditional = false
reads (ReadModifyWrite op) = true

-- SC alone may fail
abbrev pub is_conditional : AtomicOp → Bool
is_conditional LoadReserved = false
is_conditional StoreConditional = true
is_conditional (ReadModifyWrite op) = false

-- whether an operation writes, where its record says whether it wrote: an AMO always does, and an SC where it succeeded
abbrev pub writes_now : AtomicOp → (wrote : Bool) → Bool
writes_now LoadReserved wrote = false
writes_now StoreConditional wrote = wrote
writes_now (ReadModifyWrite op) wrote = true

-- an SC that failed
abbrev pub has_failed : AtomicAccess → Bool
has_failed x = is_conditional x.op && not x.wrote

use Rattle.std.specs.Prelude.{◌&&◌, Bool, true, not, if◌then◌else◌, List, Result, Ok, ⊤}
use Rattle.dt_record.specs.declared.keys.Key.{Key}
use Rattle.dt_record.specs.declared.reasons.Reason.TheVariants.{Undrained}
use Rattle.dt_record.specs.Actions.{Action}
use Rattle.dt_record.specs.Memory.{line_of}
use Rattle.dt_rules.specs.declared.misfits.Misfit.{Misfit}
use Rattle.dt_rules.specs.Checks.{and_then, none_left}
use Rattle.dt_stores.specs.declared.answers.Which.{Which}
use Rattle.dt_stores.specs.declared.answers.Which.TheVariants.{All, Line, BeforeWr, BeforeWw}
use Rattle.dt_stores.specs.Oldest.{oldest_after}
use Rattle.dt_atomics.specs.declared.accesses.AtomicAccess.{AtomicAccess}
use Rattle.dt_atomics.specs.Asking.{reads, writes_now, has_failed}

-- Which own stores have to be drained before an atomic (this project's own).

-- none of the hart's stores that are asked about is undrained at the stamp, where that is asked at all
abbrev pub drained_check : List Action → Key → (asked : Bool) → Which → Result ⊤ Misfit
drained_check actions key asked which = if asked then none_left Undrained (oldest_after actions which key.stamp) key.seq else Ok tt

-- the stores of its own line; with release, unless it is a failed SC, all; where it reads, those before the last
-- write-before-read fence; where it writes, those before the last write-before-write fence
abbrev pub all_drained_check : List Action → Key → AtomicAccess → Result ⊤ Misfit
all_drained_check actions key x =
    and_then (drained_check actions key true (Line (line_of x.paddr))) (λ _.
    and_then (drained_check actions key (x.release && not (has_failed x)) All) (λ _.
    and_then (drained_check actions key (reads x.op) BeforeWr) (λ _.
    drained_check actions key (writes_now x.op x.wrote) BeforeWw)))

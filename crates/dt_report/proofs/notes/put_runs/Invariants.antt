use Rattle.std.proofs.Common.{◌≡◌, ◌≤◌, ◌-◌, ◌∷◌, ◌++◌, length, drop}
use Rattle.std.specs.List.{flat_map}
use Rattle.dt_report.specs.Runs.{Run, run_text, runs_from, runs_text}
use Rattle.dt_report.proofs.notes.put_runs.Given as goal

-- the runs up to the next byte are written; each of the others comes behind a comma
abbrev pub invariant-loop-next : goal.invariant-loop-next
invariant-loop-next l = record {
  within : l.next ≤ length l.bytes;
  written : l.out.items ++ flat_map (λ (r : Run). 44 ∷ run_text r) (runs_from l.next (drop l.next l.bytes)) ≡ l.fn.out.items ++ runs_text (runs_from 0 l.bytes);
}

abbrev pub decreases-loop-next : goal.decreases-loop-next
decreases-loop-next l = length l.bytes - l.next

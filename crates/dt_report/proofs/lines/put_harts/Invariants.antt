use Rattle.std.proofs.Common.{◌≡◌, ℕ, ◌++◌, drop}
use Rattle.std.specs.List.{flat_map, enumerate_from}
use Rattle.dt_verdict.specs.declared.tallies.Counts.{Counts}
use Rattle.dt_report.specs.Report.{hart_line, hart_lines}
use Rattle.dt_report.proofs.lines.put_harts.Given as goal

-- the lines before this hart's are written
abbrev pub invariant-loop-hart : goal.invariant-loop-hart
invariant-loop-hart l =
    l.out.items ++ flat_map (λ (p : ℕ × Counts). hart_line p.0 p.1) (enumerate_from l.hart (drop l.hart l.counts)) ≡ l.initial.out.items ++ hart_lines l.counts

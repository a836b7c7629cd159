use Rattle.std.proofs.Common.{◌+◌, ◌≤◌}
use Rattle.dt_stores.specs.Marks.{KeepsMarks}
use Rattle.dt_stores_table.proofs.runs.go_on.Given as goal

-- each step leaves the marks, and makes at most one fence
abbrev pub invariant-loop-seq : goal.invariant-loop-seq
invariant-loop-seq l = record {
  marks : KeepsMarks l.initial.stores l.stores;
  ww : l.stores.ww ≤ l.initial.stores.ww + l.seq;
  wr : l.stores.wr ≤ l.initial.stores.wr + l.seq;
}

use Rattle.std.proofs.Common.{◌≡◌, ◌+◌, ◌%◌, ◌≤◌, ◌++◌, length}
use Rattle.dt_walk.specs.Walk.{reads_from}
use Rattle.dt_walk.proofs.reads.reads_of_tables.Given as goal

-- what is read from here on completes what has been read, and the table begins a page
abbrev pub invariant-loop-level : goal.invariant-loop-level
invariant-loop-level g l = record {
  rest : l.found ++ reads_from (g.R.PteReader.entry l.reader) l.args l.level l.table ≡ reads_from (g.R.PteReader.entry l.reader) l.args l.args.levels l.args.root;
  few : length l.found + l.level ≤ 4;
  table : l.table % 4096 ≡ 0;
}

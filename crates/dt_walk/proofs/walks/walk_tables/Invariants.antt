use Rattle.std.proofs.Common.{◌≡◌, ◌%◌}
use Rattle.dt_walk.specs.Walk.{walk_from}
use Rattle.dt_walk.proofs.walks.walk_tables.Given as goal

-- the answer from here on is that of the whole walk, and the table begins a page
abbrev pub invariant-loop-level : goal.invariant-loop-level
invariant-loop-level g l = record {
  answer : walk_from (g.R.PteReader.entry l.reader) l.args l.level l.table ≡ walk_from (g.R.PteReader.entry l.reader) l.args l.args.levels l.args.root;
  table : l.table % 4096 ≡ 0;
}

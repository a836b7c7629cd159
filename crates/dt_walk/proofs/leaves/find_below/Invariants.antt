use Rattle.std.proofs.Common.{◌≡◌, ◌%◌}
use Rattle.dt_walk.specs.Leaf.{leaf_from}
use Rattle.dt_walk.proofs.leaves.find_below.Given as goal

-- what is found from here on is what is found from the first table on, and the table begins a page
abbrev pub invariant-loop-level : goal.invariant-loop-level
invariant-loop-level g l = record {
  answer : leaf_from (g.R.PteReader.entry l.reader) l.page l.level l.table ≡ leaf_from (g.R.PteReader.entry l.reader) l.page l.fn.tables.levels l.fn.tables.root;
  table : l.table % 4096 ≡ 0;
}

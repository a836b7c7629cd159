use Rattle.std.proofs.Common.{◌≡◌, ◌+◌, drop}
use Rattle.dt_sources.specs.Tries.{are_kept}
use Rattle.dt_sources.proofs.tries.keeps_newest.Given as goal

-- the bytes that are left decide
abbrev pub invariant-loop-b : goal.invariant-loop-b
invariant-loop-b l = record {
  place : l.at ≡ l.addr + l.b-index;
  kept : are_kept l.m l.k l.addr l.bytes ≡ are_kept l.m l.k l.at (drop l.b-index l.bytes);
}

use Rattle.std.proofs.Common.{◌≡◌, ◌+◌, ◌==◌, drop}
use Rattle.dt_sources.specs.Tries.{tried_value}
use Rattle.dt_sources.proofs.tries.gives_value.Given as goal

-- the bytes that are left decide
abbrev pub invariant-loop-b : goal.invariant-loop-b
invariant-loop-b l = record {
  place : l.at ≡ l.addr + l.b-index;
  value : (tried_value l.m l.k l.addr l.bytes == l.raw) ≡ (tried_value l.m l.k l.at (drop l.b-index l.bytes) == l.rest);
}

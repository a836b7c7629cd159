use Rattle.std.specs.Prelude.{◌≡◌, drop}
use Rattle.dt_pool.proofs.Making.{AreFirstMade}
use Rattle.dt_pool.proofs.opening.make_workers.Given as goal

-- the first workers are made, and the passes and hands of the others are left
abbrev pub invariant-loop-number : goal.invariant-loop-number
invariant-loop-number l = record {
  passes : l.passes.items ≡ drop l.number l.initial.passes.items;
  hands : l.hands.items ≡ drop l.number l.initial.hands.items;
  made : AreFirstMade l.image l.header.wide l.header.harts l.number l.initial.passes.items l.initial.hands.items l.made.items;
}

use Rattle.std.proofs.Common.{◌≡◌, ◌<◌, ◌⊎◌, ℕ, List, Option, IsNone, IsSome, length}
use Rattle.dt_record.specs.declared.streams.Stop.TheVariants.{Full}
use Rattle.dt_record.specs.Filling.{ContinuesBy, TakesAnswers, block_answers}
use Rattle.dt_record.proofs.streams.Probes.fill.Given as goal

-- the records so far were answered
abbrev pub invariant-filling : goal.invariant-filling
invariant-filling g l = record {
  goes_on : IsNone (g.Self.Probes.progress l.self).ended;
  headed : IsSome (g.Self.Probes.progress l.self).harts;
  step : ContinuesBy (g.Self.Probes.progress l.fn.self) (block_answers l.block.records Full) (g.Self.Probes.progress l.self);
  told : TakesAnswers (g.Self.Probes.left l.fn.self) (block_answers l.block.records Full) (g.Self.Probes.left l.self);
  some : (l.block.room ≡ l.fn.block.room) ⊎ (0 < length l.block.records);
  quiet : g.Self.Probes.faults l.self ≡ g.Self.Probes.faults l.fn.self;
  same_origin : (bytes : Option (List ℕ)) → g.Self.Probes.has_origin l.fn.self bytes → g.Self.Probes.has_origin l.self bytes;
  same_lent : g.Self.Probes.lent l.self ≡ g.Self.Probes.lent l.fn.self;
}

abbrev pub decreases-filling : goal.decreases-filling
decreases-filling g l = l.block.room

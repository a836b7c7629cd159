use Rattle.std.proofs.Common.{All, IfSome, take}
use Rattle.dt_record.specs.Keys.{KeyBelow}
use Rattle.dt_stores.proofs.drains.are_drained_before.Given as goal

-- those so far are
abbrev pub invariant-loop-e : goal.invariant-loop-e
invariant-loop-e l = All (λ h. IfSome h.drained (λ k. KeyBelow k l.key)) (take l.e-index l.entries)

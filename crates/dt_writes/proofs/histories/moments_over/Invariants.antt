use Rattle.std.proofs.Common.{◌≡◌, take}
use Rattle.dt_versions.specs.History.{history}
use Rattle.dt_writes.proofs.histories.moments_over.Given as goal

-- the first writes are held
abbrev pub invariant-loop-w : goal.invariant-loop-w
invariant-loop-w l = l.moments ≡ history l.fn.image (take l.w-index l.writes)

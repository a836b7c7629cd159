use Rattle.std.proofs.Common.{◌≡◌, ◌-◌, ◌^◌, ◌<◌, ◌≤◌, length, drop}
use Rattle.dt_record.specs.Spelling.{presence}
use Rattle.dt_short_bytes.proofs.short.presence_of.Given as goal

abbrev pub invariant-loop-left : goal.invariant-loop-left
invariant-loop-left l =
    record { within : l.left ≤ length l.numbers; so_far : l.bits ≡ presence (drop l.left l.numbers); bound : l.bits < 2 ^ (length l.numbers - l.left) }

abbrev pub decreases-loop-left : goal.decreases-loop-left
decreases-loop-left l = l.left

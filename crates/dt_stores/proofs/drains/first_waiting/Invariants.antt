use Rattle.std.proofs.Common.{◌≤◌, ◌-◌, length}
use Rattle.std.specs.List.{position_or_len}
use Rattle.dt_record.specs.Actions.{is_waiting}
use Rattle.dt_stores.proofs.drains.first_waiting.Given as goal

-- none before this place waits
abbrev pub invariant-loop-first : goal.invariant-loop-first
invariant-loop-first l = l.first ≤ position_or_len is_waiting l.entries

abbrev pub decreases-loop-first : goal.decreases-loop-first
decreases-loop-first l = length l.entries - l.first

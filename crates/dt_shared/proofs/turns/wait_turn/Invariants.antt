use Rattle.std.proofs.Common.{◌≡◌, ℕ, ◌%◌, ◌^◌, []}
use Rattle.dt_shared.specs.Views.{waiting}
use Rattle.dt_shared.proofs.turns.wait_turn.Given as goal

-- the seat waits with its ticket
abbrev pub invariant-loop : goal.invariant-loop
invariant-loop g l = (l.seat.table_id ≡ l.initial.seat.table_id) × ((t : ℕ) × (l.seat.me ≡ (waiting l.fn.seat.me.0.passes l.fn.seat.me.0.made t, [])) × (l.ticket ≡ t % 2 ^ 64))

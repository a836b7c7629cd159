use Rattle.std.proofs.Common.{rules}
use Rattle.dt_shared.proofs.Steps.{leaves_for}
use Rattle.dt_shared.proofs.Told.{rests}
use Rattle.dt_shared.proofs.turns.leave_turn.Goals as goal

pub fetch_add-requires : goal.fetch_add-requires
fetch_add-requires c = let t = c.requires.turn in (search rules, search rules, leaves_for _ _ _ _ t.0 t.1 t.2 t.3 t.4)

pub returns-clause-rests : goal.returns-clause-rests
returns-clause-rests c = λ k made t history turn. rests _ _ k made t history turn c.fetch_add.ensures.2

use Rattle.std.proofs.Common.{rules}
use Rattle.std.proofs.lemmas.Result.{err_from_is_err_and}
use Rattle.dt_shared.proofs.Steps.{looks_for}
use Rattle.dt_shared.proofs.Told.{catches_up, slot_of, lent_turn}
use Rattle.dt_shared.proofs.turns.look_in_turn.Goals as goal

pub slot_mut-list-requires : goal.slot_mut-list-requires
slot_mut-list-requires c = let u = c.requires.turn in (c.requires.table.0, slot_of _ u.0 u.1 u.2 u.3 u.4)

pub returns-in_err-catch_up-clause-turn : goal.returns-in_err-catch_up-clause-turn
returns-in_err-catch_up-clause-turn c = let p = err_from_is_err_and c.from_residual.result c.from_residual.ensures.1 in
    λ k made t history turn. rw p.1 (lent_turn c.args.seat.now.me k made t history c.slot_mut-list.result.now turn c.slot_mut-list.ensures.value)

pub load-requires : goal.load-requires
load-requires c = let u = c.requires.turn in
    (search rules, search rules, looks_for _ _ _ _ u.0 u.1 u.2 u.3 (lent_turn c.args.seat.now.me u.0 u.1 u.2 u.3 c.slot_mut-list.result.now u.4 c.slot_mut-list.ensures.value))

pub returns-clause-turn : goal.returns-clause-turn
returns-clause-turn c = λ k made t history turn. catches_up _ _ k made t history (lent_turn c.args.seat.now.me k made t history c.slot_mut-list.result.now turn c.slot_mut-list.ensures.value) c.load.ensures.2

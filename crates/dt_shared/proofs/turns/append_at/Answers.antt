use Rattle.std.proofs.lemmas.Result.{MatchResult-weaker}
use Rattle.dt_shared.proofs.Told.{either_turn}
use Rattle.dt_shared.proofs.turns.append_at.Goals as goal

pub append_in_turn-added-requires-clause-turn : goal.append_in_turn-added-requires-clause-turn
append_in_turn-added-requires-clause-turn g c = let r = c.requires.rests in let t = c.wait_turn.ensures.turn r.0 r.1 r.3 in (r.0, r.1, t.0, t.1, r.2, t.3)

pub leave_turn-requires-clause-turn : goal.leave_turn-requires-clause-turn
leave_turn-requires-clause-turn g c = let r = c.requires.rests in let t = c.wait_turn.ensures.turn r.0 r.1 r.3 in
    either_turn c.append_in_turn-added.result r.0 _ r.1 t.0 t.1 _ _ (c.append_in_turn-added.ensures.turn r.0 r.1 t.0 t.1 r.2 t.3)

pub returns-clause-told : goal.returns-clause-told
returns-clause-told g c = λ k made number rests. let t = c.wait_turn.ensures.turn k made rests in
    MatchResult-weaker c.append_in_turn-added.result (c.append_in_turn-added.ensures.turn k made t.0 t.1 number t.3) (λ _ h. (t.1, t.2, c.leave_turn.ensures.rests _ _ _ _ h)) (λ _ h. c.leave_turn.ensures.rests _ _ _ _ h)

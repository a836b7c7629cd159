use Rattle.std.proofs.lemmas.Result.{MatchResult-weaker}
use Rattle.dt_shared.specs.declared.entries.Entry.{Entry}
use Rattle.dt_shared.proofs.Histories.{prefix_trans, prefix_map}
use Rattle.dt_shared.proofs.Told.{either_turn, both_told}
use Rattle.dt_shared.proofs.turns.look_at.Goals as goal

pub look_in_turn-looked-requires-clause-turn : goal.look_in_turn-looked-requires-clause-turn
look_in_turn-looked-requires-clause-turn g c = let r = c.requires.rests in let t = c.wait_turn.ensures.turn r.0 r.1 r.2 in
    (r.0, r.1, t.0, t.1, t.3, prefix_trans _ _ _ r.3 (prefix_map (λ (e : Entry). e.note) r.0.seen t.1 t.2.seen))

pub leave_turn-requires-clause-turn : goal.leave_turn-requires-clause-turn
leave_turn-requires-clause-turn g c = let r = c.requires.rests in let t = c.wait_turn.ensures.turn r.0 r.1 r.2 in
    either_turn c.look_in_turn-looked.result r.0 _ r.1 t.0 t.1 _ _ (c.look_in_turn-looked.ensures.turn r.0 r.1 t.0 t.1 t.3)

pub returns-clause-told : goal.returns-clause-told
returns-clause-told g c = λ k made rests. let t = c.wait_turn.ensures.turn k made rests in let looked = c.look_in_turn-looked in
    MatchResult-weaker looked.result (both_told _ _ _ _ looked.result (looked.ensures.turn k made t.0 t.1 t.3) (looked.ensures.replica k made t.0 t.1 t.3))
    (λ _ h. (t.1, t.2, c.leave_turn.ensures.rests _ _ _ _ h.0, h.1)) (λ _ h. (c.leave_turn.ensures.rests _ _ _ _ h.0, h.1))

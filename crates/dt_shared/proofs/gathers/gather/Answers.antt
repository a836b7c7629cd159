use Rattle.std.proofs.Common.{rules, ◌≡◌, ◌+◌, ◌∷◌, Some, ap, sym, ◌∙◌}
use Rattle.std.proofs.lemmas.List.Elements.{All-pop}
use Rattle.dt_shared.specs.Passes.{PassState, pass_state}
use Rattle.dt_shared.specs.Steps.{Seated, joined}
use Rattle.dt_shared.proofs.Steps.{joins_for}
use Rattle.dt_shared.proofs.Gathering.{gathers_one}
use Rattle.dt_shared.proofs.gathers.gather.Goals as goal

pub join_seat-requires : goal.join_seat-requires
join_seat-requires c = let i = c.loop-pass.invariant in let known = c.into_seat.ensures.known in
    let popped = All-pop (λ (p : PassState). p.of ≡ c.args.board.now.table_id) _ _ (Some c.in-Some-pop.pass) c.in-Some-pop.ensures.items i.own in
    (search rules, c.into_seat.ensures.table ∙ popped.1, ap (λ (x : Seated). x.1) known.2, search rules, joins_for _ _ _ _ _ _ _ _ _ i.all.3 known.2)

pub loop-pass-preserved : goal.loop-pass-preserved
loop-pass-preserved c = let i = c.loop-pass.invariant in let known = c.into_seat.ensures.known in
    let popped = All-pop (λ (p : PassState). p.of ≡ c.args.board.now.table_id) _ _ (Some c.in-Some-pop.pass) c.in-Some-pop.ensures.items i.own in
    let same = c.into_seat.ensures.table ∙ popped.1 in record {
      table = search rules;
      own = popped.0;
      all = (
        known.0 ∷ i.all.0,
        i.all.1 + known.1,
        gathers_one _ _ _ _ c.in-Some-pop.pass i.all.0 known.0 c.in-Some-pop.ensures.items i.all.2 (ap (λ id. pass_state id known.0) (sym same) ∙ known.3),
        c.join_seat.ensures.2 ∙ (λ j. (joined (i.all.3 j).0 (known.2 j).0, (i.all.3 j).1)),
      );
    }

use Rattle.std.proofs.Common.{List, ap, ◌∙◌, subst}
use Rattle.std.proofs.lemmas.Result.{err_from_is_err_and}
use Rattle.dt_record.specs.declared.writes.Note.{Note}
use Rattle.dt_shared.specs.declared.views.Known.{Known}
use Rattle.dt_shared.specs.Passes.{pass_state, first_known}
use Rattle.dt_shared.proofs.Knowing.{first_is, still_rests, AppendFacts, append_facts}
use Rattle.dt_shared.proofs.records.SharedRecord.append.Goals as goal

pub invariant_of-pass : goal.invariant_of-pass
invariant_of-pass g c = let i = c.pass.invariant in let r = c.in_err-append_at.ensures.told _ _ i.1 i.0 in (still_rests _ _ _ r, ap (λ (k : Known). k.number) (first_is _ _ _ r) ∙ i.1)

pub returns-in_err-append_at-clause-err : goal.returns-in_err-append_at-clause-err
returns-in_err-append_at-clause-err g c = let p = err_from_is_err_and c.from_residual.result c.from_residual.ensures.1 in
    let i = c.pass.invariant in let r = c.in_err-append_at.ensures.told _ _ i.1 i.0 in
    rw p.1 ((λ j. pass_state (c.append_at.ensures.table j) (first_is _ _ _ r j)) ∙ c.pass.view_is, (λ _. c.args.notes.now.items))

pub invariant_of-pass-2 : goal.invariant_of-pass-2
invariant_of-pass-2 g c = let i = c.pass.invariant in let r = (c.in_ok-append_at.ensures.told _ _ i.1 i.0).2 in (still_rests _ _ _ r, ap (λ (k : Known). k.number) (first_is _ _ _ r) ∙ i.1)

facts : (g : _) (c : goal.After-clear g) → AppendFacts c.args.pass.now c.args.notes.now.items c.append_at.new.seat.table_id (first_known c.append_at.new.seat.me.0.passes)
facts g c = let i = c.pass.invariant in let t = c.in_ok-append_at.ensures.told _ _ i.1 i.0 in let k : Known = first_known c.pass.inside.seat.me.0.passes in
    subst (λ (notes : List Note). AppendFacts c.args.pass.now notes c.append_at.new.seat.table_id (first_known c.append_at.new.seat.me.0.passes)) c.as_slice.ensures.value
    (append_facts c.args.pass.now c.append_at.new.seat.table_id k _ t.0 c.as_slice.result.now ((λ j. pass_state (c.append_at.ensures.table j) k) ∙ c.pass.view_is) (first_is _ _ _ t.2) t.1)

pub returns-clause-seen : goal.returns-clause-seen
returns-clause-seen g c = (facts g c).seen

pub returns-clause-own : goal.returns-clause-own
returns-clause-own g c = (facts g c).own

pub returns-clause-mine : goal.returns-clause-mine
returns-clause-mine g c = (facts g c).mine

pub returns-clause-same : goal.returns-clause-same
returns-clause-same g c = (facts g c).same

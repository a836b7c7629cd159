use Rattle.std.proofs.Common.{◌<◌, ℕ, List, IfSome, refl, sym, subst, ◌∙◌, arith}
use Rattle.std.proofs.lemmas.List.{get_or-replicate}
use Rattle.dt_convert.specs.Convert.{version_of}
use Rattle.dt_convert.specs.Reading.{IsFileOf}
use Rattle.dt_convert.proofs.Drafts.{after_record, ends, hart_fits, lawful_next, may_follow, starts}
use Rattle.dt_convert.proofs.converting.file_of.Goals as goal

pub loop-harts-init : goal.loop-harts-init
loop-harts-init g c = record {
  draft = rw c.new-bytes.ensures.items (starts _ _ _ _ c.requires refl (λ hart below. get_or-replicate 8 hart 0 0 below));
  counted = omega arith;
  same_origin = λ bytes origin. origin;
  same_lent = refl;
}

pub put_record-requires-clause-lawful : goal.put_record-requires-clause-lawful
put_record-requires-clause-lawful g c = lawful_next _ _ c.in-Event.event c.in-Event.ensures.step

pub put_record-requires-clause-stamp : goal.put_record-requires-clause-stamp
put_record-requires-clause-stamp g c = may_follow _ _ _ _ _ _ _ _ c.loop-harts.invariant.draft c.in-Event.ensures.step

pub loop-harts-preserved : goal.loop-harts-preserved
loop-harts-preserved g c =
    let d = c.loop-harts.invariant.draft in
    let r = c.in-Event.event in
    let step = c.in-Event.ensures.step in
    let fits : r.hart < 8 = hart_fits _ _ _ _ _ _ _ r d step in
    record {
      draft = rw (c.in-Ok-put_record.ensures.spelled, c.in-Ok-put_record.ensures.stamped) (after_record _ _ _ _ _ _ _ _ r d c.in-Event.ensures.told step fits);
      counted = omega (arith, c.loop-harts.invariant.counted, c.in-Event.ensures.rising);
      same_origin = λ bytes origin. c.in-Event.ensures.same_origin bytes (c.loop-harts.invariant.same_origin bytes origin);
      same_lent = c.in-Event.ensures.same_lent ∙ c.loop-harts.invariant.same_lent;
    }

pub returns-in-Ok-put_end-clause-file : goal.returns-in-Ok-put_end-clause-file
returns-in-Ok-put_end-clause-file g c =
    let step = c.in-End.ensures.step in
    subst (λ (bytes : List ℕ). IfSome (g.P.Probes.left c.args.probes.now) (λ answers. IsFileOf (version_of c.args.version) answers bytes))
    (sym c.in-Ok-put_end.ensures)
    (ends _ _ _ _ _ _ _ c.in-End.count c.loop-harts.invariant.draft c.in-End.ensures.told step.0 step.1)

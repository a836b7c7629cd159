use Rattle.std.proofs.Common.{sym, subst, ap, ◌↔◌, ◌&&◌, IsTrue, ◌∙◌}
use Rattle.dt_atomics.specs.Answers.{atomic_letters, may_succeed}
use Rattle.dt_atomics.specs.Asking.{has_failed}
use Rattle.dt_atomics.specs.Grounds.{AtomicGrounds, atomic_grounds}
use Rattle.dt_atomics.specs.Newer.{HasNewerByte}
use Rattle.dt_atomics.specs.Reading.{sources_of}
use Rattle.dt_atomics.specs.Values.{number_at, success_check, value_check, write_check}
use Rattle.dt_atomics.proofs.AskedAlone.{asked_success, asked_failure}
use Rattle.dt_atomics.proofs.CheckSteps.{all_hold}
use Rattle.dt_atomics.proofs.NewerSources.{newer_by_newest}
use Rattle.dt_atomics.proofs.judging.atomic.Goals as goal

pub returns : goal.returns
returns c = λ actions moments stands knows.
    let g : AtomicGrounds = atomic_grounds c.args.m.now actions moments c.args.reserved in
    let key = c.args.key in
    let x = c.args.x in
    let ws = c.args.m.now.writes in
    let live = c.may_succeed-live.ensures in
    let at = c.moment-k.ensures.value in
    let old = c.number_at-old.ensures ∙ ap (λ k. number_at g.image ws k x.width x.paddr) at in
    let same = newer_by_newest g key x c.args.l.now knows in
    let newer = subst (λ k. IsTrue c.allowed.result.letters.l ↔ HasNewerByte c.args.l.now ws k x) at c.allowed.ensures.newer in (
      all_hold g key x
          (sym (c.all_drained.ensures actions stands) ∙ c.in_ok-all_drained.was)
          (asked_success (may_succeed g key x) x ∙ ap (λ b. success_check b x) (sym live) ∙ sym c.success.ensures ∙ c.in_ok-success.was)
          (ap (λ n. value_check n x) (sym old) ∙ sym c.value.ensures ∙ c.in_ok-value.was)
          (ap (λ n. write_check n x) (sym old) ∙ sym c.write.ensures ∙ c.in_ok-write.was),
      record {
        newer = (λ l. same.0 (newer.0 l), λ has. newer.1 (same.1 has));
        letters =
            c.allowed.ensures.letters ∙ ap (λ b. atomic_letters c.allowed.result.letters.l (has_failed x && b)) live
            ∙ ap (λ b. atomic_letters c.allowed.result.letters.l b) (asked_failure (may_succeed g key x) x);
        sources = c.allowed.ensures.sources ∙ ap (λ k. sources_of ws k x) at;
      },
    )

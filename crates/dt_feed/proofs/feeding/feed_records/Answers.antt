use Rattle.std.proofs.Common.{[], ◌∷◌, subst, sym, rules, refl, arith, ◌∙◌}
use Rattle.dt_feed.specs.Feeding.{AreFed, one_at}
use Rattle.dt_reading.proofs.Underway.{at_end, refused}
use Rattle.dt_feed.proofs.Parts.{feeding-starts, feeding-more}
use Rattle.dt_feed.proofs.feeding.feed_records.Goals as goal

pub loop-init : goal.loop-init
loop-init g c = record {
  feeding = feeding-starts _ _ _ _ _ c.requires.behind;
  headed = c.requires.behind.harts_are;
  size = refl;
  numbered = sym c.requires.behind.no_events;
  counted = omega arith;
  same_origin = λ bytes origin. origin;
  same_lent = refl;
  pass = search rules;
}

pub loop-preserved : goal.loop-preserved
loop-preserved g c =
    let r = c.in-Event.event in
    let step = c.in-Event.ensures.step in
    let old = c.loop.feeds.items in
    let new = c.feed_to.new.feeds.items in
    let pushed : AreFed (one_at r.hart (r ∷ [])) old new = subst (λ n. AreFed (one_at n (r ∷ [])) old new) c.from.ensures c.if-not-feed_to.ensures.pushed in
    record {
      feeding = feeding-more _ _ _ _ _ _ _ _ old new r c.loop.invariant.feeding c.in-Event.ensures.told step pushed;
      headed = step.harts_stay ∙ c.loop.invariant.headed;
      size = pushed.size ∙ c.loop.invariant.size;
      numbered = omega (arith, c.loop.invariant.numbered, step.one_event);
      counted = omega (arith, c.loop.invariant.counted, c.in-Event.ensures.rising);
      same_origin = λ bytes origin. c.in-Event.ensures.same_origin bytes (c.loop.invariant.same_origin bytes origin);
      same_lent = c.in-Event.ensures.same_lent ∙ c.loop.invariant.same_lent;
      pass = search rules;
    }

pub returns-in-End-clause-pushed : goal.returns-in-End-clause-pushed
returns-in-End-clause-pushed g c =
    let f = c.loop.invariant.feeding in
    (f.given, at_end _ _ _ _ c.in-End.count _ _ _ _ f.underway c.in-End.ensures.told c.in-End.ensures.step, f.parts)

pub returns-in-Malformed-clause-refused : goal.returns-in-Malformed-clause-refused
returns-in-Malformed-clause-refused g c = λ read memory.
    refused _ _ _ _ _ _ _ _ _ c.loop.invariant.feeding.underway c.in-Malformed.ensures.told (λ e. cc) (λ e. cc) (λ more. refl)

pub returns-in-Limit-clause-refused : goal.returns-in-Limit-clause-refused
returns-in-Limit-clause-refused g c = λ read memory.
    refused _ _ _ _ _ _ _ _ _ c.loop.invariant.feeding.underway c.in-Limit.ensures.told (λ e. cc) (λ e. cc) (λ more. refl)

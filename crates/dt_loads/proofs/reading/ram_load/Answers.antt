use Rattle.std.proofs.Common.{length, inr, sym, subst, ◌∙◌}
use Rattle.dt_record.specs.Actions.{Loaded}
use Rattle.dt_sources.specs.Choice.{then_action, with_moment}
use Rattle.dt_sources.specs.Finding.{AreSourcesAt}
use Rattle.dt_loads.proofs.NewerWrites.{newer_by_newest}
use Rattle.dt_loads.proofs.reading.ram_load.Goals as goal

pub returns-in-At : goal.returns-in-At
returns-in-At c = λ actions moments past.
    let m = c.args.m.now in
    let ask = c.args.ask in
    let moment = c.in-At.moment in
    let least = c.in-At.ensures.least actions past.stores past.judged.apart in
    let at = c.in-At.ensures.sources actions past.stores in
    let fit = c.known_fit_is_fit.ensures m.image c.args.l.now m.writes actions moments ask past.knows past.judged in
    let before = (c.least_choice_is_least.ensures m.image m.writes actions moments past.in_order).1 past.chosen in
    let next = c.least_choice_goes_on.ensures.load m.image m.writes actions moments ask moment before ((fit moment).0 least.fits) (λ k fits. least.least k ((fit k).1 fits)) in
    let same = newer_by_newest c.args.l.now m.writes actions moments ask moment c.in-At.sources past.knows at in
    let newer = c.allowed.ensures.newer in (
      sym c.extend.ensures.value ∙ c.if-extend-value.false,
      record {
        moment = moment;
        chosen = (c.least_choice_is_least.ensures m.image m.writes (then_action actions (Loaded ask)) (with_moment moments (length actions) moment) past.in_order).0 next;
        sources = subst (AreSourcesAt m.writes actions ask moment) (sym c.allowed.ensures.sources) at;
        newer = (λ is. same.0 (newer.0 is), λ has. newer.1 (same.1 has));
        no_other = c.allowed.ensures.letters;
      },
    )

pub returns-in-Nowhere : goal.returns-in-Nowhere
returns-in-Nowhere c = λ actions moments past.
    let m = c.args.m.now in
    let fit = c.known_fit_is_fit.ensures m.image c.args.l.now m.writes actions moments c.args.ask past.knows past.judged in
    let nowhere = c.in-Nowhere.ensures.nowhere actions past.stores past.judged.apart in
    let before = (c.least_choice_is_least.ensures m.image m.writes actions moments past.in_order).1 past.chosen in
    let exact = c.refusal_is_exact.ensures m.image m.writes actions moments c.args.ask past.in_order before in (
      inr (λ has. let some = exact.0 has in nowhere some.0 ((fit some.0).1 some.1)),
      c.refusal-in-Nowhere.ensures actions past.stores,
    )

use Rattle.std.proofs.Common.{◌≡◌, ◌++◌, ◌∷◌, [], List, ap, ◌∙◌}
use Rattle.std.proofs.lemmas.List.Elements.{All-same}
use Rattle.std.proofs.lemmas.Result.{IfOk-weaker}
use Rattle.dt_shared.specs.Passes.{PassState}
use Rattle.dt_shared.specs.Records.{identity}
use Rattle.dt_pool.proofs.Joined.{all_of_this, all_passes, came_of, gathered_harts, paired}
use Rattle.dt_pool.proofs.joining.answer.Goals as goal

pub gather-requires-clause-paired : goal.gather-requires-clause-paired
gather-requires-clause-paired c =
    let r = c.requires.run in
    paired r.0 r.1 c.args.harts (identity c.args.shared) r.2 r.3 c.args.feeds.items c.args.ends.items c.args.pass r.4

pub conclude_closed-requires-clause-of_this : goal.conclude_closed-requires-clause-of_this
conclude_closed-requires-clause-of_this c =
    let r = c.requires.run in
    let id = identity c.args.shared in
    let ends = c.args.ends.items in
    let passes : c.push.new.self.items ≡ all_passes ends c.args.pass
    = c.in_ok-push.ensures.items ∙ ap (λ (ps : List PassState). ps ++ c.args.pass ∷ []) c.in_ok-of_harts.ensures.passes in
    All-same (λ (q : PassState). q.of ≡ id) c.push.new.self.items (all_passes ends c.args.pass) passes
    (all_of_this r.0 r.1 c.args.harts id r.2 r.3 c.args.feeds.items ends c.args.pass r.4)

pub conclude_closed-requires-clause-joined : goal.conclude_closed-requires-clause-joined
conclude_closed-requires-clause-joined c =
    let r = c.requires.run in
    let id = identity c.args.shared in
    let ends = c.args.ends.items in
    let passes : c.push.new.self.items ≡ all_passes ends c.args.pass
    = c.in_ok-push.ensures.items ∙ ap (λ (ps : List PassState). ps ++ c.args.pass ∷ []) c.in_ok-of_harts.ensures.passes in (
      r.0,
      r.1,
      r.4.whole.given,
      (came_of r.0 r.1 c.args.harts id r.2 r.3 c.args.feeds.items ends c.args.pass r.4).streamed,
      gathered_harts c.popped_end_means_all.ensures r.0 r.1 c.args.harts id r.2 r.3 c.args.feeds.items ends c.args.pass c.push.new.self.items
          c.deref.result.now c.requires.few_harts r.4 c.in_ok-of_harts.ensures.finished c.in_ok-of_harts.ensures.met passes
          (c.deref.ensures.value ∙ c.in_ok-of_harts.ensures.harts),
    )

pub returns : goal.returns
returns c =
    let id = identity c.args.shared in
    let ends = c.args.ends.items in
    let passes : c.push.new.self.items ≡ all_passes ends c.args.pass
    = c.in_ok-push.ensures.items ∙ ap (λ (ps : List PassState). ps ++ c.args.pass ∷ []) c.in_ok-of_harts.ensures.passes in
    IfOk-weaker c.conclude_closed.result _ _
    (λ checked concludes image wide told p run.
    let came = came_of image wide c.args.harts id told p c.args.feeds.items ends c.args.pass run in
    record {
      harts = c.args.harts;
      wide = wide;
      records = run.whole.given;
      came = came;
      is_checked = concludes image wide run.whole.given came.streamed
          (gathered_harts c.popped_end_means_all.ensures image wide c.args.harts id told p c.args.feeds.items ends c.args.pass c.push.new.self.items
          c.deref.result.now c.requires.few_harts run c.in_ok-of_harts.ensures.finished c.in_ok-of_harts.ensures.met passes
          (c.deref.ensures.value ∙ c.in_ok-of_harts.ensures.harts));
    })
    c.conclude_closed.ensures

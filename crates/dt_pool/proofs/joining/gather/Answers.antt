use Rattle.std.proofs.Common.{◌≡◌, Bool, true, false, not, ◌||◌, List, [], ◌∷◌, ◌++◌, map, get_or, ap, refl, sym, ◌∙◌, append_assoc}
use Rattle.std.specs.Prelude.{All}
use Rattle.std.specs.List.{flat_map}
use Rattle.std.specs.Vec.Iter.{into_iter_items}
use Rattle.std.proofs.lemmas.List.Elements.{All-cons, All-head, All-rest, All-same}
use Rattle.dt_lane.specs.declared.ends.HartEnd.{HartEnd}
use Rattle.dt_shared.specs.Passes.{PassState}
use Rattle.dt_worker.specs.declared.ends.WorkerEnd.{WorkerEnd}
use Rattle.dt_worker.specs.Ends.{has_finished}
use Rattle.dt_pool.specs.Joining.{AreSameFeeds, IsMet, IsPaired}
use Rattle.dt_pool.proofs.Meeting.{met_before, same_feeds, same_further}
use Rattle.dt_pool.proofs.joining.gather.Goals as goal

abbrev pass_of : WorkerEnd → PassState
pass_of e = e.pass

abbrev harts_of : WorkerEnd → List HartEnd
harts_of e = e.harts.items

pub loop-end-init : goal.loop-end-init
loop-end-init c =
    let feeds = c.args.feeds.now.items in
    let ends = c.args.ends.items in
    let items = into_iter_items c.into_iter-end-iterator.result in
    let all : items ≡ ends = c.into_iter-end-iterator.ensures.into_iter_gives.0 in (
      tt,
      tt,
      same_feeds feeds,
      All-same (λ (e : WorkerEnd). All (IsPaired feeds) e.takes.items) items ends all c.requires.paired,
      ap (λ (ps : List PassState). ps ++ map pass_of items) c.requires.no_passes ∙ ap (map pass_of) all,
      ap (λ (hs : List HartEnd). hs ++ flat_map harts_of items) c.new-harts.ensures.items ∙ ap (flat_map harts_of) all,
      λ finished. All-same (λ (e : WorkerEnd). has_finished e ≡ true) ends items (sym all) finished,
      λ met. All-same (λ (e : WorkerEnd). All (IsMet feeds) e.takes.items) ends items (sym all) met,
    )

not_either : (a b : Bool) → a ≡ false → b ≡ false → not (a || b) ≡ true
not_either true b first second = cc
not_either false true first second = cc
not_either false false first second = refl

pub loop-end-preserved : goal.loop-end-preserved
loop-end-preserved c =
    let initial = c.args.feeds.now.items in
    let feeds = c.loop-end.feeds.items in
    let end = c.in-Some.end in
    let items = into_iter_items c.loop-end.end-iterator in
    let rest = into_iter_items c.next.new.self in
    let next : items ≡ end ∷ rest = c.in-Some.ensures.steps.0 in
    let inv = c.loop-end.invariant in
    let same : AreSameFeeds initial feeds = inv.2 in
    let Paired : WorkerEnd → Type 0 = λ e. All (IsPaired initial) e.takes.items in
    let Met : WorkerEnd → Type 0 = λ e. All (IsMet initial) e.takes.items in
    let Finished : WorkerEnd → Type 0 = λ e. has_finished e ≡ true in
    let pairs : All (IsPaired initial) end.takes.items = All-head Paired end rest (All-same Paired (end ∷ rest) items (sym next) inv.3) in (
      tt,
      tt,
      same_further initial feeds _ same c.meet_all.ensures.same,
      All-rest Paired end rest items next inv.3,
      ap (λ (ps : List PassState). ps ++ map pass_of rest) c.in_ok-push.ensures.items
          ∙ append_assoc c.loop-end.passes.items (end.pass ∷ []) (map pass_of rest)
          ∙ ap (λ (es : List WorkerEnd). c.loop-end.passes.items ++ map pass_of es) (sym next)
          ∙ inv.4,
      ap (λ (hs : List HartEnd). hs ++ flat_map harts_of rest) c.in_ok-append.ensures.items
          ∙ append_assoc c.loop-end.harts.items end.harts.items (flat_map harts_of rest)
          ∙ ap (λ (es : List WorkerEnd). c.loop-end.harts.items ++ flat_map harts_of es) (sym next)
          ∙ inv.5,
      λ finished. inv.6 (All-same Finished items (end ∷ rest) next
          (All-cons Finished end rest (not_either end.refused end.stopped c.if-end.false c.if-end-2.false) finished)),
      λ met.
          let here : Met end = λ k t within.
          met_before initial feeds (get_or end.takes.items k t) same (pairs k t within).within (c.meet_all.ensures.met k t within) in
          inv.7 (All-same Met items (end ∷ rest) next (All-cons Met end rest here met)),
    )

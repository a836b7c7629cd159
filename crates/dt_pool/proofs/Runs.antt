-- What a run left, by the parts in which it comes.
use Rattle.std.proofs.Common.{◌≡◌, ℕ, Bool, Option, List, length, sym, ap, ◌∙◌, subst}
use Rattle.atomic_table.specs.Seated.{TableId}
use Rattle.dt_record.specs.declared.streams.Next.{Next}
use Rattle.dt_record.specs.Streams.{Progress}
use Rattle.dt_queue.specs.declared.ends.Feed.{Feed}
use Rattle.dt_reading.specs.Reading.{with_header}
use Rattle.dt_feed.specs.declared.feeding.FeedEnd.{FeedEnd}
use Rattle.dt_feed.specs.declared.feeding.FeedEnd.TheVariants.{Whole}
use Rattle.dt_feed.specs.Feeding.{IsFeeding}
use Rattle.dt_shared.specs.Passes.{PassState, new_pass}
use Rattle.dt_worker.specs.declared.ends.WorkerEnd.{WorkerEnd}
use Rattle.dt_worker.specs.Workers.{WorkerView}
use Rattle.dt_pool.specs.Joining.{HaveRun, IsIdlePass}
use Rattle.dt_pool.specs.Opening.{AreOpened}
use Rattle.dt_pool.specs.Starting.{AreEnds}

pub idle_after : (id : TableId) (number : ℕ) (first after last : PassState) → first ≡ new_pass id number
    → after ≡ record first { stopped = after.stopped; saw_stop = after.saw_stop } → last ≡ after → IsIdlePass id number last
idle_after id number first after last new same is =
    subst (IsIdlePass id number) (sym is)
    (same ∙ ap (λ (q : PassState). record q { stopped = after.stopped; saw_stop = after.saw_stop }) new)

-- the feed of a run as it is known, where it was whole
pub record IsWholeFeed (wide : Bool) (left : Option (List Next)) (p : Progress) (first feeds : List Feed) : Type 0 where
  pub end : FeedEnd
  pub also_wide : Bool
  pub fed : IsFeeding end (with_header (length first) also_wide left) p also_wide first feeds
  pub wide_is : also_wide ≡ wide
  pub end_is : end ≡ Whole

pub have_run : (image : List ℕ) (wide : Bool) (harts : ℕ) (id : TableId) (workers : ℕ) (left : Option (List Next)) (p : Progress)
    (first feeds feeds_left : List Feed) (made crew : List WorkerView) (ends ends_left : List WorkerEnd) (feeder : PassState)
    → AreOpened image wide harts id workers first made → crew ≡ made → AreEnds crew ends → ends_left ≡ ends
    → IsWholeFeed wide left p first feeds → feeds_left ≡ feeds → IsIdlePass id workers feeder
    → HaveRun image wide harts id (with_header harts wide left) p feeds_left ends_left feeder
have_run image wide harts id workers left p first feeds feeds_left made crew ends ends_left feeder opened crew_is are ends_are w feeds_are idle =
    let whole : IsFeeding Whole (with_header (length first) w.also_wide left) p w.also_wide first feeds
    = subst (λ (e : FeedEnd). IsFeeding e (with_header (length first) w.also_wide left) p w.also_wide first feeds) w.end_is w.fed in
    let of_wide : IsFeeding Whole (with_header (length first) wide left) p wide first feeds
    = subst (λ (b : Bool). IsFeeding Whole (with_header (length first) b left) p b first feeds) w.wide_is whole in
    let of_harts : IsFeeding Whole (with_header harts wide left) p wide first feeds
    = subst (λ n. IsFeeding Whole (with_header n wide left) p wide first feeds) opened.are_hands.queues of_wide in
    record {
      workers = workers;
      first = first;
      made = made;
      opened = opened;
      ended = subst (λ (es : List WorkerEnd). AreEnds made es) (sym ends_are) (subst (λ (ws : List WorkerView). AreEnds ws ends) crew_is are);
      whole = subst (λ (fs : List Feed). IsFeeding Whole (with_header harts wide left) p wide first fs) (sym feeds_are) of_harts;
      idle = idle;
    }

-- What the threads of a run left, brought together. All of it is this project's own.
use Rattle.std.specs.Prelude.{◌≡◌, ◌<◌, ◌++◌, ℕ, Bool, Option, List, length, slice_index_or}
use Rattle.atomic_table.specs.Seated.{TableId}
use Rattle.dt_record.specs.declared.records.Record.{Record}
use Rattle.dt_record.specs.declared.streams.Next.{Next}
use Rattle.dt_record.specs.Streams.{Progress}
use Rattle.dt_queue.specs.declared.ends.Feed.{Feed}
use Rattle.dt_queue.specs.declared.ends.Take.{Take}
use Rattle.dt_queue.specs.Queue.{fed, feed_queue, take_queue, taken}
use Rattle.dt_feed.specs.declared.feeding.FeedEnd.TheVariants.{Whole}
use Rattle.dt_feed.specs.Feeding.{IsFeeding}
use Rattle.dt_shared.specs.Passes.{PassState, new_pass}
use Rattle.dt_worker.specs.declared.ends.WorkerEnd.{WorkerEnd}
use Rattle.dt_worker.specs.Workers.{WorkerView}
use Rattle.dt_pool.specs.Opening.{AreOpened}
use Rattle.dt_pool.specs.Starting.{AreEnds}

-- the end of a queue that is among these, with the number of its hart
pub record IsPaired (feeds : List Feed) (t : ℕ × Take) : Type 0 where
  pub within : t.0 < length feeds
  pub queue : (f : Feed) → take_queue t.1 ≡ feed_queue (slice_index_or feeds t.0 f)

-- what was taken from it, and what is left, is what was fed
abbrev pub IsMet : List Feed → (ℕ × Take) → Type 0
IsMet feeds t = (f : Feed) → (left : List Record) × (taken t.1 ++ left ≡ fed (slice_index_or feeds t.0 f))

-- the same queues with as much in them
pub record AreSameFeeds (old new : List Feed) : Type 0 where
  pub size : length new ≡ length old
  pub queues : (k : ℕ) (f : Feed) → k < length old → feed_queue (slice_index_or new k f) ≡ feed_queue (slice_index_or old k f)
  pub records : (k : ℕ) (f : Feed) → k < length old → fed (slice_index_or new k f) ≡ fed (slice_index_or old k f)

-- a pass that has seen and appended nothing, and may have stopped
abbrev pub IsIdlePass : TableId → ℕ → PassState → Type 0
IsIdlePass id number p = p ≡ record (new_pass id number) { stopped = p.stopped; saw_stop = p.saw_stop }

-- What the threads of a run left whose feed was whole: its queues, the ends of its workers, and the feeder's pass.
pub record HaveRun (image : List ℕ) (wide : Bool) (harts : ℕ) (id : TableId) (told : Option (List Next)) (p : Progress)
    (feeds : List Feed) (ends : List WorkerEnd) (feeder : PassState) : Type 0 where
  pub workers : ℕ
  pub first : List Feed
  pub made : List WorkerView
  pub opened : AreOpened image wide harts id workers first made
  pub ended : AreEnds made ends
  pub whole : IsFeeding Whole told p wide first feeds
  pub idle : IsIdlePass id workers feeder

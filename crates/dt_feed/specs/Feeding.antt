-- What a feed pushes into the queues of the harts. All of it is this project's own.
use Rattle.std.specs.Prelude.{◌≡◌, ◌<◌, ◌==◌, ℕ, Bool, true, nat_lt, if◌then◌else◌, Option, List, [], ◌∷◌, ◌++◌, length, slice_index_or}
use Rattle.dt_record.specs.declared.records.Body.TheVariants.{Beat}
use Rattle.dt_record.specs.declared.records.Record.{Record}
use Rattle.dt_record.specs.declared.streams.Next.{Next}
use Rattle.dt_record.specs.Keys.{records_of}
use Rattle.dt_record.specs.Streams.{Progress}
use Rattle.dt_verdict.specs.declared.answers.Refusal.{Refusal}
use Rattle.dt_queue.specs.declared.ends.Feed.{Feed}
use Rattle.dt_queue.specs.Queue.{fed, feed_queue}
use Rattle.dt_reading.specs.Reading.{HasCome}
use Rattle.dt_reading.specs.Underway.{HaveBegun}
use Rattle.dt_feed.specs.declared.feeding.FeedEnd.{FeedEnd}
use Rattle.dt_feed.specs.declared.feeding.FeedEnd.TheVariants.{Whole, Refused, Stopped}

-- the end of a feed, as it stands in a queue: no file has a record of hart 255
abbrev pub feed_end : Record
feed_end = record { stamp = 0; hart = 255; body = Beat }

-- these go to the queue of one hart, and nothing to the others
abbrev pub one_at : ℕ → List Record → ℕ → List Record
one_at hart records k = if k == hart then records else []

-- the end of the feed goes to the queues of the first harts
abbrev pub ends_of : ℕ → ℕ → List Record
ends_of ends k = if nat_lt k ends then feed_end ∷ [] else []

-- to the queue of each hart were pushed the records that `part` has for it
pub record AreFed (part : ℕ → List Record) (old new : List Feed) : Type 0 where
  pub size : length new ≡ length old
  pub queues : (k : ℕ) (d : Feed) → k < length old → feed_queue (slice_index_or new k d) ≡ feed_queue (slice_index_or old k d)
  pub records : (k : ℕ) (d : Feed) → k < length old → fed (slice_index_or new k d) ≡ fed (slice_index_or old k d) ++ part k

-- of a feed whose stream was refused
abbrev pub IfRefused : FeedEnd → (Refusal → Type 0) → Type 0
IfRefused (Refused r) P = P r
IfRefused Whole P = Unit {0}
IfRefused Stopped P = Unit {0}

-- whether the feeder's pass has stopped: a feed whose stream is refused stops it
abbrev pub has_stopped : FeedEnd → Bool → Bool
has_stopped (Refused r) stopped = true
has_stopped Whole stopped = stopped
has_stopped Stopped stopped = stopped

-- which records were fed of a stream that ended so
abbrev pub HasGone : FeedEnd → Option (List Next) → Progress → (harts : ℕ) (wide : Bool) → List Record → Type 0
HasGone Whole told p harts wide given = HasCome told p harts wide given
HasGone (Refused r) told p harts wide given = HaveBegun told harts wide given
HasGone Stopped told p harts wide given = HaveBegun told harts wide given

-- What became of a feed. To each queue went its hart's records among those that came, in order, and then, for the first harts, the
-- end of the feed.
pub record IsFeeding (end : FeedEnd) (told : Option (List Next)) (p : Progress) (wide : Bool) (old new : List Feed) : Type 0 where
  pub given : List Record
  pub ends : ℕ
  pub parts : AreFed (λ k. records_of k given ++ ends_of ends k) old new
  -- they are the first of the stream
  pub begun : HaveBegun told (length old) wide given
  -- no end stands in a queue before all records were fed
  pub complete : 0 < ends → HasCome told p (length old) wide given
  -- all records and all ends were fed
  pub whole : end ≡ Whole → HasCome told p (length old) wide given × (ends ≡ length old)

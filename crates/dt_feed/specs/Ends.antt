-- What an end of the feed says that was popped. Laws. All of it is this project's own.
use Rattle.std.specs.Prelude.{◌≡◌, ◌≢◌, ◌<◌, ℕ, Bool, true, false, Option, List, [], ◌∷◌, ◌++◌, length, slice_index_or, All}
use mathlib.Core.List.{IsPrefix}
use Rattle.dt_record.specs.declared.records.Record.{Record}
use Rattle.dt_record.specs.declared.streams.Next.{Next}
use Rattle.dt_record.specs.Keys.{records_of}
use Rattle.dt_record.specs.Streams.{Progress}
use Rattle.dt_intake.specs.Intakes.{is_feed_end}
use Rattle.dt_queue.specs.declared.ends.Feed.{Feed}
use Rattle.dt_queue.specs.Queue.{fed}
use Rattle.dt_reading.specs.Reading.{HasCome}
use Rattle.dt_feed.specs.declared.feeding.FeedEnd.{FeedEnd}
use Rattle.dt_feed.specs.declared.feeding.FeedEnd.TheVariants.{Whole}
use Rattle.dt_feed.specs.Feeding.{IsFeeding, feed_end}

-- What was taken begins the hart's records among those that were given; and where the end of the feed was popped, all records of the
-- stream were given, all of the hart's were taken, and nothing is left.
pub record HasTaken (told : Option (List Next)) (p : Progress) (harts : ℕ) (wide : Bool) (given : List Record) (hart : ℕ) (ended : Bool)
    (taken left : List Record) : Type 0 where
  pub begins : IsPrefix taken (records_of hart given)
  pub all : ended ≡ true → HasCome told p harts wide given × (taken ≡ records_of hart given) × (left ≡ [])

-- what was popped is what was taken, and behind it an end of the feed once one came
abbrev pub ArePoppedOf : (ended : Bool) (taken popped : List Record) → Type 0
ArePoppedOf false taken popped = popped ≡ taken
ArePoppedOf true taken popped = (e : Record) × (is_feed_end e ≡ true) × (popped ≡ taken ++ e ∷ [])

-- Where one of the queues of a feed, fresh when it began, holds what was popped and what is left, a popped end means that all was
-- taken, however the feed ended.
abbrev pub PoppedEndMeansAll : Type 0
PoppedEndMeansAll = (end : FeedEnd) (told : Option (List Next)) (p : Progress) (wide : Bool) (old new : List Feed)
    → (f : IsFeeding end told p wide old new)
    → (hart : ℕ) (d : Feed) (ended : Bool) (taken popped left : List Record) → hart < length old → hart ≢ 255
    → fed (slice_index_or old hart d) ≡ [] → popped ++ left ≡ fed (slice_index_or new hart d)
    → All (λ r. is_feed_end r ≡ false) taken → ArePoppedOf ended taken popped
    → HasTaken told p (length old) wide f.given hart ended taken left

-- where a feed was whole, each queue holds the hart's records of the stream, and then one end
abbrev pub WholeFeedEndsAll : Type 0
WholeFeedEndsAll = (told : Option (List Next)) (p : Progress) (wide : Bool) (old new : List Feed) (f : IsFeeding Whole told p wide old new)
    → (hart : ℕ) (d : Feed) → hart < length old → fed (slice_index_or old hart d) ≡ []
    → HasCome told p (length old) wide f.given × (fed (slice_index_or new hart d) ≡ records_of hart f.given ++ feed_end ∷ [])

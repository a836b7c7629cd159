-- How the harts of a file are handed to workers. All of it is this project's own.
use Rattle.std.specs.Prelude.{◌≡◌, ◌≢◌, ◌<◌, ◌≤◌, ◌%◌, ◌++◌, ℕ, Bool, List, [], ◌∷◌, length, slice_index_or, All, Any, Vec}
use Rattle.std.specs.declared.alloc.Global.{Global}
use Rattle.atomic_table.specs.Seated.{TableId}
use Rattle.dt_queue.specs.declared.ends.Feed.{Feed}
use Rattle.dt_queue.specs.declared.ends.Take.{Take}
use Rattle.dt_queue.specs.Queue.{fed, feed_queue, take_queue, taken}
use Rattle.dt_shared.specs.Passes.{PassState, new_pass}
use Rattle.dt_worker.specs.Workers.{AreOfDifferentHarts, IsNewWorker, WorkerView}

-- the ends of queues that one worker was handed, each with the number of its hart
abbrev pub Hand : Type 0
Hand = Vec (ℕ × Take) Global

-- an end of a hart's queue from which nothing was taken; the hart goes to this of so many workers
pub record IsHanded (workers harts : ℕ) (feeds : List Feed) (number : ℕ) (t : ℕ × Take) : Type 0 where
  pub within : t.0 < harts
  pub its : t.0 % workers ≡ number
  pub untaken : taken t.1 ≡ []
  pub queue : (f : Feed) → take_queue t.1 ≡ feed_queue (slice_index_or feeds t.0 f)

-- all harts that go to one worker
pub record IsHand (workers harts : ℕ) (feeds : List Feed) (number : ℕ) (takes : List (ℕ × Take)) : Type 0 where
  pub each : All (IsHanded workers harts feeds number) takes
  pub all : (hart : ℕ) → hart < harts → hart % workers ≡ number → Any (λ t. t.0 ≡ hart) takes
  pub different : AreOfDifferentHarts takes

-- a fresh queue for each hart, and what each worker was handed of them
pub record AreHands (workers harts : ℕ) (feeds : List Feed) (hands : List Hand) : Type 0 where
  pub queues : length feeds ≡ harts
  pub unfed : All (λ f. fed f ≡ []) feeds
  pub size : length hands ≡ workers
  pub each : (number : ℕ) (hand : Hand) → number < workers → IsHand workers harts feeds number (slice_index_or hands number hand).items

-- one worker was handed one end more
pub record IsGiven (number : ℕ) (t : ℕ × Take) (old new : List Hand) : Type 0 where
  pub size : length new ≡ length old
  pub its : (hand : Hand) → (slice_index_or new number hand).items ≡ (slice_index_or old number hand).items ++ t ∷ []
  pub others : (k : ℕ) (hand : Hand) → k ≢ number → slice_index_or new k hand ≡ slice_index_or old k hand

-- a worker for each hand, with a pass of its own
pub record AreMade (image : List ℕ) (wide : Bool) (harts : ℕ) (passes : List PassState) (hands : List Hand)
    (made : List WorkerView) : Type 0 where
  pub size : length made ≡ length passes
  pub each : (k : ℕ) (p : PassState) (hand : Hand) (w : WorkerView) → k < length passes
      → IsNewWorker harts wide image (slice_index_or passes k p) (slice_index_or hands k hand).items (slice_index_or made k w)

-- New passes, of one shared record. The place of each, from 0, is its number.
pub record AreInOrder (id : TableId) (workers : ℕ) (passes : List PassState) : Type 0 where
  pub size : length passes ≡ workers
  pub each : (k : ℕ) (p : PassState) → k < workers → slice_index_or passes k p ≡ new_pass id k

-- New workers, so many, of a file with so many harts: a hart's queue is in the hands of the worker with its number modulo theirs.
pub record AreOpened (image : List ℕ) (wide : Bool) (harts : ℕ) (id : TableId) (workers : ℕ) (feeds : List Feed)
    (made : List WorkerView) : Type 0 where
  pub hands : List Hand
  pub passes : List PassState
  pub some : 1 ≤ workers
  pub are_hands : AreHands workers harts feeds hands
  pub in_order : AreInOrder id workers passes
  pub are_made : AreMade image wide harts passes hands made

-- What the two ends of a queue show. All of it is this project's own.
use Rattle.std.specs.Prelude.{◌≡◌, ℕ, List}
use denote.RawPtr.{Ptr}
use Rattle.std.specs.declared.alloc.Global.{Global}
use Rattle.rtrb.specs.Shared.{Names}
use Rattle.rtrb.specs.Ring.{sent, received}
use Rattle.rtrb.specs.Ring as ring
use Rattle.dt_record.specs.declared.records.Record.{Record}
use Rattle.dt_queue.specs.declared.ends.Feed.{Feed}
use Rattle.dt_queue.specs.declared.ends.Take.{Take}

-- every record that was fed, the oldest first
abbrev pub fed : Feed → List Record
fed f = sent f.producer

-- every record that was taken, the oldest first
abbrev pub taken : Take → List Record
taken t = received t.consumer

-- how many places the feeding end knows to be free
abbrev pub known_free : Feed → ℕ
known_free f = ring.known_free f.producer

-- the records that the taking end knows to be in the queue, the oldest first
abbrev pub known_items : Take → List Record
known_items t = ring.known_items t.consumer

-- which queue it is
pub record QueueName : Type 0 where
  pub words : Ptr
  pub slots : Ptr
  pub names : Names
  pub heap : Global

-- the queue of a feeding end
abbrev pub feed_queue : Feed → QueueName
feed_queue f =
    record { words = f.producer.end.words; slots = f.producer.end.slots; names = f.producer.end.names; heap = f.producer.end.heap }

-- the queue of a taking end
abbrev pub take_queue : Take → QueueName
take_queue t =
    record { words = t.consumer.end.words; slots = t.consumer.end.slots; names = t.consumer.end.names; heap = t.consumer.end.heap }

-- the two ends of one queue
abbrev pub ArePair : Feed → Take → Type 0
ArePair f t = take_queue t ≡ feed_queue f

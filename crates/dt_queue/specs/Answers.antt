-- Facts about an answer, by its variant.
use Rattle.dt_record.specs.declared.records.Record.{Record}
use Rattle.dt_queue.specs.declared.ends.Push.{Push}
use Rattle.dt_queue.specs.declared.ends.Push.TheVariants.{Done, Full}
use Rattle.dt_queue.specs.declared.ends.Pop.{Pop}
use Rattle.dt_queue.specs.declared.ends.Pop.TheVariants.{Item, Empty}

-- P of Done, and Q of the record that Full gives back
abbrev pub MatchPush : Push → Type 0 → (Record → Type 0) → Type 0
MatchPush Done P Q = P
MatchPush (Full event) P Q = Q event

-- P of Empty, and Q of the record that Item gives
abbrev pub MatchPop : Pop → Type 0 → (Record → Type 0) → Type 0
MatchPop Empty P Q = P
MatchPop (Item event) P Q = Q event

-- a record came
abbrev pub IsItem : Pop → Type 0
IsItem Empty = ⊥
IsItem (Item event) = Unit {0}

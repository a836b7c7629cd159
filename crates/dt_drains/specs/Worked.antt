use Rattle.std.specs.Prelude.{ℕ, ◌≡◌, true, false, List, [], ◌∷◌, ◌++◌, replicate, None, Some, Ok, Err, refl}
use Rattle.dt_record.specs.declared.keys.Key.{Key}
use Rattle.dt_record.specs.declared.reasons.Reason.TheVariants.{DrainCount, DrainData, Barrier}
use Rattle.dt_record.specs.Actions.{Action, Stored, Drained, Fenced}
use Rattle.dt_stores.specs.declared.answers.Which.TheVariants.{All}
use Rattle.dt_stores.specs.Draining.{mask_over, bytes_over, forward_after}
use Rattle.dt_stores.specs.Oldest.{oldest_after}
use Rattle.dt_rules.specs.Checks.{misfit}
use Rattle.dt_drains.specs.Draining.{drain_check}

-- Examples of drains, barriers and forwarding that the definitions compute (this project's own).

abbrev key : (stamp hart seq : ℕ) → Key
key stamp hart seq = record { stamp = stamp; hart = hart; seq = seq }

abbrev line : ℕ
line = 0x8000_0100

-- a doubleword of 7 is stored by the record with this number
abbrev stored : (seq addr : ℕ) → Action
stored seq addr = Stored (record { seq = seq; addr = addr; width = 8; value = 7 })

-- a line with 7 at its start, and one with 7 at the start of its first two doublewords
abbrev one_seven : List ℕ
one_seven = 7 ∷ replicate 63 0

abbrev two_sevens : List ℕ
two_sevens = 7 ∷ replicate 7 0 ++ 7 ∷ replicate 55 0

-- Two doublewords on one line: each drains by itself, the older one first, or both drain at once. There
-- is no third one, and the mask is that of the stores that are taken.
abbrev two_stores : List Action
two_stores = stored 2 line ∷ stored 3 0x8000_0108 ∷ []

pub drain_of_one : drain_check two_stores line 0xff 1 one_seven 4 ≡ Ok tt
unfolding mask_over bytes_over
drain_of_one = refl

pub drain_of_the_other : drain_check (two_stores ++ Drained (key 5 0 4) line 1 ∷ []) line 0xff00 1 (replicate 8 0 ++ 7 ∷ replicate 55 0) 5
    ≡ Ok tt
unfolding mask_over bytes_over
drain_of_the_other = refl

pub drain_of_both : drain_check two_stores line 0xffff 2 two_sevens 4 ≡ Ok tt
unfolding mask_over bytes_over
drain_of_both = refl

pub drain_of_too_many : drain_check two_stores line 0xffff 3 two_sevens 4 ≡ Err (misfit DrainCount 2 3)
drain_of_too_many = refl

pub drain_of_too_little : drain_check two_stores line 0xff 2 one_seven 4 ≡ Err (misfit DrainData 0xffff 0xff)
unfolding mask_over bytes_over
drain_of_too_little = refl

-- a store behind a fence of writes drains no earlier than one before it, to another line
abbrev fenced : List Action
fenced = stored 2 line ∷ Fenced true false false ∷ stored 4 0x8000_0140 ∷ []

pub drain_over_a_fence : drain_check fenced 0x8000_0140 0xff 1 one_seven 5 ≡ Err (misfit Barrier 2 5)
drain_over_a_fence = refl

pub drain_in_the_order_of_a_fence : drain_check (fenced ++ Drained (key 6 0 5) line 1 ∷ []) 0x8000_0140 0xff 1 one_seven 6 ≡ Ok tt
unfolding mask_over bytes_over
drain_in_the_order_of_a_fence = refl

-- A store that drains in cycle 10 is forwarded in cycle 9 and no more in cycle 10. Without the drain it
-- is forwarded in both, and is the oldest that has not drained.
abbrev drained : List Action
drained = stored 0 line ∷ Drained (key 10 0 1) line 1 ∷ []

pub forwarded_before_the_drain : forward_after drained line 9 ≡ Some (record { seq = 0; byte = 7; drained = Some (key 10 0 1) })
forwarded_before_the_drain = refl

pub not_forwarded_behind_it : forward_after drained line 10 ≡ None
not_forwarded_behind_it = refl

pub forwarded_without_a_drain : forward_after (stored 0 line ∷ []) line 10 ≡ Some (record { seq = 0; byte = 7; drained = None })
forwarded_without_a_drain = refl

pub oldest_without_a_drain : oldest_after (stored 0 line ∷ []) All 10 ≡ Some 0
oldest_without_a_drain = refl

pub none_behind_the_drain : oldest_after drained All 10 ≡ None
none_behind_the_drain = refl

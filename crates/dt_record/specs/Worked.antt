use Rattle.std.specs.Prelude.{ℕ, ◌≡◌, ◌+◌, ◌∷◌, ◌++◌, true, false, Bool, List, [], map, replicate, Option, None, Some, refl}
use Rattle.dt_record.specs.declared.keys.Key.{Key}
use Rattle.dt_record.specs.declared.writes.Write.{Write}
use Rattle.dt_record.specs.declared.records.Record.{Record}
use Rattle.dt_record.specs.declared.records.Body.TheVariants as body
use Rattle.dt_record.specs.declared.accesses.OwnStore.{OwnStore}
use Rattle.dt_record.specs.declared.accesses.LoadAsk.{LoadAsk}
use Rattle.dt_record.specs.declared.origins.Origin.TheVariants as origin
use Rattle.dt_record.specs.Spelling.{double}
use Rattle.dt_record.specs.Writes.{writes_of}
use Rattle.dt_record.specs.Memory.{memory_at, source_at, moment_of, is_touched}
use Rattle.dt_record.specs.Visible.{IsVisible}
use Rattle.dt_record.specs.Actions.{Action, Stored, Drained, Fenced, Atomic, held_of, undrained, order_floor}
use Rattle.dt_record.specs.LoadSources.{Lowest, At, Highest, rank, origin_of, found_value}

-- Examples of memory, visible moments, own stores, the order floor and load sources that the
-- definitions compute (this project's own). Hart 0 stores 7 to the start of a line and drains it in cycle 10; hart 1 adds
-- 1 to it by an AMO in cycle 12.

abbrev key : (stamp hart seq : ℕ) → Key
key stamp hart seq = record { stamp = stamp; hart = hart; seq = seq }

abbrev line : ℕ
line = 0x8000_0100

abbrev commit : (stamp hart pc bits value : ℕ) → Record
commit stamp hart pc bits value =
    record { stamp = stamp; hart = hart; body = body.Commit (record { pc = pc; bits = bits; value = value }) }

-- auipc x5,0; csrrs x6,mhartid,x0; bne x6,x0,12; addi x7,x0,7; sd x7,256(x5), and the drain of it
abbrev of_hart_0 : List Record
of_hart_0 = commit 1 0 0x8000_0000 0x0000_0297 0x8000_0000
    ∷ commit 2 0 0x8000_0004 0xf140_2373 0
    ∷ commit 3 0 0x8000_0008 0x0003_1663 0
    ∷ commit 4 0 0x8000_000c 0x0070_0393 7
    ∷ record { stamp = 5; hart = 0; body = body.Store 0x8000_0010 0x1072_b023 line 7 }
    ∷ record { stamp = 10; hart = 0; body = body.Drain line 0xff 1 (7 ∷ replicate 63 0) }
    ∷ []

-- the first three of these; ld x8,256(x5), addi x10,x5,256 and amoadd.d x11,x6,(x10)
abbrev of_hart_1 : List Record
of_hart_1 = commit 1 1 0x8000_0000 0x0000_0297 0x8000_0000
    ∷ commit 2 1 0x8000_0004 0xf140_2373 1
    ∷ commit 3 1 0x8000_0008 0x0003_1663 0
    ∷ record { stamp = 4; hart = 1; body = body.Load (record { pc = 0x8000_0014; bits = 0x1002_b403; value = 0 }) 4 line }
    ∷ commit 5 1 0x8000_0018 0x1002_8513 line
    ∷ record { stamp = 12; hart = 1; body = body.Atomic (record { pc = 0x8000_001c; bits = 0x0065_35af; value = 7 }) line 8 true 8 }
    ∷ []

abbrev drained : Write
drained = record { key = key 10 0 5; line = line; mask = 0xff; bytes = 7 ∷ replicate 63 0 }

abbrev added : Write
added = record { key = key 12 1 5; line = line; mask = 0xff; bytes = 8 ∷ replicate 63 0 }

-- whichever hart's records stand first in the file, the writes stand in the order of their keys
pub writes_by_key : writes_of (of_hart_1 ++ of_hart_0) ≡ drained ∷ added ∷ []
unfolding double
writes_by_key = refl

-- before both writes, between them, and after them
pub bytes_by_moment : map (λ k. memory_at [] (drained ∷ added ∷ []) k line) (0 ∷ 1 ∷ 2 ∷ []) ≡ 0 ∷ 7 ∷ 8 ∷ []
bytes_by_moment = refl

pub sources_by_moment : map (λ k. source_at (drained ∷ added ∷ []) k line) (0 ∷ 1 ∷ 2 ∷ [])
    ≡ None ∷ Some (key 10 0 5) ∷ Some (key 12 1 5) ∷ []
sources_by_moment = refl

-- the AMO takes place behind the drain
pub moment_of_the_amo : moment_of (drained ∷ added ∷ []) (key 12 1 5) ≡ 1
moment_of_the_amo = refl

-- another hart writes to the line between an LR and its SC
pub reservation_is_broken : is_touched (drained ∷ []) line (key 6 1 5) (key 15 1 6) 1 ≡ true
reservation_is_broken = refl

-- a load that is performed behind the cycle of the drain sees it, and one before that cycle does not
pub never_stale : ¬ IsVisible (drained ∷ []) (key 12 1 3) 12 0
never_stale visible = cc

pub never_early : ¬ IsVisible (drained ∷ []) (key 12 1 3) 9 1
never_early visible = cc

-- Two doublewords of 7, one behind the other on the line: a drain of one takes the first, and a drain
-- of two takes both.
abbrev first : OwnStore
first = record { seq = 2; addr = line; width = 8; value = 7 }

abbrev second : OwnStore
second = record { seq = 3; addr = line + 8; width = 8; value = 7 }

abbrev takers : List Action → List (Option Key)
takers actions = map (λ h. h.drained) (held_of (Stored first ∷ Stored second ∷ actions))

abbrev one_by_one : List Action
one_by_one = Drained (key 5 0 4) line 1 ∷ Drained (key 6 0 5) line 1 ∷ []

pub drains_of_one : takers one_by_one ≡ Some (key 5 0 4) ∷ Some (key 6 0 5) ∷ []
drains_of_one = refl

pub drain_of_two : takers (Drained (key 5 0 4) line 2 ∷ []) ≡ Some (key 5 0 4) ∷ Some (key 5 0 4) ∷ []
drain_of_two = refl

-- in the cycle of the first of two drains, the second store is still undrained
pub undrained_between : map (λ h. h.store.seq) (undrained 5 (Stored first ∷ Stored second ∷ one_by_one)) ≡ 3 ∷ []
undrained_between = refl

-- An AMO in cycle 6 that is an acquire: no later load is of an earlier cycle. Where it is none, a fence
-- of reads behind it asks for the same, and without one nothing is asked.
abbrev floor_behind : Bool → List Action → ℕ
floor_behind acquires actions =
    order_floor (Stored first ∷ Drained (key 5 0 4) line 1 ∷ Atomic (key 6 0 5) line 8 true acquires ∷ actions)

pub floors_of_an_amo : floor_behind true [] ∷ floor_behind false [] ∷ floor_behind false (Fenced false false true ∷ []) ∷ []
    ≡ 6 ∷ 0 ∷ 6 ∷ []
floors_of_an_amo = refl

-- A word of 7 is stored where the image has the bytes 11 to 88, and the doubleword there is loaded
-- before it drains.
abbrev image : List ℕ
image = replicate 0x100 0 ++ 0x11 ∷ 0x22 ∷ 0x33 ∷ 0x44 ∷ 0x55 ∷ 0x66 ∷ 0x77 ∷ 0x88 ∷ []

abbrev stored : List Action
stored = Stored (record first { width = 4 }) ∷ []

abbrev load : LoadAsk
load = record { key = key 4 0 3; at = 4; addr = line; width = 8; raw = 0x8877_6655_0000_0007 }

pub forwarded_into_a_double : found_value image [] stored load 0 8 line ≡ load.raw
forwarded_into_a_double = refl

pub sources_of_the_double : map (λ place. origin_of [] stored load 0 (line + place)) (0 ∷ 3 ∷ 4 ∷ 7 ∷ [])
    ≡ origin.Store 2 ∷ origin.Store 2 ∷ origin.Image ∷ origin.Image ∷ []
sources_of_the_double = refl

-- a store that waits ranks above its drain, and that above the image
abbrev drained_in_10 : List Action
drained_in_10 = stored ++ Drained (key 10 0 5) line 1 ∷ []

pub ranks : rank stored (origin.Store 2) ∷ rank drained_in_10 (origin.Store 2) ∷ rank stored origin.Image ∷ []
    ≡ Highest ∷ At (key 10 0 5) ∷ Lowest ∷ []
ranks = refl

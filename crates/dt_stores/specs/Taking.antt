use Rattle.std.specs.Prelude.{ℕ, ◌+◌, ◌%◌, ◌&&◌, zero, suc, Option, List, [], ◌∷◌, ◌++◌, take, drop, IsTrue}
use Rattle.std.specs.List.{list_all}
use Rattle.dt_record.specs.declared.keys.Key.{Key}
use Rattle.dt_record.specs.declared.accesses.OwnStore.{OwnStore}
use Rattle.dt_record.specs.Actions.{Held, is_on}
use Rattle.dt_record.specs.Spelling.{double}
use Rattle.dt_stores.specs.Places.{is_store_place}

-- How the stores that a drain takes are written, and how their drain is set.

-- stores that have a place in RAM, each on the line
abbrev pub AreOnLine : ℕ → List Held → Type 0
AreOnLine line hs = IsTrue (list_all (λ h. is_store_place h.store && is_on line h.store) hs)

-- a line with the bytes of a store over its own
abbrev pub put_over : List ℕ → OwnStore → List ℕ
put_over bytes s = take (s.addr % 64) bytes ++ take s.width (double s.value) ++ drop (s.addr % 64 + s.width) bytes

-- the store at a place is drained by this drain, or by none
abbrev pub drained_one : Option Key → ℕ → List Held → List Held
drained_one drain place [] = []
drained_one drain zero (h ∷ hs) = record h { drained = drain } ∷ hs
drained_one drain (suc place) (h ∷ hs) = h ∷ drained_one drain place hs

-- those at some places are
abbrev pub drained_at : Option Key → List ℕ → List Held → List Held
drained_at drain [] held = held
drained_at drain (place ∷ places) held = drained_at drain places (drained_one drain place held)

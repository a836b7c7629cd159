-- Elements that have keys, in the order of their keys. All of it is this project's own.
use Rattle.std.specs.Prelude.{◌≡◌, ◌&&◌, Bool, true, not, List, [], ◌∷◌, IsTrue}
use Rattle.std.specs.List.{list_all}
use Rattle.std.specs.List.Sorted.{IsSortedByKey, IsStableBy, IsStableByKey}
use Rattle.dt_record.specs.declared.keys.Key.{Key}
use Rattle.dt_record.specs.Keys.{key_below}
use Rattle.dt_record.specs.contracts.keys.KeyOrd.TheImpl.{ghosts}

-- whether the key of an element stands before that of another
abbrev pub under : {X : Type 0} → (X → Key) → X → X → Bool
under key x y = key_below (key x) (key y)

-- whether no element's key stands before that of an element before it
abbrev pub keys_rise : {X : Type 0} → (X → Key) → List X → Bool
keys_rise key [] = true
keys_rise key (x ∷ xs) = list_all (λ y. not (under key y x)) xs && keys_rise key xs

-- A stable sort by key, as std's clauses say it, makes of a list the only one whose keys do not fall and in which the elements
-- of each key stand as they did.
abbrev pub StableSortsAreOne : Type 0 → Type 0
StableSortsAreOne X = (key : X → Key) (given sorted ordered : List X)
    → IsSortedByKey key ghosts.cmp sorted → IsStableByKey key ghosts.cmp given sorted
    → IsTrue (keys_rise key ordered) → IsStableBy (under key) given ordered → sorted ≡ ordered

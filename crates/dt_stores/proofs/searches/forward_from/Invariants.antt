use Rattle.std.proofs.Common.{◌≡◌, List, drop, find, reverse}
use Rattle.std.specs.List.{take_while}
use Rattle.dt_record.specs.Actions.{Held, is_undrained, store_covers}
use Rattle.dt_stores.specs.Indexed.{AreAt}
use Rattle.dt_stores.proofs.searches.forward_from.Given as goal

-- the older stores that are left decide
abbrev pub invariant-loop-i : goal.invariant-loop-i
invariant-loop-i l = (hs : List Held) → AreAt l.entries l.places hs
    → find (λ h. store_covers l.addr h.store) (take_while (is_undrained l.at) (drop l.i (reverse hs))) ≡ find (λ h. store_covers l.addr h.store) (take_while (is_undrained l.at) (reverse hs))

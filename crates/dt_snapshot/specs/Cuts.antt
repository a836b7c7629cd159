-- Cuts: the cycles at which the states of the harts are kept. All of it is this project's own.
use Rattle.std.specs.Prelude.{ℕ, ◌-◌, ◌*◌, ◌/◌, ◌%◌, ◌==◌, Bool, true, false, nat_lt, nat_le, min, Option, None, Some, List, [], ◌∷◌}
use Rattle.std.specs.Option.{option_map_or}
use Rattle.dt_snapshot.specs.declared.cuts.Reach.{Reach}
use Rattle.dt_snapshot.specs.declared.cuts.Reach.TheVariants.{Stamp, Ended}

-- a cut is a multiple of the interval
abbrev pub is_cut : ℕ → ℕ → Bool
is_cut interval cut = cut % interval == 0

-- the greatest cut that is not above a cycle
abbrev pub newer_cut : ℕ → ℕ → ℕ
newer_cut interval stamp = stamp / interval * interval

-- the cut before it, and 0 where it is 0
abbrev pub older_cut : ℕ → ℕ → ℕ
older_cut interval stamp = newer_cut interval stamp - interval

-- whether a cycle that was reached earlier, where there is one, is not below a cut
abbrev pub has_reached : Option ℕ → ℕ → Bool
has_reached None cut = false
has_reached (Some last) cut = nat_le cut last

-- whether this cycle reaches a cut that the earlier one has not: the first cycle reaches the cut 0
abbrev pub reaches_new : ℕ → Option ℕ → ℕ → Bool
reaches_new interval None stamp = true
reaches_new interval (Some last) stamp = nat_lt (last / interval) (stamp / interval)

-- the least cycle that harts have reached, where one has not ended
abbrev pub least_reach : List Reach → Option ℕ
least_reach [] = None
least_reach (Stamp stamp ∷ rest) = Some (option_map_or (λ least. min stamp least) (least_reach rest) stamp)
least_reach (Ended ∷ rest) = least_reach rest

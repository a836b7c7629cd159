-- What is kept of the states of one hart. All of it is this project's own.
use Rattle.std.specs.Prelude.{◌≡◌, ℕ, ◌≤◌, ◌&&◌, Bool, not, nat_lt, nat_le, Option, None, Some, IfSome, option_map, List, [], ◌∷◌, ◌++◌, find, IsTrue, if◌then◌else◌}
use Rattle.dt_snapshot.specs.Cuts.{is_cut, newer_cut, has_reached, reaches_new}

-- the hart, the interval of the cuts, the cycle up to which states were dropped, where some were, and the states that are kept,
-- each with the cycle at which the hart had it
pub record KeeperView (T : Type 0) : Type 0 where
  pub hart : ℕ
  pub interval : ℕ
  pub dropped : Option ℕ
  pub states : List (ℕ × T)

abbrev pub new_keeper : {T : Type 0} → ℕ → ℕ → KeeperView T
new_keeper hart interval = record { hart = hart; interval = interval; dropped = None; states = [] }

-- the cycle of the last of some states, and this one where there is none
abbrev pub last_cycle : {T : Type 0} → Option ℕ → List (ℕ × T) → Option ℕ
last_cycle last [] = last
last_cycle last (s ∷ ss) = last_cycle (Some s.0) ss

-- the cycle up to which there were states, where there was one
abbrev pub cycle_reached : {T : Type 0} → KeeperView T → Option ℕ
cycle_reached v = last_cycle v.dropped v.states

-- the first of the states whose cycle is not below a cut
abbrev pub state_for : {T : Type 0} → List (ℕ × T) → ℕ → Option T
state_for states cut = option_map (λ s. s.1) (find (λ s. nat_le cut s.0) states)

-- The state that is kept for a cut: a state holds for the cuts up to its cycle that no earlier state holds for, or held for.
abbrev pub held_at : {T : Type 0} → KeeperView T → ℕ → Option T
held_at v cut = if is_cut v.interval cut && not (has_reached v.dropped cut) then state_for v.states cut else None

-- a cycle is not below that of the last state
abbrev pub IsNotBelow : Option ℕ → ℕ → Type 0
IsNotBelow last stamp = IfSome last (λ cycle. cycle ≤ stamp)

-- with a further state, where it holds for some cut
abbrev pub with_state : {T : Type 0} → KeeperView T → ℕ → T → KeeperView T
with_state v stamp state =
    if reaches_new v.interval (cycle_reached v) stamp then record v { states = v.states ++ (stamp, state) ∷ [] } else v

-- the state for a cut once there is a further state of this cycle
abbrev pub held_after : {T : Type 0} → KeeperView T → ℕ → T → ℕ → Option T
held_after v stamp state cut =
    if is_cut v.interval cut && (not (has_reached (cycle_reached v) cut) && nat_le cut stamp) then Some state else held_at v cut

-- whether a state of this cycle holds only for cuts below one
abbrev pub is_early : ℕ → ℕ → ℕ → Bool
is_early interval cut stamp = nat_lt (newer_cut interval stamp) cut

-- the first of the states is of this cycle, and holds only for cuts below one
abbrev pub IsFirstEarly : {T : Type 0} → ℕ → ℕ → ℕ → List (ℕ × T) → Type 0
IsFirstEarly interval cut stamp [] = ⊥
IsFirstEarly interval cut stamp (s ∷ ss) = (s.0 ≡ stamp) × IsTrue (is_early interval cut stamp)

-- the states without the first ones that hold only for cuts below one, and the cycle of the last that was dropped
abbrev pub states_from : {T : Type 0} → ℕ → ℕ → List (ℕ × T) → List (ℕ × T)
states_from interval cut [] = []
states_from interval cut (s ∷ ss) = if is_early interval cut s.0 then states_from interval cut ss else s ∷ ss

abbrev pub dropped_below : {T : Type 0} → ℕ → ℕ → Option ℕ → List (ℕ × T) → Option ℕ
dropped_below interval cut dropped [] = dropped
dropped_below interval cut dropped (s ∷ ss) = if is_early interval cut s.0 then dropped_below interval cut (Some s.0) ss else dropped

abbrev pub forgotten : {T : Type 0} → KeeperView T → ℕ → KeeperView T
forgotten v cut = record v { dropped = dropped_below v.interval cut v.dropped v.states; states = states_from v.interval cut v.states }

-- each of the states holds for some cut
abbrev pub AreNew : {T : Type 0} → ℕ → Option ℕ → List (ℕ × T) → Type 0
AreNew interval last [] = Unit {0}
AreNew interval last (s ∷ ss) = IsTrue (reaches_new interval last s.0) × AreNew interval (Some s.0) ss

pub record IsKeeper {T : Type 0} (interval : ℕ) (dropped : Option ℕ) (states : List (ℕ × T)) : Type 0 where
  pub some_interval : 1 ≤ interval
  pub new : AreNew interval dropped states

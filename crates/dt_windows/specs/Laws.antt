use Rattle.std.specs.Prelude.{◌≡◌, ◌≤◌, Bool, false, Some, List, [], ◌∷◌, ◌++◌, IsTrue, IfSome}
use Rattle.std.specs.List.{list_all}
use Rattle.dt_record.specs.declared.keys.Key.{Key}
use Rattle.dt_record.specs.declared.writes.Write.{Write}
use Rattle.dt_record.specs.Keys.{key_below, KeyBelow}
use Rattle.dt_step.specs.declared.plans.Planned.{Planned}
use Rattle.dt_versions.specs.History.{are_in_order}
use Rattle.dt_windows.specs.Fences.{Fence, fence_at, is_fence, last_fence, span_since}
use Rattle.dt_windows.specs.Kept.{WindowsView, FencesStand}

-- Laws of a hart's fences (this project's own).

-- what stands for some fences stands for them and a plan that is no fence
abbrev pub OtherPlansKeepWindows : Type 0
OtherPlansKeepWindows = (w : WindowsView) (fences : List Fence) (plan : Planned) (key : Key)
    → is_fence plan ≡ false → FencesStand w fences → FencesStand w (fences ++ fence_at plan key ∷ [])

-- the last fence of a kind stands before a key that all stand before
abbrev pub LastFencesAreBelow : Type 0
LastFencesAreBelow = (test : Planned → Bool) (fences : List Fence) (key : Key)
    → IsTrue (list_all (λ f. key_below f.key key) fences) → IfSome (last_fence test fences) (λ last. KeyBelow last key)

-- there is a moment from a fence to a later record
abbrev pub SpansHaveMoments : Type 0
SpansHaveMoments = (writes : List Write) (key fence : Key) → IsTrue (are_in_order writes) → KeyBelow fence key
    → (span_since writes key (Some fence)).first ≤ (span_since writes key (Some fence)).last

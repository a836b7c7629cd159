use Rattle.std.proofs.Common.{◌≡◌, ℕ, Option, option_map, List, filter, find, reverse, ap, ◌∙◌}
use Rattle.dt_record.specs.Actions.{Action, Held, held_of, store_covers, is_undrained, ww_fences}
use Rattle.dt_stores.specs.declared.answers.Forward.{Forward}
use Rattle.dt_stores.specs.declared.answers.Which.{Which}
use Rattle.dt_stores.specs.Kept.{Kept}
use Rattle.dt_stores.specs.Standing.{StoresStand}
use Rattle.dt_stores.specs.Draining.{forward_of, forward_after}
use Rattle.dt_stores.specs.Oldest.{is_asked, oldest_after}

-- Searches in what is kept are those in the actions' stores.

pub forward_stands : (kept : Kept) (addr at : ℕ) (result : Option Forward)
    → result ≡ option_map (forward_of addr) (find (λ h. store_covers addr h.store) (reverse (filter (is_undrained at) kept.held)))
    → (actions : List Action) → StoresStand kept actions → result ≡ forward_after actions addr at
forward_stands kept addr at result found actions stands =
    found ∙ ap (λ (l : List Held). option_map (forward_of addr) (find (λ h. store_covers addr h.store) (reverse (filter (is_undrained at) l)))) stands.held

pub oldest_stands : (kept : Kept) (which : Which) (at : ℕ) (result : Option ℕ)
    → result ≡ option_map (λ h. h.store.seq) (find (is_asked kept.ww kept.wr which) (filter (is_undrained at) kept.held))
    → (actions : List Action) → StoresStand kept actions → result ≡ oldest_after actions which at
oldest_stands kept which at result found actions stands =
    let first : ℕ → ℕ → List Held → Option ℕ = λ ww wr l. option_map (λ h. h.store.seq) (find (is_asked ww wr which) (filter (is_undrained at) l)) in
    found
    ∙ ap (first kept.ww kept.wr) stands.held
    ∙ ap (λ n. first n kept.wr (held_of actions)) stands.ww
    ∙ ap (λ n. first (ww_fences actions) n (held_of actions)) stands.wr

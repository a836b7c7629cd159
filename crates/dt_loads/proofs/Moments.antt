use Rattle.std.proofs.Common.{ℕ, ◌≡◌, ◌==◌, Some, List, length, refl}
use Rattle.std.specs.List.{slice_get}
use Rattle.std.proofs.lemmas.Bool.{cond-true, eq-eqb}
use Rattle.dt_lists.proofs.Lists.{slice_get-end}
use Rattle.dt_record.specs.declared.accesses.LoadAsk.{LoadAsk}
use Rattle.dt_record.specs.Actions.{Action, Loaded}
use Rattle.dt_sources.specs.Choice.{then_action, with_moment}

-- A next load and its moment.

pub moment_here : (moments : ℕ → ℕ) (place k : ℕ) → with_moment moments place k place ≡ k
moment_here moments place k = cond-true (place == place) k (moments place) (eq-eqb place place refl)

pub next_seam : (actions : List Action) (ask : LoadAsk) → slice_get (then_action actions (Loaded ask)) (length actions) ≡ Some (Loaded ask)
next_seam actions ask = slice_get-end actions (Loaded ask)

-- What a seat knows that took in passes. This project's own.
use Rattle.std.specs.Prelude.{◌≡◌, ℕ, List, [], map}
use Rattle.atomic_table.specs.Seated.{TableId}
use Rattle.dt_shared.specs.declared.views.Known.{Known}
use Rattle.dt_shared.specs.Views.{at_rest}
use Rattle.dt_shared.specs.Steps.{Seated}
use Rattle.dt_shared.specs.Passes.{PassState, pass_state}

-- it stands for these passes, in order
abbrev pub Gathered : TableId → List PassState → Seated → Type 0
Gathered id passes me = (ks : List Known) × (made : ℕ) × (map (pass_state id) ks ≡ passes) × (me ≡ (at_rest ks made, []))

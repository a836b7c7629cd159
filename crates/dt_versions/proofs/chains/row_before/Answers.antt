use Rattle.std.proofs.Common.{ℕ, List, [], ap, ◌∙◌}
use Rattle.std.specs.Prelude.{slice_index}
use Rattle.std.specs.Option.{unwrap_or}
use Rattle.std.proofs.lemmas.List.{get_or-replicate}
use Rattle.dt_versions.proofs.chains.row_before.Goals as goal

pub returns-in-None : goal.returns-in-None
returns-in-None c = λ i within.
    let none : List ℕ = [] in
    get_or-replicate 64 i 0 0 within ∙ ap (λ o. slice_index (unwrap_or o none) i) c.in-None.ensures

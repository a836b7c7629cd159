use Rattle.std.proofs.Common.{◌≡◌, rules}
use Rattle.dt_translate.proofs.searches.newest_standing.Goals as goal

pub returns-then-eq-clause-none : goal.returns-then-eq-clause-none
returns-then-eq-clause-none c = λ j inside.
    let same : c.args.translated ≡ c.args.in_vain = search rules in
    rw same (c.requires.in_vain j inside)

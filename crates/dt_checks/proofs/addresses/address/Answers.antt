use Rattle.dt_translate.specs.Outcomes.{entry_at}
use Rattle.dt_checks.proofs.Places.{outcome_at-place}
use Rattle.dt_checks.proofs.addresses.address.Goals as goal

pub returns-in-Some-clause-place : goal.returns-in-Some-clause-place
returns-in-Some-clause-place c =
    let image = c.args.m.now.image in
    let writes = c.args.m.now.writes in
    let keeps = c.leaf_decides.ensures.offset (entry_at image writes c.in-Some.k) c.args.args c.requires.args in
    outcome_at-place image writes c.in-Some.k c.args.args c.args.ram_only c.args.paddr keeps c.in-Some.ensures.found.holds

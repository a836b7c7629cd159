use Rattle.dt_hart.proofs.Registers.{three_are}
use Rattle.dt_hart.proofs.states.csrs_from.Goals as goal

pub returns-clause-floors : goal.returns-clause-floors
returns-clause-floors c =
    let of = c.of_values in
    three_are c.args.floors.now of.result.cycle_floor of.result.instret_floor of.result.time_floor c.told-floors of.ensures.cycle of.ensures.instret of.ensures.time

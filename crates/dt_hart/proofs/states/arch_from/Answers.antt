use Rattle.std.proofs.Common.{refl, sym}
use Rattle.dt_hart.proofs.states.arch_from.Goals as goal

pub returns-clause-data : goal.returns-clause-data
returns-clause-data c = record { pc = refl; x = sym c.all_registers.ensures; mode = refl; v = sym c.csrs_from.ensures.values; floors = c.csrs_from.ensures.floors }

use Rattle.std.proofs.Common.{None, refl}
use Rattle.dt_runs.proofs.Starting.{starts}
use Rattle.dt_runs.proofs.running.HartRun.new.Goals as goal

pub returns-clause-opens : goal.returns-clause-opens
returns-clause-opens c =
    starts (record { hart = c.new.result; failure = None; notes = c.new-2.result.items }) c.args.number c.args.wide c.new.ensures.stands c.new.ensures.number refl c.new-2.ensures.items

use Rattle.std.proofs.Common.{None, refl}
use Rattle.dt_runs.proofs.Starting.{starts_behind}
use Rattle.dt_runs.proofs.running.HartRun.behind.Goals as goal

pub returns-clause-opens : goal.returns-clause-opens
returns-clause-opens c earlier image writes wide behind =
    starts_behind (record { hart = c.args.hart; failure = None; notes = c.new.result.items }) earlier image writes wide refl c.new.ensures.items behind

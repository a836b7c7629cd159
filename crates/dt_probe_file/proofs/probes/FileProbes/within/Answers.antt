use Rattle.dt_probe_file.proofs.Origins.{fresh_origin}
use Rattle.dt_probe_file.proofs.Stepping.{told_fresh}
use Rattle.dt_probe_file.proofs.probes.FileProbes.within.Goals as goal

pub returns-clause-told : goal.returns-clause-told
returns-clause-told g c = told_fresh c.args.room.held (g.S.Source.left c.args.source) c.args.room.empty

pub returns-clause-origin : goal.returns-clause-origin
returns-clause-origin g c = fresh_origin c.args.room.held (g.S.Source.left c.args.source) c.args.room.empty

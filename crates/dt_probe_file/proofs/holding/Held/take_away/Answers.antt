use Rattle.dt_probe_file.proofs.HeldParts.{taken_away}
use Rattle.dt_probe_file.proofs.holding.Held.take_away.Goals as goal

pub returns : goal.returns
returns c = taken_away c.self.inside.bytes.items c.self.inside.start c.self.inside.end c.args.count c.args.self.now c.self.view_is c.requires

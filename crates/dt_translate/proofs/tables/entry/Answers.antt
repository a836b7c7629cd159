use Rattle.std.proofs.Common.{◌∙◌}
use Rattle.dt_translate.proofs.Steadiness.{entry_at-double}
use Rattle.dt_translate.proofs.tables.entry.Goals as goal

pub returns : goal.returns
returns c = c.word.ensures ∙ entry_at-double c.args.moments.now.image c.args.moments.now.writes c.args.k c.args.addr

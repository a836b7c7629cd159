use Rattle.std.proofs.Common.{◌+◌, rules}
use Rattle.std.proofs.lemmas.List.FromFn.{fill_by_all}
use Rattle.dt_record.specs.Memory.{memory_at}
use Rattle.dt_refills.specs.Refilling.{line_at}
use Rattle.dt_refills.proofs.refilling.line_at.Goals as goal

pub returns : goal.returns
unfolding line_at
returns c = fill_by_all (λ i. memory_at c.args.m.now.image c.args.m.now.writes c.args.k (c.args.line + i)) c.loop-i.bytes 64 0 c.loop-i.invariant.0 (search rules)

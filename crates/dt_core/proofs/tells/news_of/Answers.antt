use Rattle.std.proofs.Common.{List, sym, subst}
use Rattle.dt_record.specs.declared.records.Record.{Record}
use Rattle.dt_core.specs.Own.{AreOfHart}
use Rattle.dt_core.proofs.tells.news_of.Goals as goal

pub writes_by-requires-clause-own : goal.writes_by-requires-clause-own
writes_by-requires-clause-own g c = subst (λ (rs : List Record). AreOfHart c.args.hart rs) (sym c.taken.ensures) c.requires.own

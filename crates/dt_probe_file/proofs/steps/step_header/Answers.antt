use Rattle.std.proofs.Common.{None}
use Rattle.dt_record.specs.Versions.{version_of}
use Rattle.dt_probe_file.proofs.Origins.{keep_end, keep_header, keep_reads}
use Rattle.dt_probe_file.proofs.Stepping.{header_told, no_header_told, takes_header}
use Rattle.dt_probe_file.proofs.steps.step_header.Goals as goal

pub returns-in-Whole-clause-told : goal.returns-in-Whole-clause-told
returns-in-Whole-clause-told g c =
    header_told c.in-Whole.version c.in-Whole.harts c.in-Whole.wide c.open-opened.result c.hear.new.held c.take_away.new.self (g.S.Source.left c.hear.new.source) _ c.in-Whole.ensures.heard c.open-opened.ensures.reading c.take_away.ensures c.in-Whole.ensures.whole

pub returns-in-Whole-clause-step : goal.returns-in-Whole-clause-step
returns-in-Whole-clause-step g c =
    takes_header c.open-opened.result c.in-Whole.harts c.in-Whole.wide (version_of c.in-Whole.version) c.in-Whole.ensures.heard.1 c.in-Whole.ensures.heard.2 c.open-opened.ensures.reading c.open-opened.ensures.harts c.open-opened.ensures.wide

pub returns-in-Wrong-clause-told : goal.returns-in-Wrong-clause-told
returns-in-Wrong-clause-told g c = no_header_told c.in-Wrong.field c.hear.new.held (g.S.Source.left c.hear.new.source) _ c.in-Wrong.ensures.whole c.in-Wrong.ensures.heard

pub returns-in-Whole-clause-keeps : goal.returns-in-Whole-clause-keeps
returns-in-Whole-clause-keeps g c bytes origin =
    keep_header c.in-Whole.version c.in-Whole.harts c.in-Whole.wide c.open-opened.result c.hear.new.held c.take_away.new.self (g.S.Source.left c.hear.new.source) c.in-Whole.ensures.heard c.open-opened.ensures.reading c.open-opened.ensures.harts c.open-opened.ensures.wide c.take_away.ensures
    bytes (keep_reads None _ _ _ _ c.in-Whole.ensures.reads bytes origin)

pub returns-in-Wrong-clause-keeps : goal.returns-in-Wrong-clause-keeps
returns-in-Wrong-clause-keeps g c = keep_end None None _ _ _ _ _ _ c.in-Wrong.ensures.reads.2

pub returns-in-Failed-clause-keeps : goal.returns-in-Failed-clause-keeps
returns-in-Failed-clause-keeps g c = keep_end None None _ _ _ _ _ _ c.in-Failed.ensures.reads.2

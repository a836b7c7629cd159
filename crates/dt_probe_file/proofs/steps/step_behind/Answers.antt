use Rattle.std.proofs.Common.{Some, inr}
use Rattle.dt_probe_file.proofs.AskingFor.{had_to_read}
use Rattle.dt_probe_file.proofs.Origins.{keep_end, keep_reads}
use Rattle.dt_probe_file.proofs.Stepping.{wrong_told}
use Rattle.dt_probe_file.proofs.steps.step_behind.Goals as goal

pub returns-in-Wrong-clause-told : goal.returns-in-Wrong-clause-told
returns-in-Wrong-clause-told g c = wrong_told c.args.opened.now c.find.new.held _ _ c.in-Wrong.ensures.whole c.in-Wrong.ensures.found

pub returns-in-End-clause-needed : goal.returns-in-End-clause-needed
returns-in-End-clause-needed g c = λ fault.
    let ended = c.step_end.ensures.needed fault in
    had_to_read (Some c.args.opened.now) _ _ _ _ _ c.in-End.ensures.reads ended.1 (inr ended.0)

pub returns-in-Event-clause-keeps : goal.returns-in-Event-clause-keeps
returns-in-Event-clause-keeps g c bytes origin =
    c.step_over.ensures.keeps (g.S.Source.left c.find.new.source) bytes
    (keep_reads (Some c.args.opened.now) _ _ _ _ c.in-Event.ensures.reads bytes origin)

pub returns-in-End-clause-keeps : goal.returns-in-End-clause-keeps
returns-in-End-clause-keeps g c bytes origin =
    c.step_end.ensures.keeps bytes (keep_reads (Some c.args.opened.now) _ _ _ _ c.in-End.ensures.reads bytes origin)

pub returns-in-Wrong-clause-keeps : goal.returns-in-Wrong-clause-keeps
returns-in-Wrong-clause-keeps g c = keep_end (Some c.args.opened.now) (Some c.args.opened.now) _ _ _ _ _ _ c.in-Wrong.ensures.reads.2

pub returns-in-Failed-clause-keeps : goal.returns-in-Failed-clause-keeps
returns-in-Failed-clause-keeps g c = keep_end (Some c.args.opened.now) (Some c.args.opened.now) _ _ _ _ _ _ c.in-Failed.ensures.reads.2

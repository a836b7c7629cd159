use Rattle.std.proofs.Common.{◌∙◌, Some, inl, refl, subst}
use Rattle.dt_record.specs.Versions.{version_of}
use Rattle.dt_probe_file.specs.Begun.{IsBegun}
use Rattle.dt_probe_file.proofs.HeldParts.{reads_stay, reads_twice}
use Rattle.dt_probe_file.proofs.AskingFor.{had_to_read, still_open}
use Rattle.dt_probe_file.proofs.finding.find.Goals as goal

pub loop-event-init : goal.loop-event-init
loop-event-init g c = record { whole = refl; reads = reads_stay _ _ _ _ refl refl; idle = inl (refl, refl); quiet = refl; same_lent = refl }

pub loop-event-preserved : goal.loop-event-preserved
loop-event-preserved g c =
    let before = c.loop-event.invariant in
    record {
      whole = c.in-Ok-true.ensures.whole ∙ before.whole;
      reads = reads_twice _ _ _ _ _ _ before.reads c.in-Ok-true.ensures.reads;
      idle = still_open (Some c.args.opened.now) _ _ _ _ _ _ before.idle (inl (subst (IsBegun (version_of c.args.opened.now.version)) c.bytes.ensures c.in-Begun.ensures.2));
      quiet = c.in-Ok-true.ensures.quiet ∙ before.quiet;
      same_lent = c.in-Ok-true.ensures.same_lent ∙ before.same_lent;
    }

pub returns-in-Err-clause-needed : goal.returns-in-Err-clause-needed
returns-in-Err-clause-needed g c = λ _.
    had_to_read (Some c.args.opened.now) _ _ _ _ _ c.loop-event.invariant.reads c.in-Err.ensures.failed_stays.1
    (inl (subst (IsBegun (version_of c.args.opened.now.version)) c.bytes.ensures c.in-Begun.ensures.2))

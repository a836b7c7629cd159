use Rattle.std.proofs.Common.{◌∙◌, None, inl, refl, subst}
use Rattle.dt_probe_file.specs.Begun.{IsCutHeader}
use Rattle.dt_probe_file.proofs.HeldParts.{reads_stay, reads_twice}
use Rattle.dt_probe_file.proofs.AskingFor.{had_to_read, still_open}
use Rattle.dt_probe_file.proofs.finding.hear.Goals as goal

pub loop-version-init : goal.loop-version-init
loop-version-init g c = record { whole = refl; reads = reads_stay _ _ _ _ refl refl; idle = inl (refl, refl); quiet = refl; same_lent = refl }

pub loop-version-preserved : goal.loop-version-preserved
loop-version-preserved g c =
    let before = c.loop-version.invariant in
    record {
      whole = c.in-Ok-true.ensures.whole ∙ before.whole;
      reads = reads_twice _ _ _ _ _ _ before.reads c.in-Ok-true.ensures.reads;
      idle = still_open None _ _ _ _ _ _ before.idle (subst IsCutHeader c.bytes.ensures c.in-Begun.ensures.1);
      quiet = c.in-Ok-true.ensures.quiet ∙ before.quiet;
      same_lent = c.in-Ok-true.ensures.same_lent ∙ before.same_lent;
    }

pub returns-in-Err-clause-needed : goal.returns-in-Err-clause-needed
returns-in-Err-clause-needed g c = λ _.
    had_to_read None _ _ _ _ _ c.loop-version.invariant.reads c.in-Err.ensures.failed_stays.1
    (subst IsCutHeader c.bytes.ensures c.in-Begun.ensures.1)

use Rattle.std.proofs.Common.{List, ◌++◌, ap, ◌∙◌}
use Rattle.dt_record.specs.Keys.{key_of}
use Rattle.dt_record.specs.Lent.{record_of}
use Rattle.dt_rules.specs.declared.misfits.Misfit.{Misfit}
use Rattle.dt_rules.specs.declared.misfits.Passed.{Passed}
use Rattle.dt_verdict.specs.declared.tallies.Noted.{Noted}
use Rattle.dt_runs.specs.Noting.{failure_at, note_of}
use Rattle.dt_runs.proofs.steps.step.Goals as goal

pub returns-in-Fine-clause-step : goal.returns-in-Fine-clause-step
returns-in-Fine-clause-step c =
    let p : Passed = record { letters = c.in-Fine.letters; sources = c.in-Fine.sources } in (
      p,
      record {
        finds = c.in-Fine.ensures.judged;
        goes_on = λ s meets. let gone = c.in-Fine.ensures.goes_on s meets in (gone.moment, gone.stands);
        hart = c.in-Fine.ensures.number;
        counted = c.in-Fine.ensures.counted;
        stamp = c.in-Fine.ensures.stamp;
      },
      c.note.ensures
          ∙ ap (λ (ns : List Noted). ns ++ note_of (key_of c.seq.result (record_of c.args.event.now)) p) c.reserve.ensures.items
          ∙ ap (λ n. c.args.notes.now.items ++ note_of (key_of n (record_of c.args.event.now)) p) c.seq.ensures,
    )

pub returns-in-Fail-clause-step : goal.returns-in-Fail-clause-step
returns-in-Fail-clause-step c =
    let m : Misfit = record { reason = c.in-Fail.reason; expected = c.in-Fail.expected; found = c.in-Fail.found } in (
      m,
      record { finds = c.in-Fail.ensures.judged; stays = c.in-Fail.ensures.unchanged },
      ap (λ n. failure_at (key_of n (record_of c.args.event.now)) m) c.seq.ensures,
      c.reserve.ensures.items,
    )

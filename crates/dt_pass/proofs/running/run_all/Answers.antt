use Rattle.std.proofs.Common.{List, [], ◌∷◌, ◌++◌, ap, ◌∙◌}
use Rattle.dt_runs.specs.RunView.{outcome_in}
use Rattle.dt_verdict.specs.declared.tallies.Noted.{Noted}
use Rattle.dt_verdict.specs.declared.verdicts.Outcome.{Outcome}
use Rattle.dt_pass.proofs.AllHarts.{none_yet, one_more}
use Rattle.dt_pass.proofs.running.run_all.Goals as goal

pub loop-hart-init : goal.loop-hart-init
loop-hart-init c = none_yet c.args.m.now c.args.wide c.args.records.now c.new-outcomes.result.items c.args.notes.now.items c.new-outcomes.ensures.items c.requires.no_notes

pub loop-hart-preserved : goal.loop-hart-preserved
loop-hart-preserved c =
    let run = c.in_ok-run.run' in
    let outcomes = c.loop-hart.outcomes.items in
    let notes = c.loop-hart.notes.items in
    one_more c.args.m.now c.args.wide c.loop-hart.hart c.args.records.now outcomes c.push.new.self.items (outcome_in run) notes run.notes c.append.new.self.items c.loop-hart.invariant
    c.in_ok-run.ensures (c.in_ok-push.ensures.items ∙ ap (λ (o : Outcome). outcomes ++ o ∷ []) c.outcome.ensures)
    (c.in_ok-append.ensures.items ∙ ap (λ (ns : List Noted). notes ++ ns) c.into_notes-own.ensures)

use Rattle.std.proofs.Common.{refl, ap, ◌∙◌, subst}
use Rattle.dt_record.specs.Lent.{record_of}
use Rattle.dt_runs.specs.RunView.{RunView}
use Rattle.dt_runs.specs.Runs.{RunsOn}
use Rattle.dt_runs.proofs.GoingOn.{on_step}
use Rattle.dt_runs.proofs.running.HartRun.judge_at.Goals as goal

pub returns-clause-runs : goal.returns-clause-runs
returns-clause-runs c =
    let inside = c.self.inside in
    let old : RunView = record { hart = inside.hart; failure = inside.failure; notes = inside.notes.items } in
    let new : RunView = record { hart = c.step.new.hart; failure = c.in_ok-self-inside.field-0; notes = c.step.new.notes.items } in
    subst (λ v. RunsOn v new c.args.m.now (record_of c.args.event.now)) c.self.view_is
    (on_step c.earlier_moments_decide.ensures old new c.args.m.now (record_of c.args.event.now) c.in_ok-self-inside.field-0 (ap (λ (v : RunView). v.failure) c.self.view_is ∙ c.requires.goes_on) refl c.in_ok-self-inside.ensures.step)

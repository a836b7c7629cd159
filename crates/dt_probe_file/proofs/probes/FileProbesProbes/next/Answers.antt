use Rattle.std.proofs.Common.{◌∙◌, None, Some, ap}
use Rattle.dt_probe_file.specs.declared.steps.Step.{Step}
use Rattle.dt_probe_file.specs.Progress.{ended_by}
use Rattle.dt_probe_file.proofs.Origins.{open_at_fault, step_kept}
use Rattle.dt_probe_file.proofs.probes.FileProbesProbes.next.Goals as goal
use Rattle.dt_probe_file.proofs.probes.FileProbesProbes.next.Goals.{in-None, in-Some}

pub step_behind-step-requires : goal.step_behind-step-requires
step_behind-step-requires g c = c.args.self.now.sound c.in-Some.opened c.in-Some.is

pub returns-clause-had_to_read : goal.returns-clause-had_to_read
returns-clause-had_to_read g c =
    elim c.match-self.branch [
      | in-None w ↦ rw (w.step-is, w.self-is, w.in-None.is) w.step_header-step.ensures.needed
      | in-Some w ↦ rw (w.step-is, w.self-is, w.in-Some.is) w.step_behind-step.ensures.needed
    ]

pub returns-clause-same_origin : goal.returns-clause-same_origin
returns-clause-same_origin g c =
    elim c.match-self.branch [
      | in-None w ↦
          let last = c.last_answer-self.ensures ∙ ap (λ (s : Step). ended_by s.answer) w.step-is in
          rw (w.step-is, w.self-is, w.in-None.is) (step_kept None _ _ _ _ _ _ _ _ c.requires last w.step_header-step.ensures.keeps)
      | in-Some w ↦
          let last = c.last_answer-self.ensures ∙ ap (λ (s : Step). ended_by s.answer) w.step-is in
          rw (w.step-is, w.self-is, w.in-Some.is) (step_kept (Some w.in-Some.opened) _ _ _ _ _ _ _ _ c.requires last w.step_behind-step.ensures.keeps)
    ]

pub returns-clause-needed : goal.returns-clause-needed
returns-clause-needed g c fault bytes origin =
    open_at_fault c.args.self.now.opened c.args.self.now.ended c.args.self.now.held bytes (g.S.Source.left c.args.self.now.source) _ c.requires
    origin (returns-clause-had_to_read g c fault)

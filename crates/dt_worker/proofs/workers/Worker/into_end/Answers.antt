use Rattle.std.proofs.Common.{ap, subst, ◌∙◌}
use Rattle.dt_worker.specs.LaneEnds.{AreLaneEnds}
use Rattle.dt_worker.specs.Steps.{IsSteady}
use Rattle.dt_worker.specs.Workers.{WorkerView}
use Rattle.dt_worker.proofs.EndLaws.{worker-end}
use Rattle.dt_worker.proofs.workers.Worker.into_end.Goals as goal

pub returns : goal.returns
returns c =
    let same = c.self.view_is in
    worker-end c.passed_goes_on.ensures c.fronts_tell_all_writes.ensures c.args.self _ (subst IsSteady same c.self.invariant.steady) (ap (λ (w : WorkerView). w.pass) same)
    (subst (λ (w : WorkerView). AreLaneEnds w.lanes c.end_all.new.takes.items c.end_all.new.ends.items) same c.end_all.ensures)
    (c.self.invariant.refused ∙ ap (λ (w : WorkerView). w.pass.stopped) same) c.requires.saw_stop c.requires.finished

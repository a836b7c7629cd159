use Rattle.dt_core.proofs.Reached.{IsReached-start}
use Rattle.dt_core.proofs.worlds.World.start.Goals as goal

pub invariant_of-result : goal.invariant_of-result
invariant_of-result g c =
    IsReached-start _ c.args.harts c.args.workers c.args.file.items _ c.requires.few_harts c.requires.some_worker c.requires.few_workers c.requires.each c.requires.few_records c.in_ok-core.ensures

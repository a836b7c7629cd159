use Rattle.std.proofs.Common.{◌≡◌, Some, arith}
use Rattle.std.specs.List.{slice_get}
use Rattle.std.proofs.lemmas.Grind.{common_steps}
use Rattle.std.proofs.lemmas.Option.{gets}
use Rattle.dt_core.proofs.Loops.{told-next}
use Rattle.dt_core.proofs.tells.told.Goals as goal

pub tell_hart-requires-clause-own : goal.tell_hart-requires-clause-own
tell_hart-requires-clause-own g c =
    let found : slice_get c.args.harts.now c.loop-hart.hart ≡ Some c.index-harts-hart.result = grind (arith, common_steps, gets) in
    c.requires.taken.own c.loop-hart.hart c.index-harts-hart.result found

pub tell_hart-requires-clause-few : goal.tell_hart-requires-clause-few
tell_hart-requires-clause-few g c =
    let found : slice_get c.args.harts.now c.loop-hart.hart ≡ Some c.index-harts-hart.result = grind (arith, common_steps, gets) in
    c.requires.taken.few c.loop-hart.hart c.index-harts-hart.result found

pub loop-hart-preserved : goal.loop-hart-preserved
loop-hart-preserved g c =
    let found : slice_get c.args.harts.now c.loop-hart.hart ≡ Some c.index-harts-hart.result = grind (arith, common_steps, gets) in
    told-next c.args.by.workers c.args.by.worker c.args.by.is_ended c.args.harts.now c.loop-hart.hart c.index-harts-hart.result _ _ _ found c.in_ok-tell_hart.ensures c.loop-hart.invariant

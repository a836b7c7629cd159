use Rattle.std.proofs.Common.{take, arith}
use Rattle.std.proofs.lemmas.Result.{err_from_is_err_and}
use Rattle.std.proofs.lemmas.List.{length-take}
use Rattle.dt_source.proofs.Steps.{TakesSome-two}
use Rattle.dt_source.proofs.whole.read_up_to.Goals as goal

pub returns-in_err-extend_from_slice-in-Ok-clause-refused_takes :
    goal.returns-in_err-extend_from_slice-in-Ok-clause-refused_takes
returns-in_err-extend_from_slice-in-Ok-clause-refused_takes g c =
    let p = err_from_is_err_and c.from_residual.result c.from_residual.ensures.1 in
    rw p.1 (TakesSome-two _ _ _ c.loop-chunk.bytes.items (take c.in-Ok.count c.read_front.new.buf) _ c.loop-chunk.invariant.taken c.in-Ok.ensures.takes
    (omega (arith, c.in-Ok.ensures.within, length-take c.in-Ok.count c.read_front.new.buf)))

use Rattle.std.proofs.Common.{take, drop, ◌-◌, arith}
use Rattle.std.proofs.lemmas.Result.{err_from_is_err_and}
use Rattle.std.proofs.lemmas.List.{length-take}
use Rattle.dt_source.proofs.Steps.{TakesSome-two}
use Rattle.dt_permissions.proofs.reading.read_deciding.Goals as goal

pub returns-in_err-extend_from_slice-in-Ok-clause-refused_takes :
    goal.returns-in_err-extend_from_slice-in-Ok-clause-refused_takes
returns-in_err-extend_from_slice-in-Ok-clause-refused_takes g c =
    let p = err_from_is_err_and c.from_residual.result c.from_residual.ensures.1 in
    let piece = drop (4096 - c.min-at.result) c.read_behind.new.buf in
    rw p.1 (TakesSome-two _ _ _ c.loop-chunk.bytes.items (take c.in-Ok.count piece) _ c.loop-chunk.invariant.taken c.in-Ok.ensures.takes
    (omega (arith, c.in-Ok.ensures.within, c.min-at.ensures, c.loop-chunk.invariant.within, c.loop-chunk-test.true, length-take c.in-Ok.count piece)))

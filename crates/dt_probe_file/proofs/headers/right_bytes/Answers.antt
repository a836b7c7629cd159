use Rattle.std.proofs.Common.{ℕ, ◌<◌, IsTrue, subst, sym, arith, below_more}
use Rattle.std.proofs.lemmas.List.{get_or-take, length-take}
use Rattle.dt_probe_file.specs.Headers.{header_byte}
use Rattle.dt_probe_file.proofs.headers.right_bytes.Goals as goal

pub loop-place-preserved : goal.loop-place-preserved
loop-place-preserved c =
    let here : c.loop-place.place < c.min.result = omega (arith, c.loop-place-test.true, length-take c.min.result c.args.bytes.now) in
    below_more _ _ c.loop-place.invariant
    (subst (λ (b : ℕ). IsTrue (header_byte c.loop-place.place b)) (get_or-take c.min.result c.args.bytes.now c.loop-place.place 0 here) (sym c.if-not-may_stand.ensures))

use Rattle.std.proofs.Common.{◌≡◌, ◌==◌, false, ap, sym, ◌∙◌, arith}
use Rattle.std.proofs.lemmas.Bool.Decides.{nat_tests}
use Rattle.dt_lane.specs.declared.ends.HartEnd.{HartEnd}
use Rattle.dt_joined.proofs.concluding.end_of.Goals as goal

pub unreachable-requires : goal.unreachable-requires
unreachable-requires c =
    let one = c.requires in
    let other = c.loop-end.invariant one.0 one.1 (omega arith) (omega (arith, one.2, c.loop-end-test.false)) in
    let not : (one.1.hart == c.args.hart) ≡ false = ap (λ (e : HartEnd). e.hart == c.args.hart) (sym one.3) ∙ other in
    grind (arith, nat_tests, not, one.4)

use Rattle.std.proofs.Common.{◌≡◌, ◌++◌, arith}
use Rattle.std.specs.Prelude.{option_to_list}
use Rattle.std.proofs.lemmas.Grind.{common_steps}
use Rattle.std.proofs.lemmas.List.{append-nil}
use Rattle.dt_core.proofs.Loops.{writes_by-step}
use Rattle.dt_core.proofs.writes.writes_by.Goals as goal

pub loop-seq-preserved : goal.loop-seq-preserved
loop-seq-preserved c =
    let grown : c.match-write_of.writes.items ≡ c.loop-seq.writes.items ++ option_to_list c.write_of.result = grind (arith, common_steps, append-nil) in
    writes_by-step _ _ _ _ _ _ _ c.requires.own c.loop-seq-test.true c.loop-seq.invariant c.write_of.ensures grown

use Rattle.std.proofs.Common.{rules, sym, subst}
use mathlib.Core.List.{IsPrefix}
use Rattle.dt_shared.specs.Entries.{notes_in}
use Rattle.dt_shared.specs.Passes.{PassState}
use Rattle.dt_shared.proofs.Histories.{copy_begins}
use Rattle.dt_shared.proofs.tests.append_round.Goals as goal

pub returns-in_err-append-clause-seen : goal.returns-in_err-append-clause-seen
returns-in_err-append-clause-seen g c = λ copy begins. subst (λ (p : PassState). IsPrefix copy (notes_in p.seen)) (sym c.in_err-append.ensures.err.0) (c.loop-n.invariant.1 copy begins)

pub loop-n-preserved : goal.loop-n-preserved
loop-n-preserved g c = (search rules, λ copy begins. copy_begins copy c.loop-n.pass.seen _ _ (c.loop-n.invariant.1 copy begins) c.in_ok-append.ensures.seen)

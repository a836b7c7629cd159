use Rattle.std.proofs.Common.{◌∙◌}
use Rattle.dt_shared.specs.declared.views.Known.{Known}
use Rattle.dt_shared.specs.Passes.{pass_state, first_known}
use Rattle.dt_shared.proofs.Knowing.{LookFacts, look_facts, look_rests}
use Rattle.dt_shared.proofs.records.SharedRecord.look.Goals as goal

pub invariant_of-pass : goal.invariant_of-pass
invariant_of-pass g c = let i = c.pass.invariant in look_rests c.look_at.result (first_known c.pass.inside.seat.me.0.passes) _ _ _ _ _ i.1 (c.look_at.ensures.told _ _ i.0)

facts : (g : _) (c : goal.After-look_at g) → LookFacts c.look_at.result c.args.pass.now c.look_at.new.seat.table_id (first_known c.look_at.new.seat.me.0.passes) c.args.to.now c.look_at.new.to
facts g c = let i = c.pass.invariant in let k : Known = first_known c.pass.inside.seat.me.0.passes in
    look_facts c.look_at.result c.args.pass.now c.look_at.new.seat.table_id k _ _ _ _ ((λ j. pass_state (c.look_at.ensures.table j) k) ∙ c.pass.view_is) (c.look_at.ensures.told _ _ i.0)

pub returns-clause-seen : goal.returns-clause-seen
returns-clause-seen g c = (facts g c).seen

pub returns-clause-mine : goal.returns-clause-mine
returns-clause-mine g c = (facts g c).mine

pub returns-clause-same : goal.returns-clause-same
returns-clause-same g c = (facts g c).same

pub returns-clause-replica : goal.returns-clause-replica
returns-clause-replica g c = (facts g c).replica

pub returns-clause-err : goal.returns-clause-err
returns-clause-err g c = (facts g c).err

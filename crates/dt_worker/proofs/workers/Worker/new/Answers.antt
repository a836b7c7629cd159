use Rattle.std.proofs.Common.{refl, sym, ap, ◌∙◌, arith}
use Rattle.dt_settled.specs.Settling.{SettledView}
use Rattle.dt_shared.specs.Passes.{PassState}
use Rattle.dt_shared.specs.Replicas.{ReplicaState}
use Rattle.dt_worker.proofs.EndLaws.{opened_worker, opened_len, opened-lanes}
use Rattle.dt_worker.proofs.workers.Worker.new.Goals as goal

pub invariant_of-result-3 : goal.invariant_of-result-3
invariant_of-result-3 c =
    let opened = c.in_ok-open_all.ensures in
    let size = opened_len _ _ _ opened in record {
      steady =
          opened_worker c.nothing_is_told.ensures c.seeing_starts.ensures _ _ _ _ _ _ _ _ _ c.new-2.ensures (ap (λ (r : ReplicaState). r.notes) c.new.ensures) c.pass.view_is
          c.requires.different opened c.requires.new_pass;
      harts = ap (λ (r : ReplicaState). r.harts) c.new.ensures;
      refused = sym (ap (λ (p : PassState). p.stopped) (c.pass.view_is ∙ c.requires.new_pass));
      for_takes = let room = c.in_ok-with_capacity.ensures.capacity in grind arith;
      for_ends = let room = c.in_ok-with_capacity-2.ensures.capacity in grind arith;
    }

pub returns : goal.returns
returns c = record {
  harts_are = refl;
  wide_is = refl;
  image_is = ap (λ (v : SettledView). v.image) c.new-2.ensures;
  pass_is = c.pass.view_is;
  lanes = opened-lanes _ _ _ c.in_ok-open_all.ensures;
}

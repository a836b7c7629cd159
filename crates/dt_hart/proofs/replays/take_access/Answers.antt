use Rattle.std.proofs.Common.{[], refl, sym, ◌∙◌}
use Rattle.dt_record.specs.Actions.{Fenced}
use Rattle.dt_record.specs.Keys.{key_of}
use Rattle.dt_hart.proofs.Counted.{counts_gained, counts_same, fences_fit}
use Rattle.dt_hart.proofs.EffectLaws.{page_accesses}
use Rattle.dt_hart.proofs.ReplayedOn.{from_follows}
use Rattle.dt_hart.proofs.replays.take_access.Goals as goal

pub take_fence-requires : goal.take_fence-requires
take_fence-requires c = fences_fit c.args.accesses.now.stores (key_of c.args.seq c.args.event.now) c.requires.counted c.requires.room

pub returns-in-Fences-clause-counted : goal.returns-in-Fences-clause-counted
returns-in-Fences-clause-counted c =
    counts_gained c.drains_stay_below.ensures (key_of c.args.seq c.args.event.now) c.args.accesses.now.stores c.take_fence.new.self.stores (Fenced c.in-Fences.ww c.in-Fences.wr c.in-Fences.rr) tt
    c.take_fence.ensures.stores c.requires.counted

pub returns-in_default : goal.returns-in_default
returns-in_default c =
    let is = sym c.ordering_plan.ensures ∙ c.in-Some.is in
    let key = key_of c.args.seq c.args.event.now in
    let kept = c.args.accesses.now in
    record {
      replays = from_follows kept kept key c.args.event.now.body (record { count = 0; from = [] })
          (page_accesses kept c.args.a.now c.args.seq c.args.event.now (record { count = 0; from = [] }) c.in-Some.fence is c.in_default.not-Fences);
      counted = counts_same key kept.stores kept.stores refl c.requires.counted;
    }

use Rattle.std.proofs.Common.{Some, refl, sym, ap, ◌∙◌}
use Rattle.dt_record.specs.Actions.{Fenced}
use Rattle.dt_record.specs.Keys.{key_of}
use Rattle.dt_step.specs.declared.plans.Planned.{Planned}
use Rattle.dt_hart.specs.Following.{Follows}
use Rattle.dt_hart.proofs.AccessLaws.{fence_follows}
use Rattle.dt_hart.proofs.Counted.{counts_gained, counts_same, fences_fit}
use Rattle.dt_hart.specs.Counting.{IsCounted, key_after}
use Rattle.dt_hart.proofs.EffectLaws.{is_ordering, on_ok, ordering_commits, page_accesses, page_fences}
use Rattle.dt_hart.proofs.effects.take_effects.Goals as goal

pub take_fence-requires : goal.take_fence-requires
take_fence-requires c = fences_fit c.args.accesses.now.stores (key_of c.args.seq c.args.event.now) c.requires.counted c.requires.room

pub returns-in-Fences-clause-follows : goal.returns-in-Fences-clause-follows
returns-in-Fences-clause-follows c =
    let key = key_of c.args.seq c.args.event.now in
    let is = sym c.ordering_plan.ensures ∙ c.in-Some.is ∙ ap (λ (p : Planned). Some p) c.in-Fences.is in
    let commit = ordering_commits c.args.a.now key c.args.event.now.body _ is in
    fence_follows c.args.accesses.now c.take_fence.new.self key c.args.event.now.body c.args.sources c.in-Fences.ww c.in-Fences.wr c.in-Fences.rr
    (is_ordering c.args.a.now key c.args.event.now.body c.in-Fences.ww c.in-Fences.wr c.in-Fences.rr is).action commit.write (commit.read c.args.sources)
    c.take_fence.ensures.stores c.take_fence.ensures.keys c.take_fence.ensures.floor c.take_fence.ensures.last_read

pub returns-in_default-clause-follows : goal.returns-in_default-clause-follows
returns-in_default-clause-follows c =
    let is = sym c.ordering_plan.ensures ∙ c.in-Some.is in
    on_ok c.take-in_default.result (Follows c.args.accesses.now c.args.accesses.now (key_of c.args.seq c.args.event.now) c.args.event.now.body c.args.sources)
    (page_accesses c.args.accesses.now c.args.a.now c.args.seq c.args.event.now c.args.sources c.in-Some.fence is c.in_default.not-Fences)

pub returns-in_default-clause-fences : goal.returns-in_default-clause-fences
returns-in_default-clause-fences c =
    let is = sym c.ordering_plan.ensures ∙ c.in-Some.is in
    page_fences c.take-in_default.result c.args.windows.now c.take-in_default.new.self c.args.a.now c.args.seq c.args.event.now c.in-Some.fence is
    c.in_default.not-Fences c.take-in_default.ensures.taken

pub returns-in_default-clause-counted : goal.returns-in_default-clause-counted
returns-in_default-clause-counted c =
    on_ok c.take-in_default.result (IsCounted c.args.accesses.now.stores (key_after (key_of c.args.seq c.args.event.now)))
    (counts_same (key_of c.args.seq c.args.event.now) c.args.accesses.now.stores c.args.accesses.now.stores refl c.requires.counted)

pub returns-in-Fences-clause-counted : goal.returns-in-Fences-clause-counted
returns-in-Fences-clause-counted c =
    counts_gained c.drains_stay_below.ensures (key_of c.args.seq c.args.event.now) c.args.accesses.now.stores c.take_fence.new.self.stores (Fenced c.in-Fences.ww c.in-Fences.wr c.in-Fences.rr) tt
    c.take_fence.ensures.stores c.requires.counted

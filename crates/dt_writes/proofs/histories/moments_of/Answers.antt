use Rattle.std.proofs.Common.{List, sym, ap, ◌∙◌, subst, IsTrue}
use Rattle.dt_record.specs.declared.writes.Write.{Write}
use Rattle.dt_record.specs.Writes.{by_key, no_records}
use Rattle.dt_versions.specs.History.{history, IsKept}
use Rattle.dt_writes.specs.Apart.{are_apart}
use Rattle.dt_writes.proofs.WritesOfRecords.{apart-writes_after, IsKept-writes_of}
use Rattle.dt_writes.proofs.histories.moments_of.Goals as goal

pub sort-requires : goal.sort-requires
sort-requires c = subst (λ (ws : List Write). IsTrue (are_apart ws)) (sym c.in_ok-writes.ensures) (apart-writes_after no_records c.args.records.now)

pub moments_over-requires : goal.moments_over-requires
moments_over-requires c =
    let sorted = c.deref.ensures.value ∙ c.in_ok-sort.ensures ∙ ap by_key c.in_ok-writes.ensures in
    subst (λ (ws : List Write). IsKept (history c.args.image ws)) (sym sorted) (IsKept-writes_of c.args.image c.args.records.now c.requires)

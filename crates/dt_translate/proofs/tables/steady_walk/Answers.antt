use Rattle.std.proofs.Common.{ℕ, List, All, sym, subst, ◌∙◌}
use Rattle.dt_walk.specs.Walk.{IsEntryAddress}
use Rattle.dt_translate.specs.Outcomes.{entry_at}
use Rattle.dt_translate.proofs.Steadiness.{entry_at-steady}
use Rattle.dt_translate.proofs.tables.steady_walk.Goals as goal

pub steady_from-requires-clause-lie : goal.steady_from-requires-clause-lie
steady_from-requires-clause-lie c =
    let entry = entry_at c.args.moments.now.image c.args.moments.now.writes c.args.k in
    subst (λ (addresses : List ℕ). All IsEntryAddress addresses) (sym (c.as_slice.ensures ∙ c.walk_reads.ensures)) (c.reads_decide.ensures.lie_in_ram entry c.args.a c.requires.args)

pub returns-clause-steady : goal.returns-clause-steady
returns-clause-steady c = λ j from to.
    let image = c.args.moments.now.image in
    let writes = c.args.moments.now.writes in
    let read = c.as_slice.ensures ∙ c.walk_reads.ensures in
    let lie = c.reads_decide.ensures.lie_in_ram (entry_at image writes c.args.k) c.args.a c.requires.args in
    let steady = rw read at c.steady_from.ensures.steady in
    c.reads_decide.ensures.same_answer (entry_at image writes c.args.k) (entry_at image writes j) c.args.a (λ i d below.
    entry_at-steady c.steady_words_stay.ensures.words image writes _ c.steady_from.result j c.args.k (steady i d below) from to (lie i d below).aligned)

use Rattle.std.proofs.Common.{ℕ, length, map, ◌++◌, ◌∷◌, [], ap, sym, ◌∙◌, arith}
use Rattle.std.specs.List.{range_with_len}
use Rattle.std.proofs.lemmas.List.FromFn.{length-map-range_with_len, map-range_with_len_more}
use Rattle.dt_record.specs.Keys.{records_of}
use Rattle.dt_tallies.specs.Counting.{counts_of}
use Rattle.dt_verdict.specs.declared.tallies.Counts.{Counts}
use Rattle.dt_pass.proofs.checking.counted.Goals as goal

pub of-requires : goal.of-requires
of-requires c =
    let many = length-map-range_with_len (λ hart. counts_of c.args.limit (records_of hart c.args.records.now)) 0 c.loop-hart.hart in
    let end = c.loop-hart.auto.hart-end in
    omega (arith, ap length c.loop-hart.invariant, many, c.requires.few_harts, end)

pub loop-hart-preserved : goal.loop-hart-preserved
loop-hart-preserved c =
    let counts : ℕ → Counts = λ hart. counts_of c.args.limit (records_of hart c.args.records.now) in
    let hart = c.loop-hart.hart in
    c.in_ok-push.ensures.items
    ∙ ap (λ cs. cs ++ c.count.result ∷ []) c.loop-hart.invariant
    ∙ ap (λ one. map counts (range_with_len 0 hart) ++ one ∷ []) c.count.ensures
    ∙ sym (map-range_with_len_more counts 0 hart hart (omega arith))

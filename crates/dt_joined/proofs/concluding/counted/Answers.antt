use Rattle.std.proofs.Common.{◌≡◌, List, length, map, ◌++◌, ◌∷◌, [], ap, sym, ◌∙◌, arith}
use Rattle.std.specs.List.{range_with_len}
use Rattle.std.proofs.lemmas.List.{length_push}
use Rattle.std.proofs.lemmas.List.Elements.{All-contains}
use Rattle.std.proofs.lemmas.List.FromFn.{map-range_with_len_more}
use Rattle.dt_record.specs.declared.records.Record.{Record}
use Rattle.dt_record.specs.Keys.{records_of}
use Rattle.dt_tallies.specs.Counting.{counts_of}
use Rattle.dt_verdict.specs.declared.tallies.Counts.{Counts}
use Rattle.dt_lane.specs.declared.ends.HartEnd.{HartEnd}
use Rattle.dt_joined.proofs.concluding.counted.Goals as goal

pub loop-hart-preserved : goal.loop-hart-preserved
loop-hart-preserved c =
    let hart = c.loop-hart.hart in
    let end = c.end_of-end.result.now in
    let counts = c.loop-hart.counts.items in (
      ap length c.in_ok-push.ensures.items ∙ length_push counts c.count.result ∙ omega (arith, c.loop-hart.invariant.0),
      λ image wide file ends.
          let limited : List Record → Counts = λ records. counts_of c.args.limit (records_of hart records) in
          let taken : end.taken.items ≡ records_of end.hart file
          = All-contains (λ (e : HartEnd). e.taken.items ≡ records_of e.hart file) c.args.ends.now end ends.taken c.end_of-end.ensures.one in
          let own : end.taken.items ≡ records_of hart file = taken ∙ ap (λ h. records_of h file) c.end_of-end.ensures.its in
          let count : c.count.result ≡ limited file
          = c.count.ensures ∙ ap limited (c.deref.ensures.value ∙ own) ∙ c.own_records_are_counted.ensures c.args.limit file hart in
          c.in_ok-push.ensures.items
          ∙ ap (λ cs. cs ++ c.count.result ∷ []) (c.loop-hart.invariant.1 image wide file ends)
          ∙ ap (λ one. map (λ h. counts_of c.args.limit (records_of h file)) (range_with_len 0 hart) ++ one ∷ []) count
          ∙ sym (map-range_with_len_more (λ h. counts_of c.args.limit (records_of h file)) 0 hart hart (omega arith)),
    )

pub returns : goal.returns
returns c = λ image wide file ends.
    c.of.ensures
    ∙ c.loop-hart.invariant.1 image wide file ends
    ∙ ap (λ n. map (λ hart. counts_of c.args.limit (records_of hart file)) (range_with_len 0 n))
    (omega (arith, c.loop-hart.auto.hart-end, c.loop-hart-test.false))

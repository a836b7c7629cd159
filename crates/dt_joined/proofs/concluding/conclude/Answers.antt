use Rattle.std.proofs.Common.{Option, refl, map, ap, ◌∙◌, subst}
use Rattle.std.specs.List.{range_with_len}
use Rattle.dt_record.specs.declared.keys.Key.{Key}
use Rattle.dt_record.specs.Keys.{records_of}
use Rattle.dt_tallies.specs.Counting.{counts_of}
use Rattle.dt_tallies.specs.Naming.{named_notes}
use Rattle.dt_verdict.specs.Verdict.{verdict_of, IsVerdict}
use Rattle.dt_joined.proofs.concluding.conclude.Goals as goal

pub returns : goal.returns
returns c = λ image wide file are ends.
    c.concluded_is_checked.ensures image wide c.args.harts file c.in_ok-outcomes.outcomes.items c.gathered.new.notes.items _
    (c.in_ok-outcomes.ensures image wide file are ends)
    (record {
      harts_are = refl;
      verdict = c.least-verdict.ensures.value ∙ ap verdict_of c.deref.ensures.value;
      least = subst (λ os. IsVerdict os c.least-verdict.result) c.deref.ensures.value c.least-verdict.ensures.least;
      counts =
          c.in_ok-counts.ensures image wide file ends
          ∙ ap (λ (limit : Option Key). map (λ hart. counts_of limit (records_of hart file)) (range_with_len 0 c.args.harts)) c.limit_of-limit.ensures;
      notes_are = c.in_ok-notes.ensures ∙ ap (λ (limit : Option Key). named_notes limit c.gathered.new.notes.items) c.limit_of-limit.ensures;
    })

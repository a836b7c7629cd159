use Rattle.std.proofs.Common.{map, refl, ap, ◌∙◌}
use Rattle.std.specs.List.{range_with_len}
use Rattle.dt_record.specs.Keys.{records_of}
use Rattle.dt_tallies.specs.Counting.{counts_of}
use Rattle.dt_tallies.specs.Naming.{named_notes, notes_by_key}
use Rattle.dt_pass.proofs.checking.checked.Goals as goal

pub returns : goal.returns
returns c image wide runs are_runs over notes =
    let records = c.args.records.now in
    record {
      runs = runs;
      are_runs = are_runs;
      harts_are = refl;
      verdict = over.is;
      least = over.least;
      counts =
          c.in_ok-tallies.ensures.counts
          ∙ ap (λ limit. map (λ hart. counts_of limit (records_of hart records)) (range_with_len 0 c.args.harts)) c.limit_of.ensures;
      notes = c.in_ok-tallies.ensures.notes ∙ ap (λ limit. named_notes limit c.args.notes.items) c.limit_of.ensures ∙ ap notes_by_key notes;
    }

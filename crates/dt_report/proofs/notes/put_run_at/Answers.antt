use Rattle.std.proofs.Common.{ap, ◌∙◌, ◌+◌}
use Rattle.std.proofs.lemmas.List.{take_rest, get_or_default}
use Rattle.std.specs.List.{prefix_len}
use Rattle.dt_record.specs.declared.origins.Origin.TheVariants.{Image}
use Rattle.dt_report.specs.Runs.{same_origin}
use Rattle.dt_report.proofs.RunLemmas.{written_at}
use Rattle.dt_report.proofs.notes.put_run_at.Goals as goal

pub returns-clause-text : goal.returns-clause-text
returns-clause-text c =
    let bytes = c.args.bytes.now in
    written_at bytes c.args.first c.same_len.result _ c.args.out.now.items c.put_run.new.out.items c.requires
    (get_or_default bytes c.args.first Image _ c.requires)
    (c.same_len.ensures.value ∙ ap (prefix_len (same_origin _)) (take_rest bytes (c.args.first + 1)))
    c.in_ok-put_run.ensures

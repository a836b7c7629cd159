use Rattle.std.proofs.Common.{List, ℕ, sym, ap, ◌∙◌}
use Rattle.std.specs.Result.{is_ok}
use Rattle.dt_record.specs.declared.reasons.Reason.TheVariants.{Refill as NotRefilled}
use Rattle.dt_rules.specs.Checks.{first_difference}
use Rattle.dt_refills.specs.Refilling.{line_at}
use Rattle.dt_refills.proofs.Lines.{equal_is_ok, line_has_bytes}
use Rattle.dt_refills.proofs.refilling.had.Goals as goal

pub returns-clause-same : goal.returns-clause-same
returns-clause-same c =
    let m = c.args.m.now in
    ap is_ok (c.same_bytes.ensures.checks ∙ ap (λ (due : List ℕ). first_difference NotRefilled due c.args.bytes.now) c.line_at.ensures)
    ∙ sym (equal_is_ok NotRefilled (line_at m.image m.writes c.args.k c.args.line) c.args.bytes.now (line_has_bytes m.image m.writes c.args.k c.args.line ∙ sym c.told-bytes))

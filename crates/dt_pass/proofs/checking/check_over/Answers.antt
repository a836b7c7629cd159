use Rattle.std.proofs.Common.{◌≡◌, Result, Ok, Err, List, map, filter, ap, ◌∙◌, subst}
use Rattle.std.specs.Prelude.{IfOk}
use Rattle.dt_verdict.specs.declared.verdicts.Outcome.{Outcome}
use Rattle.dt_verdict.specs.Verdict.{verdict_of, IsVerdict}
use Rattle.dt_tallies.specs.Counting.{is_below}
use Rattle.dt_pass.specs.Checked.{limit_of, outcome_of}
use Rattle.dt_pass.proofs.checking.check_over.Goals as goal

-- what follows for the value, if there is one
if_ok : {T E : Type 0} {P Q : T → Type 0} (r : Result T E) → ((t : T) → P t → Q t) → IfOk r P → IfOk r Q
if_ok (Ok t) follows holds = follows t holds
if_ok (Err e) follows holds = holds

pub returns : goal.returns
returns c =
    let all = c.in_ok-outcomes.ensures in
    let verdict = c.least.result in
    let records = c.args.records.now in
    let outcomes : c.deref.result.now ≡ map (outcome_of records) all.runs = c.deref.ensures.value ∙ all.outcomes_are in
    if_ok c.checked.result (λ checked comes. comes c.args.m.now.image c.args.wide all.runs all.are_runs (record {
      is = c.least.ensures.value ∙ ap verdict_of outcomes;
      least = subst (λ (os : List Outcome). IsVerdict os verdict) outcomes c.least.ensures.least;
    }) (ap (filter (λ n. is_below (limit_of verdict) n.key)) all.notes_are)) c.checked.ensures

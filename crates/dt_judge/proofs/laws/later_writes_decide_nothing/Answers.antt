use Rattle.dt_judge.proofs.LaterNothing.{later_decide_nothing}
use Rattle.dt_judge.proofs.laws.later_writes_decide_nothing.Goals as goal

pub returns : goal.returns
returns c =
    let checks = c.first_writes_decide_checks.ensures in
    later_decide_nothing (record {
      fences = c.fences_are_earlier.ensures;
      last = c.last_fences_are_below.ensures;
      checks = record {
        starts = checks.starts;
        addresses = checks.addresses;
        traps = c.first_writes_decide_traps.ensures;
        atomics = c.first_writes_decide_atomics.ensures;
        refills = c.first_writes_decide_refills.ensures;
      };
      one = c.records_have_one_finding.ensures;
      findings = record {
        loads = c.loads_have_an_answer.ensures;
        atomics = c.atomics_have_an_answer.ensures;
        decoded = c.meaning_is_well_formed.ensures;
        is_least = c.least_choice_is_least.ensures;
        goes_on = c.least_choice_goes_on.ensures;
      };
    })

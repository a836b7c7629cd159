use Rattle.std.proofs.Common.{rules, arith, sym, subst}
use Rattle.dt_kept.specs.declared.tests.TheConstants.{SIGNS}
use Rattle.dt_kept.specs.States.{AreAllEventsFrom}
use Rattle.dt_kept.proofs.tests.a_trace_ends_with_the_failing_record.Goals as goal

pub traced_events-requires : goal.traced_events-requires
traced_events-requires g c = record {
  harts = 3;
  cut = 100;
  records = SIGNS;
  streamed = record {
    some_hart = omega arith;
    few_harts = omega arith;
    each = search rules;
    few_records = omega arith;
    few_writes = omega arith;
  };
  events = subst (AreAllEventsFrom 3 100 SIGNS) (sym c.deref.ensures.value) c.in_ok-kept.ensures.events;
}

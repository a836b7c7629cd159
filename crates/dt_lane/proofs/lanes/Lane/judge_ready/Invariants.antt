use Rattle.std.proofs.Common.{◌≡◌, Bool, List, All, IsTrue, drop}
use mathlib.Core.List.{IsPrefix}
use Rattle.dt_core.specs.Marks.{is_below}
use Rattle.dt_record.specs.declared.writes.Write.{Write}
use Rattle.dt_settled.specs.Settling.{Continues}
use Rattle.dt_lane.specs.Lanes.{IsJudgedBy, judged_len, judged_of}
use Rattle.dt_lane.proofs.lanes.Lane.judge_ready.Given as goal

abbrev pub invariant-loop : goal.invariant-loop
invariant-loop g l = record {
  same : l.self ≡ record l.initial.self { run = l.self.run };
  judged : (wide : Bool) (all : List Write) → Continues l.m.writes l.least all
      → IsJudgedBy l.initial.self l.m.image wide all → IsJudgedBy l.self l.m.image wide all;
  further : IsPrefix (judged_of l.initial.self) (judged_of l.self);
  below : All (λ r. IsTrue (is_below l.least r.stamp)) (drop (judged_len l.initial.self.run) (judged_of l.self));
}

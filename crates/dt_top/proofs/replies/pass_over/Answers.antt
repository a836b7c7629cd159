use Rattle.std.proofs.Common.{rules}
use Rattle.std.specs.Option.{option_map}
use Rattle.dt_probe_file.specs.Computing.{answers_of}
use Rattle.dt_top.proofs.Checking.{stream_said}
use Rattle.dt_top.proofs.Tasks.{are_told}
use Rattle.dt_top.proofs.replies.pass_over.Goals as goal

pub returns-clause-said : goal.returns-clause-said
returns-clause-said g c = (
  _,
  c.within-stream.ensures.told,
  stream_said _ _ _ _ _ _ _ _ c.pass-answer.result c.judged_reply.result c.within-stream.ensures.told
      (record {
        first = c.within-stream.ensures.faults;
        last = search rules;
        left_is = search rules;
      })
      c.pass-answer.ensures.checked c.pass-answer.ensures.refused c.pass-answer.ensures.fault
      (λ fault. c.into_source.ensures.left_open _ (c.pass-answer.ensures.needed fault _ c.within-stream.ensures.origin))
      c.judged_reply.ensures.report c.judged_reply.ensures.refused,
)

pub returns-in_default-clause-said : goal.returns-in_default-clause-said
returns-in_default-clause-said g c = (option_map answers_of (g.P.Source.left c.args.probes.now), are_told (g.P.Source.left c.args.probes.now), tt)

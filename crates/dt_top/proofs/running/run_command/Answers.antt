use Rattle.std.proofs.Common.{ap}
use Rattle.dt_words.specs.Table.{asked_by}
use Rattle.dt_top.specs.Tasks.{is_plain}
use Rattle.dt_top.proofs.Replying.{of_usage, ran_of_reply}
use Rattle.dt_top.proofs.Tasks.{not_own}
use Rattle.dt_top.proofs.running.run_command.Goals as goal

pub returns-in-Check-clause-ran : goal.returns-in-Check-clause-ran
returns-in-Check-clause-ran g c =
    ran_of_reply _ _ _ _ _ c.put_reply.result (of_usage _ _ _ (not_own is_plain (asked_by c.args.command.now) (ap is_plain c.in-Check.is))) c.put_reply.ensures.put

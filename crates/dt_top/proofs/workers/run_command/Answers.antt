use Rattle.dt_words.specs.Table.{asked_by}
use Rattle.dt_top.specs.Tasks.{is_threaded}
use Rattle.dt_top.proofs.Replying.{of_usage, ran_of_reply}
use Rattle.dt_top.proofs.Tasks.{check_alone, not_own}
use Rattle.dt_top.proofs.workers.run_command.Goals as goal

pub returns-in_default-clause-ran : goal.returns-in_default-clause-ran
returns-in_default-clause-ran g c =
    ran_of_reply _ _ _ _ _ c.put_reply.result
    (of_usage _ _ _ (not_own is_threaded (asked_by c.args.command.now) (check_alone c.args.command.now.task c.in_default.not-Check)))
    c.put_reply.ensures.put

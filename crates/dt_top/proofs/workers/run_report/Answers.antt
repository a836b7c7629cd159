use Rattle.dt_top.proofs.Replying.{ran_of_reply}
use Rattle.dt_top.proofs.workers.run_report.Goals as goal

pub returns-clause-ran : goal.returns-clause-ran
returns-clause-ran g c = λ asked judges wants.
    ran_of_reply _ _ _ _ _ c.put_reply.result (c.check_reply-reply.ensures.came asked judges wants) c.put_reply.ensures.put

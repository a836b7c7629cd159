use Rattle.dt_top.proofs.Replying.{of_image_refusal, of_pass}
use Rattle.dt_top.proofs.workers.check_reply.Goals as goal

pub returns-in-Ok-clause-came : goal.returns-in-Ok-clause-came
returns-in-Ok-clause-came g c = λ asked judges wants.
    of_pass asked c.in-Ok.image _ _ c.args.command.now.sources c.check_over.result judges wants c.in-Ok.ensures.within (c.in-Ok.ensures.answer (λ e. cc) (λ e. cc)) c.check_over.ensures.said

pub returns-in-Err-clause-came : goal.returns-in-Err-clause-came
returns-in-Err-clause-came g c = λ asked judges wants.
    of_image_refusal asked _ _ c.in-Err.refusal _ judges c.image_reply.ensures c.in-Err.ensures.fault_only c.in-Err.ensures.answer

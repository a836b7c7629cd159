use Rattle.std.proofs.Common.{Err, ap, ◌∙◌}
use Rattle.dt_words.specs.declared.commands.WordsRefusal.{WordsRefusal}
use Rattle.dt_top.specs.Tasks.{asked_among, is_threaded}
use Rattle.dt_top.proofs.Replying.{of_memory, of_usage, ran_of_reply}
use Rattle.dt_top.proofs.top.check_words.Goals as goal

pub returns-in-Err-Usage-clause-ran : goal.returns-in-Err-Usage-clause-ran
returns-in-Err-Usage-clause-ran g c =
    ran_of_reply _ _ _ _ _ _ (of_usage _ _ _ (ap (asked_among is_threaded)
    (c.parse_words.ensures.usage (c.in-Err-Usage.is ∙ ap (λ (refusal : WordsRefusal). Err refusal) c.in-Err-Usage.field-0-is)))) c.put_reply.ensures.put

pub returns-in-Err-OutOfMemory-clause-ran : goal.returns-in-Err-OutOfMemory-clause-ran
returns-in-Err-OutOfMemory-clause-ran g c = ran_of_reply _ _ _ _ _ _ (of_memory _ _ _) c.put_reply-in-Err-OutOfMemory.ensures.put

use Rattle.dt_record_bytes.proofs.Answering.{answer_is_one, answer_of_spelled, at_short, at_bad, at_got}
use Rattle.dt_record_bytes.proofs.wide.decode.Goals as goal

pub returns-clause-only : goal.returns-clause-only
returns-clause-only c other is = answer_is_one c.args.b.now _ other c.answer_to.ensures is

pub returns-clause-read : goal.returns-clause-read
returns-clause-read c event rest spelled = answer_is_one c.args.b.now _ _ c.answer_to.ensures (answer_of_spelled c.args.b.now event rest spelled)

pub returns-clause-got : goal.returns-clause-got
returns-clause-got c event len is = at_got c.args.b.now event len _ c.answer_to.ensures is

pub returns-clause-short : goal.returns-clause-short
returns-clause-short c is = at_short c.args.b.now _ c.answer_to.ensures is

pub returns-clause-bad : goal.returns-clause-bad
returns-clause-bad c place more is = at_bad c.args.b.now more place _ c.answer_to.ensures is

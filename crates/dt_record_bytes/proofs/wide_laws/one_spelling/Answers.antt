use Rattle.dt_record_bytes.proofs.Answering.{spellings_are_one, ends_are_one, spelling_is_no_end, spelling_is_usual, length_of_spelling}
use Rattle.dt_record_bytes.proofs.wide_laws.one_spelling.Goals as goal

pub returns-clause-records : goal.returns-clause-records
returns-clause-records c = spellings_are_one

pub returns-clause-ends : goal.returns-clause-ends
returns-clause-ends c = ends_are_one

pub returns-clause-apart : goal.returns-clause-apart
returns-clause-apart c = spelling_is_no_end

pub returns-clause-lengths : goal.returns-clause-lengths
returns-clause-lengths c = length_of_spelling

pub returns-clause-usual : goal.returns-clause-usual
returns-clause-usual c = spelling_is_usual

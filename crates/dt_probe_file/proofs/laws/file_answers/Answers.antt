use Rattle.dt_probe_file.proofs.Files.{file_gives, file_given}
use Rattle.dt_probe_file.proofs.laws.file_answers.Goals as goal

pub returns-clause-of_file : goal.returns-clause-of_file
returns-clause-of_file c = file_gives

pub returns-clause-of_answers : goal.returns-clause-of_answers
returns-clause-of_answers c = file_given

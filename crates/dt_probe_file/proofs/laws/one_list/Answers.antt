use Rattle.dt_probe_file.specs.Computing.{answers_of}
use Rattle.dt_probe_file.proofs.Exists.{of_are}
use Rattle.dt_probe_file.proofs.OneAnswer.{answers_are_one}
use Rattle.dt_probe_file.proofs.laws.one_list.Goals as goal

pub returns-clause-some : goal.returns-clause-some
returns-clause-some c = λ bytes. (answers_of bytes, of_are bytes)

pub returns-clause-one : goal.returns-clause-one
returns-clause-one c = answers_are_one

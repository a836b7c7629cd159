use Rattle.dt_convert.proofs.Files.{is_a_file}
use Rattle.dt_convert.proofs.laws.converted_is_a_file.Goals as goal

pub returns : goal.returns
returns c = is_a_file

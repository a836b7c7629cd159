use Rattle.dt_translate.proofs.Histories.{same_first_writes, same_windows}
use Rattle.dt_translate.proofs.laws.first_writes_decide.Goals as goal

pub returns : goal.returns
returns c = record { moments = same_first_writes; choices = same_windows }

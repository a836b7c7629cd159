use Rattle.dt_intake.proofs.TellingLaws.{News-own}
use Rattle.dt_intake.proofs.laws.news_is_of_one_hart.Goals as goal

pub returns : goal.returns
returns c = News-own

use Rattle.dt_hart.proofs.StateStays.{of_its_setting}
use Rattle.dt_hart.proofs.laws.harts_are_of_their_settings.Goals as goal

pub returns : goal.returns
returns c = of_its_setting

use Rattle.dt_joined.proofs.Tellers.{one_teller}
use Rattle.dt_joined.proofs.laws.one_teller_is_enough.Goals as goal

pub returns : goal.returns
returns c = one_teller c.own_notes_decide.ensures

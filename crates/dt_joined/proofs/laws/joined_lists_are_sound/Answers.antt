use Rattle.dt_joined.proofs.Joining.{joined_sound}
use Rattle.dt_joined.proofs.laws.joined_lists_are_sound.Goals as goal

pub returns : goal.returns
returns c = joined_sound c.nothing_is_told.ensures c.own_notes_decide.ensures c.told_is_announced.ensures

use Rattle.dt_settled.proofs.SoundNotes.{SoundNotesAreApart-all}
use Rattle.dt_settled.proofs.laws.sound_notes_are_apart.Goals as goal

pub returns : goal.returns
returns c = SoundNotesAreApart-all c.writes_stand_in_order.ensures

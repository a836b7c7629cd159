use Rattle.dt_joined.proofs.laws.joined_writes_may_be_all.Goals as goal

pub returns : goal.returns
returns c = λ image harts file front notes views records are few joined first.
    c.fronts_tell_all_writes.ensures image harts front notes _ first
    (c.file_writes_may_be_all.ensures image harts file _ records are (c.joined_lists_are_sound.ensures harts file notes views records few joined))

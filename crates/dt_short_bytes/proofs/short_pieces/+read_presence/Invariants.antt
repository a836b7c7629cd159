use Rattle.dt_short_bytes.proofs.short_pieces.+read_presence.Given as goal

abbrev pub decreases-read_presence : goal.decreases-read_presence
decreases-read_presence l = l.bytes

use Rattle.dt_versions.proofs.Steady.{steady_bytes, steady_sources, steady_words}
use Rattle.dt_versions.proofs.laws.steady_words_stay.Goals as goal

pub returns : goal.returns
returns c = record { bytes = steady_bytes; sources = steady_sources; words = steady_words }

-- What a stream over a file's source has at hand (this project's own).
use Rattle.std.specs.Prelude.{ℕ, Option, List}
use Rattle.dt_source.specs.declared.traits.Source.{Ghosts}
use Rattle.dt_probe_file.specs.declared.probes.FileProbes.{FileProbes}
use Rattle.dt_probe_file.specs.declared.reading.Opened.{Opened}

module _ {S : Type 0} {source : Ghosts S} where
  -- the bytes that were read and that no answer has taken
  abbrev pub held_in : FileProbes S source → List ℕ
  held_in probes = probes.held

  -- what was read of the file, once its header has come
  abbrev pub opened_in : FileProbes S source → Option Opened
  opened_in probes = probes.opened

  abbrev pub source_of : FileProbes S source → S
  source_of probes = probes.source

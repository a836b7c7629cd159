use Rattle.std.specs.Prelude.{ℕ, ◌-◌, List, ◌++◌, length, replicate}

-- bytes with zeros after them up to an offset
abbrev pub filled_to : ℕ → List ℕ → List ℕ
filled_to offset bytes = bytes ++ replicate (offset - length bytes) 0

-- Sources and sinks in memory, as contracts see them (this project's own).
use Rattle.std.specs.Prelude.{ℕ, List}

-- a source: the bytes that are left, how many it gives in one call at most, which calls fail (by
-- their numbers, from 0), how many calls there were, and how many of them failed
pub record SourceValue : Type 0 where
  pub rest : List ℕ
  pub piece : ℕ
  pub fail : List ℕ
  pub calls : ℕ
  pub faults : ℕ

-- a sink: the bytes that it was given, how many it can hold, which calls fail (by their numbers,
-- from 0), how many calls there were, and how many of them failed
pub record SinkValue : Type 0 where
  pub bytes : List ℕ
  pub room : ℕ
  pub fail : List ℕ
  pub calls : ℕ
  pub faults : ℕ

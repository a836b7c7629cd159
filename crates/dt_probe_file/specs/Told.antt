-- The answers of a source's bytes, where it tells them (this project's own).
use Rattle.std.specs.Prelude.{ℕ, ◌≡◌, Option, None, Some, List}
use Rattle.dt_record.specs.declared.streams.Next.{Next}
use Rattle.dt_record.specs.Answers.{AreAnswers}

-- these are the answers of these bytes, where the source tells its bytes, and none are told elsewhere
abbrev pub AreToldOf : Option (List ℕ) → Option (List Next) → Type 0
AreToldOf None told = told ≡ None
AreToldOf (Some bytes) told = (answers : List Next) × (told ≡ Some answers) × AreAnswers bytes answers

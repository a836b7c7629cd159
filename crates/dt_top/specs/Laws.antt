use Rattle.std.specs.Prelude.{ℕ, ◌≡◌, ◌↔◌, List, Option, Some}
use Rattle.dt_words.specs.declared.commands.Task.TheVariants.{Check, Pass}
use Rattle.dt_words.specs.Table.{Asked}
use Rattle.dt_top.specs.Answer.{Answer, IsAnswer}

-- That the program's answer is a function of what its words ask for and of the bytes that it reads (this project's own).

-- whatever is asked for, and whatever the bytes of an image and a probe file are, there is an answer
abbrev pub ARunHasAnAnswer : Type 0
ARunHasAnAnswer = (asked : Option Asked) (image probes : List ℕ) → (a : Answer) × IsAnswer asked image probes a

-- and there is no second one
abbrev pub ARunHasOneAnswer : Type 0
ARunHasOneAnswer = (asked : Option Asked) (image probes : List ℕ) (one other : Answer)
    → IsAnswer asked image probes one → IsAnswer asked image probes other → one ≡ other

-- the answer to `check`, for any number of workers, is that to `pass` where both ask for the lines of sources or both do not
abbrev pub CheckAnswersAsPass : Type 0
CheckAnswersAsPass = (checking passing : Asked) (image probes : List ℕ) (a : Answer) → checking.task ≡ Check → passing.task ≡ Pass
    → checking.sources ≡ passing.sources → (IsAnswer (Some checking) image probes a ↔ IsAnswer (Some passing) image probes a)

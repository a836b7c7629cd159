use Rattle.std.proofs.Common.{◌≡◌, ℕ, ◌<◌, length, get_or}
use Rattle.dt_record.specs.LentBodies.{words_of}
use Rattle.dt_record.proofs.lent.put_words.Given as goal

-- the numbers so far
abbrev pub invariant-loop-place : goal.invariant-loop-place
invariant-loop-place l = (length l.numbers ≡ length (words_of l.words)) × ((j : ℕ) → j < l.place → get_or l.numbers j 0 ≡ get_or (words_of l.words) j 0)

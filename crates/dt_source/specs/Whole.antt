-- What reading a whole buffer came to (this project's own).
use Rattle.std.specs.Prelude.{◌≡◌, ◌<◌, ℕ, List, [], Option, IfSome, length, take}
use Rattle.dt_source.specs.declared.whole.Filled.{Filled}
use Rattle.dt_source.specs.declared.whole.Filled.TheVariants.{Full, Ended, Failed}
use Rattle.dt_source.specs.Known.{TakesFrom}

-- a full buffer has the next bytes of the source, an ended source has given all that it had left, and
-- a read that failed comes after fewer bytes than the buffer has room for
abbrev pub FillsAsTold : Filled → Option (List ℕ) → List ℕ → Option (List ℕ) → Type 0
FillsAsTold Full before buf after = TakesFrom before buf after
FillsAsTold (Ended count) before buf after = (count < length buf) × TakesFrom before (take count buf) after
    × IfSome after (λ rest. rest ≡ [])
FillsAsTold Failed before buf after = (n : ℕ) × (n < length buf) × TakesFrom before (take n buf) after

-- The record of version 2 that bytes may begin with, and what is behind it, as a reading of the front gives it (this
-- project's own).
use Rattle.std.specs.Prelude.{ℕ, Bool, true, false, List, [], ◌∷◌, drop, nat_lt}
use Rattle.dt_record.specs.declared.records.Body.TheVariants.{Beat}
use Rattle.dt_record_bytes.specs.declared.decoded.Decoded.{Decoded}
use Rattle.dt_record_bytes.specs.declared.decoded.Decoded.TheVariants.{Got, Short, Bad}
use Rattle.dt_record_bytes.specs.WideReading.{Proposal, proposal}
use Rattle.dt_short_bytes.specs.ShortReading.{decoded_at}

-- The front of a list up to the first number that is no byte.

unfoldable pub front_with : Bool → ℕ → List ℕ → List ℕ
front_with true b front = b ∷ front
front_with false b front = []

unfoldable pub bytes_front : List ℕ → List ℕ
bytes_front [] = []
bytes_front (b ∷ bytes) = front_with (nat_lt b 256) b (bytes_front bytes)

unfoldable pub of_decoded : List ℕ → Decoded → Proposal
of_decoded bytes (Got r len) = proposal r (drop len bytes)
of_decoded bytes Short = proposal (record { stamp = 0; hart = 0; body = Beat }) bytes
of_decoded bytes (Bad at) = proposal (record { stamp = 0; hart = 0; body = Beat }) bytes

-- what a reading of the front gives, after the last stamp
unfoldable pub short_proposal : ℕ → List ℕ → Proposal
short_proposal last bytes = of_decoded bytes (decoded_at last (bytes_front bytes))

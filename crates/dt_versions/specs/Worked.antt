use Rattle.std.specs.Prelude.{ℕ, ◌≡◌, List, [], ◌∷◌, replicate, refl}
use Rattle.dt_record.specs.declared.keys.Key.{Key}
use Rattle.dt_record.specs.declared.writes.Write.{Write}
use Rattle.dt_versions.specs.Spans.{first_visible, last_visible}

-- Spans of visible moments that the definitions compute (this project's own): hart 0 drains 7 to a line
-- in cycle 10, and hart 1 loads from there by its record 3.

abbrev key : (stamp hart seq : ℕ) → Key
key stamp hart seq = record { stamp = stamp; hart = hart; seq = seq }

abbrev drained : List Write
drained = record { key = key 10 0 5; line = 0x8000_0100; mask = 0xff; bytes = 7 ∷ replicate 63 0 } ∷ []

-- the least and the greatest moment that a record may see in a cycle
abbrev ends : Key → ℕ → ℕ × ℕ
ends record_key at = (first_visible drained record_key at, last_visible drained record_key at)

-- behind the cycle of the drain, the load sees it
pub behind_the_drain : ends (key 12 1 3) 12 ≡ (1, 1)
behind_the_drain = refl

-- in that cycle it may or may not
pub in_its_cycle : ends (key 10 1 3) 10 ≡ (0, 1)
in_its_cycle = refl

-- performed before, it does not, although its record comes later
pub performed_before : ends (key 12 1 3) 9 ≡ (0, 0)
performed_before = refl

-- the hart itself sees its own drain in the cycle of it
pub own_drain : ends (key 10 0 6) 10 ≡ (1, 1)
own_drain = refl

use Rattle.std.specs.Prelude.{ℕ, ◌≡◌, List, take}
use Rattle.dt_record.specs.declared.writes.Write.{Write}
use Rattle.dt_versions.specs.declared.moments.Span.{Span}
use Rattle.dt_refills.specs.Refilling.{refill_check}

-- Lists of writes that begin alike up to the end of the span give the same check (this project's own).
abbrev pub SameRefills : Type 0
SameRefills = (image : List ℕ) (ws vs : List Write) (seen : Span) (line : ℕ) (bytes : List ℕ)
    → take seen.last ws ≡ take seen.last vs → refill_check image ws seen line bytes ≡ refill_check image vs seen line bytes

use Rattle.std.specs.Prelude.{ℕ, ◌+◌, ◌-◌, Bool, if◌then◌else◌, List, map, Result, Ok}
use Rattle.std.specs.List.{list_any, range_with_len}
use Rattle.std.specs.Str.{bytes_eq}
use Rattle.dt_record.specs.declared.reasons.Reason.TheVariants.{Refill as NotRefilled}
use Rattle.dt_record.specs.declared.writes.Write.{Write}
use Rattle.dt_record.specs.Memory.{memory_at}
use Rattle.dt_rules.specs.declared.misfits.Misfit.{Misfit}
use Rattle.dt_rules.specs.Checks.{first_difference}
use Rattle.dt_versions.specs.declared.moments.Span.{Span}

-- The check of a refill (this project's own).

-- the bytes of a line after the first k writes
unfoldable pub line_at : List ℕ → List Write → (k line : ℕ) → List ℕ
line_at image writes k line = map (λ i. memory_at image writes k (line + i)) (range_with_len 0 64)

-- some moment of a span has these bytes on the line
abbrev pub has_line : List ℕ → List Write → Span → (line : ℕ) → List ℕ → Bool
has_line image writes span line bytes =
    list_any (λ k. bytes_eq (line_at image writes k line) bytes) (range_with_len span.first (span.last + 1 - span.first))

-- a refill, of which these are the moments that its hart may see: some of them has the whole line; else the first byte that
-- differs from the last one
abbrev pub refill_check : List ℕ → List Write → (seen : Span) → (line : ℕ) → List ℕ → Result (Unit {0}) Misfit
refill_check image writes seen line bytes =
    if has_line image writes seen line bytes then Ok tt else first_difference NotRefilled (line_at image writes seen.last line) bytes

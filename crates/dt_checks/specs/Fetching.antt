use Rattle.std.specs.Prelude.{ℕ, ◌/◌, ◌%◌, ◌^◌, ◌≤◌, ◌==◌, Bool, not, ◌||◌, if◌then◌else◌, List, Result, Ok, Err, Option, Some, None}
use Rattle.dt_access.specs.Translating.{walk_args}
use Rattle.dt_alu.specs.Words.{sum_of}
use Rattle.dt_record.specs.declared.reasons.Reason.TheVariants.{Fetch as NotFetched}
use Rattle.dt_record.specs.declared.writes.Write.{Write}
use Rattle.dt_rules.specs.declared.misfits.Misfit.{Misfit}
use Rattle.dt_rules.specs.Checks.{and_then, misfit}
use Rattle.dt_step.specs.declared.state.Arch.{Arch}
use Rattle.dt_translate.specs.Fetches.{fetch_moments}
use Rattle.dt_versions.specs.declared.moments.Span.{Span}
use Rattle.dt_walk.specs.declared.arguments.Access.TheVariants.{Fetch}
use Rattle.dt_checks.specs.declared.fetching.FetchSpans.{FetchSpans}

-- Whether an instruction may have been fetched (this project's own): each halfword by itself.

-- a moment of a span that is not its last
abbrev pub is_older : Span → ℕ → Bool
is_older span k = not (k == span.last)

-- what the chosen moments of translation and of memory, if any, say of a halfword: whether one of them is older
abbrev pub half_answer : (window since : Span) (va half : ℕ) → Option (ℕ × ℕ) → Result Bool Misfit
half_answer window since va half (Some pair) = Ok (is_older window pair.0 || is_older since pair.1)
half_answer window since va half None = Err (misfit NotFetched va half)

-- a halfword at an address: whether it comes by an older translation or from older memory
abbrev pub half_check : List ℕ → List Write → (window since : Span) → Arch → (va half : ℕ) → Result Bool Misfit
half_check image writes window since a va half =
    half_answer window since va half (fetch_moments image writes window since (walk_args a Fetch va) half)

-- the halfwords of an instruction: the upper one of 32 bits stands two bytes further (Volume I, section 1.5)
abbrev pub first_half : ℕ → ℕ
first_half bits = bits % 2 ^ 16

abbrev pub second_half : ℕ → ℕ
second_half bits = bits / 2 ^ 16

-- the second halfword of a 32-bit instruction, where it is known of the first whether it is older
abbrev pub second_check : List ℕ → List Write → FetchSpans → Arch → (bits : ℕ) → (older : Bool) → Result Bool Misfit
second_check image writes spans a bits older =
    and_then (half_check image writes spans.second spans.since a (sum_of 64 a.pc 2) (second_half bits))
    (λ second. Ok (older || second))

-- what follows the first halfword: the second one where the instruction has 32 bits
abbrev pub rest_check : List ℕ → List Write → FetchSpans → Arch → (bits : ℕ) → (older : Bool) → Result Bool Misfit
rest_check image writes spans a bits older =
    if bits % 4 == 3 then second_check image writes spans a bits older else Ok older

-- the instruction at the pc: whether any of its halfwords comes by an older translation or from older memory
abbrev pub fetch_check : List ℕ → List Write → FetchSpans → Arch → (bits : ℕ) → Result Bool Misfit
fetch_check image writes spans a bits =
    and_then (half_check image writes spans.first spans.since a a.pc (first_half bits))
    (rest_check image writes spans a bits)

-- the spans end within so many writes
pub record SpansEndWithin (spans : FetchSpans) (count : ℕ) : Type 0 where
  pub first : spans.first.last ≤ count
  pub second : spans.second.last ≤ count
  pub since : spans.since.last ≤ count

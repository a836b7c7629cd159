use Rattle.std.specs.Prelude.{ℕ, ◌≡◌, Bool, List, take}
use Rattle.dt_record.specs.declared.writes.Write.{Write}
use Rattle.dt_step.specs.declared.state.Arch.{Arch}
use Rattle.dt_versions.specs.declared.moments.Span.{Span}
use Rattle.dt_walk.specs.declared.arguments.WalkArgs.{WalkArgs}
use Rattle.dt_checks.specs.declared.fetching.FetchSpans.{FetchSpans}
use Rattle.dt_checks.specs.Addresses.{address_check}
use Rattle.dt_checks.specs.Fetching.{fetch_check, half_check}
use Rattle.dt_checks.specs.Starting.{start_check}

-- Lists of writes that begin alike up to the ends of the spans give the same checks (this project's own).

abbrev pub SameHalves : Type 0
SameHalves = (image : List ℕ) (ws vs : List Write) (window since : Span) (a : Arch) (va half : ℕ)
    → take window.last ws ≡ take window.last vs → take since.last ws ≡ take since.last vs
    → half_check image ws window since a va half ≡ half_check image vs window since a va half

-- two lists begin alike up to the ends of the spans of a fetch
pub record BeginAlike (spans : FetchSpans) (ws vs : List Write) : Type 0 where
  pub first : take spans.first.last ws ≡ take spans.first.last vs
  pub second : take spans.second.last ws ≡ take spans.second.last vs
  pub since : take spans.since.last ws ≡ take spans.since.last vs

abbrev pub SameFetches : Type 0
SameFetches = (image : List ℕ) (ws vs : List Write) (spans : FetchSpans) (a : Arch) (bits : ℕ) → BeginAlike spans ws vs
    → fetch_check image ws spans a bits ≡ fetch_check image vs spans a bits

abbrev pub SameStarts : Type 0
SameStarts = (image : List ℕ) (ws vs : List Write) (spans : FetchSpans) (a : Arch) (pc bits tag : ℕ) → BeginAlike spans ws vs
    → start_check image ws spans a pc bits tag ≡ start_check image vs spans a pc bits tag

abbrev pub SameAddresses : Type 0
SameAddresses = (image : List ℕ) (ws vs : List Write) (window : Span) (args : WalkArgs) (ram_only : Bool) (paddr : ℕ)
    → take window.last ws ≡ take window.last vs
    → address_check image ws window args ram_only paddr ≡ address_check image vs window args ram_only paddr

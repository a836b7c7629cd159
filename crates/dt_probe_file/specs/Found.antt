-- What reading on comes to, by the bytes that are held then and those that the source has left (this
-- project's own).
use Rattle.std.specs.Prelude.{ℕ, ◌≡◌, Option, Some, IfSome, List, ◌++◌}
use Rattle.dt_record.specs.Answers.{Reading, header_fault, IsBroken}
use Rattle.dt_probe_file.specs.declared.headers.Heading.TheVariants as headings
use Rattle.dt_probe_file.specs.declared.fronts.Front.TheVariants as fronts
use Rattle.dt_probe_file.specs.declared.finding.Heard.{Heard}
use Rattle.dt_probe_file.specs.declared.finding.Heard.TheVariants as heard
use Rattle.dt_probe_file.specs.declared.finding.Found.{Found}
use Rattle.dt_probe_file.specs.declared.finding.Found.TheVariants as found
use Rattle.dt_probe_file.specs.Fronts.{IsFront}
use Rattle.dt_probe_file.specs.Headers.{IsHeading}

abbrev pub IsHeard : List ℕ → Option (List ℕ) → Heard → Type 0
IsHeard held left (heard.Whole version harts wide) = IsHeading held (headings.Whole version harts wide)
IsHeard held left (heard.Wrong field) = IfSome left (λ rest. header_fault (held ++ rest) ≡ Some field)
IsHeard held left heard.Failed = Unit {0}

abbrev pub IsFound : Reading → List ℕ → Option (List ℕ) → Found → Type 0
IsFound s held left (found.Event r len) = IsFront s held (fronts.Event r len)
IsFound s held left found.End = IsFront s held fronts.End
IsFound s held left found.Wrong = IfSome left (λ rest. IsBroken s (held ++ rest))
IsFound s held left found.Failed = Unit {0}

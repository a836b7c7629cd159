use Rattle.std.specs.Prelude.{ℕ, Option, List}
use Rattle.dt_alu.specs.Words.{sum_of}
use Rattle.dt_record.specs.declared.keys.Key.{Key}
use Rattle.dt_record.specs.declared.writes.Write.{Write}
use Rattle.dt_record.specs.Actions.{Action}
use Rattle.dt_step.specs.declared.state.Arch.{Arch}
use Rattle.dt_versions.specs.declared.moments.Span.{Span}
use Rattle.dt_windows.specs.Fences.{window_after, since_after}
use Rattle.dt_checks.specs.declared.fetching.FetchSpans.{FetchSpans}
use Rattle.dt_hart.specs.Fences.{fences_of}
use Rattle.dt_hart.specs.Reserving.{reserved_in}
use Rattle.dt_hart.specs.Settings.{Setting, arch_of, did}

-- What a next record is judged on (this project's own): the image and all writes; the reference's state; what the hart
-- did before, and the moments at which its loads read; its reservation; the moments that the fetch of an instruction may
-- come from; and those whose translation of an address may be used.
pub record Grounds : Type 0 where
  pub image : List ℕ
  pub writes : List Write
  pub arch : Arch
  pub actions : List Action
  pub moments : ℕ → ℕ
  pub reserved : Option (ℕ × Key)
  pub fetch : FetchSpans
  pub window : ℕ → Span

-- the moments whose translation of an address a record with this key may use
abbrev pub window_of : Setting → Key → ℕ → Span
window_of s key va = window_after s.writes key (fences_of s) va

-- the moments for the halves of the instruction at the pc
abbrev pub fetch_spans : Setting → Key → FetchSpans
fetch_spans s key = record {
  first = window_of s key (arch_of s).pc;
  second = window_of s key (sum_of 64 (arch_of s).pc 2);
  since = since_after s.writes key (fences_of s);
}

-- those that a setting gives for a record with this key
abbrev pub grounds_of : Setting → Key → Grounds
grounds_of s key = record {
  image = s.image;
  writes = s.writes;
  arch = arch_of s;
  actions = did s;
  moments = s.moments;
  reserved = reserved_in s.before;
  fetch = fetch_spans s key;
  window = window_of s key;
}

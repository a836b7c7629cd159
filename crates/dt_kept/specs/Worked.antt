-- Examples of cuts and traces that the definitions compute (this project's own): a hart retires jal x0,0 every 5000 cycles, and
-- gives a wrong value in cycle 25000; the cuts are the multiples of 10000.
use Rattle.std.specs.Prelude.{ℕ, ◌≡◌, List, [], ◌∷◌, length, refl}
use Rattle.dt_record.specs.declared.keys.Key.{Key}
use Rattle.dt_record.specs.declared.records.Record.{Record}
use Rattle.dt_record.specs.declared.records.Body.TheVariants.{Commit}
use Rattle.dt_snapshot.specs.Cuts.{newer_cut, older_cut}
use Rattle.dt_kept.specs.declared.traces.Traced.{Traced}
use Rattle.dt_kept.specs.Cutting.{records_before}
use Rattle.dt_kept.specs.Traces.{trace_of}

abbrev jump : (stamp value : ℕ) → Record
jump stamp value = record { stamp = stamp; hart = 0; body = Commit (record { pc = 0x8000_0000; bits = 0x6f; value = value }) }

abbrev jumps : List Record
jumps = jump 0 0 ∷ jump 5000 0 ∷ jump 10000 0 ∷ jump 15000 0 ∷ jump 20000 0 ∷ jump 25000 1 ∷ []

abbrev key : (stamp seq : ℕ) → Key
key stamp seq = record { stamp = stamp; hart = 0; seq = seq }

abbrev traced : (seq : ℕ) → Record → Traced
traced seq r = record { seq = seq; event = r }

pub newer_of_a_failure : newer_cut 10000 25000 ≡ 20000
newer_of_a_failure = refl

pub older_of_a_failure : older_cut 10000 25000 ≡ 10000
older_of_a_failure = refl

-- two records come before the older cut
pub before_the_older : length (records_before 10000 jumps) ≡ 2
before_the_older = refl

-- the trace has the four others, the failing one too
pub trace_of_a_failure : trace_of 10000 (key 25000 5) jumps
    ≡ traced 2 (jump 10000 0) ∷ traced 3 (jump 15000 0) ∷ traced 4 (jump 20000 0) ∷ traced 5 (jump 25000 1) ∷ []
trace_of_a_failure = refl

-- a failure in the first interval has the cut 0 alone
pub newer_of_an_early_failure : newer_cut 10000 500 ≡ 0
newer_of_an_early_failure = refl

pub older_of_an_early_failure : older_cut 10000 500 ≡ 0
older_of_an_early_failure = refl

pub trace_of_an_early_failure : trace_of 0 (key 500 0) (jump 500 1 ∷ []) ≡ traced 0 (jump 500 1) ∷ []
trace_of_an_early_failure = refl

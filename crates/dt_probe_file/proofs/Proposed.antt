-- At most one record stands at the front of bytes: the one that its version's spelling proposes.
use Rattle.std.proofs.Common.{◌≡◌, ℕ, ◌≤◌, List, ◌++◌, get_or, sym, ap, ◌∙◌}
use Rattle.dt_record.specs.declared.records.Record.{Record}
use Rattle.dt_record.specs.Spelling.{Version, One, Two, short_bytes}
use Rattle.dt_record.specs.Answers.{Reading, GoesOn}
use Rattle.dt_record_bytes.specs.WideReading.{Proposal, proposal}
use Rattle.dt_record_bytes.proofs.WideProposing.{wide_proposed}
use Rattle.dt_short_bytes.specs.ShortFronts.{short_proposal}
use Rattle.dt_short_bytes.proofs.ShortProposing.{short_proposed}
use Rattle.dt_probe_file.specs.Computing.{proposed}
use Rattle.dt_probe_file.specs.Fronts.{IsNotBelow, IsRead}

pub second_of : (last : ℕ) (bytes : List ℕ) (r : Record) (rest : List ℕ) → bytes ≡ short_bytes last r ++ rest → get_or bytes 1 0 ≡ r.hart
unfolding short_bytes
second_of last bytes r rest e = ap (λ (z : List ℕ). get_or z 1 0) e

pub is_proposed : (v : Version) (last : ℕ → ℕ) (bytes : List ℕ) (r : Record) (rest : List ℕ) → IsRead v last bytes r rest → proposed v last bytes ≡ proposal r rest
unfolding proposed
is_proposed One last bytes r rest is = wide_proposed bytes r rest (record { fits = is.fits; lawful = is.lawful; spelled = is.spelled })
is_proposed Two last bytes r rest is =
    ap (λ (hart : ℕ). short_proposal (last hart) bytes) (second_of (last r.hart) bytes r rest is.spelled)
    ∙ short_proposed (last r.hart) bytes r rest
    (record { follows = record { fits = is.fits; lawful = is.lawful; stamp = is.not_below }; spelled = is.spelled })

-- at most one record stands at the front
pub reads_are_one : (v : Version) (last : ℕ → ℕ) (bytes : List ℕ) (r q : Record) (x y : List ℕ) → IsRead v last bytes r x → IsRead v last bytes q y → (r ≡ q) × (x ≡ y)
reads_are_one v last bytes r q x y a b =
    let same : proposal r x ≡ proposal q y = sym (is_proposed v last bytes r x a) ∙ is_proposed v last bytes q y b in
    (ap (λ (p : Proposal). p.0) same, ap (λ (p : Proposal). p.1) same)

not_below_of : (v : Version) (last stamp : ℕ) → last ≤ stamp → IsNotBelow v last stamp
not_below_of One last stamp le = tt
not_below_of Two last stamp le = le

-- a record that may stand at the front is read there
pub read_of_next : (s : Reading) (bytes : List ℕ) (r : Record) (rest : List ℕ) → GoesOn s bytes r rest → IsRead s.version s.last bytes r rest
read_of_next s bytes r rest goes = record {
  fits = goes.next.fits;
  lawful = goes.next.lawful;
  not_below = not_below_of s.version (s.last r.hart) r.stamp goes.next.stamp;
  spelled = goes.spelled;
}

pub goes_one : (s : Reading) (bytes : List ℕ) (r q : Record) (x y : List ℕ) → GoesOn s bytes r x → GoesOn s bytes q y → (r ≡ q) × (x ≡ y)
goes_one s bytes r q x y a b = reads_are_one s.version s.last bytes r q x y (read_of_next s bytes r x a) (read_of_next s bytes q y b)

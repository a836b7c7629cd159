-- Which record of version 1, if any, some bytes begin with: one is proposed, and no other may stand there.
use Rattle.std.proofs.Common.{◌≡◌, ℕ, List, ◌++◌, sym, ap, ◌∙◌}
use Rattle.dt_record.specs.declared.records.Record.{Record}
use Rattle.dt_record_bytes.specs.WideAnswer.{IsSpelled}
use Rattle.dt_record_bytes.specs.WideReading.{read_fields, of_whole, proposal, wide_proposal}
use Rattle.dt_record_bytes.proofs.Apart.{fields_again}
use Rattle.dt_record_bytes.proofs.Bounds.{wrote_byte_of, wrote_byte_is, same_bytes}

-- if any record is spelled at the front, it is the one that is proposed
pub wide_proposed : (bytes : List ℕ) (r : Record) (rest : List ℕ) → IsSpelled bytes r rest → wide_proposal bytes ≡ proposal r rest
unfolding wide_proposal of_whole
wide_proposed bytes r rest is =
    let spelled = is.spelled ∙ ap (λ (z : List ℕ). z ++ rest) (sym (same_bytes r)) in
    ap of_whole (ap read_fields spelled ∙ fields_again r (wrote_byte_of r.body) rest is.fits (wrote_byte_is r.body))

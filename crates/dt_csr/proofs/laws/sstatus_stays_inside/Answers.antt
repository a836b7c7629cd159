use Rattle.std.proofs.Common.{arith, refl}
use Rattle.std.specs.Int.{w64, bit_not}
use Rattle.dt_csr.specs.Fields.{masks_of}
use Rattle.dt_csr.specs.Registers.{supervisor_fields}
use Rattle.dt_csr.proofs.Bits.{merged_outside}
use Rattle.dt_csr.proofs.laws.sstatus_stays_inside.Goals as goal

pub returns-clause-outside : goal.returns-clause-outside
returns-clause-outside c = λ d value.
    merged_outside (bit_not w64 (masks_of supervisor_fields)) (masks_of supervisor_fields) d.mstatus value (omega arith) (omega arith) refl

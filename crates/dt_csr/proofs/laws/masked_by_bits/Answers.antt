use Rattle.dt_csr.proofs.Bits.{masked_bit}
use Rattle.dt_csr.proofs.laws.masked_by_bits.Goals as goal

pub returns : goal.returns
returns c = masked_bit

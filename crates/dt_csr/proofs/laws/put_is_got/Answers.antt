use Rattle.dt_csr.proofs.Bits.{field_put}
use Rattle.dt_csr.proofs.laws.put_is_got.Goals as goal

pub returns : goal.returns
returns c = λ register value field inside fits. field_put register field value inside fits

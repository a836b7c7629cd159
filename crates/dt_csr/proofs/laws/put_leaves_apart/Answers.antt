use Rattle.dt_csr.proofs.Bits.{field_apart}
use Rattle.dt_csr.proofs.laws.put_leaves_apart.Goals as goal

pub returns : goal.returns
returns c = λ register value field other inside within apart. field_apart register field other value inside within apart

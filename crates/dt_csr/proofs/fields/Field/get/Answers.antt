use Rattle.dt_csr.proofs.Bits.{field_read}
use Rattle.dt_csr.proofs.fields.Field.get.Goals as goal

pub returns : goal.returns
returns c = field_read c.args.register c.args.self.low c.args.self.width c.requires.width

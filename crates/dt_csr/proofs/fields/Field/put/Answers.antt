use Rattle.std.proofs.Common.{arith}
use Rattle.std.proofs.lemmas.Nat.{shl_whole}
use Rattle.dt_csr.proofs.Bits.{field_mask}
use Rattle.dt_csr.proofs.fields.Field.put.Goals as goal

pub returns : goal.returns
returns c =
    rw (field_mask c.args.self.low c.args.self.width c.requires.width c.requires.inside, shl_whole c.args.value c.args.self.width c.args.self.low 64 c.requires.fits (omega arith)) at c.masked.ensures

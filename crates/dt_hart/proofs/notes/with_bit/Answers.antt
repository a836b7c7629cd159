use Rattle.dt_hart.proofs.Bits.{written_bit}
use Rattle.dt_hart.proofs.notes.with_bit.Goals as goal

pub returns-in-Write : goal.returns-in-Write
returns-in-Write c = λ at. written_bit c.args.mask c.args.place at c.args.source c.in-Write.field-0 c.requires c.in-Write.is

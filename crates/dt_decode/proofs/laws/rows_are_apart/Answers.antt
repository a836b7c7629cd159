use Rattle.std.proofs.Common.{refl}
use Rattle.dt_decode.specs.Table.{table}
use Rattle.dt_decode.proofs.RowLemmas.{one_row}
use Rattle.dt_decode.proofs.laws.rows_are_apart.Goals as goal

pub returns : goal.returns
returns c = λ bits i j r s. one_row table bits i j r s refl

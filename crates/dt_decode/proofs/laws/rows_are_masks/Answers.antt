use Rattle.std.proofs.Common.{refl}
use Rattle.dt_decode.specs.Table.{table}
use Rattle.dt_decode.proofs.MaskLemmas.{row_mask}
use Rattle.dt_decode.proofs.laws.rows_are_masks.Goals as goal

pub returns : goal.returns
returns c = λ bits i r e. row_mask table bits i r refl e

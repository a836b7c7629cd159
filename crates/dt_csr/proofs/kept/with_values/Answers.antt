use Rattle.dt_csr.proofs.Listed.{all_elements}
use Rattle.dt_csr.proofs.kept.with_values.Goals as goal

pub returns : goal.returns
returns c = all_elements c.args.v.now c.told-v

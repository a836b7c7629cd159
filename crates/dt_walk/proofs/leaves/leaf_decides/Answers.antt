use Rattle.dt_walk.proofs.ByLeaf.{decided, walk_of-keeps}
use Rattle.dt_walk.proofs.leaves.leaf_decides.Goals as goal

pub returns : goal.returns
returns c = record { decides = decided; offset = walk_of-keeps }

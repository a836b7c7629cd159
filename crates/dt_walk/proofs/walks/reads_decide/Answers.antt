use Rattle.dt_walk.proofs.Dependence.{same_walk, same_reads, reads_of-lie}
use Rattle.dt_walk.proofs.walks.reads_decide.Goals as goal

pub returns : goal.returns
returns c = record { same_answer = same_walk; same_reads = same_reads; lie_in_ram = reads_of-lie }

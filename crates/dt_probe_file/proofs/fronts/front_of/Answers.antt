use Rattle.dt_probe_file.specs.Fronts.{reading_of}
use Rattle.dt_probe_file.proofs.Deciding.{begun_of_empty, front_of_end, empty_of, tag_of}
use Rattle.dt_probe_file.proofs.fronts.front_of.Goals as goal

pub returns-then-is_empty : goal.returns-then-is_empty
returns-then-is_empty c = begun_of_empty (reading_of c.args.opened.now) c.args.bytes.now (empty_of c.args.bytes.now c.if-is_empty.ensures)

pub returns-then-bytes : goal.returns-then-bytes
returns-then-bytes c = front_of_end (reading_of c.args.opened.now) c.args.bytes.now (tag_of c.args.bytes.now c.if-bytes.true) c.end_front.result c.end_front.ensures

use Rattle.std.proofs.Common.{refl, ap, ◌∙◌, Option, Some, None}
use Rattle.std.specs.Prelude.{if◌then◌else◌}
use Rattle.dt_local.specs.LocalMemory.{LocalMemory, newest_of, is_noted, greater}
use Rattle.dt_record.specs.declared.keys.Key.{Key}
use Rattle.dt_hart.proofs.AccessLaws.{drain_counts, drain_gains, noted_same}
use Rattle.dt_hart.proofs.MarksOn.{drain_marks, notes_marks}
use Rattle.dt_hart.proofs.accesses.Accesses.take_drain.Goals as goal

pub returns : goal.returns
returns c = record {
  stores = drain_gains c.drain.result c.args.self.now.stores c.drain.new.self c.args.key c.args.line c.args.count c.in_default.not-OutOfMemory c.drain.ensures.answer c.drain.ensures.took;
  counted = drain_counts c.drains_stay_below.ensures c.drain.result c.args.self.now.stores c.drain.new.self c.args.key c.args.line c.args.count c.drain.ensures.took c.drain.ensures.refused;
  noted = λ byte.
      c.note.ensures.noted byte
      ∙ ap (λ (o : Option Key). greater (newest_of c.reserve.new.self byte) o) (noted_same c.args.line c.args.mask c.args.key byte)
      ∙ ap (λ (l : LocalMemory). greater (newest_of l byte) (if is_noted c.args.line c.args.mask byte then Some c.args.key else None)) c.in_ok-reserve.ensures.reserved;
  floor = refl;
  last_read = refl;
  marks = record {
    stores = drain_marks c.drain.result c.args.self.now.stores c.drain.new.self c.drain.ensures.marks c.drain.ensures.refused;
    local = notes_marks c.args.self.now.local c.reserve.new.self c.note.new.self _ c.in_ok-reserve.ensures.reserved c.note.ensures.marks;
  };
  unchanged = tt;
}

use Rattle.std.proofs.Common.{◌≡◌, ◌≤◌, ◌-◌, length, take}
use Rattle.dt_source.specs.Known.{Appends}
use Rattle.dt_source.proofs.whole.write_all.Given as goal

-- the front of the text was appended
abbrev pub invariant-loop-at : goal.invariant-loop-at
invariant-loop-at g l =
    let written = g.O.Sink.written in
    record {
      within : l.at ≤ length l.text;
      appended : Appends (written l.fn.sink) (take l.at l.text) (written l.sink);
      quiet : g.O.Sink.faults l.sink ≡ g.O.Sink.faults l.fn.sink;
    }

abbrev pub decreases-loop-at : goal.decreases-loop-at
decreases-loop-at g l = length l.text - l.at

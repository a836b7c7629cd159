use Rattle.std.proofs.Common.{◌≡◌, ◌+◌, IsTrue, take}
use Rattle.dt_versions.specs.History.{are_in_order}
use Rattle.dt_settled.specs.Waiting.{waiting_after}
use Rattle.dt_settled.proofs.settling.take_in.Given as goal

-- the notes so far are taken
abbrev pub invariant-loop-note : goal.invariant-loop-note
invariant-loop-note l = record {
  seen : l.seen ≡ l.fn.seen + l.note-index;
  taken : l.waiting ≡ waiting_after l.fn.waiting (take l.note-index l.more);
  in_order : IsTrue (are_in_order l.fn.waiting) → IsTrue (are_in_order l.waiting);
}

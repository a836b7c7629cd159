use Rattle.std.proofs.Common.{◌≡◌, ℕ, Some, length, take}
use Rattle.std.specs.List.{slice_get}
use Rattle.dt_record.specs.declared.keys.Key.{Key}
use Rattle.dt_hart.specs.Following.{read_key}
use Rattle.dt_hart.proofs.notes.keys_of.Given as goal

-- the keys of the writes among the sources so far stand in their places
abbrev pub invariant-loop-i : goal.invariant-loop-i
invariant-loop-i l = record {
  long : length l.keys ≡ 64;
  done : (at : ℕ) (key : Key) → read_key l.place (take l.i l.from) at ≡ Some key → slice_get l.keys at ≡ Some key;
}

use Rattle.std.proofs.Common.{◌≡◌, ℕ, ◌+◌, ◌<◌, Some, slice_get, vec_len, vec_capacity}
use Rattle.dt_shared.specs.Views.{newcomer}
use Rattle.dt_shared.specs.Turns.{Rests}
use Rattle.dt_shared.specs.Passes.{new_pass}
use Rattle.dt_shared.proofs.gathers.cut_passes.Given as goal

-- the passes from 1 on were cut so far, and the first knows how many
abbrev pub invariant-loop-number : goal.invariant-loop-number
invariant-loop-number l = record {
  table : l.first.table_id ≡ l.initial.first.table_id;
  first : Rests (newcomer 0) l.number l.first.me;
  count : vec_len l.cut + 1 ≡ l.number;
  room : vec_capacity l.cut ≡ l.passes;
  cut : (n : ℕ) → n + 1 < l.number → slice_get l.cut.items n ≡ Some (new_pass l.board.table_id (n + 1));
}

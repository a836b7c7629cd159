use Rattle.std.proofs.Common.{◌≡◌, ℕ, List, [], ◌++◌, All, map, vec_len}
use Rattle.dt_shared.specs.declared.views.Known.{Known}
use Rattle.dt_shared.specs.Views.{at_rest}
use Rattle.dt_shared.specs.Passes.{pass_state}
use Rattle.dt_shared.proofs.gathers.gather.Given as goal

-- the passes left, and then those in the seat, are all passes
abbrev pub invariant-loop-pass : goal.invariant-loop-pass
invariant-loop-pass l = record {
  table : l.seat.table_id ≡ l.board.table_id;
  own : All (λ p. p.of ≡ l.board.table_id) l.passes.items;
  all : (ks : List Known) × (made : ℕ) × (l.passes.items ++ map (pass_state l.board.table_id) ks ≡ l.fn.passes.items) × (l.seat.me ≡ (at_rest ks made, []));
}

abbrev pub decreases-loop-pass : goal.decreases-loop-pass
decreases-loop-pass l = vec_len l.passes

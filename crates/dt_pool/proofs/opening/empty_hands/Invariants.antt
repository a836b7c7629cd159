use Rattle.std.specs.Prelude.{◌≡◌, [], All, vec_len}
use Rattle.dt_pool.proofs.opening.empty_hands.Given as goal

abbrev pub invariant-loop : goal.invariant-loop
invariant-loop l = (vec_len l.hands ≡ l.counter) × All (λ hand. hand.items ≡ []) l.hands.items

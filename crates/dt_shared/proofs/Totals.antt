-- Numbers added up over the views of all seats, and facts about each view, after a step of one seat.
use Rattle.std.proofs.Common.{◌≡◌, ◌≢◌, ℕ, zero, suc, ◌+◌, ◌<◌, ◌≤◌, Bool, true, false, List, [], ◌∷◌, ◌++◌, All, Any, set, length, sym, refl, ap, subst, ⊎_elim, arith}
use Rattle.std.proofs.lemmas.List.Elements.{All-cons, All-nil}
use Rattle.std.proofs.lemmas.Bool.Decides.{nat_tests}
use mathlib.Core.Option.{some, some-injective, some-ne-none}
use lib.ListN.{get_elem?}
use Rattle.atomic_table.proofs.Lists.{at_set, at_snoc}
use Rattle.dt_shared.specs.declared.views.Known.{Known}
use Rattle.dt_shared.specs.declared.views.View.{View}
use Rattle.dt_shared.specs.Views.{EachView, one_if, total, tally, is_numbered}

-- a fact about each view after one view was changed
pub each_set : (P : View → Type 0) (views : List View) (id : ℕ) (w : View) → P w → ((seat : ℕ) (v : View) → seat ≢ id → get_elem? views seat ≡ some v → P v) → EachView (set views id w) P
each_set P views id w mine others seat v at =
    ⊎_elim (λ (t : (seat ≡ id) × (w ≡ v)). subst P t.1 mine) (λ (t : (seat ≢ id) × (get_elem? views seat ≡ some v)). others seat v t.0 t.1) (at_set views id seat w v at)

-- and after a view was added
pub each_more : (P : View → Type 0) (views : List View) (w : View) → EachView views P → P w → EachView (views ++ w ∷ []) P
each_more P views w each mine seat v at = ⊎_elim (λ (old : get_elem? views seat ≡ some v). each seat v old) (λ (new : w ≡ v). subst P new mine) (at_snoc views w v seat at)

pub at_inside : (views : List View) (id : ℕ) (v : View) → get_elem? views id ≡ some v → id < length views
at_inside [] id v at = absurd (some-ne-none v (sym at))
at_inside (u ∷ us) zero v at = omega arith
at_inside (u ∷ us) (suc id) v at = let h = at_inside us id v at in omega arith

pub total_set : (f : View → ℕ) (views : List View) (id : ℕ) (v w : View) → get_elem? views id ≡ some v → total f (set views id w) + f v ≡ total f views + f w
total_set f [] id v w at = absurd (some-ne-none v (sym at))
total_set f (u ∷ us) zero v w at = let e : f u ≡ f v = ap f (some-injective u v at) in omega arith
total_set f (u ∷ us) (suc id) v w at = let h = total_set f us id v w at in omega arith

-- a change that leaves the number of the view leaves the total
pub total_same : (f : View → ℕ) (views : List View) (id : ℕ) (v w : View) → get_elem? views id ≡ some v → f v ≡ f w → total f (set views id w) ≡ total f views
total_same f views id v w at e = let h = total_set f views id v w at in omega arith

pub total_more : (f : View → ℕ) (views : List View) (w : View) → total f (views ++ w ∷ []) ≡ total f views + f w
total_more f [] w = omega arith
total_more f (u ∷ us) w = let h = total_more f us w in omega arith

pub total_part : (f : View → ℕ) (views : List View) (id : ℕ) (v : View) → get_elem? views id ≡ some v → f v ≤ total f views
total_part f [] id v at = absurd (some-ne-none v (sym at))
total_part f (u ∷ us) zero v at = let e : f u ≡ f v = ap f (some-injective u v at) in omega arith
total_part f (u ∷ us) (suc id) v at = let h = total_part f us id v at in omega arith

-- two seats have no more than all seats
pub total_parts : (f : View → ℕ) (views : List View) (i j : ℕ) (v w : View) → i ≢ j → get_elem? views i ≡ some v → get_elem? views j ≡ some w → f v + f w ≤ total f views
total_parts f [] i j v w ne at there = absurd (some-ne-none v (sym at))
total_parts f (u ∷ us) zero zero v w ne at there = absurd (ne refl)
total_parts f (u ∷ us) zero (suc j) v w ne at there = let e : f u ≡ f v = ap f (some-injective u v at) in let h = total_part f us j w there in omega arith
total_parts f (u ∷ us) (suc i) zero v w ne at there = let e : f u ≡ f w = ap f (some-injective u w there) in let h = total_part f us i v at in omega arith
total_parts f (u ∷ us) (suc i) (suc j) v w ne at there = let h = total_parts f us i j v w (λ e. ne (ap suc e)) at there in omega arith

-- where each number is at most another, the totals are
pub total_below : (f g : View → ℕ) (views : List View) → EachView views (λ v. f v ≤ g v) → total f views ≤ total g views
total_below f g [] each = omega arith
total_below f g (u ∷ us) each = let here : f u ≤ g u = each 0 u refl in let h = total_below f g us (λ seat v at. each (suc seat) v at) in omega arith

-- where all other numbers are 0, the total is that of one seat
pub total_only : (f : View → ℕ) (views : List View) (id : ℕ) (v : View) → get_elem? views id ≡ some v → ((seat : ℕ) (u : View) → seat ≢ id → get_elem? views seat ≡ some u → f u ≡ 0) → total f views ≡ f v
total_only f [] id v at none-else = absurd (some-ne-none v (sym at))
total_only f (u ∷ us) zero v at none-else =
    let e : f u ≡ f v = ap f (some-injective u v at) in let h = total_below f (λ _. 0) us (λ seat w there. let z : f w ≡ 0 = none-else (suc seat) w (λ e. omega arith) there in omega arith) in
    let z = total_zero us in omega arith
  where
    total_zero : (vs : List View) → total (λ _. 0) vs ≡ 0
    total_zero [] = refl
    total_zero (w ∷ ws) = let h = total_zero ws in omega arith
total_only f (u ∷ us) (suc id) v at none-else = let z : f u ≡ 0 = none-else 0 u (λ e. omega arith) refl in let h = total_only f us id v at (λ seat w ne there. none-else (suc seat) w (λ e. ne (omega arith)) there) in omega arith

pub tally-append : (f : Known → ℕ) (ks ls : List Known) → tally f (ks ++ ls) ≡ tally f ks + tally f ls
tally-append f [] ls = omega arith
tally-append f (k ∷ ks) ls = let h = tally-append f ks ls in omega arith

pub tally_count : (ks : List Known) → tally (λ _. 1) ks ≡ length ks
tally_count [] = refl
tally_count (k ∷ ks) = let h = tally_count ks in omega arith

-- where a number is counted nowhere, no pass has it
pub none_numbered : (n : ℕ) (ks : List Known) → tally (is_numbered n) ks ≡ 0 → All (λ k. k.number ≢ n) ks
none_numbered n [] z = All-nil (λ k. k.number ≢ n)
none_numbered n (k ∷ ks) z = All-cons (λ l. l.number ≢ n) k ks (λ e. absurd (grind (arith, nat_tests))) (none_numbered n ks (omega arith))

-- where some pass is counted, there is one
pub some_counted : (test : Known → Bool) (ks : List Known) → 0 < tally (λ k. one_if (test k)) ks → Any (λ k. test k ≡ true) ks
some_counted test [] counted = absurd (omega arith)
some_counted test (k ∷ ks) counted = here (test k) refl (some_counted test ks)
  where
    here : (b : Bool) → test k ≡ b → (0 < tally (λ l. one_if (test l)) ks → Any (λ l. test l ≡ true) ks) → Any (λ l. test l ≡ true) (k ∷ ks)
    here true is later = (0, k, omega arith, refl, is)
    here false is later = let not-here : one_if (test k) ≡ 0 = ap one_if is in let more = later (omega arith) in let inside = more.2 in (suc more.0, more.1, omega arith, more.3, more.4)

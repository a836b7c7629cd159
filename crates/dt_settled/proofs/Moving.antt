use Rattle.std.proofs.Common.{◌≡◌, ℕ, true, Option, Some, None, List, [], ◌∷◌, ◌++◌, drop, refl, sym, ap, ◌∙◌, subst, inl, inr}
use Rattle.std.specs.List.{list_all}
use Rattle.std.proofs.lemmas.Bool.{and_from, cases_Bool, cond-true, cond-false}
use Rattle.std.proofs.lemmas.List.{append_assoc}
use Rattle.std.proofs.lemmas.List.Folds.{list_all-append}
use mathlib.Core.List.{IsPrefix}
use Rattle.dt_record.specs.declared.writes.Write.{Write}
use Rattle.dt_versions.specs.History.{History, history, IsKept, CanAdd}
use Rattle.dt_settled.specs.Settling.{first_below, Adds, AddsAll, Moves}
use Rattle.dt_settled.proofs.Orders.{is_early, IsKept-front, CanAdd-last}

-- One write after another moves from the waiting ones to the settled ones.

prefix-chain : (xs ys zs : List Write) → IsPrefix xs ys → IsPrefix ys zs → IsPrefix xs zs
prefix-chain xs ys zs first second =
    (first.0 ++ second.0, sym (append_assoc xs first.0 second.0) ∙ ap (λ ws. ws ++ second.0) first.1 ∙ second.1)

-- where all of them can be held, so can those that moved before, and the next one can be added
held-next : (w : Write) (old mid new : History) (moved : List Write) → Adds w mid new
    → (IsKept (history old.image (old.writes ++ moved)) → mid ≡ history old.image (old.writes ++ moved))
    → IsKept (history old.image (old.writes ++ (moved ++ w ∷ []))) → new ≡ history old.image (old.writes ++ (moved ++ w ∷ []))
held-next w old mid new moved adds held kept =
    let writes = old.writes ++ moved in
    let joined = append_assoc old.writes moved (w ∷ []) in
    let whole = subst (λ (ws : List Write). IsKept (history old.image ws)) (sym joined) kept in
    let is = held (IsKept-front old.image writes (w ∷ []) whole) in
    let can = subst (λ (h : History). CanAdd h w) (sym is) (CanAdd-last old.image writes w whole) in
    adds.added can ∙ ap (λ (h : History). history h.image (h.writes ++ w ∷ [])) is ∙ ap (history old.image) joined

-- one more write comes to memory
adds-next : (w : Write) (old mid new : History) (moved : List Write) → AddsAll moved old mid → Adds w mid new → AddsAll (moved ++ w ∷ []) old new
adds-next w old mid new [] same adds = (new, subst (λ (h : History). Adds w h new) same adds, refl)
adds-next w old mid new (v ∷ vs) (first, one, rest) adds = (first, one, adds-next w first mid new vs rest adds)

moves : (least : Option ℕ) (w : Write) (rest : List Write) (old mid new : History) (waited : List Write)
    → is_early least w ≡ true → Adds w mid new → Moves least old waited mid (w ∷ rest) → Moves least old waited new rest
moves least w rest old mid new waited early adds before = record {
  moved = before.moved ++ w ∷ [];
  left = before.left ∙ sym (append_assoc before.moved (w ∷ []) rest);
  below = list_all-append (is_early least) before.moved (w ∷ []) ∙ and_from (list_all (is_early least) before.moved) _ before.below (and_from (is_early least w) true early refl);
  image = adds.image ∙ before.image;
  grows = prefix-chain old.writes mid.writes new.writes before.grows adds.grows;
  added = held-next w old mid new before.moved adds before.added;
  one_by_one = adds-next w old mid new before.moved before.one_by_one adds;
}

pub Moves-next : (least : Option ℕ) (w : Write) (waiting : List Write) (old mid new : History) (waited : List Write)
    → first_below least waiting ≡ Some w → Adds w mid new → Moves least old waited mid waiting → Moves least old waited new (drop 1 waiting)
Moves-next least w [] old mid new waited first adds before = absurd (let never : ⊥ = cc in never)
Moves-next least w (v ∷ vs) old mid new waited first adds before = elim (cases_Bool (is_early least v)) [
  | inl early ↦
      let found : Some v ≡ Some w = sym (cond-true (is_early least v) (Some v) None early) ∙ first in
      let same : w ≡ v = cc in
      moves least v vs old mid new waited early (subst (λ (u : Write). Adds u mid new) same adds) before
  | inr late ↦
      let bad : None ≡ Some w = sym (cond-false (is_early least v) (Some v) None late) ∙ first in
      absurd (let never : ⊥ = cc in never)
]

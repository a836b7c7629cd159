use Rattle.std.proofs.Common.{ℕ, ◌≡◌, ◌-◌, ◌<◌, Bool, true, List, ◌++◌, length, get_or, take, drop, filter, sym, ap, ◌∙◌, inl, inr, arith}
use Rattle.std.specs.List.{list_all}
use Rattle.std.proofs.lemmas.Bool.{cases_lt}
use Rattle.std.proofs.lemmas.List.{get_or-take, length-take, take-append-drop, append-nil}
use Rattle.std.proofs.lemmas.List.Elements.{filter-append}
use Rattle.dt_lists.proofs.Lists.{filter-all, filter-none}
use Rattle.dt_versions.proofs.Places.{list_all-from}
use Rattle.dt_versions.proofs.Seams.{low_end, at_low, unseen_between}

-- A filter that keeps a front of a list.

-- with an element, all before it pass too
pub record IsClosed {X : Type 0} (p : X → Bool) (xs : List X) : Type 0 where
  pub closed : (i j : ℕ) (d : X) → i < j → j < length xs → p (get_or xs j d) ≡ true → p (get_or xs i d) ≡ true

pub front_passes : {X : Type 0} (p : X → Bool) (xs : List X) (d : X) → IsClosed p xs → list_all p (take (low_end p xs) xs) ≡ true
front_passes p xs d closed = list_all-from p d (take (low_end p xs) xs) (λ i within.
    let inside : i < low_end p xs = omega (arith, length-take (low_end p xs) xs) in
    let top = at_low p xs d (omega arith) in
    ap p (get_or-take (low_end p xs) xs i d inside) ∙ (elim (cases_lt i (low_end p xs - 1)) [
      | inl before ↦ closed.closed i (low_end p xs - 1) d before (omega arith) top
      | inr last ↦ let same : i ≡ low_end p xs - 1 = omega arith in ap (λ k. p (get_or xs k d)) same ∙ top
    ]))

pub filter-closed : {X : Type 0} (p : X → Bool) (xs : List X) (d : X) → IsClosed p xs → filter p xs ≡ take (low_end p xs) xs
filter-closed p xs d closed =
    let n = low_end p xs in
    ap (filter p) (sym (take-append-drop n xs)) ∙ filter-append p (take n xs) (drop n xs)
    ∙ ap (λ ys. ys ++ filter p (drop n xs)) (filter-all p (take n xs) (front_passes p xs d closed))
    ∙ ap (λ ys. take n xs ++ ys) (filter-none p (drop n xs) (unseen_between p xs d n (omega arith)))
    ∙ append-nil (take n xs)

pub length-filter-closed : {X : Type 0} (p : X → Bool) (xs : List X) (d : X) → IsClosed p xs → length (filter p xs) ≡ low_end p xs
length-filter-closed p xs d closed = omega (arith, ap length (filter-closed p xs d closed), length-take (low_end p xs) xs)

use Rattle.std.proofs.Common.{◌≡◌, ℕ, zero, suc, ◌+◌, ◌<◌, ◌≤◌, Bool, true, false, not, List, [], ◌∷◌, length, get_or, filter, refl, sym, ap, ◌∙◌, subst, inl, inr, arith, suc-le-suc, zero-le}
use Rattle.std.specs.List.{list_all}
use Rattle.std.specs.List.Sorted.{ties, IsSortedByKey, IsStableBy, IsStableByKey}
use Rattle.std.specs.Ordering.{is_lt}
use Rattle.std.specs.Cmp.{IsStrictWeakOrder}
use Rattle.std.proofs.lemmas.Bool.{and_parts, and_from, cases_Bool, cond-true, cond-false, not-true, not_from_false}
use Rattle.std.proofs.lemmas.Bool.Decides.{nat_tests}
use Rattle.std.proofs.lemmas.List.Sorted.{sorted_far}
use Rattle.std.proofs.Math.Path.{fun_ext}
use Rattle.dt_record.proofs.KeyChains.{key_not_below-chain}
use Rattle.dt_lists.proofs.Lists.{list_all-filter}
use Rattle.dt_record.specs.declared.keys.Key.{Key}
use Rattle.dt_record.specs.Keys.{key_below}
use Rattle.dt_record.specs.contracts.keys.KeyOrd.TheImpl.{ghosts}
use Rattle.dt_record.proofs.KeyLaws.{key_below-itself, key_below-back}
use Rattle.dt_writes.specs.KeyOrder.{under, keys_rise}

-- Lists whose elements have keys that do not fall. Two of them that hold the same elements at each
-- key, in the same order, are one list.

not_below-back : (a b : Key) → key_below a b ≡ true → key_below b a ≡ false
not_below-back a b below = key_below-back a b below

under-order : {X : Type 0} (key : X → Key) → IsStrictWeakOrder (under key)
under-order key = record {
  one_way = λ x y below. not_below-back (key x) (key y) below;
  chain = λ x y z first second. key_not_below-chain (key x) (key y) (key z) first second;
}

ties-itself : {X : Type 0} (key : X → Key) (x : X) → ties (under key) x x ≡ true
ties-itself key x = and_from _ _ (not_from_false _ (key_below-itself (key x))) (not_from_false _ (key_below-itself (key x)))

filter-kept : {X : Type 0} (p : X → Bool) (y : X) (ys : List X) → p y ≡ true → filter p (y ∷ ys) ≡ y ∷ filter p ys
filter-kept p y ys passes = cond-true _ _ _ passes

filter-dropped : {X : Type 0} (p : X → Bool) (y : X) (ys : List X) → p y ≡ false → filter p (y ∷ ys) ≡ filter p ys
filter-dropped p y ys fails = cond-false _ _ _ fails

-- where an element has the key of x, and none stands before n, x does not either
found_not_before : {X : Type 0} (key : X → Key) (n x : X) (ys : List X) (w : X) (ws : List X)
    → list_all (λ y. not (under key y n)) ys ≡ true → filter (ties (under key) x) ys ≡ w ∷ ws → under key x n ≡ false
found_not_before key n x [] w ws high found = cc
found_not_before key n x (y ∷ ys) w ws high found =
    let parts = and_parts (not (under key y n)) (list_all (λ z. not (under key z n)) ys) high in
    elim (cases_Bool (ties (under key) x y)) [
      | inl with ↦
          let tied = and_parts (not (under key x y)) (not (under key y x)) with in
          key_not_below-chain (key x) (key y) (key n) (not-true _ tied.0) (not-true _ parts.0)
      | inr without ↦ found_not_before key n x ys w ws parts.1 (sym (filter-dropped (ties (under key) x) y ys without) ∙ found)
    ]

pub same_from_ties : {X : Type 0} (key : X → Key) (ys zs : List X) → keys_rise key ys ≡ true → keys_rise key zs ≡ true
    → ((x : X) → filter (ties (under key) x) ys ≡ filter (ties (under key) x) zs) → ys ≡ zs
same_from_ties key [] [] left right same = refl
same_from_ties key [] (z ∷ zs) left right same =
    let clash = same z ∙ filter-kept (ties (under key) z) z zs (ties-itself key z) in cc
same_from_ties key (y ∷ ys) [] left right same =
    let clash = sym (same y) ∙ filter-kept (ties (under key) y) y ys (ties-itself key y) in cc
same_from_ties key (y ∷ ys) (z ∷ zs) left right same =
    let tie = ties (under key) in
    let lefts = and_parts (list_all (λ x. not (under key x y)) ys) (keys_rise key ys) left in
    let rights = and_parts (list_all (λ x. not (under key x z)) zs) (keys_rise key zs) right in
    let at_y = filter-kept (tie y) y ys (ties-itself key y) in
    let at_z = filter-kept (tie z) z zs (ties-itself key z) in
    let up = found_not_before key z y (z ∷ zs) y _ (and_from _ _ (not_from_false _ (key_below-itself (key z))) rights.0) (sym (same y) ∙ at_y) in
    let down = found_not_before key y z (y ∷ ys) z _ (and_from _ _ (not_from_false _ (key_below-itself (key y))) lefts.0) (same z ∙ at_z) in
    let heads = sym at_y ∙ same y ∙ filter-kept (tie y) z zs (and_from _ _ (not_from_false _ up) (not_from_false _ down)) in
    let head : y ≡ z = cc in
    let tails : (x : _) → filter (tie x) ys ≡ filter (tie x) zs =
    λ x. elim (cases_Bool (tie x y)) [
      | inl with ↦
          let both = sym (filter-kept (tie x) y ys with) ∙ same x ∙ filter-kept (tie x) z zs (ap (tie x) (sym head) ∙ with) in cc
      | inr without ↦
          sym (filter-dropped (tie x) y ys without) ∙ same x ∙ filter-dropped (tie x) z zs (ap (tie x) (sym head) ∙ without)
    ] in
    ap (λ w. w ∷ ys) head ∙ ap (λ l. z ∷ l) (same_from_ties key ys zs lefts.1 rights.1 tails)

list_all_from_places : {X : Type 0} (p : X → Bool) (d : X) (xs : List X) → ((j : ℕ) → j < length xs → p (get_or xs j d) ≡ true) → list_all p xs ≡ true
list_all_from_places p d [] each = refl
list_all_from_places p d (x ∷ xs) each =
    and_from (p x) (list_all p xs) (each zero (suc-le-suc zero-le)) (list_all_from_places p d xs (λ j within. each (suc j) (suc-le-suc within)))

rises_from_far : {X : Type 0} (key : X → Key) (xs : List X)
    → ((i j : ℕ) (d : X) → i ≤ j → j < length xs → under key (get_or xs j d) (get_or xs i d) ≡ false) → keys_rise key xs ≡ true
rises_from_far key [] far = refl
rises_from_far key (x ∷ xs) far =
    and_from (list_all (λ y. not (under key y x)) xs) (keys_rise key xs)
    (list_all_from_places (λ y. not (under key y x)) x xs (λ j within. not_from_false _ (far zero (suc j) x zero-le (suc-le-suc within))))
    (rises_from_far key xs (λ i j d before within. far (suc i) (suc j) d (suc-le-suc before) (suc-le-suc within)))

-- the order that `Key` derives is that of the definition
pub cmp-below : (a b : Key) → is_lt (ghosts.cmp a b) ≡ key_below a b
cmp-below a b = grind (arith, nat_tests)

abbrev by_cmp : {X : Type 0} → (X → Key) → X → X → Bool
by_cmp key x y = is_lt (ghosts.cmp (key x) (key y))

by_cmp-under : {X : Type 0} (key : X → Key) → by_cmp key ≡ under key
by_cmp-under key = fun_ext (λ x. fun_ext (λ y. cmp-below (key x) (key y)))

-- what a stable sort by key gives
rises_from_sort : {X : Type 0} (key : X → Key) (xs : List X) → IsSortedByKey key ghosts.cmp xs → keys_rise key xs ≡ true
rises_from_sort key xs sorted =
    rises_from_far key xs (sorted_far (under key) (under-order key) xs (λ k d low within. sym (cmp-below (key (get_or xs (k + 1) d)) (key (get_or xs k d))) ∙ sorted k d low within))

stable_from_sort : {X : Type 0} (key : X → Key) (xs ys : List X) → IsStableByKey key ghosts.cmp xs ys → IsStableBy (under key) xs ys
stable_from_sort {X} key xs ys stable = subst (λ (lt : X → X → Bool). IsStableBy lt xs ys) (by_cmp-under key) stable

pub stable_sort_is_one : {X : Type 0} (key : X → Key) (given sorted ordered : List X)
    → IsSortedByKey key ghosts.cmp sorted → IsStableByKey key ghosts.cmp given sorted
    → keys_rise key ordered ≡ true → IsStableBy (under key) given ordered → sorted ≡ ordered
stable_sort_is_one key given sorted ordered up stable rise same =
    same_from_ties key sorted ordered (rises_from_sort key sorted up) rise (λ x. stable_from_sort key given sorted stable x ∙ sym (same x))

pub keys_rise-filter : {X : Type 0} (key : X → Key) (q : X → Bool) (xs : List X) → keys_rise key xs ≡ true → keys_rise key (filter q xs) ≡ true
keys_rise-filter key q [] rise = refl
keys_rise-filter key q (x ∷ xs) rise =
    let parts = and_parts (list_all (λ y. not (under key y x)) xs) (keys_rise key xs) rise in
    elim (cases_Bool (q x)) [
      | inl passes ↦
          ap (keys_rise key) (filter-kept q x xs passes)
          ∙ and_from (list_all (λ y. not (under key y x)) (filter q xs)) (keys_rise key (filter q xs))
          (list_all-filter (λ y. not (under key y x)) q xs parts.0) (keys_rise-filter key q xs parts.1)
      | inr fails ↦ ap (keys_rise key) (filter-dropped q x xs fails) ∙ keys_rise-filter key q xs parts.1
    ]

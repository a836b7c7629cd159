use Rattle.std.proofs.Common.{◌≡◌, ◌-◌, ◌≤◌, ◌⊎◌, Bool, false, suc, Some, None, List, [], ◌∷◌, ◌++◌, length, take, filter, refl, sym, ap, ◌∙◌, inl, inr, arith}
use Rattle.std.specs.List.{slice_get}
use Rattle.std.proofs.lemmas.Bool.{cases_Bool}
use Rattle.std.proofs.lemmas.List.{length-append, take_at, nil_from_length}
use mathlib.Core.List.{IsPrefix}
use Rattle.dt_lists.proofs.Lists.{filter-kept, filter-dropped, slice_get-past, not_last}

-- Lists in parts.

pub prefix-take : {X : Type 0} (xs ys : List X) → IsPrefix xs ys → take (length xs) ys ≡ xs
prefix-take xs ys is = ap (take (length xs)) (sym is.1) ∙ take_at xs is.0 (length xs) refl

pub prefix-length : {X : Type 0} (xs ys : List X) → IsPrefix xs ys → length xs ≤ length ys
prefix-length xs ys is =
    let whole : length (xs ++ is.0) ≡ length ys = ap length is.1 in
    omega (arith, length-append xs is.0)

-- the last element, and those before it
pub record EndsWith {X : Type 0} (xs : List X) (x : X) : Type 0 where
  pub first : List X
  pub split : xs ≡ first ++ x ∷ []

pub last-split : {X : Type 0} (xs : List X) (x : X) → slice_get xs (length xs - 1) ≡ Some x → EndsWith xs x
last-split [] x found = absurd (let never : ⊥ = cc in never)
last-split (y ∷ []) x found = record { first = []; split = let same : y ≡ x = cc in ap (λ z. z ∷ []) same }
last-split (y ∷ z ∷ zs) x found =
    let place : length (y ∷ z ∷ zs) - 1 ≡ suc (length (z ∷ zs) - 1) = omega arith in
    let rest = last-split (z ∷ zs) x (sym (ap (slice_get (y ∷ z ∷ zs)) place) ∙ found) in
    record { first = y ∷ rest.first; split = ap (λ l. y ∷ l) rest.split }

pub last-none : {X : Type 0} (xs : List X) → slice_get xs (length xs - 1) ≡ None → xs ≡ []
last-none xs none = let end = slice_get-past xs (length xs - 1) none in nil_from_length xs (omega arith)

-- an element of two lists, one behind the other, stands in the first or in the second
pub record StandsIn {X : Type 0} (xs before : List X) (y : X) : Type 0 where
  pub after : List X
  pub split : xs ≡ before ++ y ∷ after

pub record StandsBehind {X : Type 0} (xs ys before after : List X) (y : X) : Type 0 where
  pub between : List X
  pub before_is : before ≡ xs ++ between
  pub split : ys ≡ between ++ y ∷ after

pub append-split : {X : Type 0} (xs ys before after : List X) (y : X) → xs ++ ys ≡ before ++ y ∷ after
    → StandsIn xs before y ⊎ StandsBehind xs ys before after y
append-split [] ys before after y is = inr (record { between = before; before_is = refl; split = is })
append-split (x ∷ xs) ys [] after y is = inl (record { after = xs; split = let same : x ≡ y = cc in ap (λ z. z ∷ xs) same })
append-split (x ∷ xs) ys (b ∷ bs) after y is =
    let rest : xs ++ ys ≡ bs ++ y ∷ after = cc in
    let first : x ≡ b = cc in
    elim (append-split xs ys bs after y rest) [
      | inl here ↦ inl (record { after = here.after; split = ap (λ z. z ∷ xs) first ∙ ap (λ zs. b ∷ zs) here.split })
      | inr behind ↦ inr (record {
        between = behind.between;
        before_is = ap (λ z. z ∷ bs) (sym first) ∙ ap (λ zs. x ∷ zs) behind.before_is;
        split = behind.split;
      })
    ]

-- the only element of a list
pub single : {X : Type 0} (xs before after : List X) (y : X) → length xs ≤ 1 → xs ≡ before ++ y ∷ after → (before ≡ []) × (xs ≡ y ∷ [])
single xs before after y short is =
    let whole : length xs ≡ length (before ++ y ∷ after) = ap length is in
    let none : before ≡ [] = nil_from_length before (omega (arith, length-append before (y ∷ after))) in
    let end : after ≡ [] = nil_from_length after (omega (arith, length-append before (y ∷ after))) in
    (none, is ∙ ap (λ l. l ++ y ∷ after) none ∙ ap (λ l. y ∷ l) end)

-- where an element stands among those that a filter keeps, it stands among all
pub record KeptAt {X : Type 0} (p : X → Bool) (xs before : List X) (y : X) : Type 0 where
  pub earlier : List X
  pub later : List X
  pub split : xs ≡ earlier ++ y ∷ later
  pub before_is : filter p earlier ≡ before

KeptAt-behind : {X : Type 0} (p : X → Bool) (x : X) (xs before : List X) (y : X) → p x ≡ false → KeptAt p xs before y → KeptAt p (x ∷ xs) before y
KeptAt-behind p x xs before y fails rest = record {
  earlier = x ∷ rest.earlier;
  later = rest.later;
  split = ap (λ zs. x ∷ zs) rest.split;
  before_is = filter-dropped p x rest.earlier fails ∙ rest.before_is;
}

pub filter-split : {X : Type 0} (p : X → Bool) (xs before after : List X) (y : X) → filter p xs ≡ before ++ y ∷ after → KeptAt p xs before y
filter-split p [] before after y is = absurd (not_last before after y is)
filter-split p (x ∷ xs) [] after y is = elim (cases_Bool (p x)) [
  | inl passes ↦
      let kept : x ∷ filter p xs ≡ y ∷ after = sym (filter-kept p x xs passes) ∙ is in
      let same : x ≡ y = cc in
      record { earlier = []; later = xs; split = ap (λ z. z ∷ xs) same; before_is = refl }
  | inr fails ↦
      KeptAt-behind p x xs [] y fails (filter-split p xs [] after y (sym (filter-dropped p x xs fails) ∙ is))
]
filter-split p (x ∷ xs) (b ∷ bs) after y is = elim (cases_Bool (p x)) [
  | inl passes ↦
      let kept : x ∷ filter p xs ≡ b ∷ (bs ++ y ∷ after) = sym (filter-kept p x xs passes) ∙ is in
      let tail : filter p xs ≡ bs ++ y ∷ after = cc in
      let first : x ≡ b = cc in
      let rest = filter-split p xs bs after y tail in record {
        earlier = x ∷ rest.earlier;
        later = rest.later;
        split = ap (λ zs. x ∷ zs) rest.split;
        before_is = filter-kept p x rest.earlier passes ∙ ap (λ zs. x ∷ zs) rest.before_is ∙ ap (λ z. z ∷ bs) first;
      }
  | inr fails ↦ KeptAt-behind p x xs (b ∷ bs) y fails (filter-split p xs (b ∷ bs) after y (sym (filter-dropped p x xs fails) ∙ is))
]

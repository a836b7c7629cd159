use Rattle.std.proofs.Common.{◌≡◌, ℕ, Bool, true, false, not, Option, Some, None, List, [], ◌∷◌, ◌++◌, filter, nat_lt, refl, sym, ap, ◌∙◌, inl, inr, arith, length-append}
use Rattle.std.specs.List.{list_all}
use Rattle.std.proofs.lemmas.Bool.{and_parts, and_from, cases_Bool, cond-true, not-true, not_from_false, ltb-false, ltb-true, le-ltb, lt-ltb}
use Rattle.std.proofs.lemmas.List.Folds.{list_all-append}
use Rattle.dt_lists.proofs.Lists.{filter-all, filter-none, filter-kept, filter-dropped, list_all-weaker, list_all-filter}
use Rattle.dt_record.specs.declared.keys.Key.{Key}
use Rattle.dt_record.specs.declared.writes.Write.{Write}
use Rattle.dt_record.specs.Keys.{key_below}
use Rattle.dt_record.proofs.KeyLaws.{KeyBelow-stamps}
use Rattle.dt_record.specs.Lawful.{is_ram_line}
use Rattle.dt_versions.specs.History.{history, are_in_order, IsKept, CanAdd}
use Rattle.dt_core.specs.Machine.{usable_below}
use Rattle.dt_core.specs.Marks.{is_below}
use Rattle.dt_settled.specs.Settling.{first_below}

-- Writes in the order of their keys: their fronts, and those below a mark.

pub list_all-parts : {X : Type 0} (p : X → Bool) (xs ys : List X) → list_all p (xs ++ ys) ≡ true → (list_all p xs ≡ true) × (list_all p ys ≡ true)
list_all-parts p xs ys all = and_parts (list_all p xs) (list_all p ys) (sym (list_all-append p xs ys) ∙ all)

-- fronts

pub in_order-behind : (xs ys : List Write) → are_in_order (xs ++ ys) ≡ true → are_in_order ys ≡ true
in_order-behind [] ys ordered = ordered
in_order-behind (x ∷ xs) ys ordered =
    in_order-behind xs ys (and_parts (list_all (λ v. key_below x.key v.key) (xs ++ ys)) (are_in_order (xs ++ ys)) ordered).1

in_order-front : (xs ys : List Write) → are_in_order (xs ++ ys) ≡ true → are_in_order xs ≡ true
in_order-front [] ys ordered = refl
in_order-front (x ∷ xs) ys ordered =
    let above : Write → Bool = λ v. key_below x.key v.key in
    let parts = and_parts (list_all above (xs ++ ys)) (are_in_order (xs ++ ys)) ordered in
    and_from (list_all above xs) (are_in_order xs) (list_all-parts above xs ys parts.0).0 (in_order-front xs ys parts.1)

pub in_order-filter : (p : Write → Bool) (ws : List Write) → are_in_order ws ≡ true → are_in_order (filter p ws) ≡ true
in_order-filter p [] ordered = refl
in_order-filter p (w ∷ ws) ordered =
    let above : Write → Bool = λ v. key_below w.key v.key in
    let parts = and_parts (list_all above ws) (are_in_order ws) ordered in
    elim (cases_Bool (p w)) [
      | inl passes ↦
          ap are_in_order (filter-kept p w ws passes)
          ∙ and_from (list_all above (filter p ws)) (are_in_order (filter p ws)) (list_all-filter above p ws parts.0) (in_order-filter p ws parts.1)
      | inr fails ↦ ap are_in_order (filter-dropped p w ws fails) ∙ in_order-filter p ws parts.1
    ]

pub IsKept-front : (image : List ℕ) (xs ys : List Write) → IsKept (history image (xs ++ ys)) → IsKept (history image xs)
IsKept-front image xs ys kept = record {
  in_order = in_order-front xs ys kept.in_order;
  in_ram = (list_all-parts (λ (w : Write). is_ram_line w.line) xs ys kept.in_ram).0;
  within_limit = omega (arith, length-append xs ys, kept.within_limit);
}

below-last : (xs : List Write) (w : Write) → are_in_order (xs ++ w ∷ []) ≡ true → list_all (λ v. key_below v.key w.key) xs ≡ true
below-last [] w ordered = refl
below-last (x ∷ xs) w ordered =
    let above : Write → Bool = λ v. key_below x.key v.key in
    let parts = and_parts (list_all above (xs ++ w ∷ [])) (are_in_order (xs ++ w ∷ [])) ordered in
    let last = and_parts (key_below x.key w.key) true (list_all-parts above xs (w ∷ []) parts.0).1 in
    and_from (key_below x.key w.key) (list_all (λ v. key_below v.key w.key) xs) last.0 (below-last xs w parts.1)

-- the last write of those that can be held can be added to the others
pub CanAdd-last : (image : List ℕ) (xs : List Write) (w : Write) → IsKept (history image (xs ++ w ∷ [])) → CanAdd (history image xs) w
CanAdd-last image xs w kept = record {
  above_all = below-last xs w kept.in_order;
  in_ram = (and_parts (is_ram_line w.line) true (list_all-parts (λ (v : Write). is_ram_line v.line) xs (w ∷ []) kept.in_ram).1).0;
  has_room = omega (arith, length-append xs (w ∷ []), kept.within_limit);
}

-- below a mark

abbrev pub is_early : Option ℕ → Write → Bool
is_early least w = is_below least w.key.stamp

all-true : (ws : List Write) → list_all (λ (w : Write). true) ws ≡ true
all-true [] = refl
all-true (w ∷ ws) = all-true ws

pub usable-early : (least : Option ℕ) (ws : List Write) → usable_below least ws ≡ filter (is_early least) ws
usable-early None ws = sym (filter-all (λ (w : Write). true) ws (all-true ws))
usable-early (Some least) ws = refl

late-after : (least : Option ℕ) (a b : Key) → key_below a b ≡ true → is_below least a.stamp ≡ false → is_below least b.stamp ≡ false
late-after None a b below late = absurd (let never : ⊥ = cc in never)
late-after (Some least) a b below late =
    let up = KeyBelow-stamps a b below in
    let low = ltb-false a.stamp least late in
    le-ltb b.stamp least (omega arith)

late-rest : (least : Option ℕ) (w : Write) (ws : List Write) → list_all (λ v. key_below w.key v.key) ws ≡ true → is_early least w ≡ false
    → list_all (λ v. not (is_early least v)) (w ∷ ws) ≡ true
late-rest least w ws above late =
    and_from (not (is_early least w)) (list_all (λ v. not (is_early least v)) ws) (not_from_false (is_early least w) late)
    (list_all-weaker (λ v. key_below w.key v.key) (λ v. not (is_early least v)) ws
    (λ v below. not_from_false (is_early least v) (late-after least w.key v.key below late)) above)

-- those below a mark stand first
pub early-first : (least : Option ℕ) (ws : List Write) → are_in_order ws ≡ true
    → (rest : List Write) × (ws ≡ filter (is_early least) ws ++ rest) × (list_all (λ v. not (is_early least v)) rest ≡ true)
early-first least [] ordered = ([], refl, refl)
early-first least (w ∷ ws) ordered =
    let parts = and_parts (list_all (λ v. key_below w.key v.key) ws) (are_in_order ws) ordered in
    let more = early-first least ws parts.1 in
    elim (cases_Bool (is_early least w)) [
      | inl early ↦ (more.0, ap (λ vs. w ∷ vs) more.1 ∙ ap (λ vs. vs ++ more.0) (sym (filter-kept (is_early least) w ws early)), more.2)
      | inr late ↦
          let none = late-rest least w ws parts.0 late in
          (w ∷ ws, ap (λ vs. vs ++ w ∷ ws) (sym (filter-none (is_early least) (w ∷ ws) none)), none)
    ]

-- where the first is not below the mark, none is
pub early-none : (least : Option ℕ) (ws : List Write) → are_in_order ws ≡ true → first_below least ws ≡ None → filter (is_early least) ws ≡ []
early-none least [] ordered none = refl
early-none least (w ∷ ws) ordered none =
    let parts = and_parts (list_all (λ v. key_below w.key v.key) ws) (are_in_order ws) ordered in
    elim (cases_Bool (is_early least w)) [
      | inl early ↦ let bad : Some w ≡ None = sym (cond-true (is_early least w) (Some w) None early) ∙ none in absurd (let never : ⊥ = cc in never)
      | inr late ↦ filter-none (is_early least) (w ∷ ws) (late-rest least w ws parts.0 late)
    ]

-- what is not below a mark is later than what is
pub later-than : (least : Option ℕ) (stamp other : ℕ) → is_below least stamp ≡ true → not (is_below least other) ≡ true → nat_lt stamp other ≡ true
later-than None stamp other early late = absurd (let never : ⊥ = cc in never)
later-than (Some least) stamp other early late =
    let under = ltb-true stamp least early in
    let past = ltb-false other least (not-true (nat_lt other least) late) in
    lt-ltb stamp other (omega arith)

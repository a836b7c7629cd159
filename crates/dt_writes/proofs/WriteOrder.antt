use Rattle.std.proofs.Common.{◌≡◌, Bool, true, false, cond, not, ◌&&◌, List, [], ◌∷◌, filter, refl, sym, ap, ◌∙◌, inl, inr}
use Rattle.std.specs.List.{list_all}
use Rattle.std.specs.List.Sorted.{ties}
use Rattle.std.proofs.lemmas.Bool.{and_parts, and_from, cases_Bool, cond-true, cond-false, not-true, not_from_false, or_cases, or_from, both_ways}
use Rattle.dt_record.proofs.KeyChains.{key_not_below-chain}
use Rattle.dt_record.proofs.Inserting.{insert-first, insert-later}
use Rattle.dt_lists.proofs.Lists.{list_all-weaker}
use Rattle.dt_record.specs.declared.keys.Key.{Key}
use Rattle.dt_record.specs.declared.writes.Write.{Write}
use Rattle.dt_record.specs.Keys.{key_below}
use Rattle.dt_record.proofs.KeyLaws.{KeyBelow-chain, key_below-back}
use Rattle.dt_record.specs.Writes.{insert_write, by_key}
use Rattle.dt_versions.specs.History.{are_in_order}
use Rattle.dt_writes.specs.Apart.{keys_differ, are_apart}
use Rattle.dt_writes.specs.KeyOrder.{under, keys_rise}

-- Writes sorted by insertion.

abbrev pub write_key : Write → Key
write_key w = w.key

abbrev pub tie : Write → Write → Bool
tie = ties (under write_key)

list_all-insert : (p : Write → Bool) (w : Write) (vs : List Write) → p w ≡ true → list_all p vs ≡ true → list_all p (insert_write w vs) ≡ true
list_all-insert p w [] here all = and_from (p w) true here refl
list_all-insert p w (v ∷ vs) here all = elim (cases_Bool (key_below w.key v.key)) [
  | inl below ↦ ap (list_all p) (insert-first w v vs below) ∙ and_from (p w) (list_all p (v ∷ vs)) here all
  | inr above ↦
      let parts = and_parts (p v) (list_all p vs) all in
      ap (list_all p) (insert-later w v vs above) ∙ and_from (p v) (list_all p (insert_write w vs)) parts.0 (list_all-insert p w vs here parts.1)
]

pub list_all-by_key : (p : Write → Bool) (ws : List Write) → list_all p ws ≡ true → list_all p (by_key ws) ≡ true
list_all-by_key p [] all = refl
list_all-by_key p (w ∷ ws) all =
    let parts = and_parts (p w) (list_all p ws) all in
    list_all-insert p w (by_key ws) parts.0 (list_all-by_key p ws parts.1)

differ-other : (a b : Key) → keys_differ a b ≡ true → key_below a b ≡ false → key_below b a ≡ true
differ-other a b differ above = elim (or_cases (key_below a b) (key_below b a) differ) [
  | inl below ↦ absurd (both_ways (key_below a b) above below)
  | inr under ↦ under
]

in_order-insert : (w : Write) (vs : List Write) → list_all (λ v. keys_differ w.key v.key) vs ≡ true → are_in_order vs ≡ true
    → are_in_order (insert_write w vs) ≡ true
in_order-insert w [] apart ordered = refl
in_order-insert w (v ∷ vs) apart ordered =
    let parts = and_parts (list_all (λ u. key_below v.key u.key) vs) (are_in_order vs) ordered in
    let others = and_parts (keys_differ w.key v.key) (list_all (λ u. keys_differ w.key u.key) vs) apart in
    elim (cases_Bool (key_below w.key v.key)) [
      | inl below ↦
          ap are_in_order (insert-first w v vs below)
          ∙ and_from (list_all (λ u. key_below w.key u.key) (v ∷ vs)) (are_in_order (v ∷ vs))
          (and_from (key_below w.key v.key) (list_all (λ u. key_below w.key u.key) vs) below
          (list_all-weaker (λ u. key_below v.key u.key) (λ u. key_below w.key u.key) vs (λ u above. KeyBelow-chain w.key v.key u.key below above) parts.0))
          ordered
      | inr above ↦
          ap are_in_order (insert-later w v vs above)
          ∙ and_from (list_all (λ u. key_below v.key u.key) (insert_write w vs)) (are_in_order (insert_write w vs))
          (list_all-insert (λ u. key_below v.key u.key) w vs (differ-other w.key v.key others.0 above) parts.0)
          (in_order-insert w vs others.1 parts.1)
    ]

pub in_order-by_key : (ws : List Write) → are_apart ws ≡ true → are_in_order (by_key ws) ≡ true
in_order-by_key [] apart = refl
in_order-by_key (w ∷ ws) apart =
    let parts = and_parts (list_all (λ v. keys_differ w.key v.key) ws) (are_apart ws) apart in
    in_order-insert w (by_key ws) (list_all-by_key (λ v. keys_differ w.key v.key) ws parts.0) (in_order-by_key ws parts.1)

pub rises_from_order : (ws : List Write) → are_in_order ws ≡ true → keys_rise write_key ws ≡ true
rises_from_order [] ordered = refl
rises_from_order (w ∷ ws) ordered =
    let parts = and_parts (list_all (λ v. key_below w.key v.key) ws) (are_in_order ws) ordered in
    and_from (list_all (λ v. not (under write_key v w)) ws) (keys_rise write_key ws)
    (list_all-weaker (λ v. key_below w.key v.key) (λ v. not (under write_key v w)) ws (λ v below. not_from_false _ (key_below-back w.key v.key below)) parts.0)
    (rises_from_order ws parts.1)

-- two keys that tie with a third do not differ
tied-same : (x w v : Key) → (not (key_below x w) && not (key_below w x)) ≡ true → (not (key_below x v) && not (key_below v x)) ≡ true
    → keys_differ w v ≡ false
tied-same x w v first second =
    let tied_w = and_parts (not (key_below x w)) (not (key_below w x)) first in
    let tied_v = and_parts (not (key_below x v)) (not (key_below v x)) second in
    or_from (key_below w v) (key_below v w)
    (key_not_below-chain w x v (not-true _ tied_w.1) (not-true _ tied_v.0))
    (key_not_below-chain v x w (not-true _ tied_v.1) (not-true _ tied_w.0))

-- so an insertion keeps what ties in its order
filter-insert : (x w : Write) (vs : List Write) → list_all (λ v. keys_differ w.key v.key) vs ≡ true
    → filter (tie x) (insert_write w vs) ≡ filter (tie x) (w ∷ vs)
filter-insert x w [] apart = refl
filter-insert x w (v ∷ vs) apart =
    let others = and_parts (keys_differ w.key v.key) (list_all (λ u. keys_differ w.key u.key) vs) apart in
    elim (cases_Bool (key_below w.key v.key)) [
      | inl below ↦ ap (filter (tie x)) (insert-first w v vs below)
      | inr above ↦
          ap (filter (tie x)) (insert-later w v vs above)
          ∙ elim (cases_Bool (tie x v)) [
            | inl with ↦ elim (cases_Bool (tie x w)) [
              | inl both ↦ absurd (both_ways (keys_differ w.key v.key) (tied-same x.key w.key v.key both with) others.0)
              | inr only ↦
                  cond-true (tie x v) _ _ with ∙ ap (λ l. v ∷ l) (filter-insert x w vs others.1 ∙ cond-false (tie x w) _ _ only)
                  ∙ sym (cond-false (tie x w) (w ∷ filter (tie x) (v ∷ vs)) (filter (tie x) (v ∷ vs)) only ∙ cond-true (tie x v) (v ∷ filter (tie x) vs) (filter (tie x) vs) with)
            ]
            | inr without ↦
                cond-false (tie x v) _ _ without ∙ filter-insert x w vs others.1
                ∙ ap (λ l. cond (tie x w) (w ∷ l) l) (sym (cond-false (tie x v) (v ∷ filter (tie x) vs) (filter (tie x) vs) without))
          ]
    ]

pub filter-by_key : (x : Write) (ws : List Write) → are_apart ws ≡ true → filter (tie x) (by_key ws) ≡ filter (tie x) ws
filter-by_key x [] apart = refl
filter-by_key x (w ∷ ws) apart =
    let parts = and_parts (list_all (λ v. keys_differ w.key v.key) ws) (are_apart ws) apart in
    filter-insert x w (by_key ws) (list_all-by_key (λ v. keys_differ w.key v.key) ws parts.0)
    ∙ ap (λ l. cond (tie x w) (w ∷ l) l) (filter-by_key x ws parts.1)

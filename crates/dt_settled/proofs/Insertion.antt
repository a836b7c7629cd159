use Rattle.std.proofs.Common.{◌≡◌, ◌&&◌, Bool, true, false, not, cond, List, [], ◌∷◌, ◌++◌, filter, refl, sym, ap, ◌∙◌, inl, inr}
use Rattle.std.specs.List.{list_all}
use Rattle.std.proofs.lemmas.Bool.{and_parts, and_from, cases_Bool, not-true, not_from_false, both_ways, or_cases}
use Rattle.dt_record.proofs.Inserting.{insert-first, insert-later}
use Rattle.dt_lists.proofs.Lists.{list_all-weaker, list_all-filter}
use Rattle.dt_record.specs.declared.keys.Key.{Key}
use Rattle.dt_record.specs.declared.writes.Write.{Write}
use Rattle.dt_record.specs.Keys.{key_below}
use Rattle.dt_record.proofs.KeyLaws.{key_below-itself, key_below-back, KeyBelow-chain, key_below-cases}
use Rattle.dt_record.specs.Writes.{insert_write, by_key}
use Rattle.dt_versions.specs.History.{are_in_order}
use Rattle.dt_writes.specs.Apart.{keys_differ}
use Rattle.dt_writes.specs.KeyOrder.{keys_rise}

-- Writes that are put among others in the order of keys.

-- a test of each write

both-swap : (a b c : Bool) → (a && (b && c)) ≡ (b && (a && c))
both-swap true b c = refl
both-swap false true c = refl
both-swap false false c = refl

pub list_all-insert : (p : Write → Bool) (w : Write) (vs : List Write) → list_all p (insert_write w vs) ≡ (p w && list_all p vs)
list_all-insert p w [] = refl
list_all-insert p w (v ∷ vs) = elim (cases_Bool (key_below w.key v.key)) [
  | inl below ↦ ap (list_all p) (insert-first w v vs below)
  | inr above ↦ ap (list_all p) (insert-later w v vs above) ∙ ap (λ b. p v && b) (list_all-insert p w vs) ∙ both-swap (p v) (p w) (list_all p vs)
]

pub list_all-by_key : (p : Write → Bool) (ws : List Write) → list_all p (by_key ws) ≡ list_all p ws
list_all-by_key p [] = refl
list_all-by_key p (w ∷ ws) = list_all-insert p w (by_key ws) ∙ ap (λ b. p w && b) (list_all-by_key p ws)

-- writes that stand in order already

insert-front : (w : Write) (ws : List Write) → list_all (λ v. key_below w.key v.key) ws ≡ true → insert_write w ws ≡ w ∷ ws
insert-front w [] above = refl
insert-front w (v ∷ vs) above = insert-first w v vs (and_parts (key_below w.key v.key) (list_all (λ u. key_below w.key u.key) vs) above).0

pub by_key-in_order : (ws : List Write) → are_in_order ws ≡ true → by_key ws ≡ ws
by_key-in_order [] ordered = refl
by_key-in_order (w ∷ ws) ordered =
    let parts = and_parts (list_all (λ v. key_below w.key v.key) ws) (are_in_order ws) ordered in
    ap (insert_write w) (by_key-in_order ws parts.1) ∙ insert-front w ws parts.0

-- writes with different keys go in in any order

insert-swap : (a b : Write) (ws : List Write) → key_below a.key b.key ≡ true → insert_write a (insert_write b ws) ≡ insert_write b (insert_write a ws)
insert-swap a b [] below = insert-first a b [] below ∙ sym (insert-later b a [] (key_below-back a.key b.key below))
insert-swap a b (v ∷ vs) below =
    let back = key_below-back a.key b.key below in
    elim (cases_Bool (key_below b.key v.key)) [
      | inl first ↦
          ap (insert_write a) (insert-first b v vs first) ∙ insert-first a b (v ∷ vs) below
          ∙ sym (ap (insert_write b) (insert-first a v vs (KeyBelow-chain a.key b.key v.key below first)) ∙ insert-later b a (v ∷ vs) back ∙ ap (λ xs. a ∷ xs) (insert-first b v vs first))
      | inr later ↦
          elim (cases_Bool (key_below a.key v.key)) [
            | inl first ↦
                ap (insert_write a) (insert-later b v vs later) ∙ insert-first a v (insert_write b vs) first
                ∙ sym (ap (insert_write b) (insert-first a v vs first) ∙ insert-later b a (v ∷ vs) back ∙ ap (λ xs. a ∷ xs) (insert-later b v vs later))
            | inr past ↦
                ap (insert_write a) (insert-later b v vs later) ∙ insert-later a v (insert_write b vs) past ∙ ap (λ xs. v ∷ xs) (insert-swap a b vs below)
                ∙ sym (ap (insert_write b) (insert-later a v vs past) ∙ insert-later b v (insert_write a vs) later)
          ]
    ]

insert-apart : (a b : Write) (ws : List Write) → keys_differ a.key b.key ≡ true → insert_write a (insert_write b ws) ≡ insert_write b (insert_write a ws)
insert-apart a b ws differ = elim (or_cases (key_below a.key b.key) (key_below b.key a.key) differ) [
  | inl below ↦ insert-swap a b ws below
  | inr above ↦ sym (insert-swap b a ws above)
]

pub by_key-middle : (w : Write) (xs ys : List Write) → list_all (λ v. keys_differ w.key v.key) xs ≡ true
    → by_key (xs ++ w ∷ ys) ≡ insert_write w (by_key (xs ++ ys))
by_key-middle w [] ys apart = refl
by_key-middle w (x ∷ xs) ys apart =
    let parts = and_parts (keys_differ w.key x.key) (list_all (λ v. keys_differ w.key v.key) xs) apart in
    ap (insert_write x) (by_key-middle w xs ys parts.1) ∙ sym (insert-apart w x (by_key (xs ++ ys)) parts.0)

pub by_key-insert : (w : Write) (vs : List Write) → list_all (λ v. keys_differ w.key v.key) vs ≡ true → by_key (insert_write w vs) ≡ by_key (w ∷ vs)
by_key-insert w [] apart = refl
by_key-insert w (v ∷ vs) apart =
    let parts = and_parts (keys_differ w.key v.key) (list_all (λ u. keys_differ w.key u.key) vs) apart in
    elim (cases_Bool (key_below w.key v.key)) [
      | inl below ↦ ap by_key (insert-first w v vs below)
      | inr above ↦ ap by_key (insert-later w v vs above) ∙ ap (insert_write v) (by_key-insert w vs parts.1) ∙ sym (insert-apart w v (by_key vs) parts.0)
    ]

pub by_key-behind : (ws xs ys : List Write) → by_key xs ≡ by_key ys → by_key (ws ++ xs) ≡ by_key (ws ++ ys)
by_key-behind [] xs ys same = same
by_key-behind (w ∷ ws) xs ys same = ap (insert_write w) (by_key-behind ws xs ys same)

-- to choose and then to put in order is to put in order and then to choose

abbrev write_key : Write → Key
write_key w = w.key

-- a key below a second one, which a third is not below, is below the third
below-chain : (w v u : Key) → key_below w v ≡ true → key_below u v ≡ false → key_below w u ≡ true
below-chain w v u below above = elim (key_below-cases v u) [
  | inl higher ↦ KeyBelow-chain w v u below higher
  | inr rest ↦
      elim rest [
        | inl same ↦ ap (key_below w) (sym same) ∙ below
        | inr lower ↦ absurd (both_ways (key_below u v) above lower)
      ]
]

above-rest : (w v : Write) (vs : List Write) → key_below w.key v.key ≡ true → keys_rise write_key (v ∷ vs) ≡ true → list_all (λ u. key_below w.key u.key) (v ∷ vs) ≡ true
above-rest w v vs below rise =
    let parts = and_parts (list_all (λ u. not (key_below u.key v.key)) vs) (keys_rise write_key vs) rise in
    and_from (key_below w.key v.key) (list_all (λ u. key_below w.key u.key) vs) below
    (list_all-weaker (λ u. not (key_below u.key v.key)) (λ u. key_below w.key u.key) vs
    (λ u above. below-chain w.key v.key u.key below (not-true (key_below u.key v.key) above)) parts.0)

insert-rising : (w : Write) (ws : List Write) → keys_rise write_key ws ≡ true → keys_rise write_key (insert_write w ws) ≡ true
insert-rising w [] rise = refl
insert-rising w (v ∷ vs) rise = elim (cases_Bool (key_below w.key v.key)) [
  | inl first ↦
      ap (keys_rise write_key) (insert-first w v vs first)
      ∙ and_from (list_all (λ u. not (key_below u.key w.key)) (v ∷ vs)) (keys_rise write_key (v ∷ vs))
      (list_all-weaker (λ u. key_below w.key u.key) (λ u. not (key_below u.key w.key)) (v ∷ vs)
      (λ u below. not_from_false (key_below u.key w.key) (key_below-back w.key u.key below)) (above-rest w v vs first rise)) rise
  | inr later ↦
      let not_lower : Write → Bool = λ u. not (key_below u.key v.key) in
      let parts = and_parts (list_all not_lower vs) (keys_rise write_key vs) rise in
      ap (keys_rise write_key) (insert-later w v vs later)
      ∙ and_from (list_all not_lower (insert_write w vs)) (keys_rise write_key (insert_write w vs))
      (list_all-insert not_lower w vs ∙ and_from (not_lower w) (list_all not_lower vs) (not_from_false (key_below w.key v.key) later) parts.0)
      (insert-rising w vs parts.1)
]

by_key-rising : (ws : List Write) → keys_rise write_key (by_key ws) ≡ true
by_key-rising [] = refl
by_key-rising (w ∷ ws) = insert-rising w (by_key ws) (by_key-rising ws)

filter-insert : (p : Write → Bool) (w : Write) (ws : List Write) → keys_rise write_key ws ≡ true
    → filter p (insert_write w ws) ≡ cond (p w) (insert_write w (filter p ws)) (filter p ws)
filter-insert p w [] rise = refl
filter-insert p w (v ∷ vs) rise = elim (cases_Bool (key_below w.key v.key)) [
  | inl first ↦
      let front = insert-front w (filter p (v ∷ vs)) (list_all-filter (λ u. key_below w.key u.key) p (v ∷ vs) (above-rest w v vs first rise)) in
      ap (filter p) (insert-first w v vs first) ∙ ap (λ xs. cond (p w) xs (filter p (v ∷ vs))) (sym front)
  | inr later ↦
      let rest = filter-insert p w vs (and_parts (list_all (λ u. not (key_below u.key v.key)) vs) (keys_rise write_key vs) rise).1 in
      ap (filter p) (insert-later w v vs later) ∙ ap (λ xs. cond (p v) (v ∷ xs) xs) rest ∙ turn (p v) (p w) (filter p vs) (insert-later w v (filter p vs) later)
]
  where
    turn : (b c : Bool) (us : List Write) → insert_write w (v ∷ us) ≡ v ∷ insert_write w us
        → cond b (v ∷ cond c (insert_write w us) us) (cond c (insert_write w us) us)
        ≡ cond c (insert_write w (cond b (v ∷ us) us)) (cond b (v ∷ us) us)
    turn true true us later = sym later
    turn true false us later = refl
    turn false true us later = refl
    turn false false us later = refl

-- where the first writes are the first of all in order, the others are the rest of them

after-first : (x : Write) (vs ms : List Write) → list_all (λ v. key_below x.key v.key) ms ≡ true → insert_write x vs ≡ x ∷ ms → vs ≡ ms
after-first x [] ms above is = cc
after-first x (v ∷ vs) ms above is = elim (cases_Bool (key_below x.key v.key)) [
  | inl below ↦ let whole : x ∷ v ∷ vs ≡ x ∷ ms = sym (insert-first x v vs below) ∙ is in cc
  | inr later ↦
      let over : Write → Bool = λ u. key_below x.key u.key in
      let whole : v ∷ insert_write x vs ≡ x ∷ ms = sym (insert-later x v vs later) ∙ is in
      let rest : insert_write x vs ≡ ms = cc in
      let each = sym (list_all-insert over x vs) ∙ ap (list_all over) rest ∙ above in
      absurd (both_ways (over x) (key_below-itself x.key) (and_parts (over x) (list_all over vs) each).0)
]

pub by_key-rest : (ps xs ys : List Write) → are_in_order (ps ++ ys) ≡ true → by_key (ps ++ xs) ≡ ps ++ ys → by_key xs ≡ ys
by_key-rest [] xs ys ordered is = is
by_key-rest (p ∷ ps) xs ys ordered is =
    let parts = and_parts (list_all (λ v. key_below p.key v.key) (ps ++ ys)) (are_in_order (ps ++ ys)) ordered in
    by_key-rest ps xs ys parts.1 (after-first p (by_key (ps ++ xs)) (ps ++ ys) parts.0 is)

use Rattle.std.proofs.Common.{◌≡◌, ◌==◌, ◌&&◌, Bool, true, false, not, cond, List, [], ◌∷◌, filter, refl, sym, ap, ◌∙◌, inl, inr, eq-eqb}
use Rattle.std.specs.List.{list_all}
use Rattle.std.proofs.lemmas.Bool.{and_parts, and_from, cases_Bool, cond-true, not-true, not_from_false, both_ways}
use Rattle.dt_record.proofs.Inserting.{insert-later}
use Rattle.dt_lists.proofs.Lists.{filter-kept, filter-dropped}
use Rattle.dt_record.specs.declared.keys.Key.{Key}
use Rattle.dt_record.specs.declared.writes.Write.{Write}
use Rattle.dt_record.specs.Keys.{key_below, KeyBelow}
use Rattle.dt_record.proofs.KeyLaws.{key_below-back, KeyBelow-chain, key_below-cases}
use Rattle.dt_record.specs.Writes.{insert_write, by_key}

-- A write that is put among others in the order of keys.

pub insert-first : (w v : Write) (vs : List Write) → KeyBelow w.key v.key → insert_write w (v ∷ vs) ≡ w ∷ v ∷ vs
insert-first w v vs below = cond-true (key_below w.key v.key) (w ∷ v ∷ vs) (v ∷ insert_write w vs) below

-- two writes with different keys may go in in either order
insert-swap : (a b : Write) (ws : List Write) → KeyBelow a.key b.key → insert_write a (insert_write b ws) ≡ insert_write b (insert_write a ws)
insert-swap a b [] below = insert-first a b [] below ∙ sym (insert-later b a [] (key_below-back a.key b.key below))
insert-swap a b (v ∷ vs) below =
    let back = key_below-back a.key b.key below in
    elim (cases_Bool (key_below b.key v.key)) [
      | inl first ↦
          ap (insert_write a) (insert-first b v vs first) ∙ insert-first a b (v ∷ vs) below
          ∙ sym (ap (insert_write b) (insert-first a v vs (KeyBelow-chain a.key b.key v.key below first)) ∙ insert-later b a (v ∷ vs) back ∙ ap (λ xs. a ∷ xs) (insert-first b v vs first))
      | inr later ↦
          elim (cases_Bool (key_below a.key v.key)) [
            | inl first ↦
                ap (insert_write a) (insert-later b v vs later) ∙ insert-first a v (insert_write b vs) first
                ∙ sym (ap (insert_write b) (insert-first a v vs first) ∙ insert-later b a (v ∷ vs) back ∙ ap (λ xs. a ∷ xs) (insert-later b v vs later))
            | inr past ↦
                ap (insert_write a) (insert-later b v vs later) ∙ insert-later a v (insert_write b vs) past ∙ ap (λ xs. v ∷ xs) (insert-swap a b vs below)
                ∙ sym (ap (insert_write b) (insert-later a v vs past) ∙ insert-later b v (insert_write a vs) later)
          ]
    ]

pub insert-harts : (a b : Write) (ws : List Write) → (a.key.hart == b.key.hart) ≡ false → insert_write a (insert_write b ws) ≡ insert_write b (insert_write a ws)
insert-harts a b ws apart = elim (key_below-cases a.key b.key) [
  | inl below ↦ insert-swap a b ws below
  | inr rest ↦
      elim rest [
        | inl same ↦ absurd (both_ways (a.key.hart == b.key.hart) apart (eq-eqb a.key.hart b.key.hart (ap (λ (k : Key). k.hart) same)))
        | inr above ↦ sym (insert-swap b a ws above)
      ]
]

-- no write stands before one with a key below its own
abbrev is_rising : List Write → Bool
is_rising [] = true
is_rising (w ∷ ws) = list_all (λ v. not (key_below v.key w.key)) ws && is_rising ws

insert-each : (p : Write → Bool) (w : Write) (ws : List Write) → p w ≡ true → list_all p ws ≡ true → list_all p (insert_write w ws) ≡ true
insert-each p w [] new all = and_from (p w) true new refl
insert-each p w (v ∷ vs) new all = elim (cases_Bool (key_below w.key v.key)) [
  | inl first ↦ ap (list_all p) (insert-first w v vs first) ∙ and_from (p w) _ new all
  | inr later ↦
      let parts = and_parts (p v) (list_all p vs) all in
      ap (list_all p) (insert-later w v vs later) ∙ and_from (p v) _ parts.0 (insert-each p w vs new parts.1)
]

each-weaker : (p q : Write → Bool) (ws : List Write) → ((w : Write) → p w ≡ true → q w ≡ true) → list_all p ws ≡ true → list_all q ws ≡ true
each-weaker p q [] follows all = refl
each-weaker p q (w ∷ ws) follows all =
    let parts = and_parts (p w) (list_all p ws) all in
    and_from (q w) _ (follows w parts.0) (each-weaker p q ws follows parts.1)

-- a key above a second, below which a third is not, is not above the third
not_below-chain : (w v u : Key) → KeyBelow w v → not (key_below u v) ≡ true → KeyBelow w u
not_below-chain w v u below above = elim (key_below-cases v u) [
  | inl higher ↦ KeyBelow-chain w v u below higher
  | inr rest ↦
      elim rest [
        | inl same ↦ ap (key_below w) (sym same) ∙ below
        | inr lower ↦ absurd (both_ways (key_below u v) (not-true (key_below u v) above) lower)
      ]
]

-- all that stands behind a write above another is above the other too
above_rest : (w v : Write) (vs : List Write) → KeyBelow w.key v.key → is_rising (v ∷ vs) ≡ true → list_all (λ u. key_below w.key u.key) (v ∷ vs) ≡ true
above_rest w v vs below rising =
    let parts = and_parts (list_all (λ u. not (key_below u.key v.key)) vs) (is_rising vs) rising in
    and_from (key_below w.key v.key) _ below
    (each-weaker (λ u. not (key_below u.key v.key)) (λ u. key_below w.key u.key) vs (λ u above. not_below-chain w.key v.key u.key below above) parts.0)

insert-rising : (w : Write) (ws : List Write) → is_rising ws ≡ true → is_rising (insert_write w ws) ≡ true
insert-rising w [] rising = refl
insert-rising w (v ∷ vs) rising = elim (cases_Bool (key_below w.key v.key)) [
  | inl first ↦
      ap is_rising (insert-first w v vs first)
      ∙ and_from _ (is_rising (v ∷ vs)) (each-weaker (λ u. key_below w.key u.key) (λ u. not (key_below u.key w.key)) (v ∷ vs)
      (λ u below. not_from_false (key_below u.key w.key) (key_below-back w.key u.key below)) (above_rest w v vs first rising)) rising
  | inr later ↦
      let parts = and_parts (list_all (λ u. not (key_below u.key v.key)) vs) (is_rising vs) rising in
      ap is_rising (insert-later w v vs later)
      ∙ and_from _ _ (insert-each (λ u. not (key_below u.key v.key)) w vs (not_from_false (key_below w.key v.key) later) parts.0) (insert-rising w vs parts.1)
]

pub by_key-rising : (ws : List Write) → is_rising (by_key ws) ≡ true
by_key-rising [] = refl
by_key-rising (w ∷ ws) = insert-rising w (by_key ws) (by_key-rising ws)

insert-front : (w : Write) (ws : List Write) → list_all (λ u. key_below w.key u.key) ws ≡ true → insert_write w ws ≡ w ∷ ws
insert-front w [] above = refl
insert-front w (v ∷ vs) above = insert-first w v vs (and_parts (key_below w.key v.key) _ above).0

each-filter : (p q : Write → Bool) (ws : List Write) → list_all q ws ≡ true → list_all q (filter p ws) ≡ true
each-filter p q [] all = refl
each-filter p q (w ∷ ws) all =
    let parts = and_parts (q w) (list_all q ws) all in
    elim (cases_Bool (p w)) [
      | inl passes ↦ ap (list_all q) (filter-kept p w ws passes) ∙ and_from (q w) _ parts.0 (each-filter p q ws parts.1)
      | inr fails ↦ ap (list_all q) (filter-dropped p w ws fails) ∙ each-filter p q ws parts.1
    ]

pub filter-insert : (p : Write → Bool) (w : Write) (ws : List Write) → is_rising ws ≡ true
    → filter p (insert_write w ws) ≡ cond (p w) (insert_write w (filter p ws)) (filter p ws)
filter-insert p w [] rising = refl
filter-insert p w (v ∷ vs) rising = elim (cases_Bool (key_below w.key v.key)) [
  | inl first ↦
      let front = insert-front w (filter p (v ∷ vs)) (each-filter p (λ u. key_below w.key u.key) (v ∷ vs) (above_rest w v vs first rising)) in
      ap (filter p) (insert-first w v vs first) ∙ ap (λ xs. cond (p w) xs (filter p (v ∷ vs))) (sym front)
  | inr later ↦
      let rest = filter-insert p w vs (and_parts (list_all (λ u. not (key_below u.key v.key)) vs) (is_rising vs) rising).1 in
      ap (filter p) (insert-later w v vs later) ∙ ap (λ xs. cond (p v) (v ∷ xs) xs) rest ∙ turn (p v) (p w) (filter p vs) (insert-later w v (filter p vs) later)
]
  where
    turn : (b c : Bool) (us : List Write) → insert_write w (v ∷ us) ≡ v ∷ insert_write w us
        → cond b (v ∷ cond c (insert_write w us) us) (cond c (insert_write w us) us)
        ≡ cond c (insert_write w (cond b (v ∷ us) us)) (cond b (v ∷ us) us)
    turn true true us later = sym later
    turn true false us later = refl
    turn false true us later = refl
    turn false false us later = refl

-- to choose and then to put in order is to put in order and then to choose
pub filter-by_key : (p : Write → Bool) (ws : List Write) → filter p (by_key ws) ≡ by_key (filter p ws)
filter-by_key p [] = refl
filter-by_key p (w ∷ ws) =
    filter-insert p w (by_key ws) (by_key-rising ws) ∙ ap (λ xs. cond (p w) (insert_write w xs) xs) (filter-by_key p ws) ∙ whole (p w)
  where
    whole : (b : Bool) → cond b (insert_write w (by_key (filter p ws))) (by_key (filter p ws)) ≡ by_key (cond b (w ∷ filter p ws) (filter p ws))
    whole true = refl
    whole false = refl

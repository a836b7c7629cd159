use Rattle.std.proofs.Common.{◌≡◌, ℕ, ◌==◌, Bool, true, false, List, [], ◌∷◌, ◌++◌, filter, refl, sym, ap, ◌∙◌, inl, inr, arith, eq-eqb}
use Rattle.std.specs.List.{list_all}
use Rattle.std.proofs.lemmas.Bool.{and_parts, and_from, cases_Bool, or_left, or_right}
use Rattle.std.proofs.lemmas.Bool.Decides.{nat_tests}
use Rattle.std.proofs.lemmas.List.{append_assoc}
use Rattle.std.proofs.lemmas.List.Elements.{filter-append, filter_map-append}
use Rattle.dt_record.proofs.Inserting.{insert-first, insert-later}
use Rattle.dt_lists.proofs.Lists.{filter-kept, filter-dropped, list_all-weaker}
use Rattle.dt_record.specs.declared.keys.Key.{Key}
use Rattle.dt_record.specs.declared.writes.Write.{Write}
use Rattle.dt_record.specs.Keys.{key_below}
use Rattle.dt_record.specs.Writes.{insert_write, by_key, no_records, writes_after}
use Rattle.dt_versions.specs.History.{are_in_order}
use Rattle.dt_writes.specs.Apart.{keys_differ, are_apart}
use Rattle.dt_writes.specs.Laws.{WritesStandInOrder}
use Rattle.dt_core.specs.Notes.{write_in, announced, hart_writes}
use Rattle.dt_settled.specs.Laws.{SoundNotesAreApart}
use Rattle.dt_settled.proofs.Orders.{list_all-parts}
use Rattle.dt_settled.proofs.Insertion.{list_all-insert, list_all-by_key}

-- No two writes that sound notes announce have one key.

-- writes that stand in order once they are sorted have different keys

inserted : (w : Write) (vs : List Write) → are_in_order (insert_write w vs) ≡ true → (list_all (λ v. keys_differ w.key v.key) vs ≡ true) × (are_in_order vs ≡ true)
inserted w [] ordered = (refl, refl)
inserted w (v ∷ vs) ordered = elim (cases_Bool (key_below w.key v.key)) [
  | inl below ↦
      let parts = and_parts (list_all (λ u. key_below w.key u.key) (v ∷ vs)) (are_in_order (v ∷ vs)) (sym (ap are_in_order (insert-first w v vs below)) ∙ ordered) in
      (list_all-weaker (λ u. key_below w.key u.key) (λ u. keys_differ w.key u.key) (v ∷ vs) (λ u under. or_left (key_below w.key u.key) (key_below u.key w.key) under) parts.0, parts.1)
  | inr above ↦
      let over : Write → Bool = λ u. key_below v.key u.key in
      let parts = and_parts (list_all over (insert_write w vs)) (are_in_order (insert_write w vs)) (sym (ap are_in_order (insert-later w v vs above)) ∙ ordered) in
      let each = and_parts (over w) (list_all over vs) (sym (list_all-insert over w vs) ∙ parts.0) in
      let rest = inserted w vs parts.1 in (
        and_from (keys_differ w.key v.key) (list_all (λ u. keys_differ w.key u.key) vs) (or_right (key_below w.key v.key) (key_below v.key w.key) each.0) rest.0,
        and_from (list_all over vs) (are_in_order vs) each.1 rest.1,
      )
]

apart_from_order : (ws : List Write) → are_in_order (by_key ws) ≡ true → are_apart ws ≡ true
apart_from_order [] ordered = refl
apart_from_order (w ∷ ws) ordered =
    let parts = inserted w (by_key ws) ordered in
    and_from (list_all (λ v. keys_differ w.key v.key) ws) (are_apart ws) (sym (list_all-by_key (λ v. keys_differ w.key v.key) ws) ∙ parts.0) (apart_from_order ws parts.1)

pub apart_front : (xs ys : List Write) → are_apart (xs ++ ys) ≡ true → are_apart xs ≡ true
apart_front [] ys apart = refl
apart_front (x ∷ xs) ys apart =
    let other : Write → Bool = λ v. keys_differ x.key v.key in
    let parts = and_parts (list_all other (xs ++ ys)) (are_apart (xs ++ ys)) apart in
    and_from (list_all other xs) (are_apart xs) (list_all-parts other xs ys parts.0).0 (apart_front xs ys parts.1)

-- writes of which no hart's share a key

harts_differ : (a b : Key) → (b.hart == a.hart) ≡ false → keys_differ a b ≡ true
harts_differ a b apart = grind (arith, nat_tests)

-- what differs from a hart's writes differs from all
differ_all : (w : Write) (vs : List Write) → list_all (λ v. keys_differ w.key v.key) (hart_writes w.key.hart vs) ≡ true → list_all (λ v. keys_differ w.key v.key) vs ≡ true
differ_all w [] own = refl
differ_all w (v ∷ vs) own =
    let mine : Write → Bool = λ u. u.key.hart == w.key.hart in
    let other : Write → Bool = λ u. keys_differ w.key u.key in
    elim (cases_Bool (mine v)) [
      | inl same ↦
          let parts = and_parts (other v) (list_all other (filter mine vs)) (sym (ap (list_all other) (filter-kept mine v vs same)) ∙ own) in
          and_from (other v) (list_all other vs) parts.0 (differ_all w vs parts.1)
      | inr apart ↦
          and_from (other v) (list_all other vs) (harts_differ w.key v.key apart) (differ_all w vs (sym (ap (list_all other) (filter-dropped mine v vs apart)) ∙ own))
    ]

rest_apart : (hart : ℕ) (w : Write) (ws : List Write) → are_apart (hart_writes hart (w ∷ ws)) ≡ true → are_apart (hart_writes hart ws) ≡ true
rest_apart hart w ws apart =
    let mine : Write → Bool = λ v. v.key.hart == hart in
    elim (cases_Bool (mine w)) [
      | inl same ↦ (and_parts (list_all (λ v. keys_differ w.key v.key) (filter mine ws)) (are_apart (filter mine ws)) (sym (ap are_apart (filter-kept mine w ws same)) ∙ apart)).1
      | inr other ↦ sym (ap are_apart (filter-dropped mine w ws other)) ∙ apart
    ]

apart_from_harts : (ws : List Write) → ((hart : ℕ) → are_apart (hart_writes hart ws) ≡ true) → are_apart ws ≡ true
apart_from_harts [] each = refl
apart_from_harts (w ∷ ws) each =
    let mine : Write → Bool = λ v. v.key.hart == w.key.hart in
    let own = sym (ap are_apart (filter-kept mine w ws (eq-eqb w.key.hart w.key.hart refl))) ∙ each w.key.hart in
    let parts = and_parts (list_all (λ v. keys_differ w.key v.key) (filter mine ws)) (are_apart (filter mine ws)) own in
    and_from (list_all (λ v. keys_differ w.key v.key) ws) (are_apart ws) (differ_all w ws parts.0) (apart_from_harts ws (λ hart. rest_apart hart w ws (each hart)))

pub SoundNotesAreApart-all : WritesStandInOrder → SoundNotesAreApart
SoundNotesAreApart-all in_order file l front sound begins = apart_from_harts (announced front) (λ hart.
    let told = (sound.harts hart).wrote in
    let more = announced begins.0 in
    let own : Write → Bool = λ w. w.key.hart == hart in
    let whole : announced l.history ≡ announced front ++ more = ap announced (sym begins.1) ∙ filter_map-append write_in front begins.0 in
    let all : writes_after no_records (l.taken hart) ≡ hart_writes hart (announced front) ++ (hart_writes hart more ++ told.0) =
    sym told.1 ∙ ap (λ (ws : List Write). hart_writes hart ws ++ told.0) whole ∙ ap (λ (ws : List Write). ws ++ told.0) (filter-append own (announced front) more)
    ∙ append_assoc (hart_writes hart (announced front)) (hart_writes hart more) told.0 in
    apart_front (hart_writes hart (announced front)) (hart_writes hart more ++ told.0) (ap are_apart (sym all) ∙ apart_from_order (writes_after no_records (l.taken hart)) (in_order (l.taken hart))))

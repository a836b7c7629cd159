use Rattle.std.proofs.Common.{ℕ, ◌≡◌, ◌-◌, ◌<◌, true, List, [], ◌∷◌, ◌++◌, length, get_or, take, zero, suc, refl, sym, ap, ◌∙◌, subst, inl, inr, Some, IsTrue, arith}
use Rattle.std.specs.List.{list_all, slice_get}
use Rattle.std.specs.Option.{unwrap_or}
use Rattle.std.proofs.lemmas.Bool.{and_parts, and_from, and_left, and_right, cases_Bool}
use Rattle.std.proofs.lemmas.List.{take_all}
use Rattle.std.proofs.lemmas.Option.{slice_get_within, unwrap_or-slice_get}
use Rattle.std.proofs.Math.Seq.{take-suc}
use Rattle.std.proofs.lemmas.List.Folds.{list_all-append}
use Rattle.dt_lists.proofs.Lists.{list_all-weaker, list_all-at}
use Rattle.dt_record.specs.declared.keys.Key.{Key}
use Rattle.dt_record.specs.declared.writes.Write.{Write}
use Rattle.dt_record.specs.Keys.{key_below, KeyBelow}
use Rattle.dt_record.proofs.KeyLaws.{KeyBelow-chain}
use Rattle.dt_versions.specs.History.{are_in_order}

-- Writes in the order of their keys.

pub KeyBelow-places : (writes : List Write) (i j : ℕ) (d : Write) → IsTrue (are_in_order writes) → i < j → j < length writes
    → KeyBelow (get_or writes i d).key (get_or writes j d).key
KeyBelow-places [] i j d ordered apart within = absurd (omega arith)
KeyBelow-places (w ∷ ws) i zero d ordered apart within = absurd (omega arith)
KeyBelow-places (w ∷ ws) zero (suc j) d ordered apart within =
    list_all-at (λ v. key_below w.key v.key) ws j d (and_parts _ (are_in_order ws) ordered).0 (omega arith)
KeyBelow-places (w ∷ ws) (suc i) (suc j) d ordered apart within =
    KeyBelow-places ws i j d (and_parts (list_all (λ v. key_below w.key v.key) ws) _ ordered).1 (omega arith) (omega arith)

-- all writes of the first part stand before all of the second
pub in_order-seam : (vs ws : List Write) → IsTrue (are_in_order (vs ++ ws)) → list_all (λ v. list_all (λ w. key_below v.key w.key) ws) vs ≡ true
in_order-seam [] ws ordered = refl
in_order-seam (v ∷ vs) ws ordered =
    let parts = and_parts (list_all (λ w. key_below v.key w.key) (vs ++ ws)) (are_in_order (vs ++ ws)) ordered in
    let after = and_parts _ _ (sym (list_all-append (λ w. key_below v.key w.key) vs ws) ∙ parts.0) in
    and_from _ _ after.1 (in_order-seam vs ws parts.1)

pub in_order-front : (vs ws : List Write) → IsTrue (are_in_order (vs ++ ws)) → IsTrue (are_in_order vs)
in_order-front [] ws ordered = refl
in_order-front (v ∷ vs) ws ordered =
    let parts = and_parts (list_all (λ w. key_below v.key w.key) (vs ++ ws)) (are_in_order (vs ++ ws)) ordered in
    let after = and_parts _ _ (sym (list_all-append (λ w. key_below v.key w.key) vs ws) ∙ parts.0) in
    and_from _ _ after.0 (in_order-front vs ws parts.1)

-- a write above all others can follow them
pub in_order-push : (ws : List Write) (w : Write) → IsTrue (are_in_order ws) → list_all (λ v. key_below v.key w.key) ws ≡ true
    → IsTrue (are_in_order (ws ++ w ∷ []))
in_order-push [] w ordered above = refl
in_order-push (v ∷ vs) w ordered above =
    let parts = and_parts (list_all (λ u. key_below v.key u.key) vs) (are_in_order vs) ordered in
    let higher = and_parts (key_below v.key w.key) (list_all (λ u. key_below u.key w.key) vs) above in
    let after = list_all-append (λ u. key_below v.key u.key) vs (w ∷ []) ∙ and_from _ _ parts.0 (and_from _ true higher.0 refl) in
    and_from _ _ after (in_order-push vs w parts.1 higher.1)

-- and it is above all others where it is above the last
pub above_all-from_last : (ws : List Write) (v : Write) (key : Key) → IsTrue (are_in_order (ws ++ v ∷ [])) → KeyBelow v.key key
    → list_all (λ w. key_below w.key key) (ws ++ v ∷ []) ≡ true
above_all-from_last ws v key ordered above =
    let before = in_order-seam ws (v ∷ []) ordered in
    let each = list_all-weaker (λ w. list_all (λ u. key_below w.key u.key) (v ∷ [])) (λ w. key_below w.key key) ws
    (λ w below. KeyBelow-chain w.key v.key key (and_parts (key_below w.key v.key) true below).0 above) before in
    list_all-append (λ w. key_below w.key key) ws (v ∷ []) ∙ and_from _ _ each (and_from _ true above refl)

pub key_below-last : (ws : List Write) (v : Write) (key : Key) → IsTrue (are_in_order ws) → slice_get ws (length ws - 1) ≡ Some v
    → key_below v.key key ≡ list_all (λ w. key_below w.key key) ws
key_below-last ws v key ordered found =
    let front = take (length ws - 1) ws in
    let within = slice_get_within ws (length ws - 1) v found in
    let last : get_or ws (length ws - 1) v ≡ v = sym (unwrap_or-slice_get ws (length ws - 1) v) ∙ ap (λ o. unwrap_or o v) found in
    let whole : suc (length ws - 1) ≡ length ws = omega arith in
    let split : ws ≡ front ++ v ∷ [] =
    sym (take_all (length ws) ws (omega arith)) ∙ ap (λ n. take n ws) (sym whole) ∙ take-suc ws (length ws - 1) v within
    ∙ ap (λ w. front ++ w ∷ []) last in
    let each = list_all-append (λ w. key_below w.key key) front (v ∷ []) in
    let joined : IsTrue (are_in_order (front ++ v ∷ [])) = subst (λ (xs : List Write). IsTrue (are_in_order xs)) split ordered in
    (elim (cases_Bool (key_below v.key key)) [
      | inl above ↦ above ∙ sym (above_all-from_last front v key joined above)
      | inr under ↦ under ∙ sym (each ∙ and_right (list_all (λ w. key_below w.key key) front) _ (and_left (key_below v.key key) true under))
    ])
    ∙ ap (λ (xs : List Write). list_all (λ w. key_below w.key key) xs) (sym split)

-- any write, for lemmas that want one
abbrev no_key : Key
no_key = record { stamp = 0; hart = 0; seq = 0 }

abbrev pub no_write : Write
no_write = record { key = no_key; line = 0; mask = 0; bytes = [] }

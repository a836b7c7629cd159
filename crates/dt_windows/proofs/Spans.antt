use Rattle.std.proofs.Common.{ℕ, ◌≡◌, ◌+◌, ◌≤◌, Bool, true, not, List, [], ◌∷◌, take, drop, zero, suc, refl, ap, ◌∙◌, inl, inr, IsTrue, arith}
use Rattle.std.specs.List.{list_all, prefix_len}
use Rattle.std.proofs.lemmas.Bool.{and_parts, and_from, cases_Bool, cases_lt, cond-true, cond-false, not-false}
use Rattle.std.proofs.lemmas.Bool.Decides.{nat_tests}
use Rattle.dt_lists.proofs.Lists.{list_all-weaker}
use Rattle.dt_record.specs.declared.keys.Key.{Key}
use Rattle.dt_record.specs.declared.writes.Write.{Write}
use Rattle.dt_record.specs.Keys.{key_below, KeyBelow}
use Rattle.dt_record.proofs.KeyLaws.{KeyBelow-chain}
use Rattle.dt_record.specs.Visible.{must_see, cannot_see}
use Rattle.dt_versions.specs.History.{are_in_order}
use Rattle.dt_versions.specs.Laws.{VisibleIsInterval}
use Rattle.dt_versions.specs.Spans.{first_visible, last_visible}
use Rattle.dt_windows.specs.Laws.{SpansHaveMoments}

-- What has to be seen at a fence may be seen at a later record.

list_all-shorter : {X : Type 0} (test : X → Bool) (j k : ℕ) (xs : List X) → j ≤ k → list_all test (take k xs) ≡ true → list_all test (take j xs) ≡ true
list_all-shorter test zero k xs below all = refl
list_all-shorter test (suc j) zero xs below all = absurd (omega arith)
list_all-shorter test (suc j) (suc k) [] below all = refl
list_all-shorter test (suc j) (suc k) (x ∷ xs) below all =
    let parts = and_parts (test x) (list_all test (take k xs)) all in
    and_from (test x) (list_all test (take j xs)) parts.0 (list_all-shorter test j k xs (omega arith) parts.1)

-- a write that cannot be seen at a record is after it, and one after a fence need not be seen there
hidden-after : (key : Key) (w : Write) → cannot_see key key.stamp w ≡ true → KeyBelow key w.key
hidden-after key w hidden = grind (arith, nat_tests)

undue-after : (fence : Key) (w : Write) → KeyBelow fence w.key → not (must_see fence fence.stamp w) ≡ true
undue-after fence w after = grind (arith, nat_tests)

-- so none from the first that cannot be seen at a record on has to be seen at an earlier fence
undue-hidden : (key fence : Key) (writes : List Write) → IsTrue (are_in_order writes) → KeyBelow fence key
    → list_all (λ w. not (must_see fence fence.stamp w)) (drop (last_visible writes key key.stamp) writes) ≡ true
undue-hidden key fence [] ordered before = refl
undue-hidden key fence (w ∷ ws) ordered before =
    let undue : Write → Bool = λ v. not (must_see fence fence.stamp v) in
    let visible : Write → Bool = λ v. not (cannot_see key key.stamp v) in
    let parts = and_parts (list_all (λ v. key_below w.key v.key) ws) (are_in_order ws) ordered in
    elim (cases_Bool (visible w)) [
      | inl seen ↦
          let longer : prefix_len visible (w ∷ ws) ≡ suc (prefix_len visible ws) = cond-true (visible w) (1 + prefix_len visible ws) 0 seen ∙ omega arith in
          ap (λ k. list_all undue (drop k (w ∷ ws))) longer ∙ undue-hidden key fence ws parts.1 before
      | inr stops ↦
          let none : prefix_len visible (w ∷ ws) ≡ 0 = cond-false (visible w) (1 + prefix_len visible ws) 0 stops in
          let above = KeyBelow-chain fence key w.key before (hidden-after key w (not-false (cannot_see key key.stamp w) stops)) in
          ap (λ k. list_all undue (drop k (w ∷ ws))) none
          ∙ and_from (undue w) (list_all undue ws) (undue-after fence w above)
          (list_all-weaker (λ v. key_below w.key v.key) undue ws (λ v later. undue-after fence v (KeyBelow-chain fence w.key v.key above later)) parts.0)
    ]

pub spans_have_moments : VisibleIsInterval → SpansHaveMoments
spans_have_moments interval writes key fence ordered before =
    let ends = interval writes fence fence.stamp ordered (omega arith) in
    let first = first_visible writes fence fence.stamp in
    let last = last_visible writes key key.stamp in
    elim (cases_lt last first) [
      | inl below ↦
          let seen = (ends.exact first).1 (omega arith, ends.never_empty) in
          ((ends.exact last).0 (record {
            within = omega (arith, seen.within);
            seen = list_all-shorter (λ w. not (cannot_see fence fence.stamp w)) last first writes (omega arith) seen.seen;
            unseen = undue-hidden key fence writes ordered before;
          })).0
      | inr above ↦ above
    ]

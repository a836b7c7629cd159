use Rattle.std.proofs.Common.{ℕ, ◌≡◌, ◌<◌, ◌≤◌, ◌⊎◌, true, not, List, length, get_or, ap, ◌∙◌, IsTrue, inl, inr, arith}
use Rattle.std.proofs.lemmas.Bool.{and_parts, or_cases, ltb-true, leb-true, cases_lt, both_ways}
use Rattle.std.proofs.lemmas.List.Sums.{prefix_len-le-length}
use Rattle.dt_record.specs.declared.keys.Key.{Key}
use Rattle.dt_record.specs.declared.writes.Write.{Write}
use Rattle.dt_record.specs.Keys.{key_below, KeyBelow}
use Rattle.dt_record.proofs.KeyLaws.{KeyBelow-chain, KeyBelow-from_stamps, KeyBelow-stamps, key_below-itself, key_below-back}
use Rattle.dt_record.specs.Visible.{must_see, cannot_see}
use Rattle.dt_versions.specs.History.{are_in_order}
use Rattle.dt_versions.specs.Spans.{first_visible, last_visible, AreVisible}
use Rattle.dt_versions.proofs.Orders.{KeyBelow-places, no_write}
use Rattle.dt_versions.proofs.Seams.{AreApart, low-le-high, seen_between, unseen_between, low-le-place, place-le-high}

-- a write that has to be seen is of an earlier cycle, or before the record and not after the cycle
must_see-means : (key : Key) (at : ℕ) (w : Write) → must_see key at w ≡ true → (w.key.stamp < at) ⊎ (KeyBelow w.key key × (w.key.stamp ≤ at))
must_see-means key at w must = elim (or_cases _ _ must) [
  | inl early ↦ inl (ltb-true _ _ early)
  | inr own ↦
      let before = and_parts _ _ (and_parts _ _ own).1 in
      inr (before.0, leb-true _ _ before.1)
]

-- one that cannot be seen is of a later cycle, or after the record
cannot_see-means : (key : Key) (at : ℕ) (w : Write) → cannot_see key at w ≡ true → (at < w.key.stamp) ⊎ KeyBelow key w.key
cannot_see-means key at w cannot = elim (or_cases _ _ cannot) [
  | inl late ↦ inl (ltb-true _ _ late)
  | inr own ↦ inr (and_parts _ _ own).1
]

-- what has to be seen stands before what cannot be seen
KeyBelow-seen : (key : Key) (at : ℕ) (v w : Write) → at ≤ key.stamp → must_see key at v ≡ true → cannot_see key at w ≡ true → KeyBelow v.key w.key
KeyBelow-seen key at v w early must cannot = elim (must_see-means key at v must) [
  | inl before ↦ elim (cannot_see-means key at w cannot) [
    | inl after ↦ KeyBelow-from_stamps v.key w.key (omega arith)
    | inr after ↦ let later = KeyBelow-stamps key w.key after in KeyBelow-from_stamps v.key w.key (omega arith)
  ]
  | inr before ↦ elim (cannot_see-means key at w cannot) [
    | inl after ↦ KeyBelow-from_stamps v.key w.key (omega arith)
    | inr after ↦ KeyBelow-chain v.key key w.key before.0 after
  ]
]

-- so, where the writes are in order, no write that has to be seen stands at one that cannot be seen or after it
AreApart-seen : (writes : List Write) (key : Key) (at : ℕ) → IsTrue (are_in_order writes) → at ≤ key.stamp → AreApart (must_see key at) (cannot_see key at) writes
AreApart-seen writes key at ordered early = record {
  apart = λ i j d before within cannot must.
      let v = get_or writes j d in
      let w = get_or writes i d in
      let turned = KeyBelow-seen key at v w early must cannot in
      elim (cases_lt i j) [
        | inl apart ↦ both_ways (key_below v.key w.key) (key_below-back w.key v.key (KeyBelow-places writes i j d ordered apart within)) turned
        | inr same ↦
            let e : i ≡ j = omega arith in
            both_ways (key_below v.key w.key) (ap (λ k. key_below v.key (get_or writes k d).key) e ∙ key_below-itself v.key) turned
      ];
}

pub AreVisible-ends : (writes : List Write) (key : Key) (at : ℕ) → IsTrue (are_in_order writes) → at ≤ key.stamp
    → AreVisible writes key at (first_visible writes key at) (last_visible writes key at)
AreVisible-ends writes key at ordered early =
    let must = must_see key at in
    let cannot = cannot_see key at in
    record {
      exact = λ k. (
        λ seen. (low-le-place must writes no_write k seen.unseen, place-le-high cannot writes no_write k seen.within seen.seen),
        λ between. record {
          within = omega (arith, prefix_len-le-length (λ w. not (cannot w)) writes, between.1);
          seen = seen_between must cannot writes no_write k between.1;
          unseen = unseen_between must writes no_write k between.0;
        },
      );
      never_empty = low-le-high must cannot writes no_write (AreApart-seen writes key at ordered early);
    }

pub last_visible-le-length : (writes : List Write) (key : Key) (at : ℕ) → last_visible writes key at ≤ length writes
last_visible-le-length writes key at = prefix_len-le-length (λ w. not (cannot_see key at w)) writes

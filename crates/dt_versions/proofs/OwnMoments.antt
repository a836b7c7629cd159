-- The moment of a key is visible for it, and moments rise with keys.
use Rattle.std.proofs.Common.{ℕ, ◌≡◌, ◌<◌, ◌≤◌, ◌==◌, Bool, true, false, not, List, [], ◌∷◌, ◌++◌, length, get_or, take, drop, filter, suc, Option, Some, nat_lt, sym, ap, ◌∙◌, subst, IsTrue, inl, inr, arith}
use Rattle.std.specs.Prelude.{find, option_map, reverse}
use Rattle.std.specs.List.{list_all}
use Rattle.std.proofs.lemmas.Bool.{and_left, and_right, both_ways, cases_Bool, cases_lt, cond-false, cond-true, false_from_ne_true, le-ltb, ltb-true, not-true, not_from_false, or_from}
use Rattle.std.proofs.lemmas.List.{reverse-append}
use Rattle.std.proofs.Math.Seq.{take-suc}
use Rattle.std.proofs.lemmas.List.Sums.{length-filter, count_by-le-length}
use Rattle.dt_lists.proofs.Lists.{list_all-weaker}
use Rattle.dt_record.specs.declared.keys.Key.{Key}
use Rattle.dt_record.specs.declared.writes.Write.{Write}
use Rattle.dt_record.specs.Keys.{KeyBelow, key_below}
use Rattle.dt_record.proofs.KeyLaws.{KeyBelow-chain, KeyBelow-from_stamps, KeyBelow-stamps, key_below-back}
use Rattle.dt_record.specs.LoadSources.{rank_below}
use Rattle.dt_record.specs.Memory.{covers, moment_of, source_at}
use Rattle.dt_record.specs.Visible.{cannot_see, must_see}
use Rattle.dt_versions.specs.Laws.{EarlierWritesAreHeld, LaterMomentsLieSince, OwnMomentIsVisible, source_rank}
use Rattle.dt_versions.proofs.Fronts.{IsClosed, front_passes, length-filter-closed}
use Rattle.dt_versions.specs.History.{are_in_order}
use Rattle.dt_versions.proofs.Orders.{KeyBelow-places, no_write}
use Rattle.dt_versions.proofs.RisingSources.{rank_below-source_at}
use Rattle.dt_versions.proofs.Seams.{low_end, past_low, unseen_between}
use Rattle.dt_versions.proofs.VisibleEnds.{AreVisible-ends}

-- a write before the record can be seen, and any other need not be
seen-before : (key : Key) (w : Write) → KeyBelow w.key key → not (cannot_see key key.stamp w) ≡ true
seen-before key w before =
    let stamps = KeyBelow-stamps w.key key before in
    not_from_false (cannot_see key key.stamp w)
    (or_from (nat_lt key.stamp w.key.stamp) _ (le-ltb key.stamp w.key.stamp (omega arith))
    (and_right (w.key.hart == key.hart) _ (key_below-back w.key key before)))

undue-after : (key : Key) (w : Write) → not (key_below w.key key) ≡ true → not (must_see key key.stamp w) ≡ true
undue-after key w after =
    let not_before = not-true (key_below w.key key) after in
    not_from_false (must_see key key.stamp w)
    (or_from (nat_lt w.key.stamp key.stamp) _
    (false_from_ne_true (nat_lt w.key.stamp key.stamp) (λ early. both_ways (key_below w.key key) not_before (KeyBelow-from_stamps w.key key (ltb-true w.key.stamp key.stamp early))))
    (and_right (w.key.hart == key.hart) _ (and_left (key_below w.key key) _ not_before)))

-- the writes before the record are the first ones
closed-before : (writes : List Write) (key : Key) → IsTrue (are_in_order writes) → IsClosed (λ w. key_below w.key key) writes
closed-before writes key ordered = record {
  closed = λ i j d apart within passes.
      KeyBelow-chain (get_or writes i d).key (get_or writes j d).key key (KeyBelow-places writes i j d ordered apart within) passes;
}

pub IsVisible-own : OwnMomentIsVisible
IsVisible-own writes key ordered =
    let before : Write → Bool = λ w. key_below w.key key in
    let closed = closed-before writes key ordered in
    let place = length-filter-closed before writes no_write closed in
    record {
      within = omega (arith, length-filter before writes, count_by-le-length before writes);
      seen = ap (λ k. list_all (λ w. not (cannot_see key key.stamp w)) (take k writes)) place
          ∙ list_all-weaker before (λ w. not (cannot_see key key.stamp w)) (take (low_end before writes) writes) (seen-before key)
          (front_passes before writes no_write closed);
      unseen = ap (λ k. list_all (λ w. not (must_see key key.stamp w)) (drop k writes)) place
          ∙ list_all-weaker (λ w. not (before w)) (λ w. not (must_see key key.stamp w)) (drop (low_end before writes) writes) (undue-after key)
          (unseen_between before writes no_write (low_end before writes) (omega arith));
    }

-- a weaker test keeps no fewer
more_kept : {X : Type 0} (p q : X → Bool) (xs : List X) → ((x : X) → p x ≡ true → q x ≡ true) → length (filter p xs) ≤ length (filter q xs)
more_kept p q [] follows = omega arith
more_kept p q (x ∷ xs) follows =
    let rest = more_kept p q xs follows in
    elim (cases_Bool (p x)) [
      | inl passes ↦
          omega (
            arith,
            rest,
            ap length (cond-true (p x) (x ∷ filter p xs) (filter p xs) passes),
            ap length (cond-true (q x) (x ∷ filter q xs) (filter q xs) (follows x passes)),
          )
      | inr fails ↦ elim (cases_Bool (q x)) [
        | inl also ↦
            omega (
              arith,
              rest,
              ap length (cond-false (p x) (x ∷ filter p xs) (filter p xs) fails),
              ap length (cond-true (q x) (x ∷ filter q xs) (filter q xs) also),
            )
        | inr neither ↦
            omega (
              arith,
              rest,
              ap length (cond-false (p x) (x ∷ filter p xs) (filter p xs) fails),
              ap length (cond-false (q x) (x ∷ filter q xs) (filter q xs) neither),
            )
      ]
    ]

pub LiesSince-later : LaterMomentsLieSince
LiesSince-later writes fence key ordered below = record {
  seen = (((AreVisible-ends writes fence fence.stamp ordered (omega arith)).exact (moment_of writes fence)).0 (IsVisible-own writes fence ordered)).0;
  rises = more_kept (λ w. key_below w.key fence) (λ w. key_below w.key key) writes (λ w before. KeyBelow-chain w.key fence key before below);
  ends = (((AreVisible-ends writes key key.stamp ordered (omega arith)).exact (moment_of writes key)).0 (IsVisible-own writes key ordered)).1;
}

-- a write that covers a byte is its source just after the write
source_at-write : (writes : List Write) (i addr : ℕ) (w : Write) → i < length writes → get_or writes i w ≡ w → IsTrue (covers addr w)
    → source_at writes (suc i) addr ≡ Some w.key
source_at-write writes i addr w within is covering =
    ap (λ (front : List Write). option_map (λ (v : Write). v.key) (find (covers addr) (reverse front)))
    (take-suc writes i w within ∙ ap (λ (v : Write). take i writes ++ v ∷ []) is)
    ∙ ap (λ (back : List Write). option_map (λ (v : Write). v.key) (find (covers addr) back)) (reverse-append (take i writes) (w ∷ []))
    ∙ ap (option_map (λ (v : Write). v.key)) (cond-true (covers addr w) (Some w) (find (covers addr) (reverse (take i writes))) covering)

pub held-earlier : EarlierWritesAreHeld
held-earlier writes key addr w ordered there below covering =
    let before : Write → Bool = λ v. key_below v.key key in
    let i = there.0 in
    let place = length-filter-closed before writes no_write (closed-before writes key ordered) in
    let early : i < moment_of writes key = (elim (cases_lt i (low_end before writes)) [
      | inl inside ↦ omega (arith, inside, place)
      | inr past ↦
          absurd (both_ways (key_below w.key key)
          (not-true (key_below w.key key) (ap (λ (v : Write). not (before v)) (sym there.2) ∙ past_low before writes w i past there.1)) below)
    ]) in
    subst (λ (o : Option Key). rank_below (source_rank (source_at writes (moment_of writes key) addr)) (source_rank o) ≡ false)
    (source_at-write writes i addr w there.1 there.2 covering)
    (rank_below-source_at writes addr (suc i) (moment_of writes key) ordered (omega (arith, early)))

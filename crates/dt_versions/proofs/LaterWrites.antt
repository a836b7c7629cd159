use Rattle.std.proofs.Common.{ℕ, ◌≡◌, ◌≤◌, ◌==◌, ◌&&◌, ◌||◌, Bool, true, false, not, List, [], ◌∷◌, ◌++◌, length, get_or, take, drop, filter, nat_le, nat_lt, refl, sym, ap, ◌∙◌, subst, inl, inr, arith}
use Rattle.std.specs.List.{list_all, list_any}
use Rattle.std.proofs.lemmas.Bool.{and_parts, and_from, and_right, both_ways, cases_lt, le-leb, leb-false, leb-true, lt-ltb, ltb-true, not-true, not_from_false}
use Rattle.std.proofs.lemmas.Bool.Decides.{nat_tests}
use Rattle.std.proofs.lemmas.List.{get_or-take, length-take, take-append-le, drop-append-le, take-append-drop, length-append, append-nil}
use Rattle.std.proofs.Math.Seq.{get_or-append_seam}
use Rattle.std.proofs.lemmas.List.Elements.{filter-append}
use Rattle.std.proofs.lemmas.List.Sums.{length-filter, count_by-le-length}
use Rattle.std.proofs.lemmas.List.Folds.{list_all-append, list_any-append}
use Rattle.dt_lists.proofs.Lists.{filter-none, list_all-weaker, list_all-at}
use Rattle.dt_record.specs.declared.keys.Key.{Key}
use Rattle.dt_record.specs.declared.writes.Write.{Write}
use Rattle.dt_record.specs.Keys.{key_below}
use Rattle.dt_record.proofs.KeyLaws.{key_below-back, KeyBelow-stamps, KeyBelow-from_stamps}
use Rattle.dt_record.specs.Memory.{moment_of, is_touched}
use Rattle.dt_record.specs.Visible.{must_see, cannot_see, IsVisible}
use Rattle.dt_versions.specs.Laws.{AreAlike, LaterWritesDoNotCount}
use Rattle.dt_versions.proofs.Orders.{KeyBelow-places, no_write}
use Rattle.dt_versions.proofs.Places.{list_any-none}
use Rattle.dt_versions.proofs.Seams.{low_end, unseen_between}
use Rattle.dt_versions.proofs.Fronts.{IsClosed, filter-closed}

-- a write of a later cycle than the record's
abbrev is_late : Key → Write → Bool
is_late key w = nat_lt key.stamp w.key.stamp

-- it cannot be seen, need not be seen, and is not before the record
late-hidden : (key : Key) (at : ℕ) (w : Write) → at ≤ key.stamp → is_late key w ≡ true → cannot_see key at w ≡ true
late-hidden key at w early late = grind (arith, nat_tests)

late-undue : (key : Key) (at : ℕ) (w : Write) → at ≤ key.stamp → is_late key w ≡ true → not (must_see key at w) ≡ true
late-undue key at w early late = grind (arith, nat_tests)

late-above : (key : Key) (w : Write) → is_late key w ≡ true → key_below w.key key ≡ false
late-above key w late = key_below-back key w.key (KeyBelow-from_stamps key w.key (ltb-true _ _ late))

or-false : (b : Bool) → (b || false) ≡ b
or-false true = refl
or-false false = refl

-- a visible moment holds no late write
visible_in_front : (vs rest : List Write) (key : Key) (at k : ℕ) → at ≤ key.stamp → list_all (is_late key) rest ≡ true
    → IsVisible (vs ++ rest) key at k → k ≤ length vs
visible_in_front vs [] key at k early late seen = omega (arith, length-append vs (let none : List Write = [] in none), seen.within)
visible_in_front vs (r ∷ rs) key at k early late seen = elim (cases_lt (length vs) k) [
  | inl beyond ↦
      let here = list_all-at (λ w. not (cannot_see key at w)) (take k (vs ++ r ∷ rs)) (length vs) r seen.seen
      (omega (arith, length-take k (vs ++ r ∷ rs), length-append vs (r ∷ rs))) in
      let place = get_or-take k (vs ++ r ∷ rs) (length vs) r beyond ∙ get_or-append_seam vs r rs r in
      let hidden = late-hidden key at r early (and_parts (is_late key r) _ late).0 in
      absurd (both_ways (cannot_see key at r) (not-true _ (ap (λ w. not (cannot_see key at w)) (sym place) ∙ here)) hidden)
  | inr inside ↦ inside
]

-- the writes of a front, after which there are late writes alone, are like all
alike : (vs rest : List Write) (key : Key) (at : ℕ) → at ≤ key.stamp → list_all (is_late key) rest ≡ true → AreAlike (vs ++ rest) vs key at
alike vs rest key at early late =
    let undue = list_all-weaker (is_late key) (λ w. not (must_see key at w)) rest (λ w l. late-undue key at w early l) late in
    let none_before = list_all-weaker (is_late key) (λ w. not (key_below w.key key)) rest (λ w l. not_from_false _ (late-above key w l)) late in
    let moments : moment_of (vs ++ rest) key ≡ moment_of vs key =
    ap length (filter-append (λ w. key_below w.key key) vs rest ∙ ap (λ ws. filter (λ w. key_below w.key key) vs ++ ws) (filter-none (λ w. key_below w.key key) rest none_before) ∙ append-nil _) in
    let few : moment_of vs key ≤ length vs = omega (arith, length-filter (λ w. key_below w.key key) vs, count_by-le-length (λ w. key_below w.key key) vs) in
    record {
      visible = λ k. (
        λ seen.
            let inside = visible_in_front vs rest key at k early late seen in
            let unseen = and_parts _ _ (sym (list_all-append (λ w. not (must_see key at w)) (drop k vs) rest) ∙ ap (list_all (λ w. not (must_see key at w))) (sym (drop-append-le k vs rest inside)) ∙ seen.unseen) in
            record { within = inside; seen = ap (list_all (λ w. not (cannot_see key at w))) (sym (take-append-le k vs rest inside)) ∙ seen.seen; unseen = unseen.0 },
        λ seen. record {
          within = omega (arith, seen.within, length-append vs rest);
          seen = ap (list_all (λ w. not (cannot_see key at w))) (take-append-le k vs rest seen.within) ∙ seen.seen;
          unseen = ap (list_all (λ w. not (must_see key at w))) (drop-append-le k vs rest seen.within)
              ∙ list_all-append (λ w. not (must_see key at w)) (drop k vs) rest ∙ and_from _ _ seen.unseen undue;
        },
      );
      held = λ k seen. take-append-le k vs rest (visible_in_front vs rest key at k early late seen);
      own_moment = moments;
      own_held = ap (λ k. take k (vs ++ rest)) moments ∙ take-append-le (moment_of vs key) vs rest few;
      touched = λ line from but. untouched line from but;
    }
  where
    untouched : (line : ℕ) (from : Key) (but : ℕ) → is_touched (vs ++ rest) line from key but ≡ is_touched vs line from key but
    untouched line from but =
        let touches : Write → Bool = λ w. (w.line == line) && (not (w.key.hart == but) && (key_below from w.key && key_below w.key key)) in
        let none = list_any-none touches rest (list_all-weaker (is_late key) (λ w. not (touches w)) rest
        (λ w l. not_from_false _ (and_right (w.line == line) _ (and_right (not (w.key.hart == but)) _ (and_right (key_below from w.key) _ (late-above key w l))))) late) in
        list_any-append touches vs rest ∙ ap (λ b. list_any touches vs || b) none ∙ or-false (list_any touches vs)

pub AreAlike-writes_until : LaterWritesDoNotCount
AreAlike-writes_until writes key at ordered early =
    let p : Write → Bool = λ w. nat_le w.key.stamp key.stamp in
    let closed : IsClosed p writes = record {
      closed = λ i j d before within passes.
          let v = get_or writes i d in
          let w = get_or writes j d in
          let stamps = KeyBelow-stamps v.key w.key (KeyBelow-places writes i j d ordered before within) in
          let fits = leb-true w.key.stamp key.stamp passes in
          le-leb v.key.stamp key.stamp (omega arith);
    } in
    let front = filter-closed p writes no_write closed in
    let n = low_end p writes in
    let late = list_all-weaker (λ w. not (p w)) (is_late key) (drop n writes) (λ w past. lt-ltb key.stamp w.key.stamp (leb-false w.key.stamp key.stamp (not-true (p w) past)))
    (unseen_between p writes no_write n (omega arith)) in
    let split = alike (take n writes) (drop n writes) key at early late in
    subst (λ (vs : List Write). AreAlike writes vs key at) (sym front)
    (subst (λ (ws : List Write). AreAlike ws (take n writes) key at) (take-append-drop n writes) split)

use Rattle.std.proofs.Common.{ℕ, ◌≡◌, ◌+◌, ◌-◌, ◌<◌, ◌≤◌, ◌==◌, ◌&&◌, Bool, true, false, not, IsTrue, List, length, get_or, take, drop, nat_lt, sym, ap, ◌∙◌, subst, inl, inr, arith}
use Rattle.std.specs.List.Sorted.{IsPartitionedBy}
use Rattle.std.proofs.lemmas.Bool.{and_from, and_left, and_parts, and_right, both_ways, cases_lt, eq-eqb, eqb-true, false_from_ne_true, le-leb, le-ltb, lt-leb, lt-ltb, ltb-true, ne_eqb, not-true, not_from_false, or_cases, or_from, or_left, or_parts, or_right, ltb-false, true_from_ne_false}
use Rattle.std.proofs.lemmas.Bool.Decides.{nat_tests}
use Rattle.std.proofs.lemmas.List.{get_or-drop, get_or-take, length-drop, length-take}
use Rattle.dt_record.specs.declared.keys.Key.{Key}
use Rattle.dt_record.specs.declared.writes.Write.{Write}
use Rattle.dt_record.specs.Keys.{key_below, KeyBelow}
use Rattle.dt_record.proofs.KeyLaws.{KeyBelow-chain, KeyBelow-from_stamps, key_below-back}
use Rattle.dt_record.specs.Visible.{must_see, cannot_see}
use Rattle.dt_versions.specs.Cycles.{IsCycle, is_up_to_before, is_up_to_own}
use Rattle.dt_versions.specs.History.{are_in_order}
use Rattle.dt_versions.specs.Spans.{first_visible, last_visible}
use Rattle.dt_versions.proofs.Halving.{high_end-is, low_end-is}
use Rattle.dt_versions.proofs.Lasts.{IsPartBetween}
use Rattle.dt_versions.proofs.Orders.{KeyBelow-places, no_write}

-- The visible moments of a cycle, by its own writes.

KeyBelow-harts : (a b : Key) → KeyBelow a b → a.stamp ≡ b.stamp → a.hart ≤ b.hart
KeyBelow-harts a b below same = grind (arith, nat_tests)

-- a test that a write passes where a later one of its cycle does
pub record IsClosedInCycle (p : Write → Bool) : Type 0 where
  pub closed : (v w : Write) → v.key.stamp ≡ w.key.stamp → KeyBelow v.key w.key → p w ≡ true → p v ≡ true

pub closed-before_own : (key : Key) → IsClosedInCycle (is_up_to_before key)
closed-before_own key = record {
  closed = λ v w same below passes.
      let harts = KeyBelow-harts v.key w.key below same in
      elim (or_cases (nat_lt w.key.hart key.hart) _ passes) [
        | inl lower ↦ or_left (nat_lt v.key.hart key.hart) _ (lt-ltb v.key.hart key.hart (omega (arith, ltb-true w.key.hart key.hart lower)))
        | inr own ↦
            let parts = and_parts (w.key.hart == key.hart) (key_below w.key key) own in
            let here = eqb-true w.key.hart key.hart parts.0 in
            elim (cases_lt v.key.hart key.hart) [
              | inl lower ↦ or_left (nat_lt v.key.hart key.hart) _ (lt-ltb v.key.hart key.hart lower)
              | inr not_lower ↦ or_right (nat_lt v.key.hart key.hart) _ (and_from _ _ (eq-eqb v.key.hart key.hart (omega arith)) (KeyBelow-chain v.key w.key key below parts.1))
            ]
      ];
}

pub closed-through_own : (key : Key) → IsClosedInCycle (is_up_to_own key)
closed-through_own key = record {
  closed = λ v w same below passes.
      let harts = KeyBelow-harts v.key w.key below same in
      elim (or_cases (nat_lt w.key.hart key.hart) _ passes) [
        | inl lower ↦ or_left (nat_lt v.key.hart key.hart) _ (lt-ltb v.key.hart key.hart (omega (arith, ltb-true w.key.hart key.hart lower)))
        | inr own ↦
            let parts = and_parts (w.key.hart == key.hart) (not (key_below key w.key)) own in
            let here = eqb-true w.key.hart key.hart parts.0 in
            let not_after = false_from_ne_true (key_below key v.key) (λ after. both_ways _ (not-true _ parts.1) (KeyBelow-chain key v.key w.key after below)) in
            elim (cases_lt v.key.hart key.hart) [
              | inl lower ↦ or_left (nat_lt v.key.hart key.hart) _ (lt-ltb v.key.hart key.hart lower)
              | inr not_lower ↦ or_right (nat_lt v.key.hart key.hart) _ (and_from _ _ (eq-eqb v.key.hart key.hart (omega arith)) (not_from_false _ not_after))
            ]
      ];
}

module _ (writes : List Write) (at start end : ℕ) (ordered : IsTrue (are_in_order writes)) (cycle : IsCycle writes at start end) where
  pub IsPartitionedBy-cycle : (p : Write → Bool) → IsClosedInCycle p → IsPartitionedBy p (take (end - start) (drop start writes))
  IsPartitionedBy-cycle p is i j d before within passes =
      let size : length (take (end - start) (drop start writes)) ≡ end - start = omega (arith, length-take (end - start) (drop start writes), length-drop start writes, cycle.within) in
      let at_place : (m : ℕ) → m < end - start → get_or (take (end - start) (drop start writes)) m d ≡ get_or writes (start + m) d = λ m below.
      get_or-take (end - start) (drop start writes) m d below ∙ get_or-drop start writes m d in
      let there = sym (ap p (at_place j (omega arith))) ∙ passes in
      ap p (at_place i (omega arith)) ∙ (elim (cases_lt i j) [
        | inl apart ↦
            is.closed (get_or writes (start + i) d) (get_or writes (start + j) d) (cycle.inside (start + i) d (omega arith) (omega arith) ∙ sym (cycle.inside (start + j) d (omega arith) (omega arith)))
            (KeyBelow-places writes (start + i) (start + j) d ordered (omega arith) (omega (arith, cycle.within))) there
        | inr same ↦ let e : j ≡ i = omega arith in subst (λ m. p (get_or writes (start + m) d) ≡ true) e there
      ])

  -- harts rise within the cycle
  harts_rise : (i j : ℕ) → start ≤ i → i ≤ j → j < end → (get_or writes i no_write).key.hart ≤ (get_or writes j no_write).key.hart
  harts_rise i j from before to = elim (cases_lt i j) [
    | inl apart ↦
        KeyBelow-harts (get_or writes i no_write).key (get_or writes j no_write).key (KeyBelow-places writes i j no_write ordered apart (omega (arith, cycle.within)))
        (cycle.inside i no_write from (omega arith) ∙ sym (cycle.inside j no_write (omega arith) to))
    | inr same ↦ let e : i ≡ j = omega arith in omega (arith, ap (λ m. (get_or writes m no_write).key.hart) e)
  ]

  module _ (key : Key) where
    due-earlier : (w : Write) → w.key.stamp < at → must_see key at w ≡ true
    due-earlier w early = or_left (nat_lt w.key.stamp at) _ (lt-ltb w.key.stamp at early)

    due-own : (w : Write) → w.key.stamp ≡ at → w.key.hart ≡ key.hart → is_up_to_before key w ≡ true → must_see key at w ≡ true
    due-own w now own passes = elim (or_cases (nat_lt w.key.hart key.hart) _ passes) [
      | inl lower ↦ absurd (omega (arith, ltb-true w.key.hart key.hart lower))
      | inr parts ↦
          or_right (nat_lt w.key.stamp at) _ (and_from _ _ (eq-eqb w.key.hart key.hart own)
          (and_from _ _ (and_parts (w.key.hart == key.hart) (key_below w.key key) parts).1 (le-leb w.key.stamp at (omega arith))))
    ]

    undue-later : (w : Write) → at < w.key.stamp → must_see key at w ≡ false
    undue-later w late =
        or_from (nat_lt w.key.stamp at) _ (le-ltb w.key.stamp at (omega arith))
        (and_right (w.key.hart == key.hart) _ (and_right (key_below w.key key) _ (lt-leb w.key.stamp at late)))

    undue-past : (w : Write) → w.key.stamp ≡ at → is_up_to_before key w ≡ false → must_see key at w ≡ false
    undue-past w now fails =
        or_from (nat_lt w.key.stamp at) _ (le-ltb w.key.stamp at (omega arith)) (false_from_ne_true _ (λ own.
        let parts = and_parts (w.key.hart == key.hart) _ own in
        both_ways _ fails (or_right (nat_lt w.key.hart key.hart) _ (and_from _ _ parts.0 (and_parts (key_below w.key key) _ parts.1).0))))

    undue-other : (w : Write) → w.key.stamp ≡ at → (w.key.hart ≡ key.hart → ⊥) → must_see key at w ≡ false
    undue-other w now other = or_from (nat_lt w.key.stamp at) _ (le-ltb w.key.stamp at (omega arith)) (and_left (w.key.hart == key.hart) _ (ne_eqb w.key.hart key.hart other))

    module _ (place : ℕ) (from : start ≤ place) (to : place ≤ end)
        (between : IsPartBetween (λ w. is_up_to_before key w ≡ true) (λ w. is_up_to_before key w ≡ false) writes start end place) where
      undue-from : (i : ℕ) → place ≤ i → i < length writes → must_see key at (get_or writes i no_write) ≡ false
      undue-from i after inside = elim (cases_lt i end) [
        | inl here ↦ undue-past (get_or writes i no_write) (cycle.inside i no_write (omega arith) here) (between.last i no_write after here)
        | inr late ↦ undue-later (get_or writes i no_write) (cycle.later i no_write late inside)
      ]

      pub first-own : start < place → (get_or writes (place - 1) no_write).key.hart ≡ key.hart → place ≡ first_visible writes key at
      first-own some own = sym (low_end-is (must_see key at) writes no_write place (omega (arith, cycle.within))
          (λ _. due-own (get_or writes (place - 1) no_write) (cycle.inside (place - 1) no_write (omega arith) (omega arith)) own (between.first (place - 1) no_write (omega arith) (omega arith)))
          undue-from)

      lower : (start < place → (get_or writes (place - 1) no_write).key.hart ≡ key.hart → ⊥) → (i : ℕ) → start ≤ i → i < place → (get_or writes i no_write).key.hart < key.hart
      lower other i after before =
          let last = get_or writes (place - 1) no_write in
          elim (or_cases (nat_lt last.key.hart key.hart) _ (between.first (place - 1) no_write (omega arith) (omega arith))) [
            | inl below ↦ omega (arith, ltb-true last.key.hart key.hart below, harts_rise i (place - 1) after (omega arith) (omega arith))
            | inr parts ↦ absurd (other (omega arith) (eqb-true last.key.hart key.hart (and_parts (last.key.hart == key.hart) _ parts).0))
          ]

      pub first-none : (start < place → (get_or writes (place - 1) no_write).key.hart ≡ key.hart → ⊥) → start ≡ first_visible writes key at
      first-none other = sym (low_end-is (must_see key at) writes no_write start (omega (arith, cycle.within, cycle.ends))
          (λ some. due-earlier (get_or writes (start - 1) no_write) (cycle.earlier (start - 1) no_write (omega arith)))
          (λ i after inside. elim (cases_lt i place) [
            | inl before ↦
                let below = lower other i after before in
                undue-other (get_or writes i no_write) (cycle.inside i no_write after (omega arith)) (λ e. omega arith)
            | inr past ↦ undue-from i past inside
          ]))

    module _ (early : at ≤ key.stamp) where
      seen-earlier : (w : Write) → w.key.stamp < at → cannot_see key at w ≡ false
      seen-earlier w before =
          or_from (nat_lt at w.key.stamp) _ (le-ltb at w.key.stamp (omega arith))
          (and_right (w.key.hart == key.hart) _ (key_below-back w.key key (KeyBelow-from_stamps w.key key (omega arith))))

      seen-through : (w : Write) → w.key.stamp ≡ at → is_up_to_own key w ≡ true → cannot_see key at w ≡ false
      seen-through w now passes =
          or_from (nat_lt at w.key.stamp) _ (le-ltb at w.key.stamp (omega arith)) (false_from_ne_true _ (λ own.
          let parts = and_parts (w.key.hart == key.hart) (key_below key w.key) own in
          elim (or_cases (nat_lt w.key.hart key.hart) _ passes) [
            | inl below ↦ omega (arith, ltb-true w.key.hart key.hart below, eqb-true w.key.hart key.hart parts.0)
            | inr before ↦ both_ways _ (not-true _ (and_parts (w.key.hart == key.hart) _ before).1) parts.1
          ]))

      seen-other : (w : Write) → w.key.stamp ≡ at → (w.key.hart ≡ key.hart → ⊥) → cannot_see key at w ≡ false
      seen-other w now other = or_from (nat_lt at w.key.stamp) _ (le-ltb at w.key.stamp (omega arith)) (and_left (w.key.hart == key.hart) _ (ne_eqb w.key.hart key.hart other))

      hidden-own : (w : Write) → w.key.hart ≡ key.hart → is_up_to_own key w ≡ false → cannot_see key at w ≡ true
      hidden-own w own fails =
          let parts = or_parts (nat_lt w.key.hart key.hart) _ fails in
          or_right (nat_lt at w.key.stamp) _ (and_from _ _ (eq-eqb w.key.hart key.hart own) (after parts.1))
        where
          after : ((w.key.hart == key.hart) && not (key_below key w.key)) ≡ false → key_below key w.key ≡ true
          after none = true_from_ne_false (key_below key w.key) (λ before. both_ways _ none (and_from _ _ (eq-eqb w.key.hart key.hart own) (not_from_false _ before)))

      module _ (place : ℕ) (from : start ≤ place) (to : place ≤ end)
          (between : IsPartBetween (λ w. is_up_to_own key w ≡ true) (λ w. is_up_to_own key w ≡ false) writes start end place) where
        seen-until : (i : ℕ) → i < place → cannot_see key at (get_or writes i no_write) ≡ false
        seen-until i before = elim (cases_lt i start) [
          | inl old ↦ seen-earlier (get_or writes i no_write) (cycle.earlier i no_write old)
          | inr here ↦ seen-through (get_or writes i no_write) (cycle.inside i no_write here (omega arith)) (between.first i no_write here before)
        ]

        pub last-own : place < end → (get_or writes place no_write).key.hart ≡ key.hart → place ≡ last_visible writes key at
        last-own some own = sym (high_end-is (cannot_see key at) writes no_write place (omega (arith, cycle.within)) seen-until
            (λ _. hidden-own (get_or writes place no_write) own (between.last place no_write (omega arith) some)))

        pub last-none : (place < end → (get_or writes place no_write).key.hart ≡ key.hart → ⊥) → end ≡ last_visible writes key at
        last-none other = sym (high_end-is (cannot_see key at) writes no_write end cycle.within
            (λ i before. elim (cases_lt i place) [
              | inl seen ↦ seen-until i seen
              | inr past ↦
                  let first = get_or writes place no_write in
                  let not_lower = ltb-false first.key.hart key.hart (or_parts (nat_lt first.key.hart key.hart) _ (between.last place no_write (omega arith) (omega arith))).0 in
                  let rises = harts_rise place i from past before in
                  seen-other (get_or writes i no_write) (cycle.inside i no_write (omega arith) before) (λ own. other (omega arith) (omega arith))
            ])
            (λ more. or_left (nat_lt at (get_or writes end no_write).key.stamp) _ (lt-ltb at _ (cycle.later end no_write (omega arith) more))))

-- What a keeper holds as states come and go.
use Rattle.std.proofs.Common.{◌≡◌, ℕ, ◌/◌, ◌≤◌, ◌&&◌, Bool, true, false, cond, not, nat_le, Option, None, Some, option_map, List, [], ◌∷◌, ◌++◌, find, length, suc, ◌-◌, refl, sym, subst, ap, ◌∙◌, inl, inr, arith}
use Rattle.std.proofs.lemmas.Bool.{cases_Bool, cases_lt, cond-true, cond-false, both_ways, leb-true, le-leb, ltb-true, lt-leb}
use Rattle.std.specs.List.{slice_get}
use Rattle.std.proofs.lemmas.List.{append-nil}
use Rattle.dt_snapshot.specs.Cuts.{is_cut, newer_cut, has_reached, reaches_new}
use Rattle.dt_snapshot.specs.Keeping.{KeeperView, AreNew, last_cycle, cycle_reached, IsNotBelow, held_at, held_after, with_state, is_early, states_from, dropped_below, forgotten}
use Rattle.dt_snapshot.proofs.Multiples.{later, newer-greatest, new-between}

-- what is reached stays reached
reached-next : (interval cut stamp : ℕ) (last : Option ℕ) → 1 ≤ interval → reaches_new interval last stamp ≡ true → has_reached last cut ≡ true → nat_le cut stamp ≡ true
reached-next interval cut stamp None some new reached = absurd (let never : ⊥ = cc in never)
reached-next interval cut stamp (Some last) some new reached =
    let low = leb-true cut last reached in
    let up = later interval last stamp some (ltb-true (last / interval) (stamp / interval) new) in
    le-leb cut stamp (omega arith)

-- where a cut is above the earlier states and up to the cycle, the cycle reaches a new cut
reaches-cut : (interval cut stamp : ℕ) (last : Option ℕ) → 1 ≤ interval → is_cut interval cut ≡ true → has_reached last cut ≡ false → nat_le cut stamp ≡ true
    → reaches_new interval last stamp ≡ true
reaches-cut interval cut stamp last some is past within =
    new-between interval last stamp cut some (record { is = is; new = past; within = leb-true cut stamp within })

-- a state that is dropped holds for no cut from this one on
early-past : (interval cut other stamp : ℕ) → 1 ≤ interval → is_cut interval other ≡ true → cut ≤ other → is_early interval cut stamp ≡ true → nat_le other stamp ≡ false
early-past interval cut other stamp some is from early = elim (cases_lt stamp other) [
  | inl below ↦ lt-leb other stamp below
  | inr high ↦
      let most = newer-greatest interval stamp other some is high in
      let low = ltb-true (newer_cut interval stamp) cut early in
      absurd (omega arith)
]

module _ {T : Type 0} where
  abbrev holds : ℕ → ℕ × T → Bool
  holds cut s = nat_le cut s.0

  -- the state for a cut, among these
  abbrev found : Option ℕ → List (ℕ × T) → ℕ → Option T
  found dropped states cut = cond (not (has_reached dropped cut)) (option_map (λ s. s.1) (find (holds cut) states)) None

  reached-on : (interval cut : ℕ) (last : Option ℕ) (states : List (ℕ × T)) → 1 ≤ interval → AreNew interval last states → has_reached last cut ≡ true
      → has_reached (last_cycle last states) cut ≡ true
  reached-on interval cut last [] some new reached = reached
  reached-on interval cut last (s ∷ ss) some new reached =
      reached-on interval cut (Some s.0) ss some new.1 (reached-next interval cut s.0 last some new.0 reached)

  -- for a cut that is reached, further states change nothing
  find-held : (cut : ℕ) (last : Option ℕ) (states more : List (ℕ × T)) → has_reached last cut ≡ false → has_reached (last_cycle last states) cut ≡ true
      → find (holds cut) (states ++ more) ≡ find (holds cut) states
  find-held cut last [] more before reached = absurd (both_ways (has_reached last cut) before reached)
  find-held cut last (s ∷ ss) more before reached = elim (cases_Bool (nat_le cut s.0)) [
    | inl here ↦ cond-true (nat_le cut s.0) _ _ here ∙ sym (cond-true (nat_le cut s.0) _ _ here)
    | inr past ↦ ap (λ o. cond (nat_le cut s.0) (Some s) o) (find-held cut (Some s.0) ss more past reached)
  ]

  -- and for one that is not, these states hold nothing
  find-past : (interval cut : ℕ) (last : Option ℕ) (states more : List (ℕ × T)) → 1 ≤ interval → AreNew interval last states
      → has_reached (last_cycle last states) cut ≡ false → find (holds cut) (states ++ more) ≡ find (holds cut) more
  find-past interval cut last [] more some new past = refl
  find-past interval cut last (s ∷ ss) more some new past = elim (cases_Bool (nat_le cut s.0)) [
    | inl here ↦ absurd (both_ways (has_reached (last_cycle (Some s.0) ss) cut) past (reached-on interval cut (Some s.0) ss some new.1 here))
    | inr behind ↦ cond-false (nat_le cut s.0) _ _ behind ∙ find-past interval cut (Some s.0) ss more some new.1 past
  ]

  pub AreNew-more : (interval stamp : ℕ) (state : T) (last : Option ℕ) (states : List (ℕ × T)) → AreNew interval last states
      → reaches_new interval (last_cycle last states) stamp ≡ true → AreNew interval last (states ++ (stamp, state) ∷ [])
  AreNew-more interval stamp state last [] new more = (more, tt)
  AreNew-more interval stamp state last (s ∷ ss) new more = (new.0, AreNew-more interval stamp state (Some s.0) ss new.1 more)

  -- a further state

  -- among the states, with a further one
  found-more : (interval cut stamp : ℕ) (state : T) (dropped : Option ℕ) (states : List (ℕ × T)) → 1 ≤ interval → AreNew interval dropped states
      → found dropped (states ++ (stamp, state) ∷ []) cut
      ≡ cond (not (has_reached (last_cycle dropped states) cut) && nat_le cut stamp) (Some state) (found dropped states cut)
  found-more interval cut stamp state dropped states some new = elim (cases_Bool (has_reached dropped cut)) [
    | inl gone ↦
        let reached = reached-on interval cut dropped states some new gone in
        ap (λ b. cond (not b) (option_map (λ (s : ℕ × T). s.1) (find (holds cut) (states ++ (stamp, state) ∷ []))) None) gone
        ∙ sym (ap (λ b. cond (not b && nat_le cut stamp) (Some state) (found dropped states cut)) reached
        ∙ ap (λ b. cond (not b) (option_map (λ (s : ℕ × T). s.1) (find (holds cut) states)) None) gone)
    | inr open_cut ↦
        let kept : (ss : List (ℕ × T)) → found dropped ss cut ≡ option_map (λ s. s.1) (find (holds cut) ss) =
        λ ss. ap (λ b. cond (not b) (option_map (λ (s : ℕ × T). s.1) (find (holds cut) ss)) None) open_cut in
        elim (cases_Bool (has_reached (last_cycle dropped states) cut)) [
          | inl reached ↦
              kept (states ++ (stamp, state) ∷ []) ∙ ap (option_map (λ s. s.1)) (find-held cut dropped states ((stamp, state) ∷ []) open_cut reached)
              ∙ sym (kept states) ∙ sym (ap (λ b. cond (not b && nat_le cut stamp) (Some state) (found dropped states cut)) reached)
          | inr past ↦
              let none : found dropped states cut ≡ None =
              kept states ∙ ap (option_map (λ s. s.1)) (ap (find (holds cut)) (sym (append-nil states)) ∙ find-past interval cut dropped states [] some new past) in
              kept (states ++ (stamp, state) ∷ []) ∙ ap (option_map (λ s. s.1)) (find-past interval cut dropped states ((stamp, state) ∷ []) some new past)
              ∙ here (nat_le cut stamp)
              ∙ sym (ap (λ b. cond (not b && nat_le cut stamp) (Some state) (found dropped states cut)) past ∙ ap (cond (nat_le cut stamp) (Some state)) none)
        ]
  ]
    where
      here : (b : Bool) → option_map (λ (s : ℕ × T). s.1) (cond b (Some (stamp, state)) None) ≡ cond b (Some state) None
      here true = refl
      here false = refl

  -- a state that holds for no cut is held for none
  found-none : (interval cut stamp : ℕ) (state : T) (last : Option ℕ) (rest : Option T) → 1 ≤ interval → is_cut interval cut ≡ true → reaches_new interval last stamp ≡ false
      → cond (not (has_reached last cut) && nat_le cut stamp) (Some state) rest ≡ rest
  found-none interval cut stamp state last rest some is none = go (has_reached last cut) refl (nat_le cut stamp) refl
    where
      go : (a : Bool) → has_reached last cut ≡ a → (b : Bool) → nat_le cut stamp ≡ b → cond (not a && b) (Some state) rest ≡ rest
      go true reached b within = refl
      go false past false within = refl
      go false past true within = absurd (both_ways (reaches_new interval last stamp) none (reaches-cut interval cut stamp last some is past within))

  held-found : (v : KeeperView T) (cut : ℕ) → held_at v cut ≡ cond (is_cut v.interval cut) (found v.dropped v.states cut) None
  held-found v cut = go (is_cut v.interval cut)
    where
      go : (b : Bool) → cond (b && not (has_reached v.dropped cut)) (option_map (λ (s : ℕ × T). s.1) (find (holds cut) v.states)) None ≡ cond b (found v.dropped v.states cut) None
      go true = refl
      go false = refl

  after-found : (v : KeeperView T) (stamp cut : ℕ) (state : T)
      → held_after v stamp state cut
      ≡ cond (is_cut v.interval cut) (cond (not (has_reached (cycle_reached v) cut) && nat_le cut stamp) (Some state) (found v.dropped v.states cut)) None
  after-found v stamp cut state = ap (cond (is_cut v.interval cut && (not (has_reached (cycle_reached v) cut) && nat_le cut stamp)) (Some state)) (held-found v cut) ∙ go (is_cut v.interval cut)
    where
      go : (b : Bool) → cond (b && (not (has_reached (cycle_reached v) cut) && nat_le cut stamp)) (Some state) (cond b (found v.dropped v.states cut) None)
          ≡ cond b (cond (not (has_reached (cycle_reached v) cut) && nat_le cut stamp) (Some state) (found v.dropped v.states cut)) None
      go true = refl
      go false = refl

  pub held-with_state : (v : KeeperView T) (stamp : ℕ) (state : T) (cut : ℕ) → 1 ≤ v.interval → AreNew v.interval v.dropped v.states
      → held_at (with_state v stamp state) cut ≡ held_after v stamp state cut
  held-with_state v stamp state cut some new = go (reaches_new v.interval (cycle_reached v) stamp) refl (is_cut v.interval cut) refl
    where
      longer : KeeperView T
      longer = record v { states = v.states ++ (stamp, state) ∷ [] }

      further : Option T
      further = cond (not (has_reached (cycle_reached v) cut) && nat_le cut stamp) (Some state) (found v.dropped v.states cut)

      go : (reaches : Bool) → reaches_new v.interval (cycle_reached v) stamp ≡ reaches → (is : Bool) → is_cut v.interval cut ≡ is
          → held_at (cond reaches (record v { states = v.states ++ (stamp, state) ∷ [] }) v) cut ≡ held_after v stamp state cut
      go true reaches is is-cut =
          held-found (record v { states = v.states ++ (stamp, state) ∷ [] }) cut
          ∙ ap (λ o. cond (is_cut v.interval cut) o None) (found-more v.interval cut stamp state v.dropped v.states some new) ∙ sym (after-found v stamp cut state)
      go false reaches true is-cut =
          held-found v cut
          ∙ ap (λ o. cond (is_cut v.interval cut) o None) (sym (found-none v.interval cut stamp state (cycle_reached v) (found v.dropped v.states cut) some is-cut reaches))
          ∙ sym (after-found v stamp cut state)
      go false reaches false no-cut =
          held-found v cut ∙ cond-false (is_cut v.interval cut) (found v.dropped v.states cut) None no-cut
          ∙ sym (after-found v stamp cut state ∙ cond-false (is_cut v.interval cut) _ None no-cut)

  -- the last of the states
  pub last-state : (dropped : Option ℕ) (states : List (ℕ × T)) (s : ℕ × T) → Some s ≡ slice_get states (length states - 1) → Some s.0 ≡ last_cycle dropped states
  last-state dropped [] s found = absurd (let never : ⊥ = cc in never)
  last-state dropped (x ∷ []) s found = let same : s ≡ x = cc in ap (λ (y : ℕ × T). Some y.0) same
  last-state dropped (x ∷ y ∷ ys) s found =
      let place : length (x ∷ y ∷ ys) - 1 ≡ suc (length (y ∷ ys) - 1) = omega arith in
      last-state (Some x.0) (y ∷ ys) s (found ∙ ap (slice_get (x ∷ y ∷ ys)) place)

  -- forgetting

  pub AreNew-from : (interval cut : ℕ) (dropped : Option ℕ) (states : List (ℕ × T)) → AreNew interval dropped states
      → AreNew interval (dropped_below interval cut dropped states) (states_from interval cut states)
  AreNew-from interval cut dropped [] new = tt
  AreNew-from interval cut dropped (s ∷ ss) new =
      either (is_early interval cut s.0) (dropped_below interval cut (Some s.0) ss) dropped (states_from interval cut ss) (s ∷ ss) (AreNew-from interval cut (Some s.0) ss new.1) new
    where
      either : (b : Bool) (d e : Option ℕ) (xs ys : List (ℕ × T)) → AreNew interval d xs → AreNew interval e ys → AreNew interval (cond b d e) (cond b xs ys)
      either true d e xs ys one other = one
      either false d e xs ys one other = other

  -- where either way holds the same
  found-either : (other : ℕ) (b : Bool) (d e : Option ℕ) (xs ys : List (ℕ × T)) (o : Option T) → (b ≡ true → found d xs other ≡ o) → (b ≡ false → found e ys other ≡ o)
      → found (cond b d e) (cond b xs ys) other ≡ o
  found-either other true d e xs ys o one two = one refl
  found-either other false d e xs ys o one two = two refl

  found-from : (interval cut other : ℕ) (dropped : Option ℕ) (states : List (ℕ × T)) → 1 ≤ interval → AreNew interval dropped states
      → is_cut interval other ≡ true → cut ≤ other
      → found (dropped_below interval cut dropped states) (states_from interval cut states) other ≡ found dropped states other
  found-from interval cut other dropped [] some new is from = refl
  found-from interval cut other dropped (s ∷ ss) some new is from =
      let rest = found-from interval cut other (Some s.0) ss some new.1 is from in
      found-either other (is_early interval cut s.0) (dropped_below interval cut (Some s.0) ss) dropped (states_from interval cut ss) (s ∷ ss) (found dropped (s ∷ ss) other)
      (λ early.
      let past = early-past interval cut other s.0 some is from early in
      let kept : has_reached dropped other ≡ false = elim (cases_Bool (has_reached dropped other)) [
        | inl gone ↦ absurd (both_ways (nat_le other s.0) past (reached-next interval other s.0 dropped some new.0 gone))
        | inr open_cut ↦ open_cut
      ] in
      rest
      ∙ ap (λ b. cond (not b) (option_map (λ (x : ℕ × T). x.1) (find (holds other) ss)) None) past
      ∙ sym (ap (λ b. cond (not b) (option_map (λ (x : ℕ × T). x.1) (find (holds other) (s ∷ ss))) None) kept
      ∙ ap (option_map (λ x. x.1)) (cond-false (nat_le other s.0) (Some s) (find (holds other) ss) past)))
      (λ late. refl)

  pub held-forgotten : (v : KeeperView T) (cut other : ℕ) → 1 ≤ v.interval → AreNew v.interval v.dropped v.states → cut ≤ other
      → held_at (forgotten v cut) other ≡ held_at v other
  held-forgotten v cut other some new from =
      held-found (forgotten v cut) other ∙ go (is_cut v.interval other) refl ∙ sym (held-found v other)
    where
      go : (b : Bool) → is_cut v.interval other ≡ b
          → cond (is_cut v.interval other) (found (dropped_below v.interval cut v.dropped v.states) (states_from v.interval cut v.states) other) None
          ≡ cond (is_cut v.interval other) (found v.dropped v.states other) None
      go true is = ap (λ o. cond (is_cut v.interval other) o None) (found-from v.interval cut other v.dropped v.states some new is from)
      go false between = cond-false (is_cut v.interval other) _ None between ∙ sym (cond-false (is_cut v.interval other) _ None between)

  -- how far there were states

  last_cycle-more : (last : Option ℕ) (states : List (ℕ × T)) (s : ℕ × T) → last_cycle last (states ++ s ∷ []) ≡ Some s.0
  last_cycle-more last [] s = refl
  last_cycle-more last (x ∷ xs) s = last_cycle-more (Some x.0) xs s

  pub reached-pushed : (dropped : Option ℕ) (states new : List (ℕ × T)) (stamp : ℕ) (state : T) → new ≡ states ++ (stamp, state) ∷ []
      → IsNotBelow (last_cycle dropped new) stamp
  reached-pushed dropped states new stamp state pushed =
      let all : last_cycle dropped new ≡ Some stamp = ap (last_cycle dropped) pushed ∙ last_cycle-more dropped states (stamp, state) in
      let same : IsNotBelow (Some stamp) stamp = omega arith in
      subst (λ (o : Option ℕ). IsNotBelow o stamp) (sym all) same

  pub reached-dropped : (interval cut : ℕ) (dropped : Option ℕ) (states : List (ℕ × T))
      → last_cycle (dropped_below interval cut dropped states) (states_from interval cut states) ≡ last_cycle dropped states
  reached-dropped interval cut dropped [] = refl
  reached-dropped interval cut dropped (s ∷ ss) =
      either (is_early interval cut s.0) (dropped_below interval cut (Some s.0) ss) (states_from interval cut ss) (reached-dropped interval cut (Some s.0) ss)
    where
      either : (b : Bool) (d : Option ℕ) (xs : List (ℕ × T)) → last_cycle d xs ≡ last_cycle (Some s.0) ss
          → last_cycle (cond b d dropped) (cond b xs (s ∷ ss)) ≡ last_cycle dropped (s ∷ ss)
      either true d xs rest = rest
      either false d xs rest = refl

  -- the fields of a keeper after a further state, and after some were dropped

  pub held-pushed : (v : KeeperView T) (hart interval : ℕ) (dropped : Option ℕ) (states new : List (ℕ × T)) (stamp : ℕ) (state : T) (last : Option ℕ)
      → record { hart = hart; interval = interval; dropped = dropped; states = states } ≡ v → 1 ≤ interval → AreNew interval dropped states
      → last ≡ last_cycle dropped states → reaches_new interval last stamp ≡ true → new ≡ states ++ (stamp, state) ∷ []
      → (cut : ℕ) → held_at (record { hart = hart; interval = interval; dropped = dropped; states = new }) cut ≡ held_after v stamp state cut
  held-pushed v hart interval dropped states new stamp state last is some fresh at reaches pushed cut =
      let w : KeeperView T = record { hart = hart; interval = interval; dropped = dropped; states = states } in
      let view : List (ℕ × T) → KeeperView T = λ ss. record { hart = hart; interval = interval; dropped = dropped; states = ss } in
      let more : with_state w stamp state ≡ view (states ++ (stamp, state) ∷ []) =
      cond-true (reaches_new interval (last_cycle dropped states) stamp) _ w (ap (λ o. reaches_new interval o stamp) (sym at) ∙ reaches) in
      ap (λ ss. held_at (view ss) cut) pushed ∙ ap (λ (u : KeeperView T). held_at u cut) (sym more) ∙ held-with_state w stamp state cut some fresh
      ∙ ap (λ (u : KeeperView T). held_after u stamp state cut) is

  pub held-unpushed : (v : KeeperView T) (hart interval : ℕ) (dropped : Option ℕ) (states new : List (ℕ × T)) (stamp : ℕ) (state : T) (last : Option ℕ)
      → record { hart = hart; interval = interval; dropped = dropped; states = states } ≡ v → 1 ≤ interval → AreNew interval dropped states
      → last ≡ last_cycle dropped states → reaches_new interval last stamp ≡ false → new ≡ states
      → (cut : ℕ) → held_at (record { hart = hart; interval = interval; dropped = dropped; states = new }) cut ≡ held_after v stamp state cut
  held-unpushed v hart interval dropped states new stamp state last is some fresh at none same cut =
      let w : KeeperView T = record { hart = hart; interval = interval; dropped = dropped; states = states } in
      let view : List (ℕ × T) → KeeperView T = λ ss. record { hart = hart; interval = interval; dropped = dropped; states = ss } in
      let still : with_state w stamp state ≡ w =
      cond-false (reaches_new interval (last_cycle dropped states) stamp) _ w (ap (λ o. reaches_new interval o stamp) (sym at) ∙ none) in
      ap (λ ss. held_at (view ss) cut) same ∙ ap (λ (u : KeeperView T). held_at u cut) (sym still) ∙ held-with_state w stamp state cut some fresh
      ∙ ap (λ (u : KeeperView T). held_after u stamp state cut) is

  pub held-dropped : (v : KeeperView T) (hart interval : ℕ) (dropped : Option ℕ) (states : List (ℕ × T)) (cut : ℕ) (after : Option ℕ) (new : List (ℕ × T))
      → record { hart = hart; interval = interval; dropped = dropped; states = states } ≡ v → 1 ≤ interval → AreNew interval dropped states
      → after ≡ dropped_below interval cut dropped states → new ≡ states_from interval cut states
      → (other : ℕ) → cut ≤ other → held_at (record { hart = hart; interval = interval; dropped = after; states = new }) other ≡ held_at v other
  held-dropped v hart interval dropped states cut after new is some fresh down from other within =
      let w : KeeperView T = record { hart = hart; interval = interval; dropped = dropped; states = states } in
      (λ i. held_at (record { hart = hart; interval = interval; dropped = down i; states = from i }) other) ∙ held-forgotten w cut other some fresh within
      ∙ ap (λ (u : KeeperView T). held_at u other) is

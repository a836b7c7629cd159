-- Steps that are undone: what they lead back to, and what a place of the past stands for.
use Rattle.std.proofs.Common.{ℕ, ◌≡◌, ◌-◌, ◌≤◌, ◌+◌, zero, suc, Bool, true, false, List, [], ◌∷◌, ◌++◌, length, take, drop, get_or, Option, None, Some, IsSome, refl, sym, ap, ◌∙◌, subst, inl, inr, arith}
use Rattle.std.specs.Prelude.{All}
use Rattle.std.specs.Ordering.{nat_cmp, match_ordering}
use Rattle.std.specs.declared.cmp.Ordering.{Ordering}
use Rattle.std.specs.declared.cmp.Ordering.TheVariants.{Less, Equal, Greater}
use Rattle.std.specs.BTreeMap.{is_at, insert_entry}
use Rattle.std.specs.Map.{lookup, set_value}
use Rattle.std.proofs.lemmas.Bool.{cases_Bool, cases_lt, cond-true, cond-false, false≢true}
use Rattle.std.proofs.lemmas.Bool.Decides.{nat_tests}
use Rattle.std.proofs.lemmas.List.{take-append-drop, drop-append-le, length-take-le, get_or-take, get_or-drop, get_or_default, get_or_past}
use Rattle.std.proofs.lemmas.List.Elements.{All-head, All-tail}
use Rattle.dt_record.specs.Undoing.{earlier_state, earlier_views, put_back}

abbrev pub at : ℕ → ℕ → Bool
at number = is_at (nat_cmp number)

some_is_not_none : {X : Type 0} (x : X) → ◌≡◌ {A = Option X} (Some x) None → ⊥
some_is_not_none x same = cc

-- ---- a slot that is set

-- where a number has no slot, none is set
pub set_value_none : {X : Type 0} (n : ℕ) (es : List (ℕ × X)) (x : X) → lookup (at n) es ≡ None → set_value (at n) es x ≡ es
set_value_none n [] x none = refl
set_value_none n (e ∷ es) x none = elim (cases_Bool (at n e.0)) [
  | inl hit ↦ absurd (some_is_not_none e.1 (sym (cond-true (at n e.0) (Some e.1) (lookup (at n) es) hit) ∙ none))
  | inr miss ↦ cond-false (at n e.0) ((e.0, x) ∷ es) (e ∷ set_value (at n) es x) miss
      ∙ ap (λ rest. e ∷ rest) (set_value_none n es x (sym (cond-false (at n e.0) (Some e.1) (lookup (at n) es) miss) ∙ none))
]

-- what was there, set again
pub set_value_back : {X : Type 0} (test : ℕ → Bool) (es : List (ℕ × X)) (old new : X) → lookup test es ≡ Some old
    → set_value test (set_value test es new) old ≡ es
set_value_back test [] old new is = refl
set_value_back test (e ∷ es) old new is = elim (cases_Bool (test e.0)) [
  | inl hit ↦
      let same : e.1 ≡ old = grind (arith, sym (cond-true (test e.0) (Some e.1) (lookup test es) hit) ∙ is) in
      ap (λ fs. set_value test fs old) (cond-true (test e.0) ((e.0, new) ∷ es) (e ∷ set_value test es new) hit)
      ∙ cond-true (test e.0) ((e.0, old) ∷ es) ((e.0, new) ∷ set_value test es old) hit
      ∙ ap (λ s. (e.0, s) ∷ es) (sym same)
  | inr miss ↦
      ap (λ fs. set_value test fs old) (cond-false (test e.0) ((e.0, new) ∷ es) (e ∷ set_value test es new) miss)
      ∙ cond-false (test e.0) ((e.0, old) ∷ set_value test es new) (e ∷ set_value test (set_value test es new) old) miss
      ∙ ap (λ rest. e ∷ rest) (set_value_back test es old new (sym (cond-false (test e.0) (Some e.1) (lookup test es) miss) ∙ is))
]

-- a number that has no slot has none when another's is set
pub none_stays : {X : Type 0} (test other : ℕ → Bool) (es : List (ℕ × X)) (x : X) → lookup test es ≡ None → lookup test (set_value other es x) ≡ None
none_stays test other [] x none = refl
none_stays test other (e ∷ es) x none = elim (cases_Bool (test e.0)) [
  | inl hit ↦ absurd (some_is_not_none e.1 (sym (cond-true (test e.0) (Some e.1) (lookup test es) hit) ∙ none))
  | inr miss ↦
      let rest = sym (cond-false (test e.0) (Some e.1) (lookup test es) miss) ∙ none in
      elim (cases_Bool (other e.0)) [
        | inl it ↦ ap (lookup test) (cond-true (other e.0) ((e.0, x) ∷ es) (e ∷ set_value other es x) it)
            ∙ cond-false (test e.0) (Some x) (lookup test es) miss ∙ rest
        | inr apart ↦ ap (lookup test) (cond-false (other e.0) ((e.0, x) ∷ es) (e ∷ set_value other es x) apart)
            ∙ cond-false (test e.0) (Some e.1) (lookup test (set_value other es x)) miss ∙ none_stays test other es x rest
      ]
]

-- and one that has a slot has one when another's is set
pub some_stays : {X : Type 0} (test other : ℕ → Bool) (es : List (ℕ × X)) (x : X) → IsSome (lookup test es) → IsSome (lookup test (set_value other es x))
some_stays test other [] x some = some
some_stays {X} test other (e ∷ es) x some = elim (cases_Bool (other e.0)) [
  | inl it ↦ rw it (elim (cases_Bool (test e.0)) [
    | inl hit ↦ rw hit refl
    | inr miss ↦ rw miss (subst (λ (o : Option X). IsSome o) (cond-false (test e.0) (Some e.1) (lookup test es) miss) some)
  ])
  | inr apart ↦ rw apart (elim (cases_Bool (test e.0)) [
    | inl hit ↦ rw hit refl
    | inr miss ↦ rw miss (some_stays test other es x (subst (λ (o : Option X). IsSome o) (cond-false (test e.0) (Some e.1) (lookup test es) miss) some))
  ])
]

-- ---- a slot that is added

-- a value is set in another slot before or after it is added
set_value-insert : {X : Type 0} (n other : ℕ) (x new : X) (es : List (ℕ × X)) → at other n ≡ false
    → set_value (at other) (insert_entry nat_cmp es n x) new ≡ insert_entry nat_cmp (set_value (at other) es new) n x
set_value-insert n other x new [] apart = cond-false (at other n) ((n, new) ∷ []) ((n, x) ∷ []) apart
set_value-insert n other x new (e ∷ es) apart = elim (cases_Bool (at other e.0)) [
  | inl hit ↦ elim (nat_cmp n e.0) as (λ o. nat_cmp n e.0 ≡ o → Stands o) [
    | Less ↦ λ is. rw (apart, hit, is) refl
    | Equal ↦ λ is. absurd (false≢true (sym apart ∙ ap (at other) (same is) ∙ hit))
    | Greater ↦ λ is. rw (hit, is) refl
  ] refl
  | inr miss ↦ elim (nat_cmp n e.0) as (λ o. nat_cmp n e.0 ≡ o → Stands o) [
    | Less ↦ λ is. rw (apart, miss, is) refl
    | Equal ↦ λ is. rw (miss, is) refl
    | Greater ↦ λ is. rw (miss, is) (ap (λ rest. e ∷ rest) (set_value-insert n other x new es apart))
  ] refl
]
  where
    Stands : Ordering → Type 0
    Stands o = set_value (at other) (match_ordering o ((n, x) ∷ e ∷ es) ((e.0, x) ∷ es) (e ∷ insert_entry nat_cmp es n x)) new
        ≡ insert_entry nat_cmp (set_value (at other) (e ∷ es) new) n x

    same : nat_cmp n e.0 ≡ Equal → n ≡ e.0
    same is = grind (arith, nat_tests)

-- a number with a slot is not one without
apart_from : {X : Type 0} (n other : ℕ) (es : List (ℕ × X)) → IsSome (lookup (at other) es) → lookup (at n) es ≡ None → at other n ≡ false
apart_from {X} n other es some none = elim (cases_Bool (at other n)) [
  | inl hit ↦ absurd (missing (subst (λ w. lookup (at w) es ≡ None) (same hit) none))
  | inr miss ↦ miss
]
  where
    same : at other n ≡ true → n ≡ other
    same hit = grind (arith, nat_tests)

    missing : lookup (at other) es ≡ None → ⊥
    missing is = false≢true (subst (λ (o : Option X). IsSome o) is some)

-- each of some steps has a slot
abbrev pub HaveSlots : {T X : Type 0} → (T → ℕ) → List (ℕ × X) → List T → Type 0
HaveSlots number es steps = All (λ s. IsSome (lookup (at (number s)) es)) steps

-- the slots before some steps, with one more that none of them set
pub earlier_state-insert : {T X : Type 0} (number : T → ℕ) (content : T → X) (n : ℕ) (x : X) (es : List (ℕ × X)) (steps : List T)
    → lookup (at n) es ≡ None → HaveSlots number es steps
    → earlier_state (put_back number content) (insert_entry nat_cmp es n x) steps
    ≡ insert_entry nat_cmp (earlier_state (put_back number content) es steps) n x
earlier_state-insert number content n x es [] absent have = refl
earlier_state-insert number content n x es (s ∷ ss) absent have =
    ap (λ fs. set_value (at (number s)) fs (content s))
    (earlier_state-insert number content n x es ss absent (All-tail (λ s. IsSome (lookup (at (number s)) es)) s ss have))
    ∙ set_value-insert n (number s) x (content s) (earlier_state (put_back number content) es ss)
    (apart_from n (number s) es (All-head (λ s. IsSome (lookup (at (number s)) es)) s ss have) absent)

none_before : {T X : Type 0} (number : T → ℕ) (content : T → X) (n : ℕ) (es : List (ℕ × X)) (steps : List T) → lookup (at n) es ≡ None
    → lookup (at n) (earlier_state (put_back number content) es steps) ≡ None
none_before number content n es [] absent = absent
none_before number content n es (s ∷ ss) absent =
    none_stays (at n) (at (number s)) (earlier_state (put_back number content) es ss) (content s) (none_before number content n es ss absent)

-- what was seen before some steps, where one more slot is not seen
pub earlier_views-insert : {T X V : Type 0} (number : T → ℕ) (content : T → X) (view : List (ℕ × X) → V) (n : ℕ) (x : X)
    → ((es : List (ℕ × X)) → lookup (at n) es ≡ None → view (insert_entry nat_cmp es n x) ≡ view es)
    → (es : List (ℕ × X)) (steps : List T) → lookup (at n) es ≡ None → HaveSlots number es steps
    → earlier_views (put_back number content) view (insert_entry nat_cmp es n x) steps ≡ earlier_views (put_back number content) view es steps
earlier_views-insert number content view n x unseen es [] absent have = refl
earlier_views-insert {V = V} number content view n x unseen es (s ∷ ss) absent have =
    let undo = put_back number content in
    let here = ap view (earlier_state-insert number content n x es (s ∷ ss) absent have)
    ∙ unseen (earlier_state undo es (s ∷ ss)) (none_before number content n es (s ∷ ss) absent) in
    let rest = earlier_views-insert number content view n x unseen es ss absent (All-tail (λ s. IsSome (lookup (at (number s)) es)) s ss have) in
    ap (λ (v : V). v ∷ earlier_views undo view (insert_entry nat_cmp es n x) ss) here
    ∙ ap (λ (vs : List V). view (earlier_state undo es (s ∷ ss)) ∷ vs) rest

-- ---- the past, by places

pub earlier_state-append : {S T : Type 0} (undo : S → T → S) (now : S) (ss ts : List T)
    → earlier_state undo now (ss ++ ts) ≡ earlier_state undo (earlier_state undo now ts) ss
earlier_state-append undo now [] ts = refl
earlier_state-append {S} undo now (s ∷ ss) ts = ap (λ (state : S). undo state s) (earlier_state-append undo now ss ts)

pub length-earlier_views : {S T V : Type 0} (undo : S → T → S) (view : S → V) (now : S) (steps : List T) → length (earlier_views undo view now steps) ≡ length steps
length-earlier_views undo view now [] = refl
length-earlier_views undo view now (s ∷ ss) = ap suc (length-earlier_views undo view now ss)

-- what stood at a place of the past, or stands behind it
pub earlier_views-at : {S T V : Type 0} (undo : S → T → S) (view : S → V) (now : S) (steps : List T) (n : ℕ)
    → get_or (earlier_views undo view now steps) n (view now) ≡ view (earlier_state undo now (drop n steps))
earlier_views-at undo view now [] zero = refl
earlier_views-at undo view now [] (suc n) = refl
earlier_views-at undo view now (s ∷ ss) zero = refl
earlier_views-at undo view now (s ∷ ss) (suc n) = earlier_views-at undo view now ss n

pub earlier_views-drop : {S T V : Type 0} (undo : S → T → S) (view : S → V) (now : S) (steps : List T) (n : ℕ)
    → earlier_views undo view now (drop n steps) ≡ drop n (earlier_views undo view now steps)
earlier_views-drop undo view now [] zero = refl
earlier_views-drop undo view now [] (suc n) = refl
earlier_views-drop undo view now (s ∷ ss) zero = refl
earlier_views-drop undo view now (s ∷ ss) (suc n) = earlier_views-drop undo view now ss n

pub earlier_views-take : {S T V : Type 0} (undo : S → T → S) (view : S → V) (now : S) (steps : List T) (n : ℕ)
    → earlier_views undo view (earlier_state undo now (drop n steps)) (take n steps) ≡ take n (earlier_views undo view now steps)
earlier_views-take undo view now [] zero = refl
earlier_views-take undo view now [] (suc n) = refl
earlier_views-take undo view now (s ∷ ss) zero = refl
earlier_views-take {S = S} {V = V} undo view now (s ∷ ss) (suc n) =
    let back : earlier_state undo (earlier_state undo now (drop n ss)) (take n ss) ≡ earlier_state undo now ss =
    sym (earlier_state-append undo now (take n ss) (drop n ss)) ∙ ap (earlier_state undo now) (take-append-drop n ss) in
    ap (λ (state : S). view (undo state s) ∷ earlier_views undo view (earlier_state undo now (drop n ss)) (take n ss)) back
    ∙ ap (λ (past : List V). view (earlier_state undo now (s ∷ ss)) ∷ past) (earlier_views-take undo view now ss n)

-- steps that lead back leave what stood at each place of the past
pub earlier_views-led : {S T V : Type 0} (undo : S → T → S) (view : S → V) (old new : S) (before added : List T) (n : ℕ)
    → earlier_state undo new added ≡ old → n ≤ length before
    → get_or (earlier_views undo view new (before ++ added)) n (view new) ≡ get_or (earlier_views undo view old before) n (view old)
earlier_views-led {S = S} {T = T} undo view old new before added n undone within =
    earlier_views-at undo view new (before ++ added) n
    ∙ ap (λ (ss : List T). view (earlier_state undo new ss)) (drop-append-le n before added within)
    ∙ ap view (earlier_state-append undo new (drop n before) added ∙ ap (λ (state : S). earlier_state undo state (drop n before)) undone)
    ∙ sym (earlier_views-at undo view old before n)

-- ---- marks, which are places of a past that begins at a place

-- one that is undone to, and each earlier one, stands for what it stood for
pub undone-place : {V : Type 0} (past : List V) (now : V) (from to place : ℕ) → from ≤ to → to ≤ from + length past → from ≤ place → place ≤ to
    → get_or (take (to - from) past) (place - from) (get_or past (to - from) now) ≡ get_or past (place - from) now
undone-place past now from to place kept reached other earlier =
    let long : length (take (to - from) past) ≡ to - from = length-take-le (to - from) past (omega arith) in
    elim (cases_lt place to) [
      | inl before ↦ get_or-take (to - from) past (place - from) (get_or past (to - from) now) (omega arith)
          ∙ get_or_default past (place - from) (get_or past (to - from) now) now (omega arith)
      | inr behind ↦
          let same : to ≡ place = omega arith in
          get_or_past (take (to - from) past) (place - from) (get_or past (to - from) now) (omega (arith, long))
          ∙ ap (λ n. get_or past (n - from) now) same
    ]

-- one before which all is forgotten, and each later one, stands for what it stood for
pub forgotten-place : {V : Type 0} (past : List V) (now : V) (from to place : ℕ) → from ≤ to → to ≤ place
    → get_or (drop (to - from) past) (place - to) now ≡ get_or past (place - from) now
forgotten-place past now from to place kept later =
    let here : to - from + (place - to) ≡ place - from = omega arith in
    get_or-drop (to - from) past (place - to) now ∙ ap (λ n. get_or past n now) here

use Rattle.std.proofs.Common.{ℕ, ◌≡◌, ◌+◌, ◌<◌, ◌⊎◌, Bool, true, false, Option, None, Some, List, [], ◌∷◌, ◌++◌, suc, refl, sym, ap, ◌∙◌, subst, inl, inr, arith}
use Rattle.std.specs.List.{find, slice_get}
use Rattle.std.specs.Option.{option_and_then, option_map, option_or, option_to_list}
use Rattle.std.specs.Prelude.{if◌then◌else◌, reverse}
use Rattle.std.proofs.lemmas.Option.{same_Some}
use Rattle.std.proofs.lemmas.List.{reverse-append}
use Rattle.std.proofs.lemmas.List.Folds.{find-append}
use Rattle.dt_record.specs.declared.keys.Key.{Key}
use Rattle.dt_record.specs.declared.records.Record.{Record}
use Rattle.dt_record.specs.Keys.{key_of}
use Rattle.dt_reference.specs.Run.{after_record}
use Rattle.dt_step.specs.declared.plans.Planned.{Planned}
use Rattle.dt_step.specs.declared.state.Arch.{Arch}
use Rattle.dt_windows.specs.Fences.{Fence, fence_at, last_fence}
use Rattle.dt_hart.specs.Fences.{fence_in, fence_by, fences_from}

-- The last of a hart's fences that passes a test.

abbrev keyed : Option Fence → Option Key
keyed o = option_map (λ (f : Fence). f.key) o

keyed-or : (a b : Option Fence) → keyed (option_or a b) ≡ option_or (keyed a) (keyed b)
keyed-or None b = refl
keyed-or (Some f) b = refl

pub last-append : (test : Planned → Bool) (xs ys : List Fence) → last_fence test (xs ++ ys) ≡ option_or (last_fence test ys) (last_fence test xs)
last-append test xs ys =
    ap (λ (fs : List Fence). keyed (find (λ f. test f.plan) fs)) (reverse-append xs ys)
    ∙ ap keyed (find-append (λ (f : Fence). test f.plan) (reverse ys) (reverse xs))
    ∙ keyed-or (find (λ f. test f.plan) (reverse ys)) (find (λ f. test f.plan) (reverse xs))

-- the key of a record whose plan passes
abbrev pub own_key : (Planned → Bool) → Key → Option Planned → Option Key
own_key test key plan = option_and_then (λ p. if test p then Some key else None) plan

keyed-if : (passes : Bool) (f : Fence) → keyed (if passes then Some f else None) ≡ (if passes then Some f.key else None)
keyed-if true f = refl
keyed-if false f = refl

pub last_own : (test : Planned → Bool) (key : Key) (plan : Option Planned) → last_fence test (option_to_list (option_map (λ p. fence_at p key) plan)) ≡ own_key test key plan
last_own test key None = refl
last_own test key (Some p) = keyed-if (test p) (fence_at p key)

abbrev last_from : (Planned → Bool) → Arch → ℕ → List Record → Option Key
last_from test a n [] = None
last_from test a n (r ∷ rs) = option_or (last_from test (after_record a r) (n + 1) rs) (own_key test (key_of n r) (fence_in a r.body))

pub last_is : (test : Planned → Bool) (a : Arch) (n : ℕ) (rs : List Record) → last_fence test (fences_from a n rs) ≡ last_from test a n rs
last_is test a n [] = refl
last_is test a n (r ∷ rs) =
    last-append test (option_to_list (fence_by a n r)) (fences_from (after_record a r) (n + 1) rs)
    ∙ ap (λ (o : Option Key). option_or o (last_fence test (option_to_list (fence_by a n r)))) (last_is test (after_record a r) (n + 1) rs)
    ∙ ap (option_or (last_from test (after_record a r) (n + 1) rs)) (last_own test (key_of n r) (fence_in a r.body))

-- ---- it is the key of a record

pub record IsKeyAt (n : ℕ) (rs : List Record) (k : Key) : Type 0 where
  pub place : ℕ
  pub own : Record
  pub there : slice_get rs place ≡ Some own
  pub is : k ≡ key_of (n + place) own

own_is : (test : Planned → Bool) (key k : Key) (plan : Option Planned) → own_key test key plan ≡ Some k → k ≡ key
own_is test key k None is = absurd (cc is)
own_is test key k (Some p) is = by_test (test p) is
  where
    by_test : (passes : Bool) → (if passes then Some key else None) ≡ Some k → k ≡ key
    by_test true here = sym (same_Some key k here)
    by_test false here = absurd (cc here)

one_of : (test : Planned → Bool) (a : Arch) (n : ℕ) (rs : List Record) (k : Key) → last_from test a n rs ≡ Some k → IsKeyAt n rs k
one_of test a n [] k is = absurd (cc is)
one_of test a n (r ∷ rs) k is =
    by_later (last_from test (after_record a r) (n + 1) rs) refl (one_of test (after_record a r) (n + 1) rs k) is
  where
    by_later : (o : Option Key) → last_from test (after_record a r) (n + 1) rs ≡ o → (last_from test (after_record a r) (n + 1) rs ≡ Some k → IsKeyAt (n + 1) rs k)
        → option_or o (own_key test (key_of n r) (fence_in a r.body)) ≡ Some k → IsKeyAt n (r ∷ rs) k
    by_later None here further found = record {
      place = 0;
      own = r;
      there = refl;
      is = own_is test (key_of n r) k (fence_in a r.body) found ∙ ap (λ m. key_of m r) (omega arith);
    }
    by_later (Some l) here further found =
        let later = further (here ∙ found) in
        record {
          place = suc later.place;
          own = later.own;
          there = later.there;
          is = later.is ∙ ap (λ m. key_of m later.own) (omega arith);
        }

pub last_at : (test : Planned → Bool) (a : Arch) (n : ℕ) (rs : List Record) (k : Key) → last_fence test (fences_from a n rs) ≡ Some k → IsKeyAt n rs k
last_at test a n rs k is = one_of test a n rs k (sym (last_is test a n rs) ∙ is)

-- ---- where each plan that passes one test passes another, too

-- there is one that passes the other where one passes the first, and it is that or a later one
abbrev pub IsNoEarlier : (weak strong : Option Key) → Type 0
IsNoEarlier weak None = Unit {0}
IsNoEarlier None (Some l) = ⊥
IsNoEarlier (Some k) (Some l) = (l ≡ k) ⊎ (l.seq < k.seq)

abbrev Weaker : (weak strong : Planned → Bool) → Type 0
Weaker weak strong = (p : Planned) → strong p ≡ true → weak p ≡ true

own_weaker : (weak strong : Planned → Bool) → Weaker weak strong → (key : Key) (plan : Option Planned) → own_key strong key plan ≡ Some key → own_key weak key plan ≡ Some key
own_weaker weak strong weaker key None is = absurd (cc is)
own_weaker weak strong weaker key (Some p) is = by_test (strong p) refl is
  where
    by_test : (passes : Bool) → strong p ≡ passes → (if passes then Some key else None) ≡ Some key → (if weak p then Some key else None) ≡ Some key
    by_test true passes here = ap (λ (b : Bool). if b then Some key else None) (weaker p passes)
    by_test false fails here = absurd (cc here)

no_earlier : (weak strong : Planned → Bool) → Weaker weak strong → (a : Arch) (n : ℕ) (rs : List Record) → IsNoEarlier (last_from weak a n rs) (last_from strong a n rs)
no_earlier weak strong weaker a n [] = tt
no_earlier weak strong weaker a n (r ∷ rs) =
    by_later (last_from weak (after_record a r) (n + 1) rs) (last_from strong (after_record a r) (n + 1) rs) refl (no_earlier weak strong weaker (after_record a r) (n + 1) rs)
  where
    by_own : (w o p : Option Key) → last_from weak (after_record a r) (n + 1) rs ≡ w → own_key strong (key_of n r) (fence_in a r.body) ≡ o → own_key weak (key_of n r) (fence_in a r.body) ≡ p
        → IsNoEarlier (option_or w p) o
    by_own w None p later own other = tt
    by_own None (Some l) p later own other =
        let is = own_is strong (key_of n r) l (fence_in a r.body) own in
        let also = own_weaker weak strong weaker (key_of n r) (fence_in a r.body) (own ∙ ap (λ (k : Key). Some k) is) in
        subst (λ (q : Option Key). IsNoEarlier q (Some l)) (sym also ∙ other) (inl is)
    by_own (Some k) (Some l) p later own other =
        let is = own_is strong (key_of n r) l (fence_in a r.body) own in
        let at = one_of weak (after_record a r) (n + 1) rs k later in
        inr (omega (arith, ap (λ (q : Key). q.seq) is, ap (λ (q : Key). q.seq) at.is))

    by_later : (w s : Option Key) → last_from weak (after_record a r) (n + 1) rs ≡ w → IsNoEarlier w s
        → IsNoEarlier (option_or w (own_key weak (key_of n r) (fence_in a r.body))) (option_or s (own_key strong (key_of n r) (fence_in a r.body)))
    by_later w None later before = by_own w (own_key strong (key_of n r) (fence_in a r.body)) (own_key weak (key_of n r) (fence_in a r.body)) later refl refl
    by_later None (Some l) later before = absurd before
    by_later (Some k) (Some l) later before = before

pub last_no_earlier : (weak strong : Planned → Bool) → Weaker weak strong → (a : Arch) (n : ℕ) (rs : List Record)
    → IsNoEarlier (last_fence weak (fences_from a n rs)) (last_fence strong (fences_from a n rs))
last_no_earlier weak strong weaker a n rs =
    subst (λ (w : Option Key). IsNoEarlier w (last_fence strong (fences_from a n rs))) (sym (last_is weak a n rs))
    (subst (IsNoEarlier (last_from weak a n rs)) (sym (last_is strong a n rs)) (no_earlier weak strong weaker a n rs))

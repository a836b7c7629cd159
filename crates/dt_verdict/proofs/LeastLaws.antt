-- The first failure with the least key, found from the front.
use Rattle.std.proofs.Common.{◌≡◌, ℕ, ◌+◌, ◌<◌, ◌≤◌, Bool, true, false, not, List, [], ◌∷◌, ◌++◌, Option, Some, None, length, get_or, take, refl, sym, ap, ◌∙◌, subst, append_assoc, arith}
use Rattle.std.specs.Prelude.{Contains, All, find, if◌then◌else◌}
use Rattle.std.specs.List.{list_all, cons_option}
use Rattle.std.proofs.lemmas.List.{append-nil, take_more, take_all}
use Rattle.std.proofs.lemmas.List.Elements.{All-nil, All-cons, All-head, All-tail, All-append, All-push, All-weaker, Contains-append_right, filter_map-append}
use Rattle.std.proofs.lemmas.List.Folds.{list_all_at}
use Rattle.dt_record.proofs.KeyChains.{below-not_above}
use Rattle.dt_record.specs.Keys.{key_below, KeyBelow}
use Rattle.dt_record.proofs.KeyLaws.{KeyBelow-chain, key_below-itself, key_below-back}
use Rattle.dt_verdict.specs.declared.verdicts.Failure.{Failure}
use Rattle.dt_verdict.specs.declared.verdicts.Outcome.{Outcome}
use Rattle.dt_verdict.specs.declared.verdicts.Verdict.{Verdict}
use Rattle.dt_verdict.specs.declared.verdicts.Verdict.TheVariants.{Pass, Fail}
use Rattle.dt_verdict.specs.Verdict.{failures_of, has_least_key, verdict_of, IsVerdict, is_sooner, joined_verdict}
use Rattle.dt_verdict.specs.Laws.{VerdictsAreLeast}

-- a failure, with greater keys before it and no lower ones behind it
pub record IsFirstLeast (fs : List Failure) (f : Failure) : Type 0 where
  pub before : List Failure
  pub behind : List Failure
  pub whole : fs ≡ before ++ f ∷ behind
  pub greater : All (λ (g : Failure). KeyBelow f.key g.key) before
  pub not_lower : All (λ (g : Failure). key_below g.key f.key ≡ false) behind

-- a verdict of these failures
abbrev pub Stands : List Failure → Verdict → Type 0
Stands fs Pass = fs ≡ []
Stands fs (Fail f) = IsFirstLeast fs f

-- one more failure with a lower key than all before
replaced : (fs : List Failure) (f g : Failure) → IsFirstLeast fs f → KeyBelow g.key f.key → IsFirstLeast (fs ++ g ∷ []) g
replaced fs f g is low = record {
  before = fs;
  behind = [];
  whole = refl;
  greater = rw is.whole (All-append (λ (x : Failure). KeyBelow g.key x.key) is.before (f ∷ is.behind)
      (All-weaker (λ (x : Failure). KeyBelow f.key x.key) (λ (x : Failure). KeyBelow g.key x.key) (λ x above. KeyBelow-chain g.key f.key x.key low above) is.before is.greater)
      (All-cons (λ (x : Failure). KeyBelow g.key x.key) f is.behind low
      (All-weaker (λ (x : Failure). key_below x.key f.key ≡ false) (λ (x : Failure). KeyBelow g.key x.key) (λ x high. below-not_above g.key f.key x.key low high) is.behind is.not_lower)));
  not_lower = All-nil (λ (x : Failure). key_below x.key g.key ≡ false);
}

-- one more failure whose key is not lower
kept : (fs : List Failure) (f g : Failure) → IsFirstLeast fs f → key_below g.key f.key ≡ false → IsFirstLeast (fs ++ g ∷ []) f
kept fs f g is high = record {
  before = is.before;
  behind = is.behind ++ g ∷ [];
  whole = ap (λ (t : List Failure). t ++ g ∷ []) is.whole ∙ append_assoc is.before (f ∷ is.behind) (g ∷ []);
  greater = is.greater;
  not_lower = All-push (λ (x : Failure). key_below x.key f.key ≡ false) is.behind g is.not_lower high;
}

-- one more failure
pub Stands-replaced : (fs : List Failure) (v : Verdict) (g : Failure) → Stands fs v → is_sooner g v ≡ true → Stands (fs ++ g ∷ []) (Fail g)
Stands-replaced fs Pass g none sooner = record {
  before = [];
  behind = [];
  whole = ap (λ (t : List Failure). t ++ g ∷ []) none;
  greater = All-nil (λ (x : Failure). KeyBelow g.key x.key);
  not_lower = All-nil (λ (x : Failure). key_below x.key g.key ≡ false);
}
Stands-replaced fs (Fail f) g is sooner = replaced fs f g is sooner

pub Stands-kept : (fs : List Failure) (v : Verdict) (g : Failure) → Stands fs v → is_sooner g v ≡ false → Stands (fs ++ g ∷ []) v
Stands-kept fs Pass g none sooner = cc
Stands-kept fs (Fail f) g is sooner = kept fs f g is sooner

-- no failure has a lower key
least_all : (fs : List Failure) (f : Failure) → IsFirstLeast fs f → All (λ (g : Failure). key_below g.key f.key ≡ false) fs
least_all fs f is = rw is.whole (All-append (λ (g : Failure). key_below g.key f.key ≡ false) is.before (f ∷ is.behind)
    (All-weaker (λ (g : Failure). KeyBelow f.key g.key) (λ (g : Failure). key_below g.key f.key ≡ false) (λ g above. key_below-back f.key g.key above) is.before is.greater)
    (All-cons (λ (g : Failure). key_below g.key f.key ≡ false) f is.behind (key_below-itself f.key) is.not_lower))

contained : (fs : List Failure) (f : Failure) → IsFirstLeast fs f → Contains fs f
contained fs f is = rw is.whole (Contains-append_right is.before (f ∷ is.behind) f (0, omega arith, refl))

-- each test is passed
all_pass : (p : Failure → Bool) (xs : List Failure) → All (λ x. p x ≡ true) xs → list_all p xs ≡ true
all_pass p [] pass = refl
all_pass p (x ∷ xs) pass = rw (All-head (λ y. p y ≡ true) x xs pass) (all_pass p xs (All-tail (λ y. p y ≡ true) x xs pass))

-- one test isn't
one_fails : (p : Failure → Bool) (xs : List Failure) (x : Failure) → Contains xs x → p x ≡ false → list_all p xs ≡ false
one_fails p xs x among fails = list_all_at p xs among.0 x among.1 (rw among.2 fails)

-- what does not fit is passed over
find_later : (p : Failure → Bool) (xs ys : List Failure) → All (λ x. p x ≡ false) xs → find p (xs ++ ys) ≡ find p ys
find_later p [] ys skipped = refl
find_later p (x ∷ xs) ys skipped = rw (All-head (λ y. p y ≡ false) x xs skipped) (find_later p xs ys (All-tail (λ y. p y ≡ false) x xs skipped))

found : (fs : List Failure) (f : Failure) → IsFirstLeast fs f → find (has_least_key fs) fs ≡ Some f
found fs f is =
    let p = has_least_key fs in
    let fits : p f ≡ true = all_pass (λ (g : Failure). not (key_below g.key f.key)) fs
    (All-weaker (λ (g : Failure). key_below g.key f.key ≡ false) (λ (g : Failure). not (key_below g.key f.key) ≡ true) (λ g low. ap not low) fs (least_all fs f is)) in
    let skipped : All (λ g. p g ≡ false) is.before =
    All-weaker (λ (g : Failure). KeyBelow f.key g.key) (λ g. p g ≡ false)
    (λ g above. one_fails (λ (h : Failure). not (key_below h.key g.key)) fs f (contained fs f is) (ap not above)) is.before is.greater in
    ap (find p) is.whole ∙ find_later p is.before (f ∷ is.behind) skipped ∙ rw fits refl

-- the verdict that stands is the one of the definition
pub Stands-value : (outcomes : List Outcome) (v : Verdict) → Stands (failures_of outcomes) v → v ≡ verdict_of outcomes
Stands-value outcomes Pass none = rw none refl
Stands-value outcomes (Fail f) is = rw (found (failures_of outcomes) f is) refl

pub Stands-least : (outcomes : List Outcome) (v : Verdict) → Stands (failures_of outcomes) v → IsVerdict outcomes v
Stands-least outcomes Pass none = none
Stands-least outcomes (Fail f) is = record { is_failure = contained (failures_of outcomes) f is; least = least_all (failures_of outcomes) f is }

joined-some : (fs : List Failure) (v : Verdict) (g : Failure) (b : Bool) → is_sooner g v ≡ b → Stands fs v → Stands (fs ++ g ∷ []) (if b then Fail g else v)
joined-some fs v g true sooner is = Stands-replaced fs v g is sooner
joined-some fs v g false sooner is = Stands-kept fs v g is sooner

Stands-joined : (fs : List Failure) (v : Verdict) (o : Option Failure) → Stands fs v → Stands (fs ++ cons_option o []) (joined_verdict v o)
Stands-joined fs v None is = subst (λ (t : List Failure). Stands t v) (sym (append-nil fs)) is
Stands-joined fs v (Some g) is = joined-some fs v g (is_sooner g v) refl is

-- the failures of one more hart
failures_more : (xs : List Outcome) (i : ℕ) (d : Outcome) → i < length xs → failures_of (take (i + 1) xs) ≡ failures_of (take i xs) ++ cons_option (get_or xs i d).failure []
failures_more xs i d within = ap failures_of (take_more xs i d within) ∙ filter_map-append (λ (o : Outcome). o.failure) (take i xs) (get_or xs i d ∷ [])

pub Stands-more : (xs : List Outcome) (i : ℕ) (d : Outcome) (v : Verdict) → i < length xs → Stands (failures_of (take i xs)) v
    → Stands (failures_of (take (i + 1) xs)) (joined_verdict v (get_or xs i d).failure)
Stands-more xs i d v within is =
    subst (λ (t : List Failure). Stands t (joined_verdict v (get_or xs i d).failure)) (sym (failures_more xs i d within))
    (Stands-joined (failures_of (take i xs)) v (get_or xs i d).failure is)

-- when all harts are joined
pub Stands-all : (xs : List Outcome) (i : ℕ) (v : Verdict) → length xs ≤ i → Stands (failures_of (take i xs)) v → Stands (failures_of xs) v
Stands-all xs i v all is = subst (λ (t : List Outcome). Stands (failures_of t) v) (take_all i xs all) is

-- ---- the verdict of any outcomes

-- a verdict that stands
record Standing (fs : List Failure) : Type 0 where
  pub verdict : Verdict
  pub stands : Stands fs verdict

failures_joined : (fs : List Failure) (o : Option Failure) (rest : List Failure) → (fs ++ cons_option o []) ++ rest ≡ fs ++ cons_option o rest
failures_joined fs None rest = ap (λ (t : List Failure). t ++ rest) (append-nil fs)
failures_joined fs (Some f) rest = append_assoc fs (f ∷ []) rest

-- after these failures, the outcomes that follow are joined one by one
standing_after : (fs : List Failure) (v : Verdict) (outcomes : List Outcome) → Stands fs v → Standing (fs ++ failures_of outcomes)
standing_after fs v [] is = record { verdict = v; stands = subst (λ (t : List Failure). Stands t v) (sym (append-nil fs)) is }
standing_after fs v (o ∷ outcomes) is =
    subst Standing (failures_joined fs o.failure (failures_of outcomes))
    (standing_after (fs ++ cons_option o.failure []) (joined_verdict v o.failure) outcomes (Stands-joined fs v o.failure is))

pub verdicts_are_least : VerdictsAreLeast
verdicts_are_least outcomes =
    let all : Standing (failures_of outcomes) = standing_after [] Pass outcomes refl in
    subst (IsVerdict outcomes) (Stands-value outcomes all.verdict all.stands) (Stands-least outcomes all.verdict all.stands)

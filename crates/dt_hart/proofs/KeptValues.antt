use Rattle.std.proofs.Common.{ℕ, ◌≡◌, Bool, true, false, List, [], ◌∷◌, ◌+◌, ◌<◌, ◌++◌, length, get_or, take, Option, None, Some, refl, sym, ap, ◌∙◌, inl, inr, arith}
use Rattle.std.specs.Option.{option_map, option_and_then}
use Rattle.std.specs.List.{cons_option, list_all, All, AllByRecursion}
use Rattle.std.proofs.lemmas.List.{take_more}
use Rattle.std.proofs.lemmas.List.Elements.{All-cons, All-nil, filter_map-append}
use Rattle.std.specs.List.Sorted.{IsStrictlySortedBy}
use Rattle.std.specs.Ordering.{nat_cmp}
use Rattle.std.specs.declared.cmp.Ordering.TheVariants.{Less}
use Rattle.std.specs.BTreeMap.{is_at}
use Rattle.std.specs.Map.{lookup, keys_of}
use Rattle.std.proofs.lemmas.Bool.{and_parts, and_from, cases_Bool}
use Rattle.std.proofs.lemmas.Bool.Decides.{nat_tests}
use Rattle.std.proofs.lemmas.Map.Entries.{lookup_head, lookup_tail}
use Rattle.std.proofs.lemmas.Map.Keys.{sorted_head, sorted_tail}
use Rattle.dt_hart.specs.HartData.{kept_value, kept_values}

-- Entries by rising numbers whose values are given others, or are left out.

-- whether an entry stands at a number
abbrev pub at : ℕ → ℕ → Bool
at n = is_at (nat_cmp n)

abbrev Above : ℕ → List ℕ → Type 0
Above n keys = AllByRecursion (λ k. nat_cmp n k ≡ Less) keys

abbrev first_of : {B : Type 0} → ℕ → Option B → List (ℕ × B) → List (ℕ × B)
first_of n o rest = cons_option (option_map (λ b. (n, b)) o) rest

-- ---- in order

sorted_cons : (n : ℕ) (ns : List ℕ) → Above n ns → IsStrictlySortedBy nat_cmp ns → IsStrictlySortedBy nat_cmp (n ∷ ns)
unfolding IsStrictlySortedBy
sorted_cons n ns above rest = (above, rest)

either_above : {B : Type 0} (n k : ℕ) (o : Option B) (rest : List (ℕ × B)) → nat_cmp n k ≡ Less → Above n (keys_of rest) → Above n (keys_of (first_of k o rest))
either_above n k None rest here later = later
either_above n k (Some b) rest here later = (here, later)

above_kept : {A B : Type 0} (value : A → Option B) (n : ℕ) (es : List (ℕ × A)) → Above n (keys_of es) → Above n (keys_of (kept_values value es))
above_kept value n [] above = tt
above_kept value n (e ∷ es) above = either_above n e.0 (value e.1) (kept_values value es) above.0 (above_kept value n es above.1)

either_sorted : {B : Type 0} (n : ℕ) (o : Option B) (rest : List (ℕ × B)) → Above n (keys_of rest) → IsStrictlySortedBy nat_cmp (keys_of rest)
    → IsStrictlySortedBy nat_cmp (keys_of (first_of n o rest))
either_sorted n None rest above sorted = sorted
either_sorted n (Some b) rest above sorted = sorted_cons n (keys_of rest) above sorted

pub kept_sorted : {A B : Type 0} (value : A → Option B) (es : List (ℕ × A)) → IsStrictlySortedBy nat_cmp (keys_of es) → IsStrictlySortedBy nat_cmp (keys_of (kept_values value es))
kept_sorted value [] sorted = sorted
kept_sorted value (e ∷ es) sorted =
    either_sorted e.0 (value e.1) (kept_values value es) (above_kept value e.0 es (sorted_head nat_cmp e.0 (keys_of es) sorted))
    (kept_sorted value es (sorted_tail nat_cmp e.0 (keys_of es) sorted))

either_all : {B : Type 0} (p : ℕ → Bool) (n : ℕ) (o : Option B) (rest : List (ℕ × B)) → p n ≡ true → list_all p (keys_of rest) ≡ true → list_all p (keys_of (first_of n o rest)) ≡ true
either_all p n None rest here later = later
either_all p n (Some b) rest here later = and_from (p n) (list_all p (keys_of rest)) here later

pub kept_all : {A B : Type 0} (value : A → Option B) (p : ℕ → Bool) (es : List (ℕ × A)) → list_all p (keys_of es) ≡ true → list_all p (keys_of (kept_values value es)) ≡ true
kept_all value p [] all = refl
kept_all value p (e ∷ es) all =
    let parts = and_parts (p e.0) (list_all p (keys_of es)) all in
    either_all p e.0 (value e.1) (kept_values value es) parts.0 (kept_all value p es parts.1)

-- ---- by number

not_at : (n k : ℕ) → nat_cmp n k ≡ Less → at n k ≡ false
not_at n k less = grind (arith, nat_tests)

same_at : (n k : ℕ) → at n k ≡ true → n ≡ k
same_at n k same = grind (arith, nat_tests)

absent : {B : Type 0} (n : ℕ) (es : List (ℕ × B)) → Above n (keys_of es) → lookup (at n) es ≡ None
absent n [] above = refl
absent n (e ∷ es) above = lookup_tail (at n) e es (not_at n e.0 above.0) ∙ absent n es above.1

either_here : {B : Type 0} (n k : ℕ) (o : Option B) (rest : List (ℕ × B)) → at n k ≡ true → lookup (at n) rest ≡ None → lookup (at n) (first_of k o rest) ≡ o
either_here n k None rest here later = later
either_here n k (Some b) rest here later = lookup_head (at n) (k, b) rest here

either_past : {B : Type 0} (n k : ℕ) (o : Option B) (rest : List (ℕ × B)) → at n k ≡ false → lookup (at n) (first_of k o rest) ≡ lookup (at n) rest
either_past n k None rest past = refl
either_past n k (Some b) rest past = lookup_tail (at n) (k, b) rest past

pub kept_lookup : {A B : Type 0} (value : A → Option B) (n : ℕ) (es : List (ℕ × A)) → IsStrictlySortedBy nat_cmp (keys_of es)
    → lookup (at n) (kept_values value es) ≡ option_and_then value (lookup (at n) es)
kept_lookup value n [] sorted = refl
kept_lookup {A = A} value n (e ∷ es) sorted = elim (cases_Bool (at n e.0)) [
  | inl here ↦
      let above = above_kept value e.0 es (sorted_head nat_cmp e.0 (keys_of es) sorted) in
      let none = absent n (kept_values value es) (rw (← same_at n e.0 here) at above) in
      either_here n e.0 (value e.1) (kept_values value es) here none ∙ sym (ap (option_and_then value) (lookup_head (at n) e es here))
  | inr past ↦
      either_past n e.0 (value e.1) (kept_values value es) past ∙ kept_lookup value n es (sorted_tail nat_cmp e.0 (keys_of es) sorted)
      ∙ sym (ap (option_and_then value) (lookup_tail (at n) e es past))
]

-- ---- one by one

cons_is : {B : Type 0} (n : ℕ) (o : Option B) → first_of n o [] ≡ kept_value n o
cons_is n None = refl
cons_is n (Some b) = refl

pub kept_snoc : {A B : Type 0} (value : A → Option B) (es : List (ℕ × A)) (e : ℕ × A) → kept_values value (es ++ e ∷ []) ≡ kept_values value es ++ kept_value e.0 (value e.1)
kept_snoc {A = A} {B = B} value es e =
    let h : ℕ × A → Option (ℕ × B) = λ f. option_map (λ b. (f.0, b)) (value f.1) in
    filter_map-append h es (e ∷ []) ∙ ap (λ (l : List (ℕ × B)). kept_values value es ++ l) (cons_is e.0 (value e.1))

pub kept_more : {A B : Type 0} (value : A → Option B) (es : List (ℕ × A)) (i : ℕ) (d : ℕ × A) → i < length es
    → kept_values value (take (i + 1) es) ≡ kept_values value (take i es) ++ kept_value (get_or es i d).0 (value (get_or es i d).1)
kept_more value es i d within = ap (kept_values value) (take_more es i d within) ∙ kept_snoc value (take i es) (get_or es i d)

-- ---- each value

either_each : {B : Type 0} (P : B → Type 0) (n : ℕ) (o : Option B) (rest : List (ℕ × B)) → ((b : B) → o ≡ Some b → P b) → All (λ e. P e.1) rest → All (λ e. P e.1) (first_of n o rest)
either_each P n None rest here later = later
either_each P n (Some b) rest here later = All-cons (λ e. P e.1) (n, b) rest (here b refl) later

pub kept_each : {A B : Type 0} (value : A → Option B) (P : B → Type 0) (es : List (ℕ × A)) → ((a : A) (b : B) → value a ≡ Some b → P b) → All (λ e. P e.1) (kept_values value es)
kept_each value P [] holds = All-nil (λ e. P e.1)
kept_each value P (e ∷ es) holds = either_each P e.0 (value e.1) (kept_values value es) (holds e.1) (kept_each value P es holds)

use Rattle.std.proofs.Common.{◌≡◌, ℕ, zero, suc, ◌-◌, ◌<◌, ◌≤◌, true, false, not, if◌then◌else◌, Option, None, Some, List, [], ◌∷◌, ◌++◌, length, take, drop, filter, map, slice_get, set, get_or, nat_lt, IsTrue, refl, sym, ap, ◌∙◌, inl, inr, arith}
use Rattle.std.specs.List.{filter_map}
use Rattle.std.specs.Option.{option_and_then}
use Rattle.std.proofs.lemmas.List.{map-append, take-map, length-map}
use Rattle.std.proofs.lemmas.Bool.{cases_Bool, and_parts, and_from, and_left, and_right, not-true, lt-ltb}
use Rattle.dt_record.specs.declared.keys.Key.{Key}
use Rattle.dt_record.specs.Actions.{Held, is_on, is_waiting}
use Rattle.dt_stores.specs.Draining.{is_waiting_on}
use Rattle.dt_stores.specs.Indexed.{on_line, places_on, AreAt, splits}
use Rattle.dt_stores.specs.Past.{released}
use Rattle.dt_stores.specs.Taking.{drained_one, drained_at}
use Rattle.dt_stores.proofs.DrainLaws.{marked, marked-none}

-- Where the stores of a line stand, and what taking them by their places does.

-- the stores at some places
abbrev pub stores_at : List Held → List ℕ → List Held
stores_at held places = filter_map (slice_get held) places

pub drop-map : {X Y : Type 0} (f : X → Y) (n : ℕ) (xs : List X) → drop n (map f xs) ≡ map f (drop n xs)
drop-map f zero xs = refl
drop-map f (suc n) [] = refl
drop-map f (suc n) (x ∷ xs) = drop-map f n xs

pub map-suc : (h : Held) (hs : List Held) (places : List ℕ) → map (slice_get (h ∷ hs)) (map suc places) ≡ map (slice_get hs) places
map-suc h hs [] = refl
map-suc h hs (p ∷ places) = ap (λ (l : List (Option Held)). slice_get hs p ∷ l) (map-suc h hs places)

-- the stores of a line are at its places
pub are_at : (line : ℕ) (held : List Held) → AreAt held (places_on line held) (on_line line held)
are_at line [] = refl
are_at line (h ∷ hs) =
    elim (cases_Bool (is_on line h.store)) [
      | inl on ↦ rw on (ap (λ (l : List (Option Held)). Some h ∷ l) (map-suc h hs (places_on line hs) ∙ are_at line hs))
      | inr off ↦ rw off (map-suc h hs (places_on line hs) ∙ are_at line hs)
    ]

pub at-take : (held hs : List Held) (places : List ℕ) (n : ℕ) → AreAt held places hs → AreAt held (take n places) (take n hs)
at-take held hs places n at =
    sym (take-map (slice_get held) n places) ∙ ap (take n) at ∙ take-map (λ (h : Held). Some h) n hs

pub at-drop : (held hs : List Held) (places : List ℕ) (n : ℕ) → AreAt held places hs → AreAt held (drop n places) (drop n hs)
at-drop held hs places n at =
    sym (drop-map (slice_get held) n places) ∙ ap (drop n) at ∙ drop-map (λ (h : Held). Some h) n hs

pub at-length : (held hs : List Held) (places : List ℕ) → AreAt held places hs → length places ≡ length hs
at-length held hs places at =
    sym (length-map places (slice_get held)) ∙ ap length at ∙ length-map hs (λ (h : Held). Some h)

pub at-stores : (held hs : List Held) (places : List ℕ) → AreAt held places hs → stores_at held places ≡ hs
at-stores held [] [] at = refl
at-stores held (h ∷ hs) [] at = absurd (cc at)
at-stores held [] (p ∷ places) at = absurd (cc at)
at-stores held (h ∷ hs) (p ∷ places) at =
    let first : slice_get held p ≡ Some h = cc at in
    let rest : AreAt held places hs = cc at in
    rw first (ap (λ (l : List Held). h ∷ l) (at-stores held hs places rest))

-- one more store
pub places_on-push : (line : ℕ) (held : List Held) (h : Held)
    → places_on line (held ++ h ∷ []) ≡ places_on line held ++ (if is_on line h.store then length held ∷ [] else [])
places_on-push line [] h = elim (cases_Bool (is_on line h.store)) [ inl on ↦ rw on refl | inr off ↦ rw off refl ]
places_on-push line (x ∷ xs) h =
    let rest : map suc (places_on line (xs ++ h ∷ [])) ≡ map suc (places_on line xs) ++ (if is_on line h.store then suc (length xs) ∷ [] else []) =
    ap (map suc) (places_on-push line xs h) ∙ map-append suc (places_on line xs) (if is_on line h.store then length xs ∷ [] else [])
    ∙ ap (λ (l : List ℕ). map suc (places_on line xs) ++ l) (elim (cases_Bool (is_on line h.store)) [ inl on ↦ rw on refl | inr off ↦ rw off refl ]) in
    elim (cases_Bool (is_on line x.store)) [
      | inl on ↦ rw on (ap (λ (l : List ℕ). 0 ∷ l) rest)
      | inr off ↦ rw off rest
    ]

-- those that wait are those behind the ones that are drained
pub waiting_behind : (line n : ℕ) (held : List Held) → IsTrue (splits is_waiting n (on_line line held))
    → filter (is_waiting_on line) held ≡ drop n (on_line line held)
waiting_behind line zero [] split = refl
waiting_behind line (suc n) [] split = refl
waiting_behind line zero (h ∷ hs) split =
    elim (cases_Bool (is_on line h.store)) [
      | inl on ↦ (let parts = and_parts (is_waiting h) (splits is_waiting zero (on_line line hs)) (rw on at split) in
          let here : is_waiting_on line h ≡ true = and_from (is_waiting h) (is_on line h.store) parts.0 on in
          rw (here, on) (ap (λ (l : List Held). h ∷ l) (waiting_behind line zero hs parts.1)))
      | inr off ↦ (let not_here : is_waiting_on line h ≡ false = and_right (is_waiting h) (is_on line h.store) off in
          rw (not_here, off) (waiting_behind line zero hs (rw off at split)))
    ]
waiting_behind line (suc n) (h ∷ hs) split =
    elim (cases_Bool (is_on line h.store)) [
      | inl on ↦ (let parts = and_parts (not (is_waiting h)) (splits is_waiting n (on_line line hs)) (rw on at split) in
          let not_here : is_waiting_on line h ≡ false = and_left (is_waiting h) (is_on line h.store) (not-true (is_waiting h) parts.0) in
          rw (not_here, on) (waiting_behind line n hs parts.1))
      | inr off ↦ (let not_here : is_waiting_on line h ≡ false = and_right (is_waiting h) (is_on line h.store) off in
          rw (not_here, off) (waiting_behind line (suc n) hs (rw off at split)))
    ]

pub released-empty : (line n left : ℕ) → released line n left [] ≡ []
released-empty line zero left = refl
released-empty line (suc n) left = refl

-- setting the drain of stores by their places
drained-behind : (drain : Option Key) (h : Held) (hs : List Held) (places : List ℕ) → drained_at drain (map suc places) (h ∷ hs) ≡ h ∷ drained_at drain places hs
drained-behind drain h hs [] = refl
drained-behind drain h hs (p ∷ places) = drained-behind drain h (drained_one drain p hs) places

nothing : (n left : ℕ) → take left (drop n (places_on 0 [])) ≡ []
nothing zero zero = refl
nothing zero (suc left) = refl
nothing (suc n) zero = refl
nothing (suc n) (suc left) = refl

-- those behind the first store
drained-past : (line : ℕ) (drain : Option Key) (n left : ℕ) (h : Held) (hs others : List Held) → drained_at drain (take left (drop n (places_on line hs))) hs ≡ others
    → drained_at drain (take left (drop n (map suc (places_on line hs)))) (h ∷ hs) ≡ h ∷ others
drained-past line drain n left h hs others rest =
    ap (λ (l : List ℕ). drained_at drain l (h ∷ hs)) (ap (take left) (drop-map suc n (places_on line hs)) ∙ take-map suc left (drop n (places_on line hs)))
    ∙ drained-behind drain h hs (take left (drop n (places_on line hs))) ∙ ap (λ (l : List Held). h ∷ l) rest

-- where the first store of the line waits
taken-here : (line : ℕ) (key : Key) (left : ℕ) (h : Held) (hs : List Held) → is_waiting_on line h ≡ true
    → ((some : ℕ) → drained_at (Some key) (take some (drop zero (places_on line hs))) hs ≡ marked line key some hs)
    → drained_at (Some key) (take left (drop zero (0 ∷ map suc (places_on line hs)))) (h ∷ hs) ≡ marked line key left (h ∷ hs)
taken-here line key zero h hs waits rest = sym (marked-none line key (h ∷ hs))
taken-here line key (suc left) h hs waits rest =
    let some : nat_lt 0 (suc left) ≡ true = lt-ltb 0 (suc left) (omega arith) in
    let one : suc left - 1 ≡ left = omega arith in
    rw (waits, some, one) (drained-past line (Some key) zero left (record h { drained = Some key }) hs (marked line key left hs) (rest left))

pub takes_marked : (line : ℕ) (key : Key) (n left : ℕ) (held : List Held) → IsTrue (splits is_waiting n (on_line line held))
    → drained_at (Some key) (take left (drop n (places_on line held))) held ≡ marked line key left held
takes_marked line key n left [] split = ap (λ (l : List ℕ). drained_at (Some key) l []) (nothing n left)
takes_marked line key zero left (h ∷ hs) split =
    elim (cases_Bool (is_on line h.store)) [
      | inl on ↦ (let parts = and_parts (is_waiting h) (splits is_waiting zero (on_line line hs)) (rw on at split) in
          let places : places_on line (h ∷ hs) ≡ 0 ∷ map suc (places_on line hs) = rw on refl in
          ap (λ (l : List ℕ). drained_at (Some key) (take left l) (h ∷ hs)) places
          ∙ taken-here line key left h hs (and_from (is_waiting h) (is_on line h.store) parts.0 on) (λ some. takes_marked line key zero some hs parts.1))
      | inr off ↦ (let not_here : is_waiting_on line h ≡ false = and_right (is_waiting h) (is_on line h.store) off in
          rw (not_here, off) (drained-past line (Some key) zero left h hs (marked line key left hs) (takes_marked line key zero left hs (rw off at split))))
    ]
takes_marked line key (suc n) left (h ∷ hs) split =
    elim (cases_Bool (is_on line h.store)) [
      | inl on ↦ (let parts = and_parts (not (is_waiting h)) (splits is_waiting n (on_line line hs)) (rw on at split) in
          let not_here : is_waiting_on line h ≡ false = and_left (is_waiting h) (is_on line h.store) (not-true (is_waiting h) parts.0) in
          rw (not_here, on) (drained-past line (Some key) n left h hs (marked line key left hs) (takes_marked line key n left hs parts.1)))
      | inr off ↦ (let not_here : is_waiting_on line h ≡ false = and_right (is_waiting h) (is_on line h.store) off in
          rw (not_here, off) (drained-past line (Some key) (suc n) left h hs (marked line key left hs) (takes_marked line key (suc n) left hs (rw off at split))))
    ]

-- a store by its place
pub at-index : (held hs : List Held) (places : List ℕ) (i : ℕ) → AreAt held places hs → option_and_then (slice_get held) (slice_get places i) ≡ slice_get hs i
at-index held [] [] i at = refl
at-index held (h ∷ hs) [] i at = absurd (cc at)
at-index held [] (p ∷ places) i at = absurd (cc at)
at-index held (h ∷ hs) (p ∷ places) zero at = cc at
at-index held (h ∷ hs) (p ∷ places) (suc i) at = at-index held hs places i (cc at)

-- one place more whose drain is set
pub drained_one-set : (drain : Option Key) (held : List Held) (place : ℕ) (d : Held) → place < length held
    → set held place (record (get_or held place d) { drained = drain }) ≡ drained_one drain place held
drained_one-set drain [] place d within = absurd (omega arith)
drained_one-set drain (h ∷ hs) zero d within = refl
drained_one-set drain (h ∷ hs) (suc place) d within = ap (λ (l : List Held). h ∷ l) (drained_one-set drain hs place d (omega arith))

pub drained_one-past : (drain : Option Key) (held : List Held) (place : ℕ) → length held ≤ place → held ≡ drained_one drain place held
drained_one-past drain [] place past = refl
drained_one-past drain (h ∷ hs) zero past = absurd (omega arith)
drained_one-past drain (h ∷ hs) (suc place) past = ap (λ (l : List Held). h ∷ l) (drained_one-past drain hs place (omega arith))

-- stores of a line that wait again, by their places
releases-here : (line left : ℕ) (h : Held) (hs : List Held) → is_on line h.store ≡ true
    → ((some : ℕ) → drained_at None (take some (drop zero (places_on line hs))) hs ≡ released line zero some hs)
    → drained_at None (take left (drop zero (0 ∷ map suc (places_on line hs)))) (h ∷ hs) ≡ released line zero left (h ∷ hs)
releases-here line zero h hs on rest = rw on (ap (λ (l : List Held). h ∷ l) (rest zero))
releases-here line (suc left) h hs on rest =
    let some : nat_lt 0 (suc left) ≡ true = lt-ltb 0 (suc left) (omega arith) in
    let one : suc left - 1 ≡ left = omega arith in
    rw (on, some, one) (drained-past line None zero left (record h { drained = None }) hs (released line zero left hs) (rest left))

pub releases : (line n left : ℕ) (held : List Held) → drained_at None (take left (drop n (places_on line held))) held ≡ released line n left held
releases line n left [] = ap (λ (l : List ℕ). drained_at None l []) (nothing n left) ∙ sym (released-empty line n left)
releases line zero left (h ∷ hs) =
    elim (cases_Bool (is_on line h.store)) [
      | inl on ↦ (let places : places_on line (h ∷ hs) ≡ 0 ∷ map suc (places_on line hs) = rw on refl in
          ap (λ (l : List ℕ). drained_at None (take left l) (h ∷ hs)) places ∙ releases-here line left h hs on (λ some. releases line zero some hs))
      | inr off ↦ rw off (drained-past line None zero left h hs (released line zero left hs) (releases line zero left hs))
    ]
releases line (suc n) left (h ∷ hs) =
    elim (cases_Bool (is_on line h.store)) [
      | inl on ↦ rw on (drained-past line None n left h hs (released line n left hs) (releases line n left hs))
      | inr off ↦ rw off (drained-past line None (suc n) left h hs (released line (suc n) left hs) (releases line (suc n) left hs))
    ]

-- as the code sets them
pub released_by : (held new : List Held) (all some : List ℕ) (line taken count n : ℕ) → all ≡ places_on line held → some ≡ take n (drop taken all) → n ≡ count
    → new ≡ drained_at None some held → new ≡ released line taken count held
released_by held new all some line taken count n all_is some_is n_is new_is =
    new_is ∙ ap (λ l. drained_at None l held) (some_is ∙ ap (λ k. take k (drop taken all)) n_is ∙ ap (λ l. take count (drop taken l)) all_is) ∙ releases line taken count held

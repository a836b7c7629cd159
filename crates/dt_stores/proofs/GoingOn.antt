use Rattle.std.proofs.Common.{ℕ, ◌≡◌, ◌+◌, ◌-◌, ◌≤◌, ◌&&◌, Bool, true, false, if◌then◌else◌, nat_lt, Option, Some, None, option_map, IfSome, List, [], ◌∷◌, ◌++◌, length, filter, slice_get, take, zero, suc, refl, sym, ap, ◌∙◌, subst, inl, inr, IsTrue, arith}
use Rattle.std.proofs.lemmas.List.{append-nil}
use Rattle.std.proofs.lemmas.Bool.{cases_Bool, cases_lt, lt-ltb, le-ltb}
use Rattle.std.proofs.lemmas.List.Elements.{All-cons, All-head, All-tail, All-same, All-push}
use Rattle.dt_record.specs.Keys.{KeyBelow}
use Rattle.dt_record.specs.declared.keys.Key.{Key}
use Rattle.dt_record.specs.declared.accesses.OwnStore.{OwnStore}
use Rattle.dt_record.specs.Actions.{Action, Stored, Drained, Fenced, Loaded, Atomic, Held, held_of, ww_fences, wr_fences, drains_on}
use Rattle.dt_stores.specs.Kept.{Kept, without_past}
use Rattle.dt_stores.specs.Standing.{StoresStand, stores_of}
use Rattle.dt_stores.specs.Draining.{is_waiting_on}
use Rattle.dt_stores.specs.Plans.{TakesFirst, is_among_first}
use Rattle.dt_stores.specs.GoingOn.{StoresGoOn, AreDrainedBelow, DrainsStayBelow, is_quiet}
use Rattle.dt_record.proofs.Holding.{held_from}
use Rattle.dt_stores.proofs.ActionLaws.{stores_of-append}
use Rattle.dt_stores.proofs.DrainLaws.{marked}
use Rattle.dt_stores.proofs.Marking.{walk}
use Rattle.dt_stores.proofs.StandingLaws.{held_after, held_drained, stands_stored, stands_drained}

-- What the stores of a hart are after one more action.

less_by_one : (n left : ℕ) → nat_lt n (left - 1) ≡ nat_lt (suc n) left
less_by_one n left = elim (cases_lt n (left - 1)) [
  | inl below ↦ lt-ltb n (left - 1) below ∙ sym (lt-ltb (suc n) left (omega arith))
  | inr above ↦ le-ltb n (left - 1) above ∙ sym (le-ltb (suc n) left (omega arith))
]

none_before : (n left : ℕ) → left ≡ 0 → nat_lt n left ≡ nat_lt (suc n) left
none_before n left none = le-ltb n left (omega arith) ∙ sym (le-ltb (suc n) left (omega arith))

-- the store at a place, taken where it waits on the line and a test says so
abbrev taken_if : (line : ℕ) (key : Key) → Bool → Held → Held
taken_if line key first h = if is_waiting_on line h && first then record h { drained = Some key } else h

abbrev MarksAt : (line : ℕ) (key : Key) (left : ℕ) → List Held → ℕ → Type 0
MarksAt line key left held i = slice_get (marked line key left held) i ≡ option_map (λ h. if is_among_first line left held i h then record h { drained = Some key } else h) (slice_get held i)

marks_first : (line : ℕ) (key : Key) (left : ℕ) (h : Held) (hs : List Held) → MarksAt line key left (h ∷ hs) zero
marks_first line key left h hs = elim (cases_Bool (is_waiting_on line h && nat_lt 0 left)) [
  | inl taken ↦ rw taken refl
  | inr kept ↦ rw kept refl
]

marks_later : (line : ℕ) (key : Key) (left i : ℕ) (h : Held) (hs : List Held) → ((some : ℕ) → MarksAt line key some hs i) → MarksAt line key left (h ∷ hs) (suc i)
marks_later line key left i h hs rest =
    let before : ℕ = length (filter (is_waiting_on line) (take i hs)) in
    let taken : Bool → Option Held = λ first. option_map (taken_if line key first) (slice_get hs i) in
    elim (cases_Bool (is_waiting_on line h)) [
      | inl waits ↦ elim (cases_lt 0 left) [
        | inl some ↦ (let more : nat_lt 0 left ≡ true = lt-ltb 0 left some in rw (waits, more) (rest (left - 1) ∙ ap taken (less_by_one before left)))
        | inr none ↦ (let done : nat_lt 0 left ≡ false = le-ltb 0 left none in rw (waits, done) (rest left ∙ ap taken (none_before before left (omega arith))))
      ]
      | inr not_here ↦ rw not_here (rest left)
    ]

marked_first : (line : ℕ) (key : Key) (left : ℕ) (held : List Held) → TakesFirst line key left held (marked line key left held)
marked_first line key left [] i = refl
marked_first line key left (h ∷ hs) zero = marks_first line key left h hs
marked_first line key left (h ∷ hs) (suc i) = marks_later line key left i h hs (λ some. marked_first line key some hs i)

-- what stands for the actions has their stores and fences
standing : (kept : Kept) (actions : List Action) → StoresStand kept actions → StoresStand (without_past (held_of actions) (ww_fences actions) (wr_fences actions)) actions
standing kept actions stands = record { held = refl; ww = refl; wr = refl; filled = stands.filled }

stored_last : (kept : Kept) (actions : List Action) (s : OwnStore) → StoresStand kept actions
    → held_of (actions ++ Stored s ∷ []) ≡ held_of actions ++ record { store = s; barrier = ww_fences actions; readers = wr_fences actions; drained = None } ∷ []
stored_last kept actions s stands =
    let old : Kept = without_past (held_of actions) (ww_fences actions) (wr_fences actions) in
    let new : Kept = without_past (held_of actions ++ record { store = s; barrier = ww_fences actions; readers = wr_fences actions; drained = None } ∷ []) (ww_fences actions) (wr_fences actions) in
    sym (stands_stored old new s actions refl refl refl (standing kept actions stands)).held

drained_first : (kept : Kept) (actions : List Action) (key : Key) (line count : ℕ) → StoresStand kept actions
    → count ≤ length (filter (is_waiting_on line) (held_of actions))
    → TakesFirst line key count (held_of actions) (held_of (actions ++ Drained key line count ∷ []))
drained_first kept actions key line count stands enough =
    let old : Kept = without_past (held_of actions) (ww_fences actions) (wr_fences actions) in
    let new : Kept = without_past (marked line key count (held_of actions)) (ww_fences actions) (wr_fences actions) in
    subst (TakesFirst line key count (held_of actions)) (stands_drained old new key line count actions refl refl refl enough (standing kept actions stands)).held
    (marked_first line key count (held_of actions))

unchanged : (actions : List Action) (action : Action) → ((line : ℕ) → drains_on line (action ∷ []) ≡ [])
    → ((all : List Action) (seen : List OwnStore) (ww wr : ℕ) → held_from all seen ww wr (action ∷ []) ≡ []) → held_of (actions ++ action ∷ []) ≡ held_of actions
unchanged actions action none nothing =
    held_after actions action none ∙ ap (λ l. held_of actions ++ l) (nothing (actions ++ action ∷ []) (stores_of actions) (0 + ww_fences actions) (0 + wr_fences actions)) ∙ append-nil (held_of actions)

left_alone : (actions : List Action) (action : Action) → IsTrue (is_quiet action) → held_of (actions ++ action ∷ []) ≡ held_of actions
left_alone actions (Stored s) quiet = absurd (cc quiet)
left_alone actions (Drained key line count) quiet = absurd (cc quiet)
left_alone actions (Fenced ww wr rr) quiet = unchanged actions (Fenced ww wr rr) (λ _. refl) (λ _ _ _ _. refl)
left_alone actions (Loaded ask) quiet = unchanged actions (Loaded ask) (λ _. refl) (λ _ _ _ _. refl)
left_alone actions (Atomic key addr width reads acquires) quiet = unchanged actions (Atomic key addr width reads acquires) (λ _. refl) (λ _ _ _ _. refl)

pub going_on : StoresGoOn
going_on = record {
  stores = λ actions action. stores_of-append actions (action ∷ []);
  stored = stored_last;
  drained = drained_first;
  quiet = left_alone;
}

-- keys that are above those of all drains
abbrev Below : Key → Held → Type 0
Below key h = IfSome h.drained (λ k. KeyBelow k key)

marked_below : (line : ℕ) (own key : Key) → KeyBelow own key → (left : ℕ) (held : List Held) → AreDrainedBelow key held → AreDrainedBelow key (marked line own left held)
marked_below line own key below = walk line own (λ left old new. AreDrainedBelow key old → AreDrainedBelow key new)
    (λ left all. all)
    (λ left h hs ms waits on rest all. All-cons (Below key) (record h { drained = Some own }) ms below (rest (All-tail (Below key) h hs all)))
    (λ left h hs ms out rest all. All-cons (Below key) h ms (All-head (Below key) h hs all) (rest (All-tail (Below key) h hs all)))

pub stay_below : DrainsStayBelow
stay_below kept actions (Stored s) key stands own below =
    All-same (Below key) _ _ (stored_last kept actions s stands) (All-push (Below key) (held_of actions) (record { store = s; barrier = ww_fences actions; readers = wr_fences actions; drained = None }) below tt)
stay_below kept actions (Drained own line count) key stands low below =
    All-same (Below key) _ _ (held_drained actions own line count) (marked_below line own key low count (held_of actions) below)
stay_below kept actions (Fenced ww wr rr) key stands own below = All-same (Below key) _ _ (left_alone actions (Fenced ww wr rr) refl) below
stay_below kept actions (Loaded ask) key stands own below = All-same (Below key) _ _ (left_alone actions (Loaded ask) refl) below
stay_below kept actions (Atomic own addr width reads acquires) key stands low below = All-same (Below key) _ _ (left_alone actions (Atomic own addr width reads acquires) refl) below

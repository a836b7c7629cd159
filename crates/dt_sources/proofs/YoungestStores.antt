use Rattle.std.proofs.Common.{ℕ, ◌≡◌, ◌==◌, ◌&&◌, Bool, true, false, not, Option, Some, None, List, [], ◌∷◌, ◌++◌, length, take, drop, zero, suc, map, filter, find, reverse, cond, refl, sym, ap, ◌∙◌}
use Rattle.std.specs.List.{list_all, slice_get}
use Rattle.std.specs.Option.{option_or}
use Rattle.std.proofs.lemmas.Bool.{and_parts, and_from, cond-true, cond-false, eq-eqb, not-true, not_from_false}
use Rattle.std.proofs.lemmas.List.{reverse-append, take-append-drop}
use Rattle.std.proofs.lemmas.Option.{slice_get_within}
use Rattle.std.proofs.lemmas.List.Folds.{find-append}
use Rattle.dt_stores.proofs.ActionLaws.{stores_of-append}
use Rattle.dt_lists.proofs.Lists.{slice_get-append_left, slice_get-append_seam, option_or-none}
use Rattle.dt_record.specs.declared.accesses.OwnStore.{OwnStore}
use Rattle.dt_record.specs.Actions.{Action, Stored, Drained, Fenced, Loaded, Atomic, Held, held_of, raised, is_undrained, store_covers, forwarded}
use Rattle.dt_record.proofs.Holding.{held_from, held-is_from}
use Rattle.dt_stores.specs.Standing.{stores_of}
use Rattle.dt_sources.specs.Finding.{are_apart, StoresAreApart}

-- The youngest store that passes a test, and how it is found again by its number.

-- the last element that passes
pub record IsLast {X : Type 0} (p : X → Bool) (xs : List X) (x : X) : Type 0 where
  pub before : List X
  pub after : List X
  pub split : xs ≡ before ++ x ∷ after
  pub passes : p x ≡ true
  pub none_after : list_all (λ y. not (p y)) after ≡ true

reverse-cons : {X : Type 0} (x : X) (xs : List X) → reverse (x ∷ xs) ≡ reverse xs ++ x ∷ []
reverse-cons x xs = reverse-append (x ∷ []) xs

pub find-reverse-cons : {X : Type 0} (p : X → Bool) (x : X) (xs : List X) → find p (reverse (x ∷ xs)) ≡ option_or (find p (reverse xs)) (cond (p x) (Some x) None)
find-reverse-cons p x xs = ap (find p) (reverse-cons x xs) ∙ find-append p (reverse xs) (x ∷ [])

none_passes : {X : Type 0} (p : X → Bool) (xs : List X) → find p (reverse xs) ≡ None → list_all (λ y. not (p y)) xs ≡ true
none_passes {X = X} p [] none = refl
none_passes {X = X} p (x ∷ xs) none = parts (none_passes p xs) (find p (reverse xs)) (p x) refl refl (sym (find-reverse-cons p x xs) ∙ none)
  where
    parts : (find p (reverse xs) ≡ None → list_all (λ y. not (p y)) xs ≡ true) → (o : Option X) (b : Bool) → find p (reverse xs) ≡ o → p x ≡ b → option_or o (cond b (Some x) None) ≡ None → list_all (λ y. not (p y)) (x ∷ xs) ≡ true
    parts rest (Some y) b is passes empty = cc
    parts rest None true is passes empty = cc
    parts rest None false is passes empty = and_from (not (p x)) (list_all (λ y. not (p y)) xs) (not_from_false (p x) passes) (rest is)

pub last_found : {X : Type 0} (p : X → Bool) (xs : List X) (x : X) → find p (reverse xs) ≡ Some x → IsLast p xs x
last_found {X = X} p [] x found = absurd (cc found)
last_found {X = X} p (y ∷ ys) x found = parts (last_found p ys x) (find p (reverse ys)) (p y) refl refl (sym (find-reverse-cons p y ys) ∙ found)
  where
    parts : (find p (reverse ys) ≡ Some x → IsLast p ys x) → (o : Option X) (b : Bool) → find p (reverse ys) ≡ o → p y ≡ b → option_or o (cond b (Some y) None) ≡ Some x → IsLast p (y ∷ ys) x
    parts rest (Some z) b is passes gives =
        let later = rest (is ∙ gives) in
        record { before = y ∷ later.before; after = later.after; split = ap (λ zs. y ∷ zs) later.split; passes = later.passes; none_after = later.none_after }
    parts rest None true is passes gives =
        let one : y ≡ x = cc gives in
        record { before = []; after = ys; split = ap (λ z. z ∷ ys) one; passes = ap p (sym one) ∙ passes; none_after = none_passes p ys is }
    parts rest None false is passes gives = absurd (cc gives)

pub find-reverse-filter : {X : Type 0} (q p : X → Bool) (xs : List X) → find p (reverse (filter q xs)) ≡ find (λ x. q x && p x) (reverse xs)
find-reverse-filter {X = X} q p [] = refl
find-reverse-filter {X = X} q p (x ∷ xs) = sides (find-reverse-filter q p xs) (q x) refl ∙ sym (find-reverse-cons (λ y. q y && p y) x xs)
  where
    sides : find p (reverse (filter q xs)) ≡ find (λ y. q y && p y) (reverse xs) → (b : Bool) → q x ≡ b → find p (reverse (cond b (x ∷ filter q xs) (filter q xs))) ≡ option_or (find (λ y. q y && p y) (reverse xs)) (cond (q x && p x) (Some x) None)
    sides rest true kept =
        find-reverse-cons p x (filter q xs) ∙ ap (λ o. option_or o (cond (p x) (Some x) None)) rest
        ∙ ap (λ b. option_or (find (λ y. q y && p y) (reverse xs)) (cond (b && p x) (Some x) None)) (sym kept)
    sides rest false left =
        rest ∙ sym (option_or-none (find (λ y. q y && p y) (reverse xs)))
        ∙ ap (λ b. option_or (find (λ y. q y && p y) (reverse xs)) (cond (b && p x) (Some x) None)) (sym left)

-- whether a store is undrained in a cycle and covers a byte
abbrev pub is_forward : (at addr : ℕ) → Held → Bool
is_forward at addr h = is_undrained at h && store_covers addr h.store

pub forwarded_last : (at : ℕ) (actions : List Action) (addr : ℕ) (h : Held) → forwarded at actions addr ≡ Some h → IsLast (is_forward at addr) (held_of actions) h
forwarded_last at actions addr h found =
    last_found (is_forward at addr) (held_of actions) h (sym (find-reverse-filter (is_undrained at) (λ g. store_covers addr g.store) (held_of actions)) ∙ found)

-- the stores among some actions, with what became of them
stores_held_from : (all : List Action) (seen : List OwnStore) (ww wr : ℕ) (xs : List Action) → map (λ h. h.store) (held_from all seen ww wr xs) ≡ stores_of xs
stores_held_from all seen ww wr [] = refl
stores_held_from all seen ww wr (Stored s ∷ xs) = ap (λ l. s ∷ l) (stores_held_from all (seen ++ s ∷ []) ww wr xs)
stores_held_from all seen ww wr (Drained key line count ∷ xs) = stores_held_from all seen ww wr xs
stores_held_from all seen ww wr (Fenced fence_ww fence_wr fence_rr ∷ xs) = stores_held_from all seen (raised ww fence_ww) (raised wr fence_wr) xs
stores_held_from all seen ww wr (Loaded ask ∷ xs) = stores_held_from all seen ww wr xs
stores_held_from all seen ww wr (Atomic key addr width reads acquires ∷ xs) = stores_held_from all seen ww wr xs

pub stores_held : (actions : List Action) → map (λ h. h.store) (held_of actions) ≡ stores_of actions
stores_held actions = ap (map (λ (h : Held). h.store)) (held-is_from actions) ∙ stores_held_from actions [] 0 0 actions

all_middle : (p : OwnStore → Bool) (before : List Held) (h : Held) (after : List Held) → list_all p (map (λ g. g.store) (before ++ h ∷ after)) ≡ true → p h.store ≡ true
all_middle p [] h after all = (and_parts (p h.store) _ all).0
all_middle p (b ∷ before) h after all = all_middle p before h after (and_parts (p b.store) _ all).1

-- a store is the one with its number
pub found_by_seq : (before : List Held) (h : Held) (after : List Held) → are_apart (map (λ g. g.store) (before ++ h ∷ after)) ≡ true
    → find (λ g. g.store.seq == h.store.seq) (before ++ h ∷ after) ≡ Some h
found_by_seq [] h after apart = cond-true (h.store.seq == h.store.seq) (Some h) (find (λ g. g.store.seq == h.store.seq) after) (eq-eqb h.store.seq h.store.seq refl)
found_by_seq (b ∷ before) h after apart =
    let parts = and_parts (list_all (λ t. not (b.store.seq == t.seq)) (map (λ g. g.store) (before ++ h ∷ after))) (are_apart (map (λ g. g.store) (before ++ h ∷ after))) apart in
    let other = not-true (b.store.seq == h.store.seq) (all_middle (λ t. not (b.store.seq == t.seq)) before h after parts.0) in
    cond-false (b.store.seq == h.store.seq) (Some b) (find (λ g. g.store.seq == h.store.seq) (before ++ h ∷ after)) other ∙ found_by_seq before h after parts.1

split_at : {X : Type 0} (xs : List X) (i : ℕ) (x : X) → slice_get xs i ≡ Some x → (before : List X) × (after : List X) × (xs ≡ before ++ x ∷ after)
split_at [] i x is = absurd (cc is)
split_at (y ∷ ys) zero x is = let one : y ≡ x = cc is in ([], ys, ap (λ z. z ∷ ys) one)
split_at (y ∷ ys) (suc i) x is = let rest = split_at ys i x is in (y ∷ rest.0, rest.1, ap (λ zs. y ∷ zs) rest.2)

pub found_again : (actions : List Action) (i : ℕ) (h : Held) → StoresAreApart actions → slice_get (held_of actions) i ≡ Some h
    → find (λ g. g.store.seq == h.store.seq) (held_of actions) ≡ Some h
found_again actions i h apart is =
    let parts = split_at (held_of actions) i h is in
    ap (find (λ g. g.store.seq == h.store.seq)) parts.2
    ∙ found_by_seq parts.0 h parts.1 (ap are_apart (ap (map (λ g. g.store)) (sym parts.2) ∙ stores_held actions) ∙ apart)

-- the place of the last one that passes
pub held_at : (hs : List Held) (h : Held) (before after : List Held) → hs ≡ before ++ h ∷ after → slice_get hs (length before) ≡ Some h
held_at hs h before after split = ap (λ l. slice_get l (length before)) split ∙ slice_get-append_seam before h after

-- a store among first actions keeps its place among all
pub stores_of-front : (m : ℕ) (actions : List Action) (i : ℕ) (s : OwnStore) → slice_get (stores_of (take m actions)) i ≡ Some s → slice_get (stores_of actions) i ≡ Some s
stores_of-front m actions i s is =
    ap (λ l. slice_get (stores_of l) i) (sym (take-append-drop m actions)) ∙ ap (λ l. slice_get l i) (stores_of-append (take m actions) (drop m actions))
    ∙ slice_get-append_left (stores_of (take m actions)) (stores_of (drop m actions)) i (slice_get_within (stores_of (take m actions)) i s is) ∙ is

pub none_forwarded : (at : ℕ) (actions : List Action) (addr : ℕ) → forwarded at actions addr ≡ None → list_all (λ g. not (is_forward at addr g)) (held_of actions) ≡ true
none_forwarded at actions addr none =
    none_passes (is_forward at addr) (held_of actions) (sym (find-reverse-filter (is_undrained at) (λ g. store_covers addr g.store) (held_of actions)) ∙ none)

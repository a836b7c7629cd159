use Rattle.std.proofs.Common.{◌≡◌, is_none, ℕ, zero, suc, ◌+◌, ◌-◌, ◌<◌, ◌≤◌, ◌==◌, ◌&&◌, ◌||◌, Bool, true, false, not, if◌then◌else◌, Option, Some, None, List, [], ◌∷◌, ◌++◌, length, take, drop, filter, find, get_or, nat_lt, nat_le, All, IfSome, IsTrue, refl, sym, ap, ◌∙◌, inl, inr, arith, subst}
use Rattle.std.specs.List.{list_all, position_or_len}
use Rattle.std.specs.Option.{option_map_or, option_or}
use Rattle.std.proofs.lemmas.Bool.{cases_Bool, cases_eq, cases_lt, and_parts, and_from, or_cases, eqb-true, eq-eqb, ne_eqb, leb-true, ltb-true, le-leb, lt-ltb, le-ltb}
use Rattle.std.proofs.lemmas.List.{append-nil, length-drop}
use Rattle.std.proofs.lemmas.List.Elements.{filter-append, All-head, All-tail}
use Rattle.std.proofs.lemmas.List.Folds.{list_all-append, position_or_len_push, find-append}
use Rattle.std.proofs.lemmas.List.Sorted.{IsNonDecreasingBy-push, IsNonDecreasingBy-short}
use Rattle.dt_record.specs.declared.keys.Key.{Key}
use Rattle.dt_record.specs.declared.accesses.OwnStore.{OwnStore}
use Rattle.dt_record.specs.Keys.{KeyBelow}
use Rattle.dt_record.specs.Lawful.{is_ram_line}
use Rattle.dt_record.specs.Memory.{line_of}
use Rattle.dt_record.specs.Actions.{Held, is_on, is_waiting, is_undrained, raised}
use Rattle.dt_stores.specs.declared.late.Late.{Late}
use Rattle.dt_stores.specs.declared.lines.Line.{Line}
use Rattle.dt_stores.specs.Draining.{is_waiting_on}
use Rattle.dt_stores.specs.Indexed.{on_line, places_on, AreAt, splits, rises}
use Rattle.dt_stores.specs.Late.{first_at, is_drained_by}
use Rattle.dt_stores.specs.Lines.{places_in, taken_in}
use Rattle.dt_stores.specs.Places.{is_store_place}
use Rattle.dt_stores.specs.Taking.{drained_at}
use Rattle.dt_stores.specs.Sound.{AreInOrder, FindsFirst, FindsLines, IsSound}
use Rattle.dt_stores.proofs.DrainLaws.{marked}
use Rattle.dt_stores.proofs.Firsts.{split-within}
use Rattle.dt_stores.proofs.Marking.{IsBlind, blind-all, blind-first, blind-splits, other-splits, marked-rises, marked-places, more-drained, drain-by}
use Rattle.dt_stores.proofs.PlacesOn.{are_at, at-drop, at-length, places_on-push, waiting_behind, takes_marked}

-- What is kept goes on finding the stores.

-- before the first store
pub sound_first : IsSound [] 0 0 0 [] []
sound_first = record {
  order = record { placed = refl; barriers = refl; readers = refl; drained = λ line at. (0, refl) };
  firsts = record { now = refl; earlier = λ at. refl; rising = IsNonDecreasingBy-short (λ l. l.stamp) [] (omega arith); ended = λ at all. refl };
  by_line = record {
    places = λ line. elim (cases_Bool (is_ram_line line)) [ inl ram ↦ rw ram refl | inr no_ram ↦ rw no_ram refl ];
    taken = λ line. elim (cases_Bool (is_ram_line line)) [ inl ram ↦ rw ram refl | inr no_ram ↦ rw no_ram refl ];
  };
}

-- what the places of the lines say
pub finds-waiting : (held : List Held) (lines : List Line) → FindsLines held lines → (line : ℕ)
    → AreAt held (drop (taken_in lines line) (places_in lines line)) (filter (is_waiting_on line) held)
finds-waiting held lines finds line =
    let places : AreAt held (drop (taken_in lines line) (places_on line held)) (drop (taken_in lines line) (on_line line held)) = at-drop held (on_line line held) (places_on line held) (taken_in lines line) (are_at line held) in
    subst (λ l. AreAt held l (filter (is_waiting_on line) held)) (ap (drop (taken_in lines line)) (sym (finds.places line)))
    (subst (AreAt held (drop (taken_in lines line) (places_on line held))) (sym (waiting_behind line (taken_in lines line) held (finds.taken line))) places)

pub finds-line : (held : List Held) (lines : List Line) → FindsLines held lines → (line : ℕ) → AreAt held (places_in lines line) (on_line line held)
finds-line held lines finds line = subst (λ l. AreAt held l (on_line line held)) (sym (finds.places line)) (are_at line held)

pub taken-within : (held : List Held) (lines : List Line) → FindsLines held lines → (line : ℕ) → taken_in lines line ≤ length (places_in lines line)
taken-within held lines finds line =
    let split : taken_in lines line ≤ length (on_line line held) = split-within is_waiting (taken_in lines line) (on_line line held) (finds.taken line) in
    let long : length (places_in lines line) ≡ length (on_line line held) = at-length held (on_line line held) (places_in lines line) (finds-line held lines finds line) in
    omega arith

-- a fence
rises-higher : (f : Held → ℕ) (low high higher : ℕ) (hs : List Held) → high ≤ higher → IsTrue (rises f low high hs) → IsTrue (rises f low higher hs)
rises-higher f low high higher [] more rise = le-leb low higher (let below : low ≤ high = leb-true low high rise in omega arith)
rises-higher f low high higher (h ∷ hs) more rise =
    let parts = and_parts (nat_le low (f h)) (rises f (f h) high hs) rise in
    and_from (nat_le low (f h)) (rises f (f h) higher hs) parts.0 (rises-higher f (f h) high higher hs more parts.1)

pub sound_fenced : (held : List Held) (ww wr more_ww more_wr first : ℕ) (late : List Late) (lines : List Line) → ww ≤ more_ww → wr ≤ more_wr
    → IsSound held ww wr first late lines → IsSound held more_ww more_wr first late lines
sound_fenced held ww wr more_ww more_wr first late lines up_ww up_wr sound = record {
  order = record {
    placed = sound.order.placed;
    barriers = rises-higher (λ h. h.barrier) 0 ww more_ww held up_ww sound.order.barriers;
    readers = rises-higher (λ h. h.readers) 0 wr more_wr held up_wr sound.order.readers;
    drained = sound.order.drained;
  };
  firsts = sound.firsts;
  by_line = sound.by_line;
}

-- lines that are found as before
pub sound_same : (held : List Held) (ww wr first : ℕ) (late : List Late) (old new : List Line) → ((line : ℕ) → places_in new line ≡ places_in old line) → ((line : ℕ) → taken_in new line ≡ taken_in old line)
    → IsSound held ww wr first late old → IsSound held ww wr first late new
sound_same held ww wr first late old new places taken sound = record {
  order = sound.order;
  firsts = sound.firsts;
  by_line = record {
    places = λ line. places line ∙ sound.by_line.places line;
    taken = λ line. ap (λ n. splits is_waiting n (on_line line held)) (taken line) ∙ sound.by_line.taken line;
  };
}

pub raises : (n : ℕ) (b : Bool) (more : ℕ) → more ≡ raised n b → n ≤ more
raises n true more is = omega arith
raises n false more is = omega arith

-- one more store
rises-push : (f : Held → ℕ) (low : ℕ) (hs : List Held) (h : Held) → IsTrue (rises f low (f h) hs) → IsTrue (rises f low (f h) (hs ++ h ∷ []))
rises-push f low [] h rise = and_from (nat_le low (f h)) (nat_le (f h) (f h)) rise (le-leb (f h) (f h) (omega arith))
rises-push f low (x ∷ hs) h rise =
    let parts = and_parts (nat_le low (f x)) (rises f (f x) (f h) hs) rise in
    and_from (nat_le low (f x)) (rises f (f x) (f h) (hs ++ h ∷ [])) parts.0 (rises-push f (f x) hs h parts.1)

splits-push : (p : Held → Bool) (n : ℕ) (hs : List Held) (h : Held) → p h ≡ true → IsTrue (splits p n hs) → IsTrue (splits p n (hs ++ h ∷ []))
splits-push p zero [] h passes split = and_from (p h) true passes refl
splits-push p (suc n) [] h passes split = (let none : suc n ≡ 0 = eqb-true (suc n) 0 split in absurd (omega arith))
splits-push p zero (x ∷ hs) h passes split =
    let parts = and_parts (p x) (splits p zero hs) split in
    and_from (p x) (splits p zero (hs ++ h ∷ [])) parts.0 (splits-push p zero hs h passes parts.1)
splits-push p (suc n) (x ∷ hs) h passes split =
    let parts = and_parts (not (p x)) (splits p n hs) split in
    and_from (not (p x)) (splits p n (hs ++ h ∷ [])) parts.0 (splits-push p n hs h passes parts.1)

on_line-push : (p : Held → Bool) (n line : ℕ) (held : List Held) (h : Held) → p h ≡ true → IsTrue (splits p n (on_line line held)) → IsTrue (splits p n (on_line line (held ++ h ∷ [])))
on_line-push p n line held h passes split =
    let both : on_line line (held ++ h ∷ []) ≡ on_line line held ++ on_line line (h ∷ []) = filter-append (λ h. is_on line h.store) held (h ∷ []) in
    elim (cases_Bool (is_on line h.store)) [
      | inl on ↦ (let last : on_line line (h ∷ []) ≡ h ∷ [] = rw on refl in
          subst (λ l. IsTrue (splits p n l)) (sym (both ∙ ap (λ l. on_line line held ++ l) last)) (splits-push p n (on_line line held) h passes split))
      | inr off ↦ (let last : on_line line (h ∷ []) ≡ [] = rw off refl in
          subst (λ l. IsTrue (splits p n l)) (sym (both ∙ ap (λ l. on_line line held ++ l) last ∙ append-nil (on_line line held))) split)
    ]

first-push : (p : Held → Bool) (held : List Held) (h : Held) → p h ≡ true → position_or_len p (held ++ h ∷ []) ≡ position_or_len p held
first-push p held h passes =
    elim (cases_eq (position_or_len p held) (length held)) [
      | inl all ↦ (let same : (position_or_len p held == length held) ≡ true = eq-eqb (position_or_len p held) (length held) all in
          position_or_len_push p held h ∙ (rw (same, passes) (omega arith)))
      | inr some ↦ (let other : (position_or_len p held == length held) ≡ false = ne_eqb (position_or_len p held) (length held) some in
          position_or_len_push p held h ∙ (rw other refl))
    ]

-- how the places of the lines change
pub record AddsPlace (held : List Held) (old new : List Line) (line : ℕ) : Type 0 where
  pub places : (other : ℕ) → places_in new other ≡ (if other == line then places_in old line ++ length held ∷ [] else places_in old other)
  pub taken : (other : ℕ) → taken_in new other ≡ taken_in old other

committed-lines : (held : List Held) (old new : List Line) (h : Held) → is_waiting h ≡ true → AddsPlace held old new (line_of h.store.addr) → FindsLines held old → FindsLines (held ++ h ∷ []) new
committed-lines held old new h waits adds finds = record {
  places = λ line. elim (cases_eq line (line_of h.store.addr)) [
    | inl same ↦ (let here : (line == line_of h.store.addr) ≡ true = eq-eqb line (line_of h.store.addr) same in
        let on : is_on line h.store ≡ true = eq-eqb (line_of h.store.addr) line (sym same) in
        let added : places_in new line ≡ places_in old (line_of h.store.addr) ++ length held ∷ [] = adds.places line ∙ (rw here refl) in
        let was : places_in old (line_of h.store.addr) ≡ places_on line held = finds.places (line_of h.store.addr) ∙ ap (λ l. places_on l held) (sym same) in
        let now : places_on line (held ++ h ∷ []) ≡ places_on line held ++ length held ∷ [] = places_on-push line held h ∙ (rw on refl) in
        added ∙ ap (λ (l : List ℕ). l ++ length held ∷ []) was ∙ sym now)
    | inr apart ↦ (let off : (line == line_of h.store.addr) ≡ false = ne_eqb line (line_of h.store.addr) apart in
        let not_on : is_on line h.store ≡ false = ne_eqb (line_of h.store.addr) line (λ same. apart (sym same)) in
        let kept : places_in new line ≡ places_in old line = adds.places line ∙ (rw off refl) in
        let now : places_on line (held ++ h ∷ []) ≡ places_on line held ++ [] = places_on-push line held h ∙ (rw not_on refl) in
        kept ∙ finds.places line ∙ sym (now ∙ append-nil (places_on line held)))
  ];
  taken = λ line. subst (λ n. IsTrue (splits is_waiting n (on_line line (held ++ h ∷ [])))) (sym (adds.taken line))
      (on_line-push is_waiting (taken_in old line) line held h waits (finds.taken line));
}

abbrev new_store : OwnStore → ℕ → ℕ → Held
new_store s ww wr = record { store = s; barrier = ww; readers = wr; drained = None }

pub sound_committed : (held : List Held) (ww wr first : ℕ) (late : List Late) (old new : List Line) (s : OwnStore) → IsTrue (is_store_place s)
    → AddsPlace held old new (line_of s.addr) → IsSound held ww wr first late old
    → IsSound (held ++ record { store = s; barrier = ww; readers = wr; drained = None } ∷ []) ww wr first late new
sound_committed held ww wr first late old new s place adds sound = record {
  order = record {
    placed = list_all-append (λ h. is_store_place h.store) held (new_store s ww wr ∷ []) ∙ and_from (list_all (λ h. is_store_place h.store) held) (is_store_place s && true) sound.order.placed (and_from (is_store_place s) true place refl);
    barriers = rises-push (λ h. h.barrier) 0 held (new_store s ww wr) sound.order.barriers;
    readers = rises-push (λ h. h.readers) 0 held (new_store s ww wr) sound.order.readers;
    drained = λ line at. let was = sound.order.drained line at in (was.0, on_line-push (is_undrained at) was.0 line held (new_store s ww wr) refl was.1);
  };
  firsts = record {
    now = sound.firsts.now ∙ sym (first-push is_waiting held (new_store s ww wr) refl);
    earlier = λ at. sound.firsts.earlier at ∙ sym (first-push (is_undrained at) held (new_store s ww wr) refl);
    rising = sound.firsts.rising;
    ended = λ at all. sound.firsts.ended at (and_parts (list_all (is_drained_by at) held) (list_all (is_drained_by at) (new_store s ww wr ∷ [])) (sym (list_all-append (is_drained_by at) held (new_store s ww wr ∷ [])) ∙ all)).0;
  };
  by_line = committed-lines held old new (new_store s ww wr) refl adds sound.by_line;
}

-- a drain: keys that rise have cycles that do
drained-by : (key : Key) (held : List Held) → All (λ h. IfSome h.drained (λ k. KeyBelow k key)) held → list_all (is_drained_by key.stamp) held ≡ true
drained-by key [] below = refl
drained-by key (h ∷ hs) below =
    and_from (is_drained_by key.stamp h) (list_all (is_drained_by key.stamp) hs) (one h.drained (All-head (λ h. IfSome h.drained (λ k. KeyBelow k key)) h hs below))
    (drained-by key hs (All-tail (λ h. IfSome h.drained (λ k. KeyBelow k key)) h hs below))
  where
    one : (drained : Option Key) → IfSome drained (λ k. KeyBelow k key) → option_map_or (λ k. nat_le k.stamp key.stamp) drained true ≡ true
    one None below = refl
    one (Some k) below =
        elim (or_cases (nat_lt k.stamp key.stamp) ((k.stamp == key.stamp) && (nat_lt k.hart key.hart || ((k.hart == key.hart) && nat_lt k.seq key.seq))) below) [
          | inl earlier ↦ (let lower : k.stamp < key.stamp = ltb-true k.stamp key.stamp earlier in le-leb k.stamp key.stamp (omega arith))
          | inr same ↦ (let equal : k.stamp ≡ key.stamp = eqb-true k.stamp key.stamp (and_parts (k.stamp == key.stamp) (nat_lt k.hart key.hart || ((k.hart == key.hart) && nat_lt k.seq key.seq)) same).0 in
              le-leb k.stamp key.stamp (omega arith))
        ]

by-later : (low high : ℕ) (hs : List Held) → low ≤ high → list_all (is_drained_by low) hs ≡ true → list_all (is_drained_by high) hs ≡ true
by-later low high [] up all = refl
by-later low high (h ∷ hs) up all =
    let parts = and_parts (is_drained_by low h) (list_all (is_drained_by low) hs) all in
    and_from (is_drained_by high h) (list_all (is_drained_by high) hs) (one h.drained parts.0) (by-later low high hs up parts.1)
  where
    one : (drained : Option Key) → option_map_or (λ (k : Key). nat_le k.stamp low) drained true ≡ true → option_map_or (λ (k : Key). nat_le k.stamp high) drained true ≡ true
    one None by_low = refl
    one (Some k) by_low = (let lower : k.stamp ≤ low = leb-true k.stamp low by_low in le-leb k.stamp high (omega arith))

-- a test that lets what waits pass
waits-pass : (f : Key → Bool) (o : Option Key) → is_none o ≡ true → option_map_or f o true ≡ true
waits-pass f None none = refl
waits-pass f (Some k) none = absurd (cc none)

blind-undrained : (key : Key) (at : ℕ) → at < key.stamp → IsBlind key (is_undrained at)
blind-undrained key at before = record { blind = λ h waits. lt-ltb at key.stamp before ∙ sym (waits-pass (λ k. nat_lt at k.stamp) h.drained waits) }

blind-drained : (key : Key) (at : ℕ) → key.stamp ≤ at → IsBlind key (is_drained_by at)
blind-drained key at by = record { blind = λ h waits. le-leb key.stamp at by ∙ sym (waits-pass (λ k. nat_le k.stamp at) h.drained waits) }

blind-place : (key : Key) → IsBlind key (λ h. is_store_place h.store)
blind-place key = record { blind = λ h waits. refl }

-- once all drains are by a cycle, the undrained stores are those that wait
still-waits : (at : ℕ) (h : Held) → is_drained_by at h ≡ true → is_undrained at h ≡ is_waiting h
still-waits at h by = one h.drained by where
  one : (o : Option Key) → option_map_or (λ (k : Key). nat_le k.stamp at) o true ≡ true → option_map_or (λ (k : Key). nat_lt at k.stamp) o true ≡ is_none o
  one None by = refl
  one (Some k) by = (let lower : k.stamp ≤ at = leb-true k.stamp at by in le-ltb at k.stamp lower)

first-same : (at : ℕ) (hs : List Held) → list_all (is_drained_by at) hs ≡ true → position_or_len (is_undrained at) hs ≡ position_or_len is_waiting hs
first-same at [] all = refl
first-same at (h ∷ hs) all =
    let parts = and_parts (is_drained_by at h) (list_all (is_drained_by at) hs) all in
    ap (λ b. if not b then 1 + position_or_len (is_undrained at) hs else 0) (still-waits at h parts.0) ∙ ap (λ n. if not (is_waiting h) then 1 + n else 0) (first-same at hs parts.1)

splits-same : (line at n : ℕ) (hs : List Held) → list_all (is_drained_by at) hs ≡ true → splits (is_undrained at) n (on_line line hs) ≡ splits is_waiting n (on_line line hs)
splits-same line at n [] all = refl
splits-same line at zero (h ∷ hs) all =
    let parts = and_parts (is_drained_by at h) (list_all (is_drained_by at) hs) all in
    elim (cases_Bool (is_on line h.store)) [
      | inl on ↦ rw on (ap (λ b. b && splits (is_undrained at) zero (on_line line hs)) (still-waits at h parts.0) ∙ ap (λ b. is_waiting h && b) (splits-same line at zero hs parts.1))
      | inr off ↦ rw off (splits-same line at zero hs parts.1)
    ]
splits-same line at (suc n) (h ∷ hs) all =
    let parts = and_parts (is_drained_by at h) (list_all (is_drained_by at) hs) all in
    elim (cases_Bool (is_on line h.store)) [
      | inl on ↦ rw on (ap (λ b. not b && splits (is_undrained at) n (on_line line hs)) (still-waits at h parts.0) ∙ ap (λ b. not (is_waiting h) && b) (splits-same line at n hs parts.1))
      | inr off ↦ rw off (splits-same line at (suc n) hs parts.1)
    ]

-- what waited before the drains of later cycles
find-none : (late : List Late) (at : ℕ) → list_all (λ l. nat_le l.stamp at) late ≡ true → find (λ l. nat_lt at l.stamp) late ≡ None
find-none [] at all = refl
find-none (l ∷ ls) at all =
    let parts = and_parts (nat_le l.stamp at) (list_all (λ l. nat_le l.stamp at) ls) all in
    let low : l.stamp ≤ at = leb-true l.stamp at parts.0 in
    let not_later : nat_lt at l.stamp ≡ false = le-ltb at l.stamp low in
    rw not_later (find-none ls at parts.1)

first-now : (late : List Late) (first at : ℕ) → list_all (λ l. nat_le l.stamp at) late ≡ true → first_at late first at ≡ first
first-now late first at all = ap (λ (o : Option Late). option_map_or (λ l. l.first) o first) (find-none late at all)

first-before : (late : List Late) (l : Late) (first at : ℕ) → at < l.stamp → first_at (late ++ l ∷ []) first at ≡ first_at late l.first at
first-before late l first at before =
    let later : nat_lt at l.stamp ≡ true = lt-ltb at l.stamp before in
    let last : find (λ l. nat_lt at l.stamp) (l ∷ []) ≡ Some l = rw later refl in
    ap (λ (o : Option Late). option_map_or (λ l. l.first) o first) (find-append (λ l. nat_lt at l.stamp) late (l ∷ []) ∙ ap (option_or (find (λ l. nat_lt at l.stamp) late)) last)
    ∙ either (find (λ l. nat_lt at l.stamp) late)
  where
    either : (o : Option Late) → option_map_or (λ (l : Late). l.first) (option_or o (Some l)) first ≡ option_map_or (λ (l : Late). l.first) o l.first
    either None = refl
    either (Some x) = refl

last-low : (late : List Late) (at : ℕ) → list_all (λ l. nat_le l.stamp at) late ≡ true → (i : ℕ) (d : Late) → i < length late → (get_or late i d).stamp ≤ at
last-low [] at all i d within = absurd (omega arith)
last-low (l ∷ ls) at all zero d within = leb-true l.stamp at (and_parts (nat_le l.stamp at) (list_all (λ l. nat_le l.stamp at) ls) all).0
last-low (l ∷ ls) at all (suc i) d within = last-low ls at (and_parts (nat_le l.stamp at) (list_all (λ l. nat_le l.stamp at) ls) all).1 i d (omega arith)

-- what a drain does to the lines
pub record AddsTaken (old new : List Line) (line count : ℕ) : Type 0 where
  pub places : (other : ℕ) → places_in new other ≡ places_in old other
  pub taken : (other : ℕ) → taken_in new other ≡ (if other == line then taken_in old line + count else taken_in old other)

-- what is asked of a drain
pub record CanTake (held : List Held) (key : Key) (line count : ℕ) : Type 0 where
  pub below : list_all (is_drained_by key.stamp) held ≡ true
  pub some : 0 < count
  pub enough : count ≤ length (filter (is_waiting_on line) held)

pub can_take : (held : List Held) (key : Key) (line count : ℕ) → All (λ h. IfSome h.drained (λ k. KeyBelow k key)) held → 0 < count → count ≤ length (filter (is_waiting_on line) held) → CanTake held key line count
can_take held key line count below some enough = record { below = drained-by key held below; some = some; enough = enough }

order_drained : (held : List Held) (ww wr : ℕ) (key : Key) (line count n : ℕ) → CanTake held key line count → IsTrue (splits is_waiting n (on_line line held))
    → ((on : ℕ) → (k : ℕ) × IsTrue (splits is_waiting k (on_line on held)))
    → AreInOrder held ww wr → AreInOrder (marked line key count held) ww wr
order_drained held ww wr key line count n can split waiting order = record {
  placed = blind-all line key (λ h. is_store_place h.store) (blind-place key) count held ∙ order.placed;
  barriers = marked-rises line key (λ h. h.barrier) (λ h. refl) ww count held 0 ∙ order.barriers;
  readers = marked-rises line key (λ h. h.readers) (λ h. refl) wr count held 0 ∙ order.readers;
  drained = λ on at. elim (cases_lt at key.stamp) [
    | inl before ↦ (let was = order.drained on at in (was.0, blind-splits line key (is_undrained at) (blind-undrained key at before) on count held was.0 ∙ was.1))
    | inr by ↦ (let all : list_all (is_drained_by at) (marked line key count held) ≡ true = blind-all line key (is_drained_by at) (blind-drained key at by) count held ∙ by-later key.stamp at held by can.below in
        now on at all)
  ];
}
  where
    now : (on at : ℕ) → list_all (is_drained_by at) (marked line key count held) ≡ true → (k : ℕ) × IsTrue (splits (is_undrained at) k (on_line on (marked line key count held)))
    now on at all =
        elim (cases_eq on line) [
          | inl same ↦ (
            n + count,
            splits-same on at (n + count) (marked line key count held) all
                ∙ ap (λ l. splits is_waiting (n + count) (on_line l (marked line key count held))) same ∙ more-drained line key count held n split can.enough,
          )
          | inr apart ↦ (let was = waiting on in (
            was.0,
            splits-same on at was.0 (marked line key count held) all
                ∙ other-splits line key is_waiting on (ne_eqb on line apart) count held was.0 ∙ was.1,
          ))
        ]

firsts_drained : (held : List Held) (first after : ℕ) (late : List Late) (key : Key) (line count : ℕ) → CanTake held key line count
    → after ≡ position_or_len is_waiting (marked line key count held) → FindsFirst held first late
    → FindsFirst (marked line key count held) after (late ++ record { stamp = key.stamp; first = first } ∷ [])
firsts_drained held first after late key line count can after_is finds =
    let new : Late = record { stamp = key.stamp; first = first } in
    let low : list_all (λ l. nat_le l.stamp key.stamp) late ≡ true = finds.ended key.stamp can.below in
    record {
      now = after_is;
      earlier = λ at. elim (cases_lt at key.stamp) [
        | inl before ↦ first-before late (record { stamp = key.stamp; first = first }) after at before ∙ finds.earlier at ∙ sym (blind-first line key (is_undrained at) (blind-undrained key at before) count held)
        | inr by ↦ (let all : list_all (is_drained_by at) (marked line key count held) ≡ true = blind-all line key (is_drained_by at) (blind-drained key at by) count held ∙ by-later key.stamp at held by can.below in
            let all_late : list_all (λ l. nat_le l.stamp at) (late ++ record { stamp = key.stamp; first = first } ∷ []) ≡ true = over at by in
            first-now (late ++ record { stamp = key.stamp; first = first } ∷ []) after at all_late ∙ after_is ∙ sym (first-same at (marked line key count held) all))
      ];
      rising = IsNonDecreasingBy-push (λ l. l.stamp) late (record { stamp = key.stamp; first = first }) finds.rising (λ d some. last-low late key.stamp low (length late - 1) d (omega arith));
      ended = λ at all. (let by : key.stamp ≤ at = drain-by line key at count held can.some (omega (arith, can.some, can.enough)) all in over at by);
    }
  where
    over : (at : ℕ) → key.stamp ≤ at → list_all (λ l. nat_le l.stamp at) (late ++ record { stamp = key.stamp; first = first } ∷ []) ≡ true
    over at by =
        list_all-append (λ l. nat_le l.stamp at) late (record { stamp = key.stamp; first = first } ∷ [])
        ∙ and_from (list_all (λ l. nat_le l.stamp at) late) (nat_le key.stamp at && true) (finds.ended at (by-later key.stamp at held by can.below)) (and_from (nat_le key.stamp at) true (le-leb key.stamp at by) refl)

lines_drained : (held : List Held) (old new : List Line) (key : Key) (line count : ℕ) → CanTake held key line count → AddsTaken old new line count → FindsLines held old
    → FindsLines (marked line key count held) new
lines_drained held old new key line count can adds finds = record {
  places = λ on. adds.places on ∙ finds.places on ∙ sym (marked-places line key on count held);
  taken = λ on. elim (cases_eq on line) [
    | inl same ↦ (let here : (on == line) ≡ true = eq-eqb on line same in
        let more : taken_in new on ≡ taken_in old line + count = adds.taken on ∙ (rw here refl) in
        ap (λ k. splits is_waiting k (on_line on (marked line key count held))) more
        ∙ ap (λ l. splits is_waiting (taken_in old line + count) (on_line l (marked line key count held))) same ∙ more-drained line key count held (taken_in old line) (finds.taken line) can.enough)
    | inr apart ↦ (let off : (on == line) ≡ false = ne_eqb on line apart in
        let kept : taken_in new on ≡ taken_in old on = adds.taken on ∙ (rw off refl) in
        ap (λ k. splits is_waiting k (on_line on (marked line key count held))) kept
        ∙ other-splits line key is_waiting on off count held (taken_in old on) ∙ finds.taken on)
  ];
}

pub sound_drained : (held : List Held) (ww wr first after : ℕ) (late : List Late) (old new : List Line) (key : Key) (line count : ℕ) → CanTake held key line count
    → AddsTaken old new line count → after ≡ position_or_len is_waiting (marked line key count held) → IsSound held ww wr first late old
    → IsSound (marked line key count held) ww wr after (late ++ record { stamp = key.stamp; first = first } ∷ []) new
sound_drained held ww wr first after late old new key line count can adds after_is sound = record {
  order = order_drained held ww wr key line count (taken_in old line) can (sound.by_line.taken line) (λ on. (taken_in old on, sound.by_line.taken on)) sound.order;
  firsts = firsts_drained held first after late key line count can after_is sound.firsts;
  by_line = lines_drained held old new key line count can adds sound.by_line;
}

-- as the code has them
pub adds_place : (held : List Held) (old roomy slice new : List Line) (line on place : ℕ) → slice ≡ roomy → line ≡ on → place ≡ length held
    → ((other : ℕ) → places_in roomy other ≡ places_in old other) → ((other : ℕ) → taken_in roomy other ≡ taken_in old other)
    → ((other : ℕ) → places_in new other ≡ (if other == line then places_in slice line ++ place ∷ [] else places_in slice other))
    → ((other : ℕ) → taken_in new other ≡ taken_in slice other) → AddsPlace held old new on
adds_place held old roomy slice new line on place slice_is line_is place_is places taken added kept = record {
  places = λ other.
      let changed : List Line → ℕ → ℕ → List ℕ = λ l ln p. if other == ln then places_in l ln ++ p ∷ [] else places_in l other in
      added other ∙ ap (λ l. changed l line place) slice_is ∙ ap (λ ln. changed roomy ln place) line_is ∙ ap (λ p. changed roomy on p) place_is
      ∙ ap (λ (l : List ℕ). if other == on then l ++ length held ∷ [] else places_in roomy other) (places on)
      ∙ ap (λ (l : List ℕ). if other == on then places_in old on ++ length held ∷ [] else l) (places other);
  taken = λ other. kept other ∙ ap (λ l. taken_in l other) slice_is ∙ taken other;
}

pub adds_taken : (old slice new : List Line) (line count : ℕ) → slice ≡ old → ((other : ℕ) → places_in new other ≡ places_in slice other)
    → ((other : ℕ) → taken_in new other ≡ (if other == line then taken_in slice line + count else taken_in slice other)) → AddsTaken old new line count
adds_taken old slice new line count slice_is kept added = record {
  places = λ other. kept other ∙ ap (λ l. places_in l other) slice_is;
  taken = λ other. added other ∙ ap (λ l. if other == line then taken_in l line + count else taken_in l other) slice_is;
}

pub marks : (held : List Held) (lines : List Line) (key : Key) (line count : ℕ) → FindsLines held lines
    → drained_at (Some key) (take count (drop (taken_in lines line) (places_in lines line))) held ≡ marked line key count held
marks held lines key line count finds =
    ap (λ (l : List ℕ). drained_at (Some key) (take count (drop (taken_in lines line) l)) held) (finds.places line) ∙ takes_marked line key (taken_in lines line) count held (finds.taken line)

-- how many wait on a line
pub waiting-length : (held : List Held) (lines : List Line) (line : ℕ) → FindsLines held lines
    → length (drop (taken_in lines line) (places_in lines line)) ≡ length (filter (is_waiting_on line) held)
waiting-length held lines line finds = at-length held (filter (is_waiting_on line) held) (drop (taken_in lines line) (places_in lines line)) (finds-waiting held lines finds line)

pub more-within : (held : List Held) (lines : List Line) (line count : ℕ) → FindsLines held lines → 0 < count → count ≤ length (filter (is_waiting_on line) held)
    → taken_in lines line + count ≤ length (places_in lines line)
more-within held lines line count finds some enough =
    omega (arith, waiting-length held lines line finds, length-drop (taken_in lines line) (places_in lines line))

-- as the code takes them
pub marked_by : (held slice new : List Held) (lines some : List Line) (waiting : List ℕ) (key : Key) (line count n : ℕ) → FindsLines held lines → slice ≡ held → some ≡ lines
    → waiting ≡ drop (taken_in some line) (places_in some line) → n ≡ count → new ≡ drained_at (Some key) (take n waiting) slice → new ≡ marked line key count held
marked_by held slice new lines some waiting key line count n finds slice_is lines_is waiting_is n_is new_is =
    new_is ∙ ap (λ (l : List Held). drained_at (Some key) (take n waiting) l) slice_is
    ∙ ap (λ k. drained_at (Some key) (take k waiting) held) n_is
    ∙ ap (λ l. drained_at (Some key) (take count l) held) (waiting_is ∙ ap (λ (lines : List Line). drop (taken_in lines line) (places_in lines line)) lines_is)
    ∙ marks held lines key line count finds

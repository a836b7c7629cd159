use Rattle.std.proofs.Common.{◌≡◌, ℕ, zero, suc, ◌+◌, ◌-◌, ◌<◌, ◌≤◌, ◌^◌, ◌==◌, ◌&&◌, true, false, if◌then◌else◌, List, [], ◌∷◌, ◌++◌, length, take, drop, get_or, nat_le, IsTrue, refl, sym, ap, ◌∙◌, subst, inl, inr, arith}
use Rattle.std.specs.List.{list_all}
use Rattle.std.specs.VecDeque.{deque_len}
use Rattle.std.proofs.lemmas.Bool.{cases_Bool, cases_lt, and_parts, and_from, cond-true, cond-false, leb-true, le-leb, false≢true}
use Rattle.std.proofs.lemmas.List.{take-append-drop, drop-append-le, drop-drop, length-append, length-drop, length-take-le, get_or-take, get_or-drop, get_or_default, get_or_past}
use Rattle.dt_record.specs.Actions.{Held, is_waiting}
use Rattle.dt_stores.specs.declared.buffer.Mark.{Mark}
use Rattle.dt_stores.specs.declared.lines.Line.{Line}
use Rattle.dt_stores.specs.declared.steps.Step.{Step}
use Rattle.dt_stores.specs.declared.steps.Step.TheVariants.{Commit, Drain}
use Rattle.dt_stores.specs.declared.steps.Steps.{Steps}
use Rattle.dt_stores.specs.Indexed.{on_line, splits, rises}
use Rattle.dt_stores.specs.Kept.{Kept}
use Rattle.dt_stores.specs.Lines.{taken_in, FindPlaces}
use Rattle.dt_stores.specs.Marks.{IsLive, KeepsMarks, MarksStayLive, are_fenced, held_at, undone, forgotten}
use Rattle.dt_stores.specs.Past.{Buffer, before_step, before_steps, past_of, kept_of, taken_before}
use Rattle.dt_stores.specs.Sound.{AreInOrder, FindsFirst, IsSound, WasSound, WereSound, HasPast}

-- Steps, and what they lead back to.

-- ---- the past, by places

pub before_steps-append : (b : Buffer) (ss ts : List Step) → before_steps b (ss ++ ts) ≡ before_steps (before_steps b ts) ss
before_steps-append b [] ts = refl
before_steps-append b (s ∷ ss) ts = ap (λ c. before_step c s) (before_steps-append b ss ts)

pub length-past_of : (b : Buffer) (steps : List Step) → length (past_of b steps) ≡ length steps
length-past_of b [] = refl
length-past_of b (s ∷ ss) = ap suc (length-past_of b ss)

-- what stood at a place of the past, or stands behind it
pub past_of-at : (b : Buffer) (steps : List Step) (n : ℕ) → get_or (past_of b steps) n b.held ≡ (before_steps b (drop n steps)).held
past_of-at b [] zero = refl
past_of-at b [] (suc n) = refl
past_of-at b (s ∷ ss) zero = refl
past_of-at b (s ∷ ss) (suc n) = past_of-at b ss n

pub past_of-drop : (b : Buffer) (steps : List Step) (n : ℕ) → past_of b (drop n steps) ≡ drop n (past_of b steps)
past_of-drop b [] zero = refl
past_of-drop b [] (suc n) = refl
past_of-drop b (s ∷ ss) zero = refl
past_of-drop b (s ∷ ss) (suc n) = past_of-drop b ss n

pub past_of-take : (b : Buffer) (steps : List Step) (n : ℕ) → past_of (before_steps b (drop n steps)) (take n steps) ≡ take n (past_of b steps)
past_of-take b [] zero = refl
past_of-take b [] (suc n) = refl
past_of-take b (s ∷ ss) zero = refl
past_of-take b (s ∷ ss) (suc n) =
    let back : before_steps (before_steps b (drop n ss)) (take n ss) ≡ before_steps b ss =
    sym (before_steps-append b (take n ss) (drop n ss)) ∙ ap (before_steps b) (take-append-drop n ss) in
    ap (λ c. (before_step c s).held ∷ past_of (before_steps b (drop n ss)) (take n ss)) back
    ∙ ap (λ past. (before_steps b (s ∷ ss)).held ∷ past) (past_of-take b ss n)

-- how many were drained
pub taken_before-same : (f g : ℕ → ℕ) (steps : List Step) → ((line : ℕ) → f line ≡ g line) → (line : ℕ) → taken_before f steps line ≡ taken_before g steps line
taken_before-same f g [] same line = same line
taken_before-same f g (Commit ∷ ss) same line = taken_before-same f g ss same line
taken_before-same f g (Drain on first count ∷ ss) same line =
    ap (λ n. if line == on then n - count else taken_before f ss line) (taken_before-same f g ss same on)
    ∙ ap (λ n. if line == on then taken_before g ss on - count else n) (taken_before-same f g ss same line)

pub taken_before-append : (f : ℕ → ℕ) (ss ts : List Step) (line : ℕ) → taken_before f (ss ++ ts) line ≡ taken_before (taken_before f ts) ss line
taken_before-append f [] ts line = refl
taken_before-append f (Commit ∷ ss) ts line = taken_before-append f ss ts line
taken_before-append f (Drain on first count ∷ ss) ts line =
    ap (λ n. if line == on then n - count else taken_before f (ss ++ ts) line) (taken_before-append f ss ts on)
    ∙ ap (λ n. if line == on then taken_before (taken_before f ts) ss on - count else n) (taken_before-append f ss ts line)

-- ---- fences

rises-below : (f : Held → ℕ) (low high : ℕ) (hs : List Held) → IsTrue (rises f low high hs) → low ≤ high
rises-below f low high [] rise = leb-true low high rise
rises-below f low high (h ∷ hs) rise =
    let parts = and_parts (nat_le low (f h)) (rises f (f h) high hs) rise in
    omega (arith, leb-true low (f h) parts.0, rises-below f (f h) high hs parts.1)

pub fenced : (ww wr low_ww low_wr : ℕ) (hs : List Held) → IsTrue (rises (λ h. h.barrier) low_ww ww hs) → IsTrue (rises (λ h. h.readers) low_wr wr hs)
    → IsTrue (are_fenced ww wr hs)
fenced ww wr low_ww low_wr [] barriers readers = refl
fenced ww wr low_ww low_wr (h ∷ hs) barriers readers =
    let ws = and_parts (nat_le low_ww h.barrier) (rises (λ h. h.barrier) h.barrier ww hs) barriers in
    let rs = and_parts (nat_le low_wr h.readers) (rises (λ h. h.readers) h.readers wr hs) readers in
    and_from (nat_le h.barrier ww && nat_le h.readers wr) (are_fenced ww wr hs)
    (and_from (nat_le h.barrier ww) (nat_le h.readers wr) (le-leb h.barrier ww (rises-below (λ h. h.barrier) h.barrier ww hs ws.1)) (le-leb h.readers wr (rises-below (λ h. h.readers) h.readers wr hs rs.1)))
    (fenced ww wr h.barrier h.readers hs ws.1 rs.1)

rises-to : (f : Held → ℕ) (low high most : ℕ) (hs : List Held) → low ≤ most → IsTrue (rises f low high hs) → IsTrue (list_all (λ h. nat_le (f h) most) hs) → IsTrue (rises f low most hs)
rises-to f low high most [] below rise all = le-leb low most below
rises-to f low high most (h ∷ hs) below rise all =
    let parts = and_parts (nat_le low (f h)) (rises f (f h) high hs) rise in
    let each = and_parts (nat_le (f h) most) (list_all (λ h. nat_le (f h) most) hs) all in
    and_from (nat_le low (f h)) (rises f (f h) most hs) parts.0 (rises-to f (f h) high most hs (leb-true (f h) most each.0) parts.1 each.1)

barriers_of : (ww wr : ℕ) (hs : List Held) → IsTrue (are_fenced ww wr hs) → IsTrue (list_all (λ h. nat_le h.barrier ww) hs)
barriers_of ww wr [] all = refl
barriers_of ww wr (h ∷ hs) all =
    let parts = and_parts (nat_le h.barrier ww && nat_le h.readers wr) (are_fenced ww wr hs) all in
    and_from (nat_le h.barrier ww) (list_all (λ h. nat_le h.barrier ww) hs) (and_parts (nat_le h.barrier ww) (nat_le h.readers wr) parts.0).0 (barriers_of ww wr hs parts.1)

readers_of : (ww wr : ℕ) (hs : List Held) → IsTrue (are_fenced ww wr hs) → IsTrue (list_all (λ h. nat_le h.readers wr) hs)
readers_of ww wr [] all = refl
readers_of ww wr (h ∷ hs) all =
    let parts = and_parts (nat_le h.barrier ww && nat_le h.readers wr) (are_fenced ww wr hs) all in
    and_from (nat_le h.readers wr) (list_all (λ h. nat_le h.readers wr) hs) (and_parts (nat_le h.barrier ww) (nat_le h.readers wr) parts.0).1 (readers_of ww wr hs parts.1)

AreInOrder-fenced : (held : List Held) (ww wr more_ww more_wr : ℕ) → IsTrue (are_fenced ww wr held) → AreInOrder held more_ww more_wr → AreInOrder held ww wr
AreInOrder-fenced held ww wr more_ww more_wr all order = record {
  placed = order.placed;
  barriers = rises-to (λ h. h.barrier) 0 more_ww ww held (omega arith) order.barriers (barriers_of ww wr held all);
  readers = rises-to (λ h. h.readers) 0 more_wr wr held (omega arith) order.readers (readers_of ww wr held all);
  drained = order.drained;
}

-- ---- one step more

-- what a step is kept as, where steps are
pub record IsStepped (before after : Steps) (s : Step) : Type 0 where
  pub keeps : after.keeps ≡ before.keeps
  pub from : after.from ≡ before.from
  pub kept : after.kept.items ≡ (if before.keeps then before.kept.items ++ s ∷ [] else before.kept.items)
  pub counted : after.from + deque_len after.kept < 2 ^ 64

pub record SameSteps (before after : Steps) : Type 0 where
  pub keeps : after.keeps ≡ before.keeps
  pub from : after.from ≡ before.from
  pub kept : after.kept.items ≡ before.kept.items
  pub len : deque_len after.kept ≡ deque_len before.kept

pub stepped : (before room after : Steps) (s : Step) → SameSteps before room → room.from + (deque_len room.kept + 1) < 2 ^ 64 → after.keeps ≡ room.keeps → after.from ≡ room.from
    → after.kept.items ≡ (if room.keeps then room.kept.items ++ s ∷ [] else room.kept.items) → deque_len after.kept ≤ deque_len room.kept + 1 → IsStepped before after s
stepped before room after s same spare keeps from kept len = record {
  keeps = keeps ∙ same.keeps;
  from = from ∙ same.from;
  kept = kept ∙ ap (λ b. if b then room.kept.items ++ s ∷ [] else room.kept.items) same.keeps ∙ ap (λ l. if before.keeps then l ++ s ∷ [] else l) same.kept;
  counted = omega (arith, spare, from, len);
}

pub kept_of-same : (b c : Buffer) (ww wr : ℕ) (before after : Steps) → c ≡ b → SameSteps before after → kept_of c ww wr after ≡ kept_of b ww wr before
kept_of-same b c ww wr before after is same =
    let past = ap (past_of b) same.kept in
    let keeps = same.keeps in
    let from = same.from in
    ap (λ x. kept_of x ww wr after) is ∙ cc

WasSound-same : (b c : Buffer) (ww wr : ℕ) (f g : ℕ → ℕ) → b ≡ c → ((line : ℕ) → f line ≡ g line) → WasSound b ww wr f → WasSound c ww wr g
WasSound-same b c ww wr f g is same sound = record {
  order = subst (λ (x : Buffer). AreInOrder x.held ww wr) is sound.order;
  firsts = subst (λ (x : Buffer). FindsFirst x.held x.first x.late) is sound.firsts;
  taken = λ line. subst (λ (x : Buffer). IsTrue (splits is_waiting (g line) (on_line line x.held))) is (subst (λ n. IsTrue (splits is_waiting n (on_line line b.held))) (same line) (sound.taken line));
}

pub was_sound : (b : Buffer) (ww wr : ℕ) (lines : List Line) → IsSound b.held ww wr b.first b.late lines → WasSound b ww wr (taken_in lines)
was_sound b ww wr lines sound = record { order = sound.order; firsts = sound.firsts; taken = sound.by_line.taken }

-- at each place, and behind the last
sound_at : (b : Buffer) (ww wr : ℕ) (lines : List Line) (steps : List Step) (n : ℕ) → n ≤ length steps → IsSound b.held ww wr b.first b.late lines
    → WereSound b (taken_in lines) steps → (some_ww : ℕ) × (some_wr : ℕ) × WasSound (before_steps b (drop n steps)) some_ww some_wr (taken_before (taken_in lines) (drop n steps))
sound_at b ww wr lines steps n within now past = elim (cases_lt n (length steps)) [
  | inl before ↦ past n before
  | inr behind ↦ (let none : drop n steps ≡ [] = all_dropped n steps behind in
      (ww, wr, subst (λ ss. WasSound (before_steps b ss) ww wr (taken_before (taken_in lines) ss)) (sym none) (was_sound b ww wr lines now)))
]
  where
    all_dropped : (n : ℕ) (ss : List Step) → length ss ≤ n → drop n ss ≡ []
    all_dropped zero [] over = refl
    all_dropped (suc n) [] over = refl
    all_dropped zero (s ∷ ss) over = absurd (omega arith)
    all_dropped (suc n) (s ∷ ss) over = all_dropped n ss (omega arith)

-- a step behind others that leads back
were_sound-push : (old new : Buffer) (ww wr : ℕ) (lines more : List Line) (steps : List Step) (s : Step) → IsSound old.held ww wr old.first old.late lines
    → WereSound old (taken_in lines) steps → before_step new s ≡ old → ((line : ℕ) → taken_before (taken_in more) (s ∷ []) line ≡ taken_in lines line)
    → WereSound new (taken_in more) (steps ++ s ∷ [])
were_sound-push old new ww wr lines more steps s now past back taken = λ n within.
    let inside : n ≤ length steps = omega (arith, length-append steps (s ∷ [])) in
    let was = sound_at old ww wr lines steps n inside now past in
    let parts : drop n steps ++ s ∷ [] ≡ drop n (steps ++ s ∷ []) = sym (drop-append-le n steps (s ∷ []) inside) in
    let same : before_steps old (drop n steps) ≡ before_steps new (drop n steps ++ s ∷ []) =
    ap (λ c. before_steps c (drop n steps)) (sym back) ∙ sym (before_steps-append new (drop n steps) (s ∷ [])) in
    let numbers : (line : ℕ) → taken_before (taken_in lines) (drop n steps) line ≡ taken_before (taken_in more) (drop n steps ++ s ∷ []) line =
    λ line. taken_before-same (taken_in lines) (taken_before (taken_in more) (s ∷ [])) (drop n steps) (λ l. sym (taken l)) line ∙ sym (taken_before-append (taken_in more) (drop n steps) (s ∷ []) line) in (
      was.0,
      was.1,
      subst (λ ss. WasSound (before_steps new ss) was.0 was.1 (taken_before (taken_in more) ss)) parts
          (WasSound-same (before_steps old (drop n steps)) (before_steps new (drop n steps ++ s ∷ [])) was.0 was.1 _ _ same numbers was.2),
    )

none_before : (b : Buffer) (taken : ℕ → ℕ) (steps : List Step) → steps ≡ [] → WereSound b taken steps
none_before b taken steps none = λ n within. absurd (omega (arith, ap length none))

pub HasPast-stepped : (old new : Buffer) (ww wr : ℕ) (lines more : List Line) (before after : Steps) (s : Step) → HasPast old ww wr lines before
    → IsStepped before after s → IsSound new.held ww wr new.first new.late more → before_step new s ≡ old
    → ((line : ℕ) → taken_before (taken_in more) (s ∷ []) line ≡ taken_in lines line) → HasPast new ww wr more after
HasPast-stepped old new ww wr lines more before after s has is now back taken = record {
  now = now;
  past = elim (cases_Bool before.keeps) [
    | inl on ↦ subst (WereSound new (taken_in more)) (sym (is.kept ∙ cond-true before.keeps (before.kept.items ++ s ∷ []) before.kept.items on))
        (were_sound-push old new ww wr lines more before.kept.items s has.now has.past back taken)
    | inr off ↦ none_before new (taken_in more) after.kept.items (is.kept ∙ cond-false before.keeps (before.kept.items ++ s ∷ []) before.kept.items off ∙ has.idle off)
  ];
  idle = λ off. (let was : before.keeps ≡ false = sym is.keeps ∙ off in is.kept ∙ cond-false before.keeps (before.kept.items ++ s ∷ []) before.kept.items was ∙ has.idle was);
  counted = is.counted;
}

-- the same stores, found the same way, and the same steps
pub HasPast-same : (b c : Buffer) (ww wr more_ww more_wr : ℕ) (lines more : List Line) (before after : Steps) → b ≡ c → ((line : ℕ) → taken_in more line ≡ taken_in lines line)
    → SameSteps before after → IsSound c.held more_ww more_wr c.first c.late more → HasPast b ww wr lines before → HasPast c more_ww more_wr more after
HasPast-same b c ww wr more_ww more_wr lines more before after is taken same now has = record {
  now = now;
  past = subst (WereSound c (taken_in more)) (sym same.kept) (λ n within. let was = has.past n within in (
    was.0,
    was.1,
    WasSound-same (before_steps b (drop n before.kept.items)) (before_steps c (drop n before.kept.items)) was.0 was.1 _ _ (ap (λ x. before_steps x (drop n before.kept.items)) is)
        (λ line. taken_before-same (taken_in lines) (taken_in more) (drop n before.kept.items) (λ l. sym (taken l)) line) was.2,
  ));
  idle = λ off. same.kept ∙ has.idle (sym same.keeps ∙ off);
  counted = omega (arith, has.counted, same.from, same.len);
}

-- ---- marks

length-stepped : (old new : Buffer) (before after : Steps) (s : Step) → IsStepped before after s → before.keeps ≡ true
    → length (past_of old before.kept.items) ≤ length (past_of new after.kept.items)
length-stepped old new before after s is on =
    let items : after.kept.items ≡ before.kept.items ++ s ∷ [] = is.kept ∙ cond-true before.keeps (before.kept.items ++ s ∷ []) before.kept.items on in
    omega (arith, length-past_of old before.kept.items, length-past_of new after.kept.items, ap length items, length-append before.kept.items (s ∷ []))

held-stepped : (old new : Buffer) (ww wr : ℕ) (before after : Steps) (s : Step) → IsStepped before after s → before_step new s ≡ old
    → (m : Mark) → IsLive (kept_of old ww wr before) m → held_at (kept_of new ww wr after) m ≡ held_at (kept_of old ww wr before) m
held-stepped old new ww wr before after s is back m live =
    let items : after.kept.items ≡ before.kept.items ++ s ∷ [] = is.kept ∙ cond-true before.keeps (before.kept.items ++ s ∷ []) before.kept.items live.keeps in
    let here : m.at - after.from ≡ m.at - before.from = omega (arith, is.from) in
    let within : m.at - before.from ≤ length before.kept.items = omega (arith, live.reached, live.kept, length-past_of old before.kept.items) in
    ap (λ n. get_or (past_of new after.kept.items) n new.held) here
    ∙ ap (λ steps. get_or (past_of new steps) (m.at - before.from) new.held) items
    ∙ past_of-at new (before.kept.items ++ s ∷ []) (m.at - before.from)
    ∙ ap (λ ss. (before_steps new ss).held) (drop-append-le (m.at - before.from) before.kept.items (s ∷ []) within)
    ∙ ap (λ (c : Buffer). c.held) (before_steps-append new (drop (m.at - before.from) before.kept.items) (s ∷ []) ∙ ap (λ c. before_steps c (drop (m.at - before.from) before.kept.items)) back)
    ∙ sym (past_of-at old before.kept.items (m.at - before.from))

pub KeepsMarks-stepped : (old new : Buffer) (ww wr : ℕ) (before after : Steps) (s : Step) → IsStepped before after s → before_step new s ≡ old
    → KeepsMarks (kept_of old ww wr before) (kept_of new ww wr after)
KeepsMarks-stepped old new ww wr before after s is back = record {
  keeps = is.keeps;
  from = is.from;
  live = λ m live. record {
    keeps = is.keeps ∙ live.keeps;
    kept = omega (arith, is.from, live.kept);
    reached = omega (arith, is.from, live.reached, length-stepped old new before after s is live.keeps);
    fences = subst (λ hs. IsTrue (are_fenced m.ww m.wr hs)) (sym (held-stepped old new ww wr before after s is back m live)) live.fences;
  };
  held = λ m live. held-stepped old new ww wr before after s is back m live;
}

-- the same stores and the same past
pub KeepsMarks-same : (old new : Kept) → new.keeps ≡ old.keeps → new.from ≡ old.from → new.past ≡ old.past → new.held ≡ old.held → KeepsMarks old new
KeepsMarks-same old new keeps from past held = record {
  keeps = keeps;
  from = from;
  live = λ m live. record {
    keeps = keeps ∙ live.keeps;
    kept = omega (arith, from, live.kept);
    reached = omega (arith, from, live.reached, ap length past);
    fences = subst (λ hs. IsTrue (are_fenced m.ww m.wr hs)) (sym (same m)) live.fences;
  };
  held = λ m live. same m;
}
  where
    same : (m : Mark) → held_at new m ≡ held_at old m
    same m = ap (λ n. get_or new.past (m.at - n) new.held) from ∙ ap (λ l. get_or l (m.at - old.from) new.held) past ∙ ap (λ hs. get_or old.past (m.at - old.from) hs) held

held-undone : (k : Kept) (to m : Mark) → IsLive k to → IsLive k m → m.at ≤ to.at → held_at (undone k to) m ≡ held_at k m
held-undone k to m live other earlier =
    let long : length (take (to.at - k.from) k.past) ≡ to.at - k.from = length-take-le (to.at - k.from) k.past (omega (arith, live.kept, live.reached)) in
    elim (cases_lt m.at to.at) [
      | inl before ↦ get_or-take (to.at - k.from) k.past (m.at - k.from) (held_at k to) (omega (arith, other.kept))
          ∙ get_or_default k.past (m.at - k.from) (held_at k to) k.held (omega (arith, live.reached, live.kept, other.kept))
      | inr from ↦
          let same : to.at ≡ m.at = omega arith in
          get_or_past (take (to.at - k.from) k.past) (m.at - k.from) (held_at k to) (omega (arith, long))
          ∙ ap (λ n. get_or k.past (n - k.from) k.held) same
    ]

undone_to : (k : Kept) (to m : Mark) → IsLive k to → IsLive k m → m.at ≤ to.at → IsLive (undone k to) m × (held_at (undone k to) m ≡ held_at k m)
undone_to k to m live other earlier =
    let long : length (take (to.at - k.from) k.past) ≡ to.at - k.from = length-take-le (to.at - k.from) k.past (omega (arith, live.kept, live.reached)) in
    let same = held-undone k to m live other earlier in (
      record { keeps = live.keeps; kept = other.kept; reached = omega (arith, long, live.kept); fences = subst (λ hs. IsTrue (are_fenced m.ww m.wr hs)) (sym same) other.fences },
      same,
    )

forgotten_before : (k : Kept) (to m : Mark) → IsLive k to → IsLive k m → to.at ≤ m.at → IsLive (forgotten k to) m × (held_at (forgotten k to) m ≡ held_at k m)
forgotten_before k to m live other later =
    let place : to.at - k.from + (m.at - to.at) ≡ m.at - k.from = omega (arith, live.kept) in
    let same : held_at (forgotten k to) m ≡ held_at k m = get_or-drop (to.at - k.from) k.past (m.at - to.at) k.held ∙ ap (λ n. get_or k.past n k.held) place in (
      record {
        keeps = live.keeps;
        kept = later;
        reached = omega (arith, length-drop (to.at - k.from) k.past, other.reached, live.reached, live.kept);
        fences = subst (λ hs. IsTrue (are_fenced m.ww m.wr hs)) (sym same) other.fences;
      },
      same,
    )

pub marks_stay : MarksStayLive
marks_stay = record { undone_to = undone_to; forgotten_before = forgotten_before }

-- what a mark stands for at its own place
pub held_now : (b : Buffer) (ww wr : ℕ) (steps : Steps) (count : ℕ) → count ≡ length steps.kept.items → get_or (past_of b steps.kept.items) (steps.from + count - steps.from) b.held ≡ b.held
held_now b ww wr steps count all =
    let place : steps.from + count - steps.from ≡ count = omega arith in
    ap (λ n. get_or (past_of b steps.kept.items) n b.held) place ∙ get_or_past (past_of b steps.kept.items) count b.held (omega (arith, length-past_of b steps.kept.items))

-- ---- after what came behind a mark is undone

-- the steps before a mark
abbrev pub count_to : Steps → Mark → ℕ
count_to steps m = m.at - steps.from

pub within_steps : (b : Buffer) (ww wr : ℕ) (steps : Steps) (m : Mark) → IsLive (kept_of b ww wr steps) m → count_to steps m ≤ length steps.kept.items
within_steps b ww wr steps m live = omega (arith, live.reached, length-past_of b steps.kept.items)

pub HasPast-undone : (b c : Buffer) (ww wr : ℕ) (lines more : List Line) (before after : Steps) (m : Mark) → HasPast b ww wr lines before → IsLive (kept_of b ww wr before) m
    → c ≡ before_steps b (drop (count_to before m) before.kept.items) → FindPlaces more c.held
    → ((line : ℕ) → taken_in more line ≡ taken_before (taken_in lines) (drop (count_to before m) before.kept.items) line)
    → after.keeps ≡ before.keeps → after.from ≡ before.from → after.kept.items ≡ take (count_to before m) before.kept.items → deque_len after.kept ≤ deque_len before.kept
    → HasPast c m.ww m.wr more after
HasPast-undone b c ww wr lines more before after m has live is places taken keeps from kept len =
    let steps = before.kept.items in
    let count = count_to before m in
    let within = within_steps b ww wr before m live in
    let was = sound_at b ww wr lines steps count within has.now has.past in
    let here : WasSound c was.0 was.1 (taken_in more) = WasSound-same (before_steps b (drop count steps)) c was.0 was.1 _ _ (sym is) (λ line. sym (taken line)) was.2 in
    let stood : held_at (kept_of b ww wr before) m ≡ c.held = past_of-at b steps count ∙ ap (λ (x : Buffer). x.held) (sym is) in
    let all : IsTrue (are_fenced m.ww m.wr c.held) = subst (λ hs. IsTrue (are_fenced m.ww m.wr hs)) stood live.fences in
    record {
      now = record {
        order = AreInOrder-fenced c.held m.ww m.wr was.0 was.1 all here.order;
        firsts = here.firsts;
        by_line = record { places = places; taken = here.taken };
      };
      past = subst (WereSound c (taken_in more)) (sym kept) (λ n inside. earlier n inside within);
      idle = λ off. absurd (false≢true (sym off ∙ keeps ∙ live.keeps));
      counted = omega (arith, has.counted, from, len);
    }
  where
    earlier : (n : ℕ) → n < length (take (count_to before m) before.kept.items) → count_to before m ≤ length before.kept.items
        → (some_ww : ℕ) × (some_wr : ℕ) × WasSound (before_steps c (drop n (take (count_to before m) before.kept.items))) some_ww some_wr (taken_before (taken_in more) (drop n (take (count_to before m) before.kept.items)))
    earlier n inside within =
        let steps = before.kept.items in
        let count = count_to before m in
        let long : length (take count steps) ≡ count = length-take-le count steps within in
        let was = has.past n (omega (arith, long)) in
        let parts : drop n steps ≡ drop n (take count steps) ++ drop count steps =
        ap (drop n) (sym (take-append-drop count steps)) ∙ drop-append-le n (take count steps) (drop count steps) (omega (arith, long)) in
        let same : before_steps b (drop n steps) ≡ before_steps c (drop n (take count steps)) =
        ap (before_steps b) parts ∙ before_steps-append b (drop n (take count steps)) (drop count steps) ∙ ap (λ x. before_steps x (drop n (take count steps))) (sym is) in
        let numbers : (line : ℕ) → taken_before (taken_in lines) (drop n steps) line ≡ taken_before (taken_in more) (drop n (take count steps)) line =
        λ line. ap (λ ss. taken_before (taken_in lines) ss line) parts ∙ taken_before-append (taken_in lines) (drop n (take count steps)) (drop count steps) line
        ∙ taken_before-same (taken_before (taken_in lines) (drop count steps)) (taken_in more) (drop n (take count steps)) (λ l. sym (taken l)) line in
        (was.0, was.1, WasSound-same (before_steps b (drop n steps)) (before_steps c (drop n (take count steps))) was.0 was.1 _ _ same numbers was.2)

pub kept_of-undone : (b c : Buffer) (ww wr : ℕ) (before after : Steps) (m : Mark) → after.keeps ≡ before.keeps → after.from ≡ before.from
    → c ≡ before_steps b (drop (count_to before m) before.kept.items) → after.kept.items ≡ take (count_to before m) before.kept.items
    → kept_of c m.ww m.wr after ≡ undone (kept_of b ww wr before) m
kept_of-undone b c ww wr before after m keeps from is kept =
    let steps = before.kept.items in
    let count = count_to before m in
    let held = ap (λ (x : Buffer). x.held) is ∙ sym (past_of-at b steps count) in
    let past = ap (λ x. past_of x after.kept.items) is ∙ ap (past_of (before_steps b (drop count steps))) kept ∙ past_of-take b steps count in
    cc

-- ---- after what came before a mark is forgotten

pub HasPast-forgotten : (b : Buffer) (ww wr : ℕ) (lines : List Line) (before after : Steps) (m : Mark) → HasPast b ww wr lines before → IsLive (kept_of b ww wr before) m
    → after.keeps ≡ before.keeps → after.from ≡ m.at → after.kept.items ≡ drop (count_to before m) before.kept.items
    → deque_len after.kept + count_to before m ≡ deque_len before.kept → HasPast b ww wr lines after
HasPast-forgotten b ww wr lines before after m has live keeps from kept len = record {
  now = has.now;
  past = subst (WereSound b (taken_in lines)) (sym kept) (λ n inside.
      let count = count_to before m in
      let was = has.past (count + n) (omega (arith, length-drop count before.kept.items)) in
      (was.0, was.1, subst (λ ss. WasSound (before_steps b ss) was.0 was.1 (taken_before (taken_in lines) ss)) (sym (drop-drop n count before.kept.items)) was.2));
  idle = λ off. absurd (false≢true (sym off ∙ keeps ∙ live.keeps));
  counted = omega (arith, has.counted, from, len, live.kept);
}

pub kept_of-forgotten : (b : Buffer) (ww wr : ℕ) (before after : Steps) (m : Mark) → after.keeps ≡ before.keeps → after.from ≡ m.at
    → after.kept.items ≡ drop (count_to before m) before.kept.items → kept_of b ww wr after ≡ forgotten (kept_of b ww wr before) m
kept_of-forgotten b ww wr before after m keeps from kept =
    let past = ap (past_of b) kept ∙ past_of-drop b before.kept.items (count_to before m) in
    cc

-- ---- a copy

pub HasPast-none : (b : Buffer) (ww wr : ℕ) (lines : List Line) (steps : Steps) → steps.from ≡ 0 → deque_len steps.kept ≡ 0 → steps.kept.items ≡ []
    → IsSound b.held ww wr b.first b.late lines → HasPast b ww wr lines steps
HasPast-none b ww wr lines steps from len none now = record {
  now = now;
  past = none_before b (taken_in lines) steps.kept.items none;
  idle = λ off. none;
  counted = omega (arith, from, len);
}

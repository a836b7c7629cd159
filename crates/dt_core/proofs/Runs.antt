use Rattle.std.proofs.Common.{ℕ, ◌≡◌, ◌+◌, ◌-◌, ◌<◌, ◌≤◌, ◌==◌, ◌&&◌, ◌⊎◌, Bool, true, false, cond, Option, Some, None, List, [], ◌∷◌, ◌++◌, length, take, drop, nat_lt, zero, suc, refl, sym, ap, ◌∙◌, subst, inl, inr, arith, IsTrue, eq-eqb, eqb-true}
use Rattle.std.specs.Prelude.{slice_index, slice_set, option_map, ◌%◌}
use Rattle.std.specs.List.{slice_get, list_all}
use Rattle.std.proofs.lemmas.Bool.{and_parts, cases_Bool, cases_lt, cond-true, cond-false}
use Rattle.std.proofs.lemmas.List.{append_assoc, append-nil, take_all, take-append-drop, map-append, length-append, length-set}
use Rattle.std.proofs.lemmas.List.Elements.{filter-append}
use Rattle.std.proofs.lemmas.Bool.Decides.{eqb_tells}
use mathlib.Core.List.{IsPrefix}
use Rattle.dt_lists.proofs.Lists.{filter-kept, filter-dropped, slice_get-append_left, slice_get-past, not_last}
use Rattle.dt_record.specs.declared.keys.Key.{Key}
use Rattle.dt_record.specs.declared.records.Record.{Record}
use Rattle.dt_record.specs.declared.writes.Note.{Note}
use Rattle.dt_record.specs.declared.writes.Note.TheVariants.{Wrote, Mark, End, Cut, Failure}
use Rattle.dt_record.specs.Keys.{key_of, records_of}
use Rattle.dt_record.specs.ProbeFile.{AreRecords, no_stamps, stamped}
use Rattle.dt_record.specs.Writes.{writes_of}
use Rattle.dt_versions.specs.History.{writes_until}
use Rattle.dt_core.specs.declared.entries.Entry.{Entry}
use Rattle.dt_core.specs.declared.steps.CoreStep.{CoreStep}
use Rattle.dt_core.specs.declared.steps.CoreStep.TheVariants.{Feed, Take, Announce, Look, Judge}
use Rattle.dt_core.specs.Judgements.{Meaning, ReadsNoLaterWrites, AreAnswered, failure_by}
use Rattle.dt_core.specs.Machine.{HartState, CoreState, with_hart, queued, feed_next, take_first, take_of, is_mine, news_by, told, has_failed, is_key, last_judged, ends_with, is_true, announce_of, seen_notes, usable, next_record, judged, judge_next, judge_of, step_state, run_steps, new_hart, new_harts, opening_state}
use Rattle.dt_record.specs.Marks.{CanJudge, can_judge}
use Rattle.dt_core.specs.Notes.{notes_appended, entries_by}
use Rattle.dt_core.specs.Runs.{taken_in, queue_in, lists_of, HoldsAfter, EveryRunHolds}
use Rattle.dt_core.specs.Sound.{IsSound, writes_by}
use Rattle.dt_core.proofs.Announced.{writes_after-front}
use Rattle.dt_core.proofs.Chances.{CanJudge-test, usable-until, AreJudged-more, AreJudged-next, failure_from-last}
use Rattle.dt_core.proofs.Places.{slice_get-set_same, slice_get-set_other, slice_get-push, take-next, within_get}
use Rattle.dt_core.proofs.Reaches.{IsKnown, rest_of, IsTold-news}
use Rattle.dt_core.proofs.Telling.{IsTold, IsTold-push, MayFollow}
use Rattle.dt_core.proofs.Watermark.{WritesBelowMark-all, WritesUntilJudged-all}

-- What each step of the core machine keeps.

-- the failure that a note may tell
abbrev Fails : {J : Type 0} → Meaning J → List Record → Key → Type 0
Fails m file key = failure_by m (writes_of file) key.hart (records_of key.hart file) ≡ Some key

abbrev taken_at : {J : Type 0} → CoreState J → ℕ → List Record
taken_at c hart = taken_in (slice_get c.harts hart)

pub record IsKept {J : Type 0} (m : Meaning J) (harts : ℕ) (file : List Record) (c : CoreState J) : Type 0 where
  pub size : length c.harts ≡ harts
  pub same : c.file ≡ file
  pub few : c.fed ≤ length file
  pub ended : IsTrue c.is_ended → c.fed ≡ length file
  pub kept : (hart : ℕ) → taken_in (slice_get c.harts hart) ++ queue_in (slice_get c.harts hart) ≡ records_of hart (take c.fed file)
  pub told : IsTold file (λ hart. taken_in (slice_get c.harts hart)) (Fails m file) (notes_appended c.history)
  pub judged : (hart : ℕ) (s : HartState J) → slice_get c.harts hart ≡ Some s → AreAnswered m (writes_of file) (m.opening hart) s.taken s.outcomes s.state

-- what is kept of one hart
known_of : {J : Type 0} (m : Meaning J) (harts : ℕ) (file : List Record) (c : CoreState J) (hart : ℕ) (s : HartState J)
    → AreRecords harts no_stamps file → IsKept m harts file c → slice_get c.harts hart ≡ Some s
    → IsKnown harts file c.fed c.is_ended hart s.taken s.queue
known_of m harts file c hart s each kept found = record {
  each = each;
  ended = kept.ended;
  kept = ap (λ o. taken_in o ++ queue_in o) (sym found) ∙ kept.kept hart;
}

pub IsKept-sound : {J : Type 0} (m : Meaning J) (harts : ℕ) (file : List Record) (c : CoreState J) → IsKept m harts file c → IsSound file (lists_of c)
IsKept-sound m harts file c kept = record {
  fed = record {
    front = subst (λ (f : List Record). IsPrefix (take c.fed f) file) (sym kept.same) (drop c.fed file, take-append-drop c.fed file);
    whole = λ ended. ap (take c.fed) kept.same ∙ ap (λ n. take n file) (kept.ended ended) ∙ take_all (length file) file (omega arith);
  };
  kept = λ hart. kept.kept hart ∙ ap (λ f. records_of hart (take c.fed f)) (sym kept.same);
  harts = kept.told.harts;
}

-- the records of a hart that were judged are the first of its records in the file
judged_all : {J : Type 0} (m : Meaning J) (harts : ℕ) (file : List Record) (c : CoreState J) (hart : ℕ) (s : HartState J)
    → AreRecords harts no_stamps file → IsKept m harts file c → slice_get c.harts hart ≡ Some s
    → AreAnswered m (writes_of file) (m.opening hart) (records_of hart file) s.outcomes s.state
judged_all m harts file c hart s each kept found =
    let whole = rest_of harts file c.fed c.is_ended hart s.taken s.queue (known_of m harts file c hart s each kept found) in
    subst (λ (rs : List Record). AreAnswered m (writes_of file) (m.opening hart) rs s.outcomes s.state) whole
    (AreJudged-more m (writes_of file) (m.opening hart) s.taken (s.queue ++ records_of hart (drop c.fed file)) s.outcomes s.state (kept.judged hart s found))

pub HoldsAfter-kept : {J : Type 0} (m : Meaning J) (harts : ℕ) (file : List Record) (c : CoreState J)
    → AreRecords harts no_stamps file → IsKept m harts file c → HoldsAfter m harts file c
HoldsAfter-kept m harts file c each kept =
    let sound = IsKept-sound m harts file c kept in record {
      sound = sound;
      exact = λ front begins. WritesBelowMark-all harts file (lists_of c) front each sound begins;
      judged = λ hart s found. judged_all m harts file c hart s each kept found;
      failures = kept.told.failures;
    }

-- more taken records leave what was told as it is
IsTold-taken : (file : List Record) (taken more : ℕ → List Record) (fails : Key → Type 0) (notes : List Note)
    → ((hart : ℕ) → IsPrefix (taken hart) (more hart)) → IsTold file taken fails notes → IsTold file more fails notes
IsTold-taken file taken more fails notes grows told = record {
  harts = λ hart.
      let was = told.harts hart in
      let grown = grows hart in
      let front = writes_after-front (λ (h : ℕ). 0) (taken hart) grown.0 in record {
        wrote = (was.wrote.0 ++ front.0, sym (append_assoc _ was.wrote.0 front.0) ∙ ap (λ ws. ws ++ front.0) was.wrote.1 ∙ front.1 ∙ ap writes_by grown.1);
        marks = was.marks;
        ends = was.ends;
      };
  failures = told.failures;
}

-- another state of one hart, and maybe more fed records
record IsChange {J : Type 0} (m : Meaning J) (file : List Record) (c : CoreState J) (hart fed : ℕ) (s t : HartState J) : Type 0 where
  found : slice_get c.harts hart ≡ Some s
  few : fed ≤ length file
  ended : IsTrue c.is_ended → fed ≡ length file
  grown : IsPrefix s.taken t.taken
  kept : t.taken ++ t.queue ≡ records_of hart (take fed file)
  others : (h : ℕ) → (h ≡ hart → ⊥) → records_of h (take fed file) ≡ records_of h (take c.fed file)
  judged : AreAnswered m (writes_of file) (m.opening hart) t.taken t.outcomes t.state

at_hart : {J : Type 0} (c : CoreState J) (hart h : ℕ) (s t : HartState J) → slice_get c.harts hart ≡ Some s
    → ((h ≡ hart) × (slice_get (slice_set c.harts hart t) h ≡ Some t)) ⊎ ((h ≡ hart → ⊥) × (slice_get (slice_set c.harts hart t) h ≡ slice_get c.harts h))
at_hart c hart h s t found = elim (eqb_tells h hart) [
  | inl same ↦ inl (same.1, ap (slice_get (slice_set c.harts hart t)) same.1 ∙ slice_get-set_same c.harts hart s t found)
  | inr apart ↦ inr (apart.1, slice_get-set_other c.harts hart h t apart.1)
]

IsKept-change : {J : Type 0} (m : Meaning J) (harts : ℕ) (file : List Record) (c : CoreState J) (hart fed : ℕ) (s t : HartState J)
    → IsKept m harts file c → IsChange m file c hart fed s t → IsKept m harts file (record c { fed = fed; harts = slice_set c.harts hart t })
IsKept-change m harts file c hart fed s t kept change = record {
  size = length-set c.harts hart t ∙ kept.size;
  same = kept.same;
  few = change.few;
  ended = change.ended;
  kept = λ h. elim (at_hart c hart h s t change.found) [
    | inl here ↦ ap (λ o. taken_in o ++ queue_in o) here.1 ∙ change.kept ∙ ap (λ k. records_of k (take fed file)) (sym here.0)
    | inr other ↦ ap (λ o. taken_in o ++ queue_in o) other.1 ∙ kept.kept h ∙ sym (change.others h other.0)
  ];
  told = IsTold-taken file (λ h. taken_in (slice_get c.harts h)) (λ h. taken_in (slice_get (slice_set c.harts hart t) h)) (Fails m file) (notes_appended c.history)
      (λ h. elim (at_hart c hart h s t change.found) [
        | inl here ↦
            let was : slice_get c.harts h ≡ Some s = ap (slice_get c.harts) here.0 ∙ change.found in
            let front : taken_in (slice_get c.harts h) ≡ s.taken = ap taken_in was in
            (change.grown.0, ap (λ rs. rs ++ change.grown.0) front ∙ change.grown.1 ∙ ap taken_in (sym here.1))
        | inr other ↦ let none : List Record = [] in (none, append-nil _ ∙ ap taken_in (sym other.1))
      ]) kept.told;
  judged = λ h u at. elim (at_hart c hart h s t change.found) [
    | inl here ↦
        let is : t ≡ u = (let both : Some t ≡ Some u = sym here.1 ∙ at in cc) in
        subst (λ (v : HartState _). AreAnswered m (writes_of file) (m.opening h) v.taken v.outcomes v.state) is
        (subst (λ (k : ℕ). AreAnswered m (writes_of file) (m.opening k) t.taken t.outcomes t.state) (sym here.0) change.judged)
    | inr other ↦ kept.judged h u (sym other.1 ∙ at)
  ];
}

-- the start

new_harts-length : {J : Type 0} (m : Meaning J) (n : ℕ) → length (new_harts m n) ≡ n
new_harts-length m zero = refl
new_harts-length m (suc n) = length-append (new_harts m n) (new_hart (m.opening n) ∷ []) ∙ (let rest = new_harts-length m n in omega arith)

new_harts-at : {J : Type 0} (m : Meaning J) (n hart : ℕ) (s : HartState J) → slice_get (new_harts m n) hart ≡ Some s → s ≡ new_hart (m.opening hart)
new_harts-at m zero hart s found = absurd (let never : ⊥ = cc in never)
new_harts-at m (suc n) hart s found =
    let size = new_harts-length m n in
    let whole = new_harts-length m (suc n) in
    let within = within_get (new_harts m (suc n)) hart s found in
    elim (cases_lt hart n) [
      | inl lower ↦ new_harts-at m n hart s (sym (slice_get-append_left (new_harts m n) (new_hart (m.opening n) ∷ []) hart (omega arith)) ∙ found)
      | inr last ↦
          let place : hart ≡ length (new_harts m n) = omega arith in
          let number : n ≡ hart = omega arith in
          let both : Some s ≡ Some (new_hart (m.opening n)) = sym found ∙ ap (slice_get (new_harts m (suc n))) place ∙ slice_get-push (new_harts m n) (new_hart (m.opening n)) in
          let one : s ≡ new_hart (m.opening n) = cc in
          one ∙ ap (λ k. new_hart (m.opening k)) number
    ]

nothing_yet : {J : Type 0} (state : J) (o : Option (HartState J)) → ((s : HartState J) → o ≡ Some s → s ≡ new_hart state) → taken_in o ++ queue_in o ≡ []
nothing_yet state None fresh = refl
nothing_yet state (Some s) fresh = ap (λ t. taken_in (Some t) ++ queue_in (Some t)) (fresh s refl)

pub IsKept-opening : {J : Type 0} (m : Meaning J) (harts workers : ℕ) (file : List Record) → IsKept m harts file (opening_state m harts workers file)
IsKept-opening m harts workers file = record {
  size = new_harts-length m harts;
  same = refl;
  few = omega arith;
  ended = λ never. absurd (let bad : false ≡ true = never in let contrary : ⊥ = cc in contrary);
  kept = λ hart. nothing_yet (m.opening hart) (slice_get (new_harts m harts) hart) (λ s found. new_harts-at m harts hart s found);
  told = record {
    harts = λ hart. record {
      wrote = (writes_by (taken_in (slice_get (new_harts m harts) hart)), refl);
      marks = λ before after stamp is. absurd (not_last before after (Mark hart stamp) is);
      ends = λ before after is. absurd (not_last before after (End hart) is);
    };
    failures = λ before after key is. absurd (not_last before after (Failure key) is);
  };
  judged = λ hart s found.
      let is = new_harts-at m harts hart s found in
      subst (λ (t : HartState _). AreAnswered m (writes_of file) (m.opening hart) t.taken t.outcomes t.state) (sym is) refl;
}

-- Feed

hart_within : (harts : ℕ) (last : ℕ → ℕ) (records : List Record) (i : ℕ) (r : Record) → AreRecords harts last records → slice_get records i ≡ Some r → r.hart < harts
hart_within harts last [] i r each found = absurd (let never : ⊥ = cc in never)
hart_within harts last (q ∷ qs) zero r each found = let same : q ≡ r = cc in subst (λ (t : Record). t.hart < harts) same each.0.hart
hart_within harts last (q ∷ qs) (suc i) r each found = hart_within harts (stamped last q) qs i r each.1 found

fed_more : (file : List Record) (fed hart : ℕ) (r : Record) → slice_get file fed ≡ Some r
    → records_of hart (take (fed + 1) file) ≡ records_of hart (take fed file) ++ records_of hart (r ∷ [])
fed_more file fed hart r found = ap (records_of hart) (take-next file fed r found) ∙ filter-append (λ (s : Record). s.hart == hart) (take fed file) (r ∷ [])

step_queue : {J : Type 0} (m : Meaning J) (harts : ℕ) (file : List Record) (c : CoreState J) (r : Record) (o : Option (HartState J))
    → AreRecords harts no_stamps file → IsKept m harts file c → slice_get file c.fed ≡ Some r → slice_get c.harts r.hart ≡ o
    → IsKept m harts file (record c { fed = c.fed + 1; harts = queued c.harts r o })
step_queue m harts file c r None each kept found at =
    let within = hart_within harts no_stamps file c.fed r each found in
    let past = slice_get-past c.harts r.hart at in
    let size = kept.size in
    absurd (omega arith)
step_queue m harts file c r (Some s) each kept found at =
    let within = within_get file c.fed r found in
    let own : records_of r.hart (r ∷ []) ≡ r ∷ [] = filter-kept (λ (q : Record). q.hart == r.hart) r [] (eq-eqb r.hart r.hart refl) in
    let was : s.taken ++ s.queue ≡ records_of r.hart (take c.fed file) = ap (λ o. taken_in o ++ queue_in o) (sym at) ∙ kept.kept r.hart in
    let none : List Record = [] in
    let t : HartState _ = record s { queue = s.queue ++ r ∷ [] } in
    IsKept-change m harts file c r.hart (c.fed + 1) s t kept (record {
      found = at;
      few = omega arith;
      ended = λ ended. let all = kept.ended ended in absurd (omega arith);
      grown = (none, append-nil s.taken);
      kept = sym (append_assoc s.taken s.queue (r ∷ [])) ∙ ap (λ rs. rs ++ r ∷ []) was
          ∙ ap (λ rs. records_of r.hart (take c.fed file) ++ rs) (sym own) ∙ sym (fed_more file c.fed r.hart r found);
      others = λ h apart. fed_more file c.fed h r found
          ∙ ap (λ rs. records_of h (take c.fed file) ++ rs) (filter-dropped (λ (q : Record). q.hart == h) r [] (differs r.hart h apart)) ∙ append-nil _;
      judged = kept.judged r.hart s at;
    })
  where
    differs : (a b : ℕ) → (b ≡ a → ⊥) → (a == b) ≡ false
    differs a b apart = elim (eqb_tells a b) [
      | inl same ↦ absurd (apart (sym same.1))
      | inr other ↦ other.0
    ]

step_feed : {J : Type 0} (m : Meaning J) (harts : ℕ) (file : List Record) (c : CoreState J) (o : Option Record)
    → AreRecords harts no_stamps file → IsKept m harts file c → slice_get file c.fed ≡ o → IsKept m harts file (feed_next c o)
step_feed m harts file c None each kept is =
    let past = slice_get-past file c.fed is in
    let few = kept.few in
    record { size = kept.size; same = kept.same; few = kept.few; ended = λ ended. omega arith; kept = kept.kept; told = kept.told; judged = kept.judged }
step_feed m harts file c (Some r) each kept is = step_queue m harts file c r (slice_get c.harts r.hart) each kept is refl

-- Take

step_first : {J : Type 0} (m : Meaning J) (harts : ℕ) (file : List Record) (c : CoreState J) (hart : ℕ) (s : HartState J) (queue : List Record)
    → IsKept m harts file c → slice_get c.harts hart ≡ Some s → s.queue ≡ queue → IsKept m harts file (record c { harts = take_first c.harts hart s queue })
step_first m harts file c hart s [] kept at is = kept
step_first m harts file c hart s (r ∷ rs) kept at is =
    let t : HartState _ = record s { queue = rs; taken = s.taken ++ r ∷ [] } in
    IsKept-change m harts file c hart c.fed s t kept (record {
      found = at;
      few = kept.few;
      ended = kept.ended;
      grown = (r ∷ [], refl);
      kept = append_assoc s.taken (r ∷ []) rs ∙ ap (λ qs. s.taken ++ qs) (sym is) ∙ ap (λ o. taken_in o ++ queue_in o) (sym at) ∙ kept.kept hart;
      others = λ h apart. refl;
      judged = AreJudged-more m (writes_of file) (m.opening hart) s.taken (r ∷ []) s.outcomes s.state (kept.judged hart s at);
    })

step_take : {J : Type 0} (m : Meaning J) (harts : ℕ) (file : List Record) (c : CoreState J) (hart : ℕ) (o : Option (HartState J))
    → IsKept m harts file c → slice_get c.harts hart ≡ o → IsKept m harts file (record c { harts = take_of c.harts hart o })
step_take m harts file c hart None kept is = kept
step_take m harts file c hart (Some s) kept is = step_first m harts file c hart s s.queue kept is refl

-- Announce

notes_appended-entries : (worker : ℕ) (notes : List Note) → notes_appended (entries_by worker notes) ≡ notes
notes_appended-entries worker [] = refl
notes_appended-entries worker (n ∷ ns) = ap (λ ms. n ∷ ms) (notes_appended-entries worker ns)

notes_appended-more : (worker : ℕ) (history : List Entry) (notes : List Note) → notes_appended (history ++ entries_by worker notes) ≡ notes_appended history ++ notes
notes_appended-more worker history notes =
    map-append (λ (e : Entry). e.note) history (entries_by worker notes) ∙ ap (λ ns. notes_appended history ++ ns) (notes_appended-entries worker notes)

told-kept : {J : Type 0} (m : Meaning J) (harts : ℕ) (file : List Record) (c : CoreState J) (workers worker hart : ℕ) (ss : List (HartState J)) (history : List Entry)
    → AreRecords harts no_stamps file → IsKept m harts file c → ((k : ℕ) → slice_get ss k ≡ slice_get c.harts (hart + k))
    → IsTold file (λ h. taken_in (slice_get c.harts h)) (Fails m file) (notes_appended history)
    → IsTold file (λ h. taken_in (slice_get c.harts h)) (Fails m file) (notes_appended (told workers worker c.is_ended hart ss history))
told-kept m harts file c workers worker hart [] history each kept places was = was
told-kept m harts file c workers worker hart (s ∷ ss) history each kept places was =
    let news = news_by c.is_ended hart s (notes_appended history) in
    let here : slice_get c.harts hart ≡ Some s = ap (slice_get c.harts) (let at : hart ≡ hart + 0 = omega arith in at) ∙ sym (places 0) in
    let next : (k : ℕ) → slice_get ss k ≡ slice_get c.harts (suc hart + k) = λ k.
    places (suc k) ∙ ap (slice_get c.harts) (let at : hart + suc k ≡ suc hart + k = omega arith in at) in
    let grown = subst (λ (ns : List Note). IsTold file (λ h. taken_in (slice_get c.harts h)) (Fails m file) ns) (sym (notes_appended-more worker history news))
    (IsTold-news harts file c.fed c.is_ended hart s.taken s.queue (λ h. taken_in (slice_get c.harts h)) (Fails m file) (notes_appended history)
    (known_of m harts file c hart s each kept here) (ap taken_in here) was) in
    told-kept m harts file c workers worker (suc hart) ss (cond (is_mine workers worker hart) (history ++ entries_by worker news) history) each kept next
    (choice (is_mine workers worker hart) (history ++ entries_by worker news) history grown was)
  where
    choice : (b : Bool) (xs ys : List Entry) → IsTold file (λ h. taken_in (slice_get c.harts h)) (Fails m file) (notes_appended xs)
        → IsTold file (λ h. taken_in (slice_get c.harts h)) (Fails m file) (notes_appended ys)
        → IsTold file (λ h. taken_in (slice_get c.harts h)) (Fails m file) (notes_appended (cond b xs ys))
    choice true xs ys first second = first
    choice false xs ys first second = second

same_key : (key k : Key) → is_key key (Some k) ≡ true → k ≡ key
same_key key k is =
    let parts = and_parts (key.stamp == k.stamp) ((key.hart == k.hart) && (key.seq == k.seq)) is in
    let rest = and_parts (key.hart == k.hart) (key.seq == k.seq) parts.1 in
    let stamp = eqb-true key.stamp k.stamp parts.0 in
    let hart = eqb-true key.hart k.hart rest.0 in
    let seq = eqb-true key.seq k.seq rest.1 in
    let by_stamp : ℕ → Key = λ n. record { stamp = n; hart = k.hart; seq = k.seq } in
    let by_hart : ℕ → Key = λ n. record { stamp = key.stamp; hart = n; seq = k.seq } in
    let by_seq : ℕ → Key = λ n. record { stamp = key.stamp; hart = key.hart; seq = n } in
    ap by_stamp (sym stamp) ∙ ap by_hart (sym hart) ∙ ap by_seq (sym seq)

fails_at : {J : Type 0} (m : Meaning J) (harts : ℕ) (file : List Record) (c : CoreState J) (key : Key) (o : Option (HartState J))
    → AreRecords harts no_stamps file → IsKept m harts file c → slice_get c.harts key.hart ≡ o → ends_with key o ≡ true → Fails m file key
fails_at m harts file c key None each kept at is = absurd (let never : ⊥ = cc in never)
fails_at m harts file c key (Some s) each kept at is =
    let parts = and_parts (has_failed s.outcomes) (is_key key (last_judged s)) is in
    found (slice_get s.taken (length s.outcomes - 1)) refl parts.0 parts.1
  where
    found : (o : Option Record) → slice_get s.taken (length s.outcomes - 1) ≡ o → has_failed s.outcomes ≡ true → is_key key (last_judged s) ≡ true → Fails m file key
    found None none failed keyed = absurd (let bad : false ≡ true = ap (λ o. is_key key (option_map (key_of (length s.outcomes - 1)) o)) (sym none) ∙ keyed in let never : ⊥ = cc in never)
    found (Some r) last failed keyed =
        let one = same_key key (key_of (length s.outcomes - 1) r) (ap (λ o. is_key key (option_map (key_of (length s.outcomes - 1)) o)) (sym last) ∙ keyed) in
        let whole = rest_of harts file c.fed c.is_ended key.hart s.taken s.queue (known_of m harts file c key.hart s each kept at) in
        let inside = slice_get-append_left s.taken (s.queue ++ records_of key.hart (drop c.fed file)) (length s.outcomes - 1) (within_get s.taken (length s.outcomes - 1) r last) in
        let place = ap (λ rs. slice_get rs (length s.outcomes - 1)) (sym whole) ∙ inside ∙ last in
        let number : 0 + (length s.outcomes - 1) ≡ length s.outcomes - 1 = omega arith in
        failure_from-last m (writes_of file) 0 (m.opening key.hart) (records_of key.hart file) s.outcomes s.state r (judged_all m harts file c key.hart s each kept at) failed place
        ∙ ap (λ n. Some (key_of n r)) number ∙ ap Some one

may_tell : {J : Type 0} (m : Meaning J) (harts : ℕ) (file : List Record) (c : CoreState J) (worker : ℕ) (notes : List Note) (n : Note)
    → AreRecords harts no_stamps file → IsKept m harts file c → is_true c worker n ≡ true
    → MayFollow file (λ h. taken_in (slice_get c.harts h)) (Fails m file) notes n
may_tell m harts file c worker notes (Wrote w) each kept is = absurd (let never : ⊥ = cc in never)
may_tell m harts file c worker notes (Mark h stamp) each kept is = absurd (let never : ⊥ = cc in never)
may_tell m harts file c worker notes (End h) each kept is = absurd (let never : ⊥ = cc in never)
may_tell m harts file c worker notes (Cut h cut) each kept is = tt
may_tell m harts file c worker notes (Failure key) each kept is =
    let parts = and_parts (is_mine (length c.seen) worker key.hart) (ends_with key (slice_get c.harts key.hart)) is in
    fails_at m harts file c key (slice_get c.harts key.hart) each kept refl parts.1

tell_extra : {J : Type 0} (m : Meaning J) (harts : ℕ) (file : List Record) (c : CoreState J) (worker : ℕ) (notes extra : List Note)
    → AreRecords harts no_stamps file → IsKept m harts file c → list_all (is_true c worker) extra ≡ true
    → IsTold file (λ h. taken_in (slice_get c.harts h)) (Fails m file) notes → IsTold file (λ h. taken_in (slice_get c.harts h)) (Fails m file) (notes ++ extra)
tell_extra m harts file c worker notes [] each kept all was =
    subst (λ (ns : List Note). IsTold file (λ h. taken_in (slice_get c.harts h)) (Fails m file) ns) (sym (append-nil notes)) was
tell_extra m harts file c worker notes (n ∷ ns) each kept all was =
    let parts = and_parts (is_true c worker n) (list_all (is_true c worker) ns) all in
    let next = IsTold-push file (λ h. taken_in (slice_get c.harts h)) (Fails m file) notes n was (may_tell m harts file c worker notes n each kept parts.0) in
    subst (λ (ms : List Note). IsTold file (λ h. taken_in (slice_get c.harts h)) (Fails m file) ms) (append_assoc notes (n ∷ []) ns)
    (tell_extra m harts file c worker (notes ++ n ∷ []) ns each kept parts.1 next)

step_announce : {J : Type 0} (m : Meaning J) (harts : ℕ) (file : List Record) (c : CoreState J) (worker : ℕ) (extra : List Note)
    → AreRecords harts no_stamps file → IsKept m harts file c → IsKept m harts file (announce_of c worker extra)
step_announce m harts file c worker extra each kept = choice (nat_lt worker (length c.seen) && list_all (is_true c worker) extra) refl
  where
    choice : (b : Bool) → (nat_lt worker (length c.seen) && list_all (is_true c worker) extra) ≡ b
        → IsKept m harts file (cond b (record c { history = told (length c.seen) worker c.is_ended 0 c.harts c.history ++ entries_by worker extra }) c)
    choice false is = kept
    choice true is =
        let true_notes = (and_parts (nat_lt worker (length c.seen)) (list_all (is_true c worker) extra) is).1 in
        let history = told (length c.seen) worker c.is_ended 0 c.harts c.history in
        let news = told-kept m harts file c (length c.seen) worker 0 c.harts c.history each kept
        (λ k. ap (slice_get c.harts) (let at : k ≡ 0 + k = omega arith in at)) kept.told in
        let all = tell_extra m harts file c worker (notes_appended history) extra each kept true_notes news in record {
          size = kept.size;
          same = kept.same;
          few = kept.few;
          ended = kept.ended;
          kept = kept.kept;
          told = subst (λ (ns : List Note). IsTold file (λ h. taken_in (slice_get c.harts h)) (Fails m file) ns) (sym (notes_appended-more worker history extra)) all;
          judged = kept.judged;
        }

-- Judge

next_record-is : {J : Type 0} (s : HartState J) (r : Record) → next_record s ≡ Some r → (has_failed s.outcomes ≡ false) × (slice_get s.taken (length s.outcomes) ≡ Some r)
next_record-is s r is = elim (cases_Bool (has_failed s.outcomes)) [
  | inl failed ↦
      let bad : None ≡ Some r = sym (cond-true (has_failed s.outcomes) None (slice_get s.taken (length s.outcomes)) failed) ∙ is in
      absurd (let never : ⊥ = cc in never)
  | inr good ↦ (good, sym (cond-false (has_failed s.outcomes) None (slice_get s.taken (length s.outcomes)) good) ∙ is)
]

step_judged : {J : Type 0} (m : Meaning J) (harts : ℕ) (file : List Record) (c : CoreState J) (hart : ℕ) (s : HartState J) (r : Record)
    → ReadsNoLaterWrites m → AreRecords harts no_stamps file → IsKept m harts file c → slice_get c.harts hart ≡ Some s → next_record s ≡ Some r
    → can_judge (length c.harts) (seen_notes c hart) r.stamp ≡ true
    → IsKept m harts file (with_hart c hart (judged m (usable (length c.harts) (seen_notes c hart)) s r))
step_judged m harts file c hart s r law each kept at next can =
    let notes = seen_notes c hart in
    let used = usable (length c.harts) notes in
    let chance = CanJudge-test (length c.harts) notes r.stamp can in
    let seen = slice_index c.seen (hart % length c.seen) in
    let begins : IsPrefix notes (notes_appended c.history) =
    (notes_appended (drop seen c.history), sym (map-append (λ (e : Entry). e.note) (take seen c.history) (drop seen c.history)) ∙ ap notes_appended (take-append-drop seen c.history)) in
    let in_file = subst (λ (n : ℕ). CanJudge n notes r.stamp) kept.size chance in
    let alike : writes_until r.stamp used ≡ writes_until r.stamp (writes_of file) =
    usable-until (length c.harts) notes r.stamp chance
    ∙ WritesUntilJudged-all harts file (lists_of c) notes r.stamp each (IsKept-sound m harts file c kept) begins in_file in
    let same = law s.state used (writes_of file) r alike in
    let parts = next_record-is s r next in
    let whole = AreJudged-next m (writes_of file) (m.opening hart) s.taken s.outcomes s.state r parts.0 parts.1 (kept.judged hart s at) in
    let none : List Record = [] in
    let t : HartState _ = judged m used s r in
    IsKept-change m harts file c hart c.fed s t kept (record {
      found = at;
      few = kept.few;
      ended = kept.ended;
      grown = (none, append-nil s.taken);
      kept = ap (λ o. taken_in o ++ queue_in o) (sym at) ∙ kept.kept hart;
      others = λ h apart. refl;
      judged = subst (λ (b : Bool). AreAnswered m (writes_of file) (m.opening hart) s.taken (s.outcomes ++ b ∷ []) (m.after s.state used r)) (sym same.0)
          (subst (λ (state : _). AreAnswered m (writes_of file) (m.opening hart) s.taken (s.outcomes ++ m.allows s.state (writes_of file) r ∷ []) state) (sym same.1) whole);
    })

step_next : {J : Type 0} (m : Meaning J) (harts : ℕ) (file : List Record) (c : CoreState J) (hart : ℕ) (s : HartState J) (o : Option Record)
    → ReadsNoLaterWrites m → AreRecords harts no_stamps file → IsKept m harts file c → slice_get c.harts hart ≡ Some s → next_record s ≡ o
    → IsKept m harts file (judge_next m c hart s (seen_notes c hart) o)
step_next m harts file c hart s None law each kept at is = kept
step_next m harts file c hart s (Some r) law each kept at is = choice (can_judge (length c.harts) (seen_notes c hart) r.stamp) refl
  where
    choice : (b : Bool) → can_judge (length c.harts) (seen_notes c hart) r.stamp ≡ b
        → IsKept m harts file (cond b (with_hart c hart (judged m (usable (length c.harts) (seen_notes c hart)) s r)) c)
    choice false cannot = kept
    choice true can = step_judged m harts file c hart s r law each kept at is can

step_judge : {J : Type 0} (m : Meaning J) (harts : ℕ) (file : List Record) (c : CoreState J) (hart : ℕ) (o : Option (HartState J))
    → ReadsNoLaterWrites m → AreRecords harts no_stamps file → IsKept m harts file c → slice_get c.harts hart ≡ o → IsKept m harts file (judge_of m c hart o)
step_judge m harts file c hart None law each kept is = kept
step_judge m harts file c hart (Some s) law each kept is = step_next m harts file c hart s (next_record s) law each kept is refl

-- any step, and any list of them

IsKept-step : {J : Type 0} (m : Meaning J) (harts : ℕ) (file : List Record) (c : CoreState J) (step : CoreStep)
    → ReadsNoLaterWrites m → AreRecords harts no_stamps file → IsKept m harts file c → IsKept m harts file (step_state m c step)
IsKept-step m harts file c Feed law each kept = step_feed m harts file c (slice_get c.file c.fed) each kept (ap (λ f. slice_get f c.fed) (sym kept.same))
IsKept-step m harts file c (Take hart) law each kept = step_take m harts file c hart (slice_get c.harts hart) kept refl
IsKept-step m harts file c (Announce worker extra) law each kept = step_announce m harts file c worker extra each kept
IsKept-step m harts file c (Look worker) law each kept =
    record { size = kept.size; same = kept.same; few = kept.few; ended = kept.ended; kept = kept.kept; told = kept.told; judged = kept.judged }
IsKept-step m harts file c (Judge hart) law each kept = step_judge m harts file c hart (slice_get c.harts hart) law each kept refl

pub IsKept-run : {J : Type 0} (m : Meaning J) (harts : ℕ) (file : List Record) (c : CoreState J) (steps : List CoreStep)
    → ReadsNoLaterWrites m → AreRecords harts no_stamps file → IsKept m harts file c → IsKept m harts file (run_steps m c steps)
IsKept-run m harts file c [] law each kept = kept
IsKept-run m harts file c (s ∷ ss) law each kept = IsKept-run m harts file (step_state m c s) ss law each (IsKept-step m harts file c s law each kept)

pub EveryRun-holds : {J : Type 0} (m : Meaning J) → ReadsNoLaterWrites m → EveryRunHolds m
EveryRun-holds m law harts workers file steps each =
    HoldsAfter-kept m harts file (run_steps m (opening_state m harts workers file) steps) each
    (IsKept-run m harts file (opening_state m harts workers file) steps law each (IsKept-opening m harts workers file))

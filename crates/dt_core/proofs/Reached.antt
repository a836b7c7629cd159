use Rattle.std.proofs.Common.{ℕ, ◌≡◌, ◌<◌, ◌≤◌, ◌==◌, ◌&&◌, ◌^◌, Bool, true, false, cond, Option, Some, None, List, [], ◌∷◌, ◌++◌, length, take, nat_lt, zero, suc, refl, sym, ap, ◌∙◌, subst, inl, inr, arith, eqb-true}
use Rattle.std.specs.List.{slice_get, list_all}
use Rattle.std.proofs.lemmas.Bool.{and_parts, and_from, cases_Bool}
use Rattle.std.proofs.lemmas.List.{length-append, length-set, length-replicate, length-take}
use Rattle.std.proofs.lemmas.List.Sums.{length-filter, count_by-le-length}
use Rattle.dt_lists.proofs.Lists.{filter-kept, filter-dropped, list_all-get}
use Rattle.dt_record.specs.declared.limits.TheConstants.{HART_LIMIT, RECORD_LIMIT}
use Rattle.dt_record.specs.declared.records.Record.{Record}
use Rattle.dt_record.specs.declared.writes.Write.{Write}
use Rattle.dt_record.specs.declared.writes.Note.{Note}
use Rattle.dt_record.specs.Keys.{records_of}
use Rattle.dt_record.specs.Lawful.{is_lawful}
use Rattle.dt_record.specs.ProbeFile.{AreRecords, no_stamps, stamped}
use Rattle.dt_core.specs.declared.steps.CoreStep.{CoreStep}
use Rattle.dt_core.specs.declared.steps.CoreStep.TheVariants.{Feed, Take, Announce, Look, Judge}
use Rattle.dt_core.specs.Judgements.{Meaning, ReadsNoLaterWrites, AreAnswered}
use Rattle.dt_core.specs.Machine.{HartState, CoreState, with_hart, feed_next, told, is_true, seen_notes, usable, next_record, judged, judge_next, judge_of, step_state, run_steps, opening_state}
use Rattle.dt_record.specs.Marks.{can_judge}
use Rattle.dt_core.specs.Notes.{entries_by}
use Rattle.dt_core.specs.Own.{IsSafe}
use Rattle.dt_core.specs.Runs.{taken_in, queue_in, HoldsAfter, IsReached}
use Rattle.dt_core.proofs.Places.{all_front}
use Rattle.dt_core.proofs.Runs.{IsKept, IsKept-opening, IsKept-run, HoldsAfter-kept}

-- What the code may rely on in a state that steps have led to.

-- the number of workers stays

choice-seen : {J : Type 0} (b : Bool) (c d : CoreState J) → length c.seen ≡ length d.seen → length (cond b c d).seen ≡ length d.seen
choice-seen true c d same = same
choice-seen false c d same = refl

feed-seen : {J : Type 0} (c : CoreState J) (o : Option Record) → length (feed_next c o).seen ≡ length c.seen
feed-seen c None = refl
feed-seen c (Some r) = refl

judge-seen : {J : Type 0} (m : Meaning J) (c : CoreState J) (hart : ℕ) (s : HartState J) (notes : List Note) (o : Option Record) → length (judge_next m c hart s notes o).seen ≡ length c.seen
judge-seen m c hart s notes None = refl
judge-seen m c hart s notes (Some r) =
    choice-seen (can_judge (length c.harts) notes r.stamp) (with_hart c hart (judged m (usable (length c.harts) notes) s r)) c refl

judge_of-seen : {J : Type 0} (m : Meaning J) (c : CoreState J) (hart : ℕ) (o : Option (HartState J)) → length (judge_of m c hart o).seen ≡ length c.seen
judge_of-seen m c hart None = refl
judge_of-seen m c hart (Some s) = judge-seen m c hart s (seen_notes c hart) (next_record s)

step-seen : {J : Type 0} (m : Meaning J) (c : CoreState J) (s : CoreStep) → length (step_state m c s).seen ≡ length c.seen
step-seen m c Feed = feed-seen c (slice_get c.file c.fed)
step-seen m c (Take hart) = refl
step-seen m c (Announce worker extra) =
    choice-seen (nat_lt worker (length c.seen) && list_all (is_true c worker) extra)
    (record c { history = told (length c.seen) worker c.is_ended 0 c.harts c.history ++ entries_by worker extra }) c refl
step-seen m c (Look worker) = length-set c.seen worker (length c.history)
step-seen m c (Judge hart) = judge_of-seen m c hart (slice_get c.harts hart)

run-seen : {J : Type 0} (m : Meaning J) (c : CoreState J) (ss : List CoreStep) → length (run_steps m c ss).seen ≡ length c.seen
run-seen m c [] = refl
run-seen m c (s ∷ ss) = run-seen m (step_state m c s) ss ∙ step-seen m c s

-- a step more

run-push : {J : Type 0} (m : Meaning J) (c : CoreState J) (ss : List CoreStep) (s : CoreStep) → run_steps m c (ss ++ s ∷ []) ≡ step_state m (run_steps m c ss) s
run-push m c [] s = refl
run-push m c (t ∷ ts) s = run-push m (step_state m c t) ts s

pub IsReached-step : {J : Type 0} (m : Meaning J) (c d : CoreState J) (s : CoreStep) → IsReached m c → d ≡ step_state m c s → IsReached m d
IsReached-step m c d s reached is = record {
  harts = reached.harts;
  workers = reached.workers;
  file = reached.file;
  steps = reached.steps ++ s ∷ [];
  few_harts = reached.few_harts;
  some_worker = reached.some_worker;
  few_workers = reached.few_workers;
  each = reached.each;
  few_records = reached.few_records;
  is = is ∙ ap (λ e. step_state m e s) reached.is ∙ sym (run-push m (opening_state m reached.harts reached.workers reached.file) reached.steps s);
}

pub IsReached-same : {J : Type 0} (m : Meaning J) (c d : CoreState J) → IsReached m c → d ≡ c → IsReached m d
IsReached-same m c d reached is = subst (λ (e : CoreState _). IsReached m e) (sym is) reached

pub IsReached-start : {J : Type 0} (m : Meaning J) (harts workers : ℕ) (file : List Record) (c : CoreState J) → harts ≤ HART_LIMIT → 1 ≤ workers → workers ≤ 8
    → AreRecords harts no_stamps file → length file ≤ RECORD_LIMIT → c ≡ opening_state m harts workers file → IsReached m c
IsReached-start m harts workers file c few_harts some few each records is = record {
  harts = harts;
  workers = workers;
  file = file;
  steps = [];
  few_harts = few_harts;
  some_worker = some;
  few_workers = few;
  each = each;
  few_records = records;
  is = is;
}

kept_of : {J : Type 0} (m : Meaning J) (c : CoreState J) → ReadsNoLaterWrites m → (reached : IsReached m c) → IsKept m reached.harts reached.file c
kept_of m c law reached =
    subst (λ (e : CoreState _). IsKept m reached.harts reached.file e) (sym reached.is)
    (IsKept-run m reached.harts reached.file (opening_state m reached.harts reached.workers reached.file) reached.steps law reached.each
    (IsKept-opening m reached.harts reached.workers reached.file))

-- the law holds, said of the state's own harts and file
pub IsReached-holds : {J : Type 0} (m : Meaning J) (c : CoreState J) → ReadsNoLaterWrites m → IsReached m c → HoldsAfter m (length c.harts) c.file c
IsReached-holds m c law reached =
    let kept = kept_of m c law reached in
    let holds = HoldsAfter-kept m reached.harts reached.file c reached.each kept in
    subst (λ (n : ℕ). HoldsAfter m n c.file c) (sym kept.size) (subst (λ (f : List Record). HoldsAfter m reached.harts f c) (sym kept.same) holds)

-- records of a hart in a front of the file are lawful and its own

abbrev is_own : ℕ → Record → Bool
is_own hart r = is_lawful r && (r.hart == hart)

all_own : (harts hart n : ℕ) (last : ℕ → ℕ) (file : List Record) → AreRecords harts last file → list_all (is_own hart) (records_of hart (take n file)) ≡ true
all_own harts hart zero last file each = refl
all_own harts hart (suc n) last [] each = refl
all_own harts hart (suc n) last (r ∷ rs) each =
    let rest = all_own harts hart n (stamped last r) rs each.1 in
    elim (cases_Bool (r.hart == hart)) [
      | inl own ↦
          ap (list_all (is_own hart)) (filter-kept (λ (s : Record). s.hart == hart) r (take n rs) own)
          ∙ and_from (is_own hart r) _ (and_from (is_lawful r) (r.hart == hart) each.0.lawful own) rest
      | inr other ↦ ap (list_all (is_own hart)) (filter-dropped (λ (s : Record). s.hart == hart) r (take n rs) other) ∙ rest
    ]

judged_few : {J : Type 0} (m : Meaning J) (writes : List Write) (first : J) (rs : List Record) (os : List Bool) (last : J) → AreAnswered m writes first rs os last → length os ≤ length rs
judged_few m writes first rs [] last are = omega arith
judged_few m writes first [] (o ∷ os) last are = absurd are
judged_few m writes first (r ∷ rs) (o ∷ os) last are = let rest = judged_few m writes (m.after first writes r) rs os last are.2 in omega arith

few_taken : {J : Type 0} (m : Meaning J) (c : CoreState J) (hart : ℕ) (s : HartState J) → ReadsNoLaterWrites m → IsReached m c → slice_get c.harts hart ≡ Some s → length s.taken ≤ RECORD_LIMIT
few_taken m c hart s law reached found =
    let kept = kept_of m c law reached in
    let whole : s.taken ++ s.queue ≡ records_of hart (take c.fed reached.file) = ap (λ o. taken_in o ++ queue_in o) (sym found) ∙ kept.kept hart in
    let own : Record → Bool = λ r. r.hart == hart in
    let records = reached.few_records in
    omega (arith, ap length whole, length-append s.taken s.queue, length-filter own (take c.fed reached.file), count_by-le-length own (take c.fed reached.file), length-take c.fed reached.file)

pub IsReached-safe : {J : Type 0} (m : Meaning J) (c : CoreState J) → ReadsNoLaterWrites m → IsReached m c → IsSafe c
IsReached-safe m c law reached =
    let kept = kept_of m c law reached in
    let size = kept.size in
    let few_harts = reached.few_harts in
    let some_worker = reached.some_worker in
    let few_workers = reached.few_workers in
    let seen : length c.seen ≡ reached.workers =
    ap (λ (e : CoreState _). length e.seen) reached.is ∙ run-seen m (opening_state m reached.harts reached.workers reached.file) reached.steps ∙ length-replicate reached.workers 0 in record {
      few_harts = omega arith;
      some_worker = omega arith;
      few_workers = omega arith;
      taken = record {
        own = λ hart s found i r at.
            let whole : s.taken ++ s.queue ≡ records_of hart (take c.fed reached.file) = ap (λ o. taken_in o ++ queue_in o) (sym found) ∙ kept.kept hart in
            let all = all_front (is_own hart) s.taken s.queue (ap (list_all (is_own hart)) whole ∙ all_own reached.harts hart c.fed no_stamps reached.file reached.each) in
            let one = and_parts (is_lawful r) (r.hart == hart) (list_all-get (is_own hart) s.taken i r all at) in
            (one.0, eqb-true r.hart hart one.1);
        few = λ hart s found. few_taken m c hart s law reached found;
      };
    }

pub IsReached-few : {J : Type 0} (m : Meaning J) (c : CoreState J) → ReadsNoLaterWrites m → IsReached m c
    → (hart : ℕ) (s : HartState J) → slice_get c.harts hart ≡ Some s → length s.outcomes < 2 ^ 32
IsReached-few m c law reached hart s found =
    let kept = kept_of m c law reached in
    let few = few_taken m c hart s law reached found in
    let below = judged_few m _ (m.opening hart) s.taken s.outcomes s.state (kept.judged hart s found) in
    omega arith

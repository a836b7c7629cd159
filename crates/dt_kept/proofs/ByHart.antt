-- A trace that is made hart by hart is that of the file.
use Rattle.std.proofs.Common.{ℕ, ◌≡◌, ◌<◌, ◌≤◌, ◌+◌, ◌==◌, ◌&&◌, Bool, true, false, not, Some, List, [], ◌∷◌, ◌++◌, length, filter, refl, sym, ap, ◌∙◌, subst, append_assoc, arith, inl, inr, nat_lt, nat_le, suc}
use Rattle.std.specs.List.{list_all, slice_get}
use Rattle.std.proofs.lemmas.Bool.{and_from, and_parts, cases_Bool, cond-true, cond-false, eq-eqb, eqb-true, eqb-false, ne_eqb, lt-leb, ltb-true, ltb-false, not_from_false}
use Rattle.std.proofs.lemmas.List.{append-nil, length-append}
use Rattle.std.proofs.lemmas.List.Elements.{filter-append}
use Rattle.dt_lists.proofs.Lists.{filter-all, filter-dropped, filter-filter, filter-kept, filter-none, filter-within, list_all-filter, list_all-weaker}
use Rattle.dt_record.specs.declared.keys.Key.{Key}
use Rattle.dt_record.specs.declared.records.Record.{Record}
use Rattle.dt_record.specs.Keys.{key_below, key_of, records_of}
use Rattle.dt_record.specs.ProbeFile.{AreRecords, no_stamps, stamped}
use Rattle.dt_record.specs.Writes.{counted, no_records}
use Rattle.dt_record.proofs.KeyLaws.{key_below-cases}
use Rattle.dt_hart.specs.OwnWrites.{are_rising}
use Rattle.dt_reading.specs.Reading.{AreStreamed}
use Rattle.dt_runs.specs.Laws.{FileRecordsAreOwn}
use Rattle.dt_writes.specs.FileRecords.{AreFileRecords}
use Rattle.dt_writes.specs.KeyOrder.{under}
use Rattle.dt_writes.proofs.KeyOrder.{same_from_ties}
use Rattle.dt_kept.specs.declared.states.HartEvents.{HartEvents}
use Rattle.dt_kept.specs.declared.traces.Traced.{Traced}
use Rattle.dt_kept.specs.Cutting.{records_before, records_from}
use Rattle.dt_kept.specs.States.{AreAllEventsFrom, AreEventsFrom, IsOfAFile}
use Rattle.dt_kept.specs.Traces.{is_traced, numbered, trace_of, traced_by_key, traced_key}
use Rattle.dt_kept.specs.Tracing.{all_traced, own_traced, traced_one}
use Rattle.dt_kept.proofs.Cutting.{cuts_split_records}
use Rattle.dt_kept.proofs.TraceOrder.{filter-traced_by_key, rises-traced_by_key, tie}

abbrev traced : ℕ → Record → Traced
traced seq r = record { seq = seq; event = r }

abbrev is_of : ℕ → Traced → Bool
is_of hart t = t.event.hart == hart

-- ---- a hart's records with their numbers

-- after so many of its records
abbrev number_from : ℕ → List Record → List Traced
number_from seq [] = []
number_from seq (r ∷ rs) = traced seq r ∷ number_from (seq + 1) rs

number_from-append : (seq : ℕ) (rs more : List Record) → number_from seq (rs ++ more) ≡ number_from seq rs ++ number_from (seq + length rs) more
number_from-append seq [] more = ap (λ n. number_from n more) (omega arith)
number_from-append seq (r ∷ rs) more =
    ap (λ (l : List Traced). traced seq r ∷ l)
    (number_from-append (seq + 1) rs more ∙ ap (λ n. number_from (seq + 1) rs ++ number_from n more) (let e : seq + 1 + length rs ≡ seq + length (r ∷ rs) = omega arith in e))

counted-own : (seqs : ℕ → ℕ) (r : Record) (hart : ℕ) → hart ≡ r.hart → counted seqs r hart ≡ seqs hart + 1
counted-own seqs r hart same = cond-true (hart == r.hart) _ _ (eq-eqb hart r.hart same)

-- those of one hart among all
own-numbered : (hart : ℕ) (seqs : ℕ → ℕ) (rs : List Record) → filter (is_of hart) (numbered seqs rs) ≡ number_from (seqs hart) (records_of hart rs)
own-numbered hart seqs [] = refl
own-numbered hart seqs (r ∷ rs) =
    let later = own-numbered hart (counted seqs r) rs in
    let rest = numbered (counted seqs r) rs in
    elim (cases_Bool (r.hart == hart)) [
      | inl own ↦
          let same = eqb-true r.hart hart own in
          filter-kept (is_of hart) (traced (seqs r.hart) r) rest own
          ∙ ap (λ (l : List Traced). traced (seqs r.hart) r ∷ l) (later ∙ ap (λ n. number_from n (records_of hart rs)) (counted-own seqs r hart (sym same)))
          ∙ ap (λ h. traced (seqs h) r ∷ number_from (seqs hart + 1) (records_of hart rs)) same
          ∙ sym (ap (number_from (seqs hart)) (cond-true (r.hart == hart) (r ∷ records_of hart rs) (records_of hart rs) own))
      | inr foreign ↦
          let turned : (hart == r.hart) ≡ false = ne_eqb hart r.hart (λ e. eqb-false r.hart hart foreign (sym e)) in
          filter-dropped (is_of hart) (traced (seqs r.hart) r) rest foreign ∙ later
          ∙ ap (λ n. number_from n (records_of hart rs)) (cond-false (hart == r.hart) (seqs hart + 1) (seqs hart) turned)
          ∙ sym (ap (number_from (seqs hart)) (cond-false (r.hart == hart) (r ∷ records_of hart rs) (records_of hart rs) foreign))
    ]

-- ---- those in the trace

untraced-before : (cut : ℕ) (failing : Key) (seq : ℕ) (rs : List Record) → list_all (λ (r : Record). nat_lt r.stamp cut) rs ≡ true → filter (is_traced cut failing) (number_from seq rs) ≡ []
untraced-before cut failing seq [] all = refl
untraced-before cut failing seq (r ∷ rs) all =
    let parts = and_parts (nat_lt r.stamp cut) (list_all (λ (q : Record). nat_lt q.stamp cut) rs) all in
    let out : is_traced cut failing (traced seq r) ≡ false = ap (λ b. b && not (key_below failing (key_of seq r))) (lt-leb cut r.stamp (ltb-true r.stamp cut parts.0)) in
    filter-dropped (is_traced cut failing) (traced seq r) (number_from (seq + 1) rs) out ∙ untraced-before cut failing (seq + 1) rs parts.1

traced-from : (cut : ℕ) (failing : Key) (seq : ℕ) (rs : List Record) → list_all (λ (r : Record). nat_le cut r.stamp) rs ≡ true
    → filter (is_traced cut failing) (number_from seq rs) ≡ own_traced failing seq rs
traced-from cut failing seq [] all = refl
traced-from cut failing seq (r ∷ rs) all =
    let parts = and_parts (nat_le cut r.stamp) (list_all (λ (q : Record). nat_le cut q.stamp) rs) all in
    let t = traced seq r in
    let rest = number_from (seq + 1) rs in
    let is : is_traced cut failing t ≡ not (key_below failing (key_of seq r)) = ap (λ b. b && not (key_below failing (key_of seq r))) parts.0 in
    let later = traced-from cut failing (seq + 1) rs parts.1 in
    elim (cases_Bool (key_below failing (key_of seq r))) [
      | inl behind ↦
          filter-dropped (is_traced cut failing) t rest (is ∙ ap not behind) ∙ later
          ∙ ap (λ (l : List Traced). l ++ own_traced failing (seq + 1) rs) (sym (cond-true (key_below failing (key_of seq r)) [] (t ∷ []) behind))
      | inr before ↦
          filter-kept (is_traced cut failing) t rest (is ∙ ap not before) ∙ ap (λ (l : List Traced). t ∷ l) later
          ∙ ap (λ (l : List Traced). l ++ own_traced failing (seq + 1) rs) (sym (cond-false (key_below failing (key_of seq r)) [] (t ∷ []) before))
    ]

-- what the trace has of the hart with these records
abbrev part : ℕ → Key → List Record → List Traced
part cut failing own = own_traced failing (length (records_before cut own)) (records_from cut own)

all_pass : {X : Type 0} (p : X → Bool) (xs : List X) → list_all p (filter p xs) ≡ true
all_pass p [] = refl
all_pass p (x ∷ xs) = elim (cases_Bool (p x)) [
  | inl passes ↦ ap (list_all p) (filter-kept p x xs passes) ∙ and_from (p x) (list_all p (filter p xs)) passes (all_pass p xs)
  | inr fails ↦ ap (list_all p) (filter-dropped p x xs fails) ∙ all_pass p xs
]

part-of : (cut : ℕ) (failing : Key) (own : List Record) → are_rising own ≡ true → filter (is_traced cut failing) (number_from 0 own) ≡ part cut failing own
part-of cut failing own rising =
    let before = records_before cut own in
    let from = records_from cut own in
    ap (λ (l : List Record). filter (is_traced cut failing) (number_from 0 l)) (sym (cuts_split_records cut own rising))
    ∙ ap (filter (is_traced cut failing)) (number_from-append 0 before from)
    ∙ filter-append (is_traced cut failing) (number_from 0 before) (number_from (0 + length before) from)
    ∙ ap (λ (l : List Traced). l ++ filter (is_traced cut failing) (number_from (0 + length before) from)) (untraced-before cut failing 0 before (all_pass (λ (r : Record). nat_lt r.stamp cut) own))
    ∙ ap (λ n. filter (is_traced cut failing) (number_from n from)) (let e : 0 + length before ≡ length before = omega arith in e)
    ∙ traced-from cut failing (length before) from (all_pass (λ (r : Record). nat_le cut r.stamp) own)

-- ---- the trace by harts

-- the records of one hart are its own
traced-own : (hart : ℕ) (failing : Key) (seq : ℕ) (rs : List Record) → list_all (λ (r : Record). r.hart == hart) rs ≡ true → list_all (is_of hart) (own_traced failing seq rs) ≡ true
traced-own hart failing seq [] all = refl
traced-own hart failing seq (r ∷ rs) all =
    let parts = and_parts (r.hart == hart) (list_all (λ (q : Record). q.hart == hart) rs) all in
    let later = traced-own hart failing (seq + 1) rs parts.1 in
    let rest = own_traced failing (seq + 1) rs in
    elim (cases_Bool (key_below failing (key_of seq r))) [
      | inl behind ↦ ap (λ (l : List Traced). list_all (is_of hart) (l ++ rest)) (cond-true (key_below failing (key_of seq r)) [] (traced seq r ∷ []) behind) ∙ later
      | inr before ↦
          ap (λ (l : List Traced). list_all (is_of hart) (l ++ rest)) (cond-false (key_below failing (key_of seq r)) [] (traced seq r ∷ []) before)
          ∙ and_from (r.hart == hart) (list_all (is_of hart) rest) parts.0 later
    ]

part-own : (cut : ℕ) (failing : Key) (hart : ℕ) (records : List Record) → list_all (is_of hart) (part cut failing (records_of hart records)) ≡ true
part-own cut failing hart records =
    let own = records_of hart records in
    traced-own hart failing (length (records_before cut own)) (records_from cut own)
    (list_all-filter (λ (r : Record). r.hart == hart) (λ (r : Record). nat_le cut r.stamp) own (all_pass (λ (r : Record). r.hart == hart) records))

-- these are the records from a cut on of the harts from this number on
abbrev AreFrom : (cut : ℕ) (records : List Record) (first : ℕ) → List HartEvents → Type 0
AreFrom cut records first kept = (i : ℕ) (k : HartEvents) → slice_get kept i ≡ Some k → AreEventsFrom cut (records_of (first + i) records) k

first_part : (cut : ℕ) (failing : Key) (records : List Record) (first : ℕ) (k : HartEvents) (ks : List HartEvents) → AreFrom cut records first (k ∷ ks)
    → own_traced failing k.first k.events.items ≡ part cut failing (records_of first records)
first_part cut failing records first k ks are =
    let at : AreEventsFrom cut (records_of first records) k = subst (λ n. AreEventsFrom cut (records_of n records) k) (let e : first + 0 ≡ first = omega arith in e) (are 0 k refl) in
    ap (λ n. own_traced failing n k.events.items) at.first ∙ ap (own_traced failing (length (records_before cut (records_of first records)))) at.events

others : (cut : ℕ) (records : List Record) (first : ℕ) (k : HartEvents) (ks : List HartEvents) → AreFrom cut records first (k ∷ ks) → AreFrom cut records (first + 1) ks
others cut records first k ks are i l there =
    subst (λ n. AreEventsFrom cut (records_of n records) l) (let e : first + suc i ≡ first + 1 + i = omega arith in e) (are (suc i) l there)

not_of : (hart other : ℕ) → (other ≡ hart → ⊥) → (ts : List Traced) → list_all (is_of other) ts ≡ true → filter (is_of hart) ts ≡ []
not_of hart other differ ts all =
    filter-none (is_of hart) ts
    (list_all-weaker (is_of other) (λ t. not (is_of hart t)) ts
    (λ t its. not_from_false _ (ne_eqb t.event.hart hart (λ same. differ (sym (eqb-true t.event.hart other its) ∙ same)))) all)

-- a hart that is none of these has nothing there
nothing_of : (cut : ℕ) (failing : Key) (records : List Record) (hart first : ℕ) (kept : List HartEvents) → AreFrom cut records first kept
    → ((i : ℕ) → i < length kept → first + i ≡ hart → ⊥) → filter (is_of hart) (all_traced failing kept) ≡ []
nothing_of cut failing records hart first [] are none = refl
nothing_of cut failing records hart first (k ∷ ks) are none =
    let head = own_traced failing k.first k.events.items in
    let here : filter (is_of hart) head ≡ [] =
    ap (filter (is_of hart)) (first_part cut failing records first k ks are)
    ∙ not_of hart first (λ same. none 0 (omega arith) (omega (arith, same))) (part cut failing (records_of first records)) (part-own cut failing first records) in
    filter-append (is_of hart) head (all_traced failing ks)
    ∙ ap (λ (l : List Traced). l ++ filter (is_of hart) (all_traced failing ks)) here
    ∙ nothing_of cut failing records hart (first + 1) ks (others cut records first k ks are) (λ i within same. none (suc i) (omega (arith, within)) (omega (arith, same)))

-- and one of these has its part
part_there : (cut : ℕ) (failing : Key) (records : List Record) (hart first : ℕ) (kept : List HartEvents) → AreFrom cut records first kept
    → first ≤ hart → hart < first + length kept → filter (is_of hart) (all_traced failing kept) ≡ part cut failing (records_of hart records)
part_there cut failing records hart first [] are above below = absurd (omega arith)
part_there cut failing records hart first (k ∷ ks) are above below =
    let head = own_traced failing k.first k.events.items in
    let is = first_part cut failing records first k ks are in
    let rest = others cut records first k ks are in
    filter-append (is_of hart) head (all_traced failing ks)
    ∙ elim (cases_Bool (first == hart)) [
      | inl same ↦
          let it : first ≡ hart = eqb-true first hart same in
          ap (λ (l : List Traced). filter (is_of hart) l ++ filter (is_of hart) (all_traced failing ks)) (is ∙ ap (λ h. part cut failing (records_of h records)) it)
          ∙ ap (λ (l : List Traced). l ++ filter (is_of hart) (all_traced failing ks)) (filter-all (is_of hart) (part cut failing (records_of hart records)) (part-own cut failing hart records))
          ∙ ap (λ (l : List Traced). part cut failing (records_of hart records) ++ l) (nothing_of cut failing records hart (first + 1) ks rest (λ i within e. omega arith))
          ∙ append-nil (part cut failing (records_of hart records))
      | inr other ↦
          let differ : first ≡ hart → ⊥ = eqb-false first hart other in
          let more : first + 1 ≤ hart = omega (arith, above, differ) in
          let less : hart < first + 1 + length ks = omega (arith, below) in
          ap (λ (l : List Traced). filter (is_of hart) l ++ filter (is_of hart) (all_traced failing ks)) is
          ∙ ap (λ (l : List Traced). l ++ filter (is_of hart) (all_traced failing ks)) (not_of hart first differ (part cut failing (records_of first records)) (part-own cut failing first records))
          ∙ part_there cut failing records hart (first + 1) ks rest more less
    ]

-- a hart that the file does not have has no records
no_records_of : (harts : ℕ) (last : ℕ → ℕ) (hart : ℕ) (rs : List Record) → AreRecords harts last rs → harts ≤ hart → records_of hart rs ≡ []
no_records_of harts last hart [] are out = refl
no_records_of harts last hart (r ∷ rs) are out =
    let differ : (r.hart == hart) ≡ false = ne_eqb r.hart hart (λ same. omega (arith, are.0.hart, same, out)) in
    filter-dropped (λ (q : Record). q.hart == hart) r rs differ ∙ no_records_of harts (stamped last r) hart rs are.1 out

by_hart : (cut : ℕ) (failing : Key) (harts : ℕ) (records : List Record) (kept : List HartEvents) → AreRecords harts no_stamps records
    → AreAllEventsFrom harts cut records kept → (hart : ℕ) → filter (is_of hart) (all_traced failing kept) ≡ part cut failing (records_of hart records)
by_hart cut failing harts records kept each all hart =
    let are : AreFrom cut records 0 kept = λ i k there. subst (λ n. AreEventsFrom cut (records_of n records) k) (let e : i ≡ 0 + i = omega arith in e) (all.each i k there) in
    elim (cases_Bool (nat_lt hart harts)) [
      | inl within ↦
          let below : hart < 0 + length kept = omega (arith, ltb-true hart harts within, all.count) in
          part_there cut failing records hart 0 kept are (omega arith) below
      | inr without ↦
          let out : harts ≤ hart = ltb-false hart harts without in
          nothing_of cut failing records hart 0 kept are (λ i inside same. omega (arith, inside, same, out, all.count))
          ∙ ap (λ (l : List Record). part cut failing l) (sym (no_records_of harts no_stamps hart records each out))
    ]

-- ---- both in the order of keys

only_passes : {X : Type 0} (p q : X → Bool) (xs : List X) → ((x : X) → p x ≡ true → q x ≡ true) → list_all q (filter p xs) ≡ true
only_passes p q xs leads = list_all-weaker p q (filter p xs) leads (all_pass p xs)

tied_hart : (x t : Traced) → tie x t ≡ true → is_of x.event.hart t ≡ true
tied_hart x t tied =
    let parts = and_parts (not (under traced_key x t)) (not (under traced_key t x)) tied in
    elim (key_below-cases (traced_key x) (traced_key t)) [
      | inl below ↦ absurd (not_both (key_below (traced_key x) (traced_key t)) below parts.0)
      | inr (inl same) ↦ eq-eqb t.event.hart x.event.hart (ap (λ (k : Key). k.hart) (sym same))
      | inr (inr above) ↦ absurd (not_both (key_below (traced_key t) (traced_key x)) above parts.1)
    ]
  where
    not_both : (b : Bool) → b ≡ true → not b ≡ true → ⊥
    not_both true is isnt = cc
    not_both false is isnt = cc

-- what ties with a record is of its hart
ties_by_hart : (x : Traced) (ts : List Traced) → filter (tie x) ts ≡ filter (tie x) (filter (is_of x.event.hart) ts)
ties_by_hart x ts =
    sym (filter-filter (tie x) (is_of x.event.hart) ts ∙ filter-all (is_of x.event.hart) (filter (tie x) ts) (only_passes (tie x) (is_of x.event.hart) ts (tied_hart x)))

pub trace_by_harts : FileRecordsAreOwn → (cut : ℕ) (failing : Key) (harts : ℕ) (records : List Record) (kept : List HartEvents) → AreStreamed harts records
    → AreAllEventsFrom harts cut records kept → traced_by_key (all_traced failing kept) ≡ trace_of cut failing records
trace_by_harts law cut failing harts records kept streamed all =
    let made = all_traced failing kept in
    let given = filter (is_traced cut failing) (numbered no_records records) in
    let file : AreFileRecords records = record { harts = harts; few_harts = streamed.few_harts; each = streamed.each; few_records = streamed.few_records; few_writes = streamed.few_writes } in
    let own = λ (hart : ℕ).
    by_hart cut failing harts records kept streamed.each all hart
    ∙ sym (filter-filter (is_of hart) (is_traced cut failing) (numbered no_records records)
    ∙ ap (filter (is_traced cut failing)) (own-numbered hart no_records records)
    ∙ part-of cut failing (records_of hart records) (law records hart file).rising) in
    same_from_ties traced_key (traced_by_key made) (traced_by_key given) (rises-traced_by_key made) (rises-traced_by_key given)
    (λ x.
    filter-traced_by_key x made
    ∙ ties_by_hart x made
    ∙ ap (filter (tie x)) (own x.event.hart)
    ∙ sym (ties_by_hart x given)
    ∙ sym (filter-traced_by_key x given))

-- ---- how it is made

-- the last of a hart's records comes last
pub own_traced-push : (failing : Key) (seq : ℕ) (rs : List Record) (r : Record)
    → own_traced failing seq (rs ++ r ∷ []) ≡ own_traced failing seq rs ++ traced_one failing (seq + length rs) r
own_traced-push failing seq [] r = append-nil (traced_one failing seq r) ∙ ap (λ n. traced_one failing n r) (let e : seq ≡ seq + 0 = omega arith in e)
own_traced-push failing seq (q ∷ qs) r =
    ap (λ (l : List Traced). traced_one failing seq q ++ l)
    (own_traced-push failing (seq + 1) qs r
    ∙ ap (λ n. own_traced failing (seq + 1) qs ++ traced_one failing n r) (let e : seq + 1 + length qs ≡ seq + length (q ∷ qs) = omega arith in e))
    ∙ sym (append_assoc (traced_one failing seq q) (own_traced failing (seq + 1) qs) (traced_one failing (seq + length (q ∷ qs)) r))

-- a hart has no more records than the file
pub few_kept : FileRecordsAreOwn → (kept : List HartEvents) → IsOfAFile kept → (hart : ℕ) (k : HartEvents) → slice_get kept hart ≡ Some k
    → k.first + length k.events.items ≤ 4_194_304
few_kept law kept of_file hart k there =
    let own = records_of hart of_file.records in
    let are = of_file.events.each hart k there in
    let streamed = of_file.streamed in
    let file : AreFileRecords of_file.records
    = record { harts = of_file.harts; few_harts = streamed.few_harts; each = streamed.each; few_records = streamed.few_records; few_writes = streamed.few_writes } in
    let whole = ap length (cuts_split_records of_file.cut own (law of_file.records hart file).rising) in
    omega (
      arith,
      are.first,
      ap length are.events,
      whole,
      length-append (records_before of_file.cut own) (records_from of_file.cut own),
      filter-within (λ (r : Record). r.hart == hart) of_file.records,
      streamed.few_records,
    )

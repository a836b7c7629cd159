-- What a reply to words comes to.
use Rattle.std.proofs.Common.{◌≡◌, ◌≢◌, ◌≤◌, ◌⊎◌, ℕ, Bool, List, [], length, Option, Some, None, Result, Ok, Err, IfSome, IsSomeAnd, refl, sym, ap, ◌∙◌, subst, inl, inr, arith}
use Rattle.std.specs.Option.{option_map}
use Rattle.std.specs.String.{string_bytes}
use Rattle.std.specs.Prelude.{nat_le}
use Rattle.std.proofs.lemmas.Bool.{cases_eq}
use Rattle.std.proofs.lemmas.Option.{same_Some}
use Rattle.dt_record.specs.declared.writes.What.{What}
use Rattle.dt_record.specs.declared.streams.Next.{Next}
use Rattle.dt_record.specs.Answers.{AreAnswers}
use Rattle.dt_dump.specs.Dump.{memory_line, read_fault_line}
use Rattle.dt_image.specs.declared.images.ImageRefusal.{ImageRefusal}
use Rattle.dt_image.specs.declared.images.ImageRefusal.TheVariants as image_refusal
use Rattle.dt_image.specs.Loading.{loaded}
use Rattle.dt_verdict.specs.declared.answers.Refusal.{Refusal}
use Rattle.dt_verdict.specs.declared.answers.Refusal.TheVariants.{Malformed, Limit, ReadFault, OutOfMemory}
use Rattle.dt_verdict.specs.declared.verdicts.Verdict.{Verdict}
use Rattle.dt_verdict.specs.declared.verdicts.Verdict.TheVariants.{Pass, Fail}
use Rattle.dt_words.specs.Table.{Asked}
use Rattle.dt_probe_file.specs.Computing.{answers_of}
use Rattle.dt_probe_file.specs.Told.{AreToldOf}
use Rattle.dt_probe_file.proofs.Exists.{of_are}
use Rattle.dt_reading.specs.Reading.{refusal_in}
use Rattle.dt_top.specs.declared.replies.Reply.{Reply}
use Rattle.dt_top.specs.declared.replies.Reply.TheVariants as reply
use Rattle.dt_top.specs.Answer.{Answer, answer, verdict_status, usage_answer, too_long_answer, image_answer, image_fault_answer, memory_answer, refusal_answer, refusal_line, refusal_status, Fits, IsAnswer, IsRefused, IsReport, IsTooLong}
use Rattle.dt_top.specs.Replies.{answer_by, CameOf, IsStreamReply, IsPut, JudgesFile}
use Rattle.dt_top.specs.Running.{Outside, outside, HasFailed, HasFailedOpen, IsGiven, MayWrite, Ran, StopsWith}
use Rattle.dt_top.specs.Tasks.{WhereTold}
use Rattle.dt_top.proofs.Checking.{not_refused}
use Rattle.dt_top.proofs.Tasks.{are_told, both_told, either, not_dump, not_convert, of_told, some_map, where_map, where_judged}

-- ---- the answer

pub usage_is_answer : (i b : List ℕ) → IsAnswer None i b usage_answer
usage_is_answer i b = record {
  answers = answers_of b;
  are_answers = of_are b;
  usage = λ _. refl;
  too_long = λ is. absurd is;
  refused = λ r is. absurd is;
  report = λ sources is. absurd is;
  dump = λ is. absurd is;
  convert = λ to is. absurd is;
}

pub too_long_is_answer : (asked : Asked) (i b : List ℕ) → JudgesFile asked.task → IsTooLong i → IsAnswer (Some asked) i b too_long_answer
too_long_is_answer asked i b judges long = record {
  answers = answers_of b;
  are_answers = of_are b;
  usage = λ none. cc;
  too_long = λ _ _. refl;
  refused = λ r _ fits. absurd (omega (arith, long, fits));
  report = λ sources _ fits. absurd (omega (arith, long, fits));
  dump = λ other. absurd (not_dump asked.task judges.report other);
  convert = λ to other. absurd (not_convert asked.task judges.report other.0);
}

pub refused_is_answer : (asked : Asked) (i b : List ℕ) (answers : List Next) (r : Refusal) (line : List ℕ) → JudgesFile asked.task → Fits i
    → AreAnswers b answers → line ≡ refusal_line r → IsRefused answers r → IsAnswer (Some asked) i b (answer (refusal_status r) line)
refused_is_answer asked i b answers r line judges fits are written is = record {
  answers = answers;
  are_answers = are;
  usage = λ none. cc;
  too_long = λ _ long. absurd (omega (arith, long, fits));
  refused = λ s _ _ found.
      let same : r ≡ s = let e = sym is ∙ found in cc in
      subst (λ (x : Refusal). answer (refusal_status r) line ≡ refusal_answer x) same (ap (λ t. answer (refusal_status r) t) written);
  report = λ sources _ _ none. let e = sym is ∙ none in cc;
  dump = λ other. absurd (not_dump asked.task judges.report other);
  convert = λ to other. absurd (not_convert asked.task judges.report other.0);
}

-- a stream with a report is not refused
reported_is_whole : (image : List ℕ) (answers : List Next) (sources : Bool) (a : Answer) → IsReport image answers sources a → refusal_in answers ≡ None
reported_is_whole image answers sources a reported = ap refusal_in reported.whole ∙ not_refused reported.records (length reported.records) []

pub report_is_answer : (asked : Asked) (i b : List ℕ) (answers : List Next) (a : Answer) → JudgesFile asked.task → Fits i → AreAnswers b answers
    → IsReport i answers asked.sources a → IsAnswer (Some asked) i b a
report_is_answer asked i b answers a judges fits are reported = record {
  answers = answers;
  are_answers = are;
  usage = λ nothing. cc;
  too_long = λ _ long. absurd (omega (arith, long, fits));
  refused = λ s _ _ found. let e = sym (reported_is_whole i answers asked.sources a reported) ∙ found in cc;
  report = λ sources asks _ _. subst (λ (x : Bool). IsReport i answers x a) asks.1 reported;
  dump = λ other. absurd (not_dump asked.task judges.report other);
  convert = λ to other. absurd (not_convert asked.task judges.report other.0);
}

-- ---- statuses

verdict_is_small : (v : Verdict) → verdict_status v ≤ 1
verdict_is_small Pass = omega arith
verdict_is_small (Fail f) = omega arith

refusal_is_great : (r : Refusal) → 4 ≤ refusal_status r
refusal_is_great (Malformed offset) = omega arith
refusal_is_great (Limit what number) = omega arith
refusal_is_great ReadFault = omega arith
refusal_is_great OutOfMemory = omega arith

at_4 : (r : Refusal) → refusal_status r ≡ 4 → (offset : ℕ) × (r ≡ Malformed offset)
at_4 (Malformed offset) e = (offset, refl)
at_4 (Limit what number) e = cc
at_4 ReadFault e = cc
at_4 OutOfMemory e = cc

at_5 : (r : Refusal) → refusal_status r ≡ 5 → r ≡ ReadFault
at_5 (Malformed offset) e = cc
at_5 (Limit what number) e = cc
at_5 ReadFault e = refl
at_5 OutOfMemory e = cc

at_7 : (r : Refusal) → refusal_status r ≡ 7 → r ≡ OutOfMemory
at_7 (Malformed offset) e = cc
at_7 (Limit what number) e = cc
at_7 ReadFault e = cc
at_7 OutOfMemory e = refl

at_8 : (r : Refusal) → refusal_status r ≡ 8 → (what : What) × (number : ℕ) × (r ≡ Limit what number)
at_8 (Malformed offset) e = cc
at_8 (Limit what number) e = (what, number, refl)
at_8 ReadFault e = cc
at_8 OutOfMemory e = cc

is_not_6 : (r : Refusal) → refusal_status r ≡ 6 → ⊥
is_not_6 (Malformed offset) e = cc
is_not_6 (Limit what number) e = cc
is_not_6 ReadFault e = cc
is_not_6 OutOfMemory e = cc

-- ---- the run

-- the sink of a reply that is not written yet
abbrev all_of : List ℕ → Outside
all_of text = outside (Some []) (Some text) 0 0

-- what such a sink was given is the text
same_text : (text given : List ℕ) → IsGiven (all_of text) given → text ≡ given
same_text text given is = same_Some text given is

to_given : (out : Outside) (text given : List ℕ) → IsGiven (all_of text) given → IsGiven out text → IsGiven out given
to_given out text given is put = subst (λ (t : List ℕ). IsGiven out t) (same_text text given is) put

-- and it has not failed
has_not_failed : (text : List ℕ) → HasFailed (all_of text) → ⊥
has_not_failed text rose = either rose (λ e. omega (arith, e)) (λ e. cc)

may_write : (asked : Option Asked) (image probes : Outside) (a : Answer) (came : CameOf asked image probes a) → MayWrite asked image probes came.told a.text
may_write asked image probes a came =
    elim (cases_eq a.status 5) [
      | inl five ↦
          either (came.read_fault five)
          (λ f. inr (inl (f.0, f.1, same_text a.text _ f.2)))
          (λ f. inr (inr (inl (f.0.0, subst (λ (t : List ℕ). StopsWith read_fault_line asked came.told t) (sym (same_text a.text f.3.0 f.3.2)) f.3.1))))
      | inr not_five ↦
          elim (cases_eq a.status 7) [
            | inl seven ↦
                let m = came.memory seven in
                inr (inr (inr (subst (λ (t : List ℕ). StopsWith memory_line asked came.told t) (sym (same_text a.text m.0 m.2)) m.1)))
            | inr not_seven ↦
                inl (where_map asked image.before probes.before
                (λ i b. (text : List ℕ) × IsGiven (all_of a.text) text × IsAnswer asked i b (answer a.status text))
                (λ i b. (status : ℕ) × IsAnswer asked i b (answer status a.text))
                (came.whole not_five (λ six. has_not_failed a.text (came.write_fault six)) not_seven)
                (λ i b said. (a.status, subst (λ (t : List ℕ). IsAnswer asked i b (answer a.status t)) (sym (same_text a.text said.0 said.1)) said.2)))
          ]
    ]

not_six : {status : ℕ} → (status ≡ 4) ⊎ (status ≡ 8) → status ≢ 6
not_six refused = λ six. either refused (λ e. cc) (λ e. cc)

pub ran_of_reply : (asked : Option Asked) (image probes out : Outside) (a : Answer) (status : ℕ)
    → CameOf asked image probes a → IsPut a out status → Ran asked image probes out status
ran_of_reply asked image probes out a status came put = record {
  told = came.told;
  are_told = came.are_told;
  whole = λ five six seven.
      let w = put.whole six in
      where_map asked image.before probes.before
      (λ i b. (text : List ℕ) × IsGiven (all_of a.text) text × IsAnswer asked i b (answer a.status text))
      (λ i b. (text : List ℕ) × IsGiven out text × IsAnswer asked i b (answer status text))
      (came.whole (λ e. five (w.0 ∙ e)) (λ e. six (w.0 ∙ e)) (λ e. seven (w.0 ∙ e)))
      (λ i b said. (said.0, to_given out a.text said.0 said.1 w.1, subst (λ (n : ℕ). IsAnswer asked i b (answer n said.0)) (sym w.0) said.2));
  usage = λ two.
      let w = put.whole (λ e. cc) in
      let u = came.usage (sym w.0 ∙ two) in
      (u.0, to_given out a.text _ u.1 w.1);
  usage_comes = λ none six seven.
      let w = put.whole six in
      w.0 ∙ came.usage_comes none (λ e. six (w.0 ∙ e)) (λ e. seven (w.0 ∙ e));
  too_long = λ three.
      let w = put.whole (λ e. cc) in
      let t = came.too_long (sym w.0 ∙ three) in
      (t.0, t.1, to_given out a.text _ t.2 w.1);
  too_long_comes = λ asks long calm six seven.
      let w = put.whole six in
      w.0 ∙ came.too_long_comes asks long calm (λ e. six (w.0 ∙ e)) (λ e. seven (w.0 ∙ e));
  malformed = λ four. let w = put.whole (λ e. cc) in came.malformed (sym w.0 ∙ four);
  limit = λ eight. let w = put.whole (λ e. cc) in came.limit (sym w.0 ∙ eight);
  refused_comes = λ r asks found three five six seven.
      let w = put.whole six in
      w.0 ∙ came.refused_comes r asks found (λ e. three (w.0 ∙ e)) (λ e. five (w.0 ∙ e)) (λ e. six (w.0 ∙ e)) (λ e. seven (w.0 ∙ e));
  refused_line = λ asks refused.
      let w = put.whole (not_six refused) in
      let l = came.refused_line asks (subst (λ (n : ℕ). (n ≡ 4) ⊎ (n ≡ 8)) w.0 refused) in (
        l.0,
        subst (λ (n : ℕ). IfSome came.told (λ answers. (r : Refusal) × IsRefused answers r × (answer n l.0 ≡ refusal_answer r))) (sym w.0) l.1,
        to_given out a.text l.0 l.2 w.1,
      );
  read_fault = λ five.
      let w = put.whole (λ e. cc) in
      either (came.read_fault (sym w.0 ∙ five))
      (λ f. inl (f.0, f.1, to_given out a.text _ f.2 w.1))
      (λ f. inr (f.0, f.1, f.2, (f.3.0, f.3.1, to_given out a.text f.3.0 f.3.2 w.1)));
  memory = λ seven.
      let w = put.whole (λ e. cc) in
      let m = came.memory (sym w.0 ∙ seven) in
      (m.0, m.1, to_given out a.text m.0 m.2 w.1);
  write_fault = λ six. (put.fault six).0;
  write_fault_front = λ six. (a.text, may_write asked image probes a came, (put.fault six).1);
}

-- ---- the replies

-- the answer as it is given to such a sink
abbrev Said : Asked → Answer → List ℕ → List ℕ → Type 0
Said asked a i b = (text : List ℕ) × IsGiven (all_of a.text) text × IsAnswer (Some asked) i b (answer a.status text)

asks_nothing : (asked : Option Asked) (P : Asked → Type 0) → asked ≡ None → IsSomeAnd asked P → ⊥
asks_nothing None P none asks = asks
asks_nothing (Some q) P none asks = cc

pub of_usage : (asked : Option Asked) (image probes : Outside) → asked ≡ None → CameOf asked image probes usage_answer
of_usage asked image probes none = record {
  told = option_map answers_of probes.before;
  are_told = are_told probes.before;
  whole = λ _ _ _.
      subst (λ (q : Option Asked). WhereTold q image.before probes.before (λ i b. (text : List ℕ) × IsGiven (all_of usage_answer.text) text × IsAnswer q i b (answer 2 text)))
      (sym none) (λ i b. (usage_answer.text, refl, usage_is_answer i b));
  usage = λ _. (none, refl);
  usage_comes = λ _ _ _. refl;
  too_long = λ e. cc;
  too_long_comes = λ asks. absurd (asks_nothing asked _ none asks);
  malformed = λ e. cc;
  limit = λ e. cc;
  refused_comes = λ r asks. absurd (asks_nothing asked _ none asks);
  refused_line = λ asks. absurd (asks_nothing asked _ none asks);
  read_fault = λ e. cc;
  memory = λ e. cc;
  write_fault = λ e. cc;
  write_fault_front = λ e. cc;
}

pub of_memory : (asked : Option Asked) (image probes : Outside) → CameOf asked image probes memory_answer
of_memory asked image probes = record {
  told = option_map answers_of probes.before;
  are_told = are_told probes.before;
  whole = λ _ _ seven. absurd (seven refl);
  usage = λ e. cc;
  usage_comes = λ _ _ seven. absurd (seven refl);
  too_long = λ e. cc;
  too_long_comes = λ asks long calm six seven. absurd (seven refl);
  malformed = λ e. cc;
  limit = λ e. cc;
  refused_comes = λ r asks found three five six seven. absurd (seven refl);
  refused_line = λ asks refused. absurd (either refused (λ e. cc) (λ e. cc));
  read_fault = λ e. cc;
  memory = λ _. (memory_line, inl refl, refl);
  write_fault = λ e. cc;
  write_fault_front = λ e. cc;
}

pub of_image_fault : (asked : Asked) (image probes : Outside) → JudgesFile asked.task → HasFailed image
    → CameOf (Some asked) image probes image_fault_answer
of_image_fault asked image probes judges failed = record {
  told = option_map answers_of probes.before;
  are_told = are_told probes.before;
  whole = λ five. absurd (five refl);
  usage = λ e. cc;
  usage_comes = λ none. cc;
  too_long = λ e. cc;
  too_long_comes = λ asks long calm. absurd (calm failed);
  malformed = λ e. cc;
  limit = λ e. cc;
  refused_comes = λ r asks found three five. absurd (five refl);
  refused_line = λ asks refused. absurd (either refused (λ e. cc) (λ e. cc));
  read_fault = λ _. inl (failed, judges.image_first, refl);
  memory = λ e. cc;
  write_fault = λ e. cc;
  write_fault_front = λ e. cc;
}

-- an image that was not loaded is too long
long : (bytes : List ℕ) → (let x : Result (List ℕ) ImageRefusal = Err image_refusal.TooLong in x ≡ loaded bytes) → IsTooLong bytes
long bytes e = by_length (nat_le (length bytes) 16777216) refl
  where
    by_length : (t : Bool) → nat_le (length bytes) 16777216 ≡ t → IsTooLong bytes
    by_length t is = grind arith

-- one that was loaded is not
fitting : (bytes i : List ℕ) → (let x : Result (List ℕ) ImageRefusal = Ok i in x ≡ loaded bytes) → bytes ≡ i
fitting bytes i e = grind arith

pub of_too_long : (asked : Asked) (image probes : Outside) → JudgesFile asked.task
    → IfSome image.before (λ bytes. let x : Result (List ℕ) ImageRefusal = Err image_refusal.TooLong in x ≡ loaded bytes)
    → CameOf (Some asked) image probes too_long_answer
of_too_long asked image probes judges refused = record {
  told = option_map answers_of probes.before;
  are_told = are_told probes.before;
  whole = λ _ _ _. where_judged asked image.before probes.before (Said asked too_long_answer) judges
      (some_map image.before _ _ refused (λ i e. every i (long i e)));
  usage = λ e. cc;
  usage_comes = λ none. cc;
  too_long = λ _. (judges.image_first, some_map image.before _ _ refused (λ i e. long i e), refl);
  too_long_comes = λ _ _ _ _ _. refl;
  malformed = λ e. cc;
  limit = λ e. cc;
  refused_comes = λ r asks found three. absurd (three refl);
  refused_line = λ asks refused. absurd (either refused (λ e. cc) (λ e. cc));
  read_fault = λ e. cc;
  memory = λ e. cc;
  write_fault = λ e. cc;
  write_fault_front = λ e. cc;
}
  where
    every : (i : List ℕ) → IsTooLong i → IfSome probes.before (λ b. Said asked too_long_answer i b)
    every i l = at probes.before
      where
        at : (o : Option (List ℕ)) → IfSome o (λ b. Said asked too_long_answer i b)
        at None = tt
        at (Some b) = (too_long_answer.text, refl, too_long_is_answer asked i b judges l)

-- a load that was refused
abbrev pub refused_load : ImageRefusal → Result (List ℕ) ImageRefusal
refused_load r = Err r

pub of_image_refusal : (asked : Asked) (image probes : Outside) (r : ImageRefusal) (a : Answer) → JudgesFile asked.task → a ≡ image_answer r
    → (refused_load r ≡ refused_load image_refusal.ReadFault → HasFailed image)
    → (refused_load r ≢ refused_load image_refusal.ReadFault → refused_load r ≢ refused_load image_refusal.OutOfMemory
    → IfSome image.before (λ bytes. refused_load r ≡ loaded bytes))
    → CameOf (Some asked) image probes a
of_image_refusal asked image probes r a judges is fault answers =
    subst (λ (x : Answer). CameOf (Some asked) image probes x) (sym is) (by r fault answers)
  where
    by : (r : ImageRefusal) → (refused_load r ≡ refused_load image_refusal.ReadFault → HasFailed image)
        → (refused_load r ≢ refused_load image_refusal.ReadFault → refused_load r ≢ refused_load image_refusal.OutOfMemory
        → IfSome image.before (λ bytes. refused_load r ≡ loaded bytes))
        → CameOf (Some asked) image probes (image_answer r)
    by image_refusal.TooLong fault answers = of_too_long asked image probes judges (answers (λ e. cc) (λ e. cc))
    by image_refusal.ReadFault fault answers = of_image_fault asked image probes judges (fault refl)
    by image_refusal.OutOfMemory fault answers = of_memory (Some asked) image probes

-- ---- the reply to an image that was loaded

one_refusal : (told : Option (List Next)) (r s : Refusal) → IfSome told (λ answers. IsRefused answers r) → IsSomeAnd told (λ answers. IsRefused answers s) → r ≡ s
one_refusal None r s told found = absurd found
one_refusal (Some answers) r s told found = let e = sym told ∙ found in cc

no_refusal : (told : Option (List Next)) (i : List ℕ) (sources : Bool) (a : Answer) (s : Refusal) → IfSome told (λ answers. IsReport i answers sources a)
    → IsSomeAnd told (λ answers. IsRefused answers s) → ⊥
no_refusal None i sources a s told found = absurd found
no_refusal (Some answers) i sources a s told found = let e = sym (reported_is_whole i answers sources a told) ∙ found in cc

is_not_longer : (i : List ℕ) (image : Option (List ℕ)) → Fits i → IfSome image (λ bytes. bytes ≡ i) → IsSomeAnd image IsTooLong → ⊥
is_not_longer i None fits known longer = absurd longer
is_not_longer i (Some bytes) fits known longer = omega (arith, fits, longer, ap length known)

also_fits : (i : List ℕ) (image : Option (List ℕ)) → Fits i → IfSome image (λ bytes. bytes ≡ i) → IfSome image Fits
also_fits i image fits known = some_map image (λ bytes. bytes ≡ i) Fits known (λ bytes same. subst (λ (z : List ℕ). Fits z) (sym same) fits)

not_five : {status : ℕ} → (status ≡ 4) ⊎ (status ≡ 8) → status ≢ 5
not_five refused = λ five. either refused (λ e. cc) (λ e. cc)

not_seven : {status : ℕ} → (status ≡ 4) ⊎ (status ≡ 8) → status ≢ 7
not_seven refused = λ seven. either refused (λ e. cc) (λ e. cc)

of_refusal : (asked : Asked) (i : List ℕ) (image probes : Outside) (told : Option (List Next)) (r : Refusal) (line : List ℕ) → JudgesFile asked.task
    → Fits i → IfSome image.before (λ bytes. bytes ≡ i) → AreToldOf probes.before told
    → line ≡ refusal_line r → (r ≡ ReadFault → HasFailedOpen probes) → (r ≢ ReadFault → r ≢ OutOfMemory → IfSome told (λ answers. IsRefused answers r))
    → CameOf (Some asked) image probes (answer (refusal_status r) line)
of_refusal asked i image probes told r line judges fits known tells written fault is = record {
  told = told;
  are_told = tells;
  whole = λ five six seven. where_judged asked image.before probes.before (Said asked (answer (refusal_status r) line)) judges
      (both_told image.before probes.before (λ bytes. bytes ≡ i) (λ b. (answers : List Next) × AreAnswers b answers × IsRefused answers r) (Said asked (answer (refusal_status r) line)) known
      (of_told probes.before told (λ answers. IsRefused answers r) (λ b. (answers : List Next) × AreAnswers b answers × IsRefused answers r) tells
      (is (λ e. five (ap refusal_status e)) (λ e. seven (ap refusal_status e))) (λ b answers are refused. (answers, are, refused)))
      (λ bytes b same found. (line, refl, refused_is_answer asked bytes b found.0 r line judges (subst (λ (z : List ℕ). Fits z) (sym same) fits) found.1 written found.2)));
  usage = λ two. absurd (omega (arith, refusal_is_great r, two));
  usage_comes = λ none. cc;
  too_long = λ three. absurd (omega (arith, refusal_is_great r, three));
  too_long_comes = λ asks longer. absurd (is_not_longer i image.before fits known longer);
  malformed = λ four.
      let m = at_4 r four in
      (judges.file, some_map told _ _ (is (λ e. cc) (λ e. cc)) (λ answers found. (m.0, subst (λ (x : Refusal). IsRefused answers x) m.1 found)));
  limit = λ eight.
      let m = at_8 r eight in
      (judges.file, some_map told _ _ (is (λ e. cc) (λ e. cc)) (λ answers found. (m.0, m.1, subst (λ (x : Refusal). IsRefused answers x) m.2 found)));
  refused_comes = λ s asks found three five six seven.
      ap refusal_status (one_refusal told r s (is (λ e. five (ap refusal_status e)) (λ e. seven (ap refusal_status e))) found);
  refused_line = λ asks refused. (
    line,
    some_map told _ _ (is (λ e. not_five refused (ap refusal_status e)) (λ e. not_seven refused (ap refusal_status e)))
        (λ answers found. (r, found, ap (λ t. answer (refusal_status r) t) written)),
    refl,
  );
  read_fault = λ five.
      let e = at_5 r five in
      inr (fault e, judges.file, (λ _. also_fits i image.before fits known), (line, inl (written ∙ ap refusal_line e), refl));
  memory = λ seven. (line, inl (written ∙ ap refusal_line (at_7 r seven)), refl);
  write_fault = λ six. absurd (is_not_6 r six);
  write_fault_front = λ six. absurd (is_not_6 r six);
}

of_report : (asked : Asked) (i : List ℕ) (image probes : Outside) (told : Option (List Next)) (v : Verdict) (text : List ℕ) → JudgesFile asked.task
    → Fits i → IfSome image.before (λ bytes. bytes ≡ i) → AreToldOf probes.before told
    → IfSome told (λ answers. IsReport i answers asked.sources (answer (verdict_status v) text))
    → CameOf (Some asked) image probes (answer (verdict_status v) text)
of_report asked i image probes told v text judges fits known tells is = record {
  told = told;
  are_told = tells;
  whole = λ _ _ _. where_judged asked image.before probes.before (Said asked (answer (verdict_status v) text)) judges
      (both_told image.before probes.before (λ bytes. bytes ≡ i) (λ b. (answers : List Next) × AreAnswers b answers × IsReport i answers asked.sources (answer (verdict_status v) text))
      (Said asked (answer (verdict_status v) text)) known
      (of_told probes.before told (λ answers. IsReport i answers asked.sources (answer (verdict_status v) text))
      (λ b. (answers : List Next) × AreAnswers b answers × IsReport i answers asked.sources (answer (verdict_status v) text)) tells is (λ b answers are said. (answers, are, said)))
      (λ bytes b same found. (
        text,
        refl,
        report_is_answer asked bytes b found.0 (answer (verdict_status v) text) judges (subst (λ (z : List ℕ). Fits z) (sym same) fits) found.1
            (subst (λ (z : List ℕ). IsReport z found.0 asked.sources (answer (verdict_status v) text)) (sym same) found.2),
      )));
  usage = λ e. absurd (omega (arith, verdict_is_small v, e));
  usage_comes = λ none. cc;
  too_long = λ e. absurd (omega (arith, verdict_is_small v, e));
  too_long_comes = λ asks longer. absurd (is_not_longer i image.before fits known longer);
  malformed = λ e. absurd (omega (arith, verdict_is_small v, e));
  limit = λ e. absurd (omega (arith, verdict_is_small v, e));
  refused_comes = λ s asks found. absurd (no_refusal told i asked.sources (answer (verdict_status v) text) s is found);
  refused_line = λ asks refused. absurd (either refused (λ e. omega (arith, verdict_is_small v, e)) (λ e. omega (arith, verdict_is_small v, e)));
  read_fault = λ e. absurd (omega (arith, verdict_is_small v, e));
  memory = λ e. absurd (omega (arith, verdict_is_small v, e));
  write_fault = λ e. absurd (omega (arith, verdict_is_small v, e));
  write_fault_front = λ e. absurd (omega (arith, verdict_is_small v, e));
}

of_known : (asked : Asked) (i : List ℕ) (image probes : Outside) (told : Option (List Next)) (r : Reply) → JudgesFile asked.task
    → Fits i → IfSome image.before (λ bytes. bytes ≡ i) → AreToldOf probes.before told
    → IsStreamReply i asked.sources told probes r → CameOf (Some asked) image probes (answer_by r)
of_known asked i image probes told reply.Usage judges fits known tells said = absurd said
of_known asked i image probes told reply.TooLong judges fits known tells said = absurd said
of_known asked i image probes told reply.ReadFaultImage judges fits known tells said = absurd said
of_known asked i image probes told (reply.Refused r line) judges fits known tells said =
    of_refusal asked i image probes told r (string_bytes line) judges fits known tells said.0 said.1 said.2
of_known asked i image probes told (reply.Report v text) judges fits known tells said =
    of_report asked i image probes told v text judges fits known tells said
of_known asked i image probes told reply.OutOfMemory judges fits known tells said = of_memory (Some asked) image probes

pub of_pass : (asked : Asked) (i : List ℕ) (image probes : Outside) (sources : Bool) (r : Reply) → JudgesFile asked.task → asked.sources ≡ sources
    → Fits i → IfSome image.before (λ bytes. let x : Result (List ℕ) ImageRefusal = Ok i in x ≡ loaded bytes)
    → (told : Option (List Next)) × AreToldOf probes.before told × IsStreamReply i sources told probes r
    → CameOf (Some asked) image probes (answer_by r)
of_pass asked i image probes sources r judges wants fits loads said =
    of_known asked i image probes said.0 r judges fits (some_map image.before _ _ loads (λ bytes e. fitting bytes i e)) said.1
    (subst (λ (s : Bool). IsStreamReply i s said.0 probes r) (sym wants) said.2)

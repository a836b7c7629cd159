-- What a task that reads a probe file of any form comes to.
use Rattle.std.proofs.Common.{◌≡◌, ◌≢◌, ◌⊎◌, ℕ, List, [], ◌∷◌, Option, Some, None, IfSome, IsSomeAnd, true, refl, sym, ap, ◌∙◌, subst, inl, inr}
use Rattle.std.proofs.lemmas.Option.{same_Some}
use Rattle.dt_source.specs.Faults.{Rose}
use Rattle.dt_record.specs.declared.writes.What.{What}
use Rattle.dt_record.specs.declared.streams.Next.{Next}
use Rattle.dt_record.specs.declared.streams.Next.TheVariants.{Header, Event, End, Malformed, Limit, ReadFault, OutOfMemory}
use Rattle.dt_record.specs.Answers.{AreAnswers}
use Rattle.dt_record.specs.Spelling.{Version}
use Rattle.dt_probe_file.specs.OpenFronts.{HasOpenFront}
use Rattle.dt_probe_file.specs.Told.{AreToldOf}
use Rattle.dt_dump.specs.Dump.{IsCutShort, dump_text, last_status, memory_line, read_fault_line, stream_status}
use Rattle.dt_convert.specs.Convert.{converted}
use Rattle.dt_verdict.specs.declared.answers.Refusal.{Refusal}
use Rattle.dt_verdict.specs.declared.answers.Refusal.TheVariants as refusal
use Rattle.dt_words.specs.declared.commands.Task.{Task}
use Rattle.dt_words.specs.declared.commands.Task.TheVariants.{Dump, Convert}
use Rattle.dt_words.specs.Table.{Asked}
use Rattle.dt_reading.specs.Reading.{refusal_in}
use Rattle.dt_top.specs.Answer.{answer, refusal_status, version_named, IsAnswer, IsRefused}
use Rattle.dt_top.specs.Running.{Outside, HasFailed, IsGiven, IsGivenFront, Ran, StopsWith}
use Rattle.dt_top.specs.Tasks.{prints_report}
use Rattle.dt_top.proofs.Checking.{IsLentTo}
use Rattle.dt_top.proofs.Tasks.{convert_alone, dump_alone, dump_is_not_convert, either, no_image_first, of_told, where_alone, ReadsFileAlone}

-- what the run of a stream says of itself, whatever its text is
pub record Streamed (told : Option (List Next)) (last_answer : Option Next) (text_of : List Next → List ℕ) (cut : List ℕ → Option (List Next) → List ℕ → Type 0)
    (faults_old faults_new : ℕ) (out : Outside) (status : ℕ) : Type 0 where
  pub whole : status ≢ 5 → status ≢ 6 → status ≢ 7 → IfSome told (λ answers. (status ≡ stream_status answers) × IsGiven out (text_of answers))
  pub ended : status ≢ 6 → status ≢ 7 → IsSomeAnd last_answer (λ last. status ≡ last_status last)
  pub read_fault : status ≡ 5 → Rose faults_old faults_new
  pub read_fault_text : status ≡ 5 → (text : List ℕ) × cut read_fault_line told text × IsGiven out text
  pub memory : status ≡ 7 → (text : List ℕ) × cut memory_line told text × IsGiven out text
  pub write_fault : status ≡ 6 → HasFailed out
  pub write_fault_front : status ≡ 6 → (text : List ℕ)
      × (IfSome told (λ answers. text ≡ text_of answers) ⊎ ((Rose faults_old faults_new × cut read_fault_line told text) ⊎ cut memory_line told text))
      × IsGivenFront out text

-- what the words of such a task mean
pub record IsFileTask (asked : Asked) (text_of : List Next → List ℕ) (cut : List ℕ → Option (List Next) → List ℕ → Type 0) : Type 0 where
  pub alone : ReadsFileAlone asked.task
  pub is_answer : (i b : List ℕ) (answers : List Next) (status : ℕ) (text : List ℕ) → AreAnswers b answers
      → status ≡ stream_status answers → text ≡ text_of answers → IsAnswer (Some asked) i b (answer status text)
  pub stops : (line text : List ℕ) (told : Option (List Next)) → cut line told text → StopsWith line (Some asked) told text

-- ---- statuses

pub last_is_not_2 : (last : Next) → last_status last ≢ 2
last_is_not_2 (Header harts wide) = λ e. cc
last_is_not_2 (Event r) = λ e. cc
last_is_not_2 (End count) = λ e. cc
last_is_not_2 (Malformed offset) = λ e. cc
last_is_not_2 (Limit what number) = λ e. cc
last_is_not_2 ReadFault = λ e. cc
last_is_not_2 OutOfMemory = λ e. cc

pub last_is_not_3 : (last : Next) → last_status last ≢ 3
last_is_not_3 (Header harts wide) = λ e. cc
last_is_not_3 (Event r) = λ e. cc
last_is_not_3 (End count) = λ e. cc
last_is_not_3 (Malformed offset) = λ e. cc
last_is_not_3 (Limit what number) = λ e. cc
last_is_not_3 ReadFault = λ e. cc
last_is_not_3 OutOfMemory = λ e. cc

not_status : (ended : Option Next) (status n : ℕ) → ((last : Next) → last_status last ≢ n) → IsSomeAnd ended (λ last. status ≡ last_status last) → status ≢ n
not_status None status n differs h e = absurd h
not_status (Some last) status n differs h e = differs last (sym h ∙ e)

-- the status of a file's end names why the file was not read to its end

malformed_end : (answers : List Next) → stream_status answers ≡ 4 → (offset : ℕ) × (refusal_in answers ≡ Some (refusal.Malformed offset))
malformed_end [] e = cc
malformed_end (Header harts wide ∷ rest) e = malformed_end rest e
malformed_end (Event r ∷ rest) e = malformed_end rest e
malformed_end (End count ∷ rest) e = cc
malformed_end (Malformed offset ∷ rest) e = (offset, refl)
malformed_end (Limit what number ∷ rest) e = cc
malformed_end (ReadFault ∷ rest) e = cc
malformed_end (OutOfMemory ∷ rest) e = cc

limit_end : (answers : List Next) → stream_status answers ≡ 8 → (what : What) × (number : ℕ) × (refusal_in answers ≡ Some (refusal.Limit what number))
limit_end [] e = cc
limit_end (Header harts wide ∷ rest) e = limit_end rest e
limit_end (Event r ∷ rest) e = limit_end rest e
limit_end (End count ∷ rest) e = cc
limit_end (Malformed offset ∷ rest) e = cc
limit_end (Limit what number ∷ rest) e = (what, number, refl)
limit_end (ReadFault ∷ rest) e = cc
limit_end (OutOfMemory ∷ rest) e = cc

refused_end : (answers : List Next) (r : Refusal) → refusal_in answers ≡ Some r → stream_status answers ≡ refusal_status r
refused_end [] r e = cc
refused_end (Header harts wide ∷ rest) r e = refused_end rest r e
refused_end (Event q ∷ rest) r e = refused_end rest r e
refused_end (End count ∷ rest) r e = cc
refused_end (Malformed offset ∷ rest) r e = ap refusal_status (same_Some (refusal.Malformed offset) r e)
refused_end (Limit what number ∷ rest) r e = ap refusal_status (same_Some (refusal.Limit what number) r e)
refused_end (ReadFault ∷ rest) r e = ap refusal_status (same_Some refusal.ReadFault r e)
refused_end (OutOfMemory ∷ rest) r e = ap refusal_status (same_Some refusal.OutOfMemory r e)

refused_told : (told : Option (List Next)) (P : List Next → Type 0) (status : ℕ) (r : Refusal) → IfSome told (λ answers. (status ≡ stream_status answers) × P answers)
    → IsSomeAnd told (λ answers. IsRefused answers r) → status ≡ refusal_status r
refused_told None P status r told found = absurd found
refused_told (Some answers) P status r told found = told.0 ∙ refused_end answers r found

told_map : (told : Option (List Next)) (P Q : List Next → Type 0) → IfSome told P → ((answers : List Next) → P answers → Q answers) → IfSome told Q
told_map None P Q h go = tt
told_map (Some answers) P Q h go = go answers h

no_report : (task : Task) → ReadsFileAlone task → prints_report task ≡ true → ⊥
no_report task alone report = let e = sym alone.no_report ∙ report in cc

-- ---- the run

pub ran_of_stream : (asked : Asked) (image probes out : Outside) (told : Option (List Next)) (status : ℕ)
    (ended : Option Next) (text_of : List Next → List ℕ) (cut : List ℕ → Option (List Next) → List ℕ → Type 0) → IsFileTask asked text_of cut
    → AreToldOf probes.before told → Streamed told ended text_of cut probes.faults_before probes.faults_after out status
    → (status ≡ 5 → HasOpenFront probes.before probes.after) → Ran (Some asked) image probes out status
ran_of_stream asked image probes out told status ended text_of cut task tells s needed = record {
  told = told;
  are_told = tells;
  whole = λ five six seven. where_alone asked image.before probes.before (λ i b. (text : List ℕ) × IsGiven out text × IsAnswer (Some asked) i b (answer status text)) task.alone (λ i.
      of_told probes.before told (λ answers. (status ≡ stream_status answers) × IsGiven out (text_of answers)) (λ b. (text : List ℕ) × IsGiven out text × IsAnswer (Some asked) i b (answer status text)) tells
      (s.whole five six seven) (λ b answers are h. (text_of answers, h.1, task.is_answer i b answers status (text_of answers) are h.0 refl)));
  usage = λ two. absurd (not_status ended status 2 last_is_not_2 (s.ended (λ e. cc) (λ e. cc)) two);
  usage_comes = λ none. cc;
  too_long = λ three. absurd (not_status ended status 3 last_is_not_3 (s.ended (λ e. cc) (λ e. cc)) three);
  too_long_comes = λ asks. absurd (no_image_first task.alone.no_image asks);
  malformed = λ four. (
    task.alone.file,
    told_map told _ _ (s.whole (λ e. cc) (λ e. cc) (λ e. cc)) (λ answers h. malformed_end answers (sym h.0 ∙ four)),
  );
  limit = λ eight. (
    task.alone.file,
    told_map told _ _ (s.whole (λ e. cc) (λ e. cc) (λ e. cc)) (λ answers h. limit_end answers (sym h.0 ∙ eight)),
  );
  refused_comes = λ r asks found three five six seven.
      refused_told told (λ answers. IsGiven out (text_of answers)) status r (s.whole five six seven) found;
  refused_line = λ asks. absurd (no_report asked.task task.alone asks);
  read_fault = λ five.
      let text = s.read_fault_text five in
      inr ((s.read_fault five, needed five), task.alone.file, (λ asks. absurd (no_image_first task.alone.no_image asks)), (text.0, task.stops read_fault_line text.0 told text.1, text.2));
  memory = λ seven.
      let text = s.memory seven in
      (text.0, task.stops memory_line text.0 told text.1, text.2);
  write_fault = s.write_fault;
  write_fault_front = λ six.
      let front = s.write_fault_front six in (
        front.0,
        either front.1
            (λ all. inl (where_alone asked image.before probes.before (λ i b. (status : ℕ) × IsAnswer (Some asked) i b (answer status front.0)) task.alone (λ i.
            of_told probes.before told (λ answers. front.0 ≡ text_of answers) (λ b. (status : ℕ) × IsAnswer (Some asked) i b (answer status front.0)) tells all
            (λ b answers are is. (stream_status answers, task.is_answer i b answers (stream_status answers) front.0 are refl is)))))
            (λ other. either other
            (λ fault. inr (inr (inl (fault.0, task.stops read_fault_line front.0 told fault.1))))
            (λ cut. inr (inr (inr (task.stops memory_line front.0 told cut))))),
        front.2,
      );
}

-- ---- the two tasks

abbrev pub dump_cut : List ℕ → Option (List Next) → List ℕ → Type 0
dump_cut line told text = IsCutShort told line text

abbrev pub convert_cut : List ℕ → Option (List Next) → List ℕ → Type 0
convert_cut line told text = text ≡ line

same_answer : (status text_status : ℕ) (text other : List ℕ) → status ≡ text_status → text ≡ other → answer status text ≡ answer text_status other
same_answer status text_status text other a b = ap (λ n. answer n text) a ∙ ap (λ z. answer text_status z) b

pub dump_task : (asked : Asked) → asked.task ≡ Dump → IsFileTask asked dump_text dump_cut
dump_task asked is = record {
  alone = dump_alone asked.task is;
  is_answer = λ i b answers status text are a t. record {
    answers = answers;
    are_answers = are;
    usage = λ none. cc;
    too_long = λ other. absurd (no_image_first (dump_alone asked.task is).no_image other);
    refused = λ r other. absurd (no_report asked.task (dump_alone asked.task is) other);
    report = λ sources other. absurd (no_report asked.task (dump_alone asked.task is) other.0);
    dump = λ _. same_answer status _ text _ a t;
    convert = λ to other. absurd (dump_is_not_convert asked.task is other.0);
  };
  stops = λ line text told h. inr (is, h);
}

pub convert_task : (asked : Asked) → asked.task ≡ Convert → IsFileTask asked (converted (version_named asked.to)) convert_cut
convert_task asked is = record {
  alone = convert_alone asked.task is;
  is_answer = λ i b answers status text are a t. record {
    answers = answers;
    are_answers = are;
    usage = λ none. cc;
    too_long = λ other. absurd (no_image_first (convert_alone asked.task is).no_image other);
    refused = λ r other. absurd (no_report asked.task (convert_alone asked.task is) other);
    report = λ sources other. absurd (no_report asked.task (convert_alone asked.task is) other.0);
    dump = λ other. absurd (dump_is_not_convert asked.task other is);
    convert = λ to other. same_answer status _ text _ a (t ∙ ap (λ n. converted (version_named n) answers) other.1);
  };
  stops = λ line text told h. inl h;
}

-- ---- a stream over a source that was lent

-- the stream is one of the source, which was lent before and was given back after
pub stream_ran : (asked : Asked) (image probes out : Outside) (own_old own_new : ℕ) (left : Option (List ℕ)) (status : ℕ) (told : Option (List Next)) (last_answer : Option Next)
    (text_of : List Next → List ℕ) (cut : List ℕ → Option (List Next) → List ℕ → Type 0) → IsFileTask asked text_of cut
    → AreToldOf probes.before told → IsLentTo probes own_old own_new left
    → Streamed told last_answer text_of cut own_old own_new out status → (status ≡ 5 → HasOpenFront probes.before left)
    → Ran (Some asked) image probes out status
stream_ran asked image probes out own_old own_new left status told last_answer text_of cut task tells lent s needed =
    ran_of_stream asked image probes out told status last_answer text_of cut task tells
    (subst (λ (n : ℕ). Streamed told last_answer text_of cut n probes.faults_after out status) lent.first
    (subst (λ (n : ℕ). Streamed told last_answer text_of cut own_old n out status) (sym lent.last) s))
    (λ five. subst (λ (after : Option (List ℕ)). HasOpenFront probes.before after) (sym lent.left_is) (needed five))

pub dump_ran : (asked : Asked) (image probes out : Outside) (own_old own_new : ℕ) (left : Option (List ℕ)) (status : ℕ) (told : Option (List Next)) (last_answer : Option Next)
    → asked.task ≡ Dump → AreToldOf probes.before told → IsLentTo probes own_old own_new left
    → Streamed told last_answer dump_text dump_cut own_old own_new out status → (status ≡ 5 → HasOpenFront probes.before left)
    → Ran (Some asked) image probes out status
dump_ran asked image probes out own_old own_new left status told last_answer is =
    stream_ran asked image probes out own_old own_new left status told last_answer dump_text dump_cut (dump_task asked is)

pub convert_ran : (asked : Asked) (image probes out : Outside) (own_old own_new : ℕ) (left : Option (List ℕ)) (status : ℕ) (told : Option (List Next)) (last_answer : Option Next)
    (version : Version) → asked.task ≡ Convert → version ≡ version_named asked.to → AreToldOf probes.before told → IsLentTo probes own_old own_new left
    → Streamed told last_answer (converted version) convert_cut own_old own_new out status → (status ≡ 5 → HasOpenFront probes.before left)
    → Ran (Some asked) image probes out status
convert_ran asked image probes out own_old own_new left status told last_answer version is named tells lent s =
    stream_ran asked image probes out own_old own_new left status told last_answer (converted (version_named asked.to)) convert_cut (convert_task asked is) tells lent
    (subst (λ (v : Version). Streamed told last_answer (converted v) convert_cut own_old own_new out status) named s)

-- What a top call comes to, of what its words ask for (this project's own).
use Rattle.std.specs.Prelude.{ℕ, ◌≡◌, ◌≢◌, ◌⊎◌, List, Option, None, IfSome, IsSomeAnd}
use Rattle.dt_source.specs.Faults.{Rose}
use Rattle.dt_source.specs.Known.{Appends}
use Rattle.dt_record.specs.declared.streams.Next.{Next}
use Rattle.dt_probe_file.specs.OpenFronts.{HasOpenFront}
use Rattle.dt_probe_file.specs.Told.{AreToldOf}
use Rattle.dt_dump.specs.Dump.{AppendsPart, IsCutShort, memory_line, read_fault_line}
use Rattle.dt_verdict.specs.declared.answers.Refusal.{Refusal}
use Rattle.dt_words.specs.declared.commands.Task.TheVariants.{Dump}
use Rattle.dt_words.specs.Table.{Asked}
use Rattle.dt_top.specs.Answer.{answer, usage_answer, too_long_answer, image_fault_answer, refusal_answer, refusal_status, Fits, IsAnswer, IsTooLong, IsRefused, EndsMalformed, EndsAtLimit}
use Rattle.dt_top.specs.Tasks.{AsksFor, AsksToJudge, ReadsImage, ReadsProbes, WhereTold}

-- What is known of a source or a sink before a call and after it: the bytes that it has left or was given, where it tells
-- them, and its count of faults.
pub record Outside : Type 0 where
  pub before : Option (List ℕ)
  pub after : Option (List ℕ)
  pub faults_before : ℕ
  pub faults_after : ℕ

abbrev pub outside : (before after : Option (List ℕ)) (faults_before faults_after : ℕ) → Outside
outside before after faults_before faults_after = record {
  before = before;
  after = after;
  faults_before = faults_before;
  faults_after = faults_after;
}

-- its count of faults rose
abbrev pub HasFailed : Outside → Type 0
HasFailed o = Rose o.faults_before o.faults_after

-- a read of a probe file failed, and the bytes that were read before it leave open which answer comes next
abbrev pub HasFailedOpen : Outside → Type 0
HasFailedOpen o = HasFailed o × HasOpenFront o.before o.after

-- this is what a sink was given
abbrev pub IsGiven : Outside → List ℕ → Type 0
IsGiven out text = Appends out.before text out.after

-- a sink was given a front of this
abbrev pub IsGivenFront : Outside → List ℕ → Type 0
IsGivenFront out text = AppendsPart out.before text out.after

-- the status and what was written are the answer of the whole input, where the sources tell it
abbrev pub AnswersWhole : Option Asked → (image probes out : Outside) → (status : ℕ) → Type 0
AnswersWhole asked image probes out status =
    WhereTold asked image.before probes.before (λ i b. (text : List ℕ) × IsGiven out text × IsAnswer asked i b (answer status text))

-- The line of a read that failed, or of want of memory. `dump` has written whole lines of some of the
-- first records before it, and the other tasks nothing.
abbrev pub StopsWith : List ℕ → Option Asked → (told : Option (List Next)) → List ℕ → Type 0
StopsWith line asked told text = (text ≡ line) ⊎ (AsksFor Dump asked × IsCutShort told line text)

-- A text that may come: that of the whole input, where the sources tell it; or that of a read that
-- failed; or that of want of memory.
abbrev pub MayWrite : Option Asked → (image probes : Outside) → (told : Option (List Next)) → List ℕ → Type 0
MayWrite asked image probes told text =
    WhereTold asked image.before probes.before (λ i b. (status : ℕ) × IsAnswer asked i b (answer status text))
    ⊎ ((HasFailed image × ReadsImage asked × (text ≡ image_fault_answer.text))
    ⊎ ((HasFailed probes × StopsWith read_fault_line asked told text) ⊎ StopsWith memory_line asked told text))

-- A read of the image failed.
abbrev pub StopsAtImage : Option Asked → (image out : Outside) → Type 0
StopsAtImage asked image out = HasFailed image × ReadsImage asked × IsGiven out image_fault_answer.text

-- A read of the probe file failed: then an image that is read before it was not too long, and what was read of the file
-- before does not refuse it.
abbrev pub StopsAtProbes : Option Asked → (image probes out : Outside) → (told : Option (List Next)) → Type 0
StopsAtProbes asked image probes out told =
    HasFailedOpen probes × ReadsProbes asked × (ReadsImage asked → IfSome image.before Fits)
    × ((text : List ℕ) × StopsWith read_fault_line asked told text × IsGiven out text)

-- Each cause of an exit status, and what is written then: of what the words ask of this top call, and of what the two
-- sources and the sink told before the call and after it.
pub record Ran (asked : Option Asked) (image probes out : Outside) (status : ℕ) : Type 0 where
  -- the answers of the stream that is read, where its source tells them
  pub told : Option (List Next)
  pub are_told : AreToldOf probes.before told
  -- whatever failed: another status than those of a fault or of want of memory comes with the answer of the whole input
  pub whole : status ≢ 5 → status ≢ 6 → status ≢ 7 → AnswersWhole asked image probes out status
  pub usage : status ≡ 2 → (asked ≡ None) × IsGiven out usage_answer.text
  pub usage_comes : asked ≡ None → status ≢ 6 → status ≢ 7 → status ≡ 2
  pub too_long : status ≡ 3 → ReadsImage asked × IfSome image.before IsTooLong × IsGiven out too_long_answer.text
  pub too_long_comes : ReadsImage asked → IsSomeAnd image.before IsTooLong → (HasFailed image → ⊥)
      → status ≢ 6 → status ≢ 7 → status ≡ 3
  pub malformed : status ≡ 4 → ReadsProbes asked × IfSome told EndsMalformed
  pub limit : status ≡ 8 → ReadsProbes asked × IfSome told EndsAtLimit
  pub refused_comes : (r : Refusal) → ReadsProbes asked → IsSomeAnd told (λ answers. IsRefused answers r)
      → status ≢ 3 → status ≢ 5 → status ≢ 6 → status ≢ 7 → status ≡ refusal_status r
  pub refused_line : AsksToJudge asked → (status ≡ 4) ⊎ (status ≡ 8)
      → (text : List ℕ) × IfSome told (λ answers. (r : Refusal) × IsRefused answers r × (answer status text ≡ refusal_answer r))
      × IsGiven out text
  pub read_fault : status ≡ 5 → StopsAtImage asked image out ⊎ StopsAtProbes asked image probes out told
  pub memory : status ≡ 7 → (text : List ℕ) × StopsWith memory_line asked told text × IsGiven out text
  pub write_fault : status ≡ 6 → HasFailed out
  -- what is written then is a front of what would have been written
  pub write_fault_front : status ≡ 6 → (text : List ℕ) × MayWrite asked image probes told text × IsGivenFront out text

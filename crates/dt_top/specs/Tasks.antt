-- What the tasks of the program read and write, a row for each, and what words ask of a top call (this project's own).
use Rattle.std.specs.Prelude.{ℕ, ◌≡◌, Bool, true, false, Option, Some, None, IfSome, IsSomeAnd, if◌then◌else◌, List}
use Rattle.dt_words.specs.declared.commands.Task.{Task}
use Rattle.dt_words.specs.declared.commands.Task.TheVariants.{Pass, Check, Dump, Convert}
use Rattle.dt_words.specs.Table.{Asked}

-- what a task reads before anything else
pub data FirstInput : Type 0 where
  -- a memory image
  an_image : FirstInput
  nothing : FirstInput

abbrev pub first_input : Task → FirstInput
first_input Pass = an_image
first_input Check = an_image
first_input Dump = nothing
first_input Convert = nothing

-- whether a task reads a probe file, behind its first input
abbrev pub reads_probes : Task → Bool
reads_probes Pass = true
reads_probes Check = true
reads_probes Dump = true
reads_probes Convert = true

-- whether a task judges the records of a stream, and prints the report
abbrev pub prints_report : Task → Bool
prints_report Pass = true
prints_report Check = true
prints_report Dump = false
prints_report Convert = false

-- whether a task is one of the top call on one thread
abbrev pub is_plain : Task → Bool
is_plain Pass = true
is_plain Check = false
is_plain Dump = true
is_plain Convert = true

-- whether a task is one of the top call that starts threads
abbrev pub is_threaded : Task → Bool
is_threaded Pass = false
is_threaded Check = true
is_threaded Dump = false
is_threaded Convert = false

-- ---- what words ask for

-- what words ask of a top call: what they ask for, where that is a task of its own
abbrev pub asked_among : (is_own : Task → Bool) → Option Asked → Option Asked
asked_among is_own None = None
asked_among is_own (Some asked) = if is_own asked.task then Some asked else None

abbrev pub AsksFor : Task → Option Asked → Type 0
AsksFor task asked = IsSomeAnd asked (λ q. q.task ≡ task)

-- a version to write a probe file in
abbrev pub AsksToConvert : ℕ → Option Asked → Type 0
AsksToConvert to asked = IsSomeAnd asked (λ q. (q.task ≡ Convert) × (q.to ≡ to))

-- a report
abbrev pub AsksToJudge : Option Asked → Type 0
AsksToJudge asked = IsSomeAnd asked (λ q. prints_report q.task ≡ true)

-- a report with the lines of sources, or without
abbrev pub AsksToReport : Bool → Option Asked → Type 0
AsksToReport sources asked = IsSomeAnd asked (λ q. (prints_report q.task ≡ true) × (q.sources ≡ sources))

abbrev pub ReadsImage : Option Asked → Type 0
ReadsImage asked = IsSomeAnd asked (λ q. first_input q.task ≡ an_image)

abbrev pub ReadsProbes : Option Asked → Type 0
ReadsProbes asked = IsSomeAnd asked (λ q. reads_probes q.task ≡ true)

-- ---- what is known where the sources tell what they have

-- a fact of the bytes of an image, where a task reads one and its source tells them; of all bytes where it reads none
abbrev pub WhereFirst : FirstInput → Option (List ℕ) → (List ℕ → Type 0) → Type 0
WhereFirst an_image image P = IfSome image P
WhereFirst nothing image P = (i : List ℕ) → P i

-- the same of the bytes of a probe file
abbrev pub WhereProbes : Bool → Option (List ℕ) → (List ℕ → Type 0) → Type 0
WhereProbes true probes P = IfSome probes P
WhereProbes false probes P = (b : List ℕ) → P b

-- a fact of the bytes of an image and of a probe file, where what the words ask for reads them and their sources tell them
abbrev pub WhereTold : Option Asked → Option (List ℕ) → Option (List ℕ) → (List ℕ → List ℕ → Type 0) → Type 0
WhereTold None image probes P = (i b : List ℕ) → P i b
WhereTold (Some q) image probes P =
    WhereFirst (first_input q.task) image (λ i. WhereProbes (reads_probes q.task) probes (λ b. P i b))

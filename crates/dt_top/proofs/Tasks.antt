-- What is told of what words ask for.
use Rattle.std.proofs.Common.{◌≡◌, ◌⊎◌, ℕ, Bool, true, false, List, Option, Some, None, IfSome, refl, sym, subst, inl, inr}
use Rattle.std.specs.Option.{option_map}
use Rattle.dt_record.specs.declared.streams.Next.{Next}
use Rattle.dt_record.specs.Answers.{AreAnswers}
use Rattle.dt_probe_file.specs.Computing.{answers_of}
use Rattle.dt_probe_file.specs.Told.{AreToldOf}
use Rattle.dt_probe_file.proofs.Exists.{of_are}
use Rattle.dt_words.specs.declared.commands.Task.{Task}
use Rattle.dt_words.specs.declared.commands.Task.TheVariants.{Pass, Check, Dump, Convert}
use Rattle.dt_words.specs.Table.{Asked}
use Rattle.dt_top.specs.Replies.{JudgesFile}
use Rattle.dt_top.specs.Tasks.{FirstInput, an_image, nothing, asked_among, first_input, is_threaded, prints_report, reads_probes, WhereFirst, WhereProbes, WhereTold}

-- a task that reads a probe file alone, and prints no report
pub record ReadsFileAlone (task : Task) : Type 0 where
  pub no_image : first_input task ≡ nothing
  pub file : reads_probes task ≡ true
  pub no_report : prints_report task ≡ false

pub pass_judges : (task : Task) → task ≡ Pass → JudgesFile task
pass_judges task is = subst (λ (t : Task). JudgesFile t) (sym is) (record { image_first = refl; file = refl; report = refl })

pub check_judges : (task : Task) → task ≡ Check → JudgesFile task
check_judges task is = subst (λ (t : Task). JudgesFile t) (sym is) (record { image_first = refl; file = refl; report = refl })

pub dump_alone : (task : Task) → task ≡ Dump → ReadsFileAlone task
dump_alone task is = subst (λ (t : Task). ReadsFileAlone t) (sym is) (record { no_image = refl; file = refl; no_report = refl })

pub convert_alone : (task : Task) → task ≡ Convert → ReadsFileAlone task
convert_alone task is = subst (λ (t : Task). ReadsFileAlone t) (sym is) (record { no_image = refl; file = refl; no_report = refl })

pub not_dump : (t : Task) → prints_report t ≡ true → t ≡ Dump → ⊥
not_dump t judges is = let e = subst (λ (t : Task). prints_report t ≡ true) is judges in cc

pub not_convert : (t : Task) → prints_report t ≡ true → t ≡ Convert → ⊥
not_convert t judges is = let e = subst (λ (t : Task). prints_report t ≡ true) is judges in cc

pub dump_is_not_convert : (t : Task) → t ≡ Dump → t ≡ Convert → ⊥
dump_is_not_convert t a b = cc

pub no_image_first : {f : FirstInput} → f ≡ nothing → f ≡ an_image → ⊥
no_image_first a b = cc

pub either : {A B C : Type 0} → A ⊎ B → (A → C) → (B → C) → C
either (inl a) f g = f a
either (inr b) f g = g b

-- what is told of one task is told of words that ask for it

pub where_judged : (asked : Asked) (image probes : Option (List ℕ)) (P : List ℕ → List ℕ → Type 0) → JudgesFile asked.task
    → IfSome image (λ i. IfSome probes (λ b. P i b)) → WhereTold (Some asked) image probes P
where_judged asked image probes P judges h =
    subst (λ (f : FirstInput). WhereFirst f image (λ i. WhereProbes (reads_probes asked.task) probes (λ b. P i b))) (sym judges.image_first)
    (subst (λ (r : Bool). IfSome image (λ i. WhereProbes r probes (λ b. P i b))) (sym judges.file) h)

pub where_alone : (asked : Asked) (image probes : Option (List ℕ)) (P : List ℕ → List ℕ → Type 0) → ReadsFileAlone asked.task
    → ((i : List ℕ) → IfSome probes (λ b. P i b)) → WhereTold (Some asked) image probes P
where_alone asked image probes P alone h =
    subst (λ (f : FirstInput). WhereFirst f image (λ i. WhereProbes (reads_probes asked.task) probes (λ b. P i b))) (sym alone.no_image)
    (subst (λ (r : Bool). (i : List ℕ) → WhereProbes r probes (λ b. P i b)) (sym alone.file) h)

-- ---- from one fact to another

pub some_map : {A : Type 0} (o : Option A) (P Q : A → Type 0) → IfSome o P → ((b : A) → P b → Q b) → IfSome o Q
some_map None P Q h go = tt
some_map (Some b) P Q h go = go b h

pub both_told : (image probes : Option (List ℕ)) (A B : List ℕ → Type 0) (P : List ℕ → List ℕ → Type 0) → IfSome image A → IfSome probes B
    → ((i b : List ℕ) → A i → B b → P i b) → IfSome image (λ i. IfSome probes (λ b. P i b))
both_told None probes A B P a b go = tt
both_told (Some i) probes A B P a b go = some_map probes B (P i) b (λ bytes h. go i bytes a h)

-- each source has answers, where it tells its bytes

pub are_told : (probes : Option (List ℕ)) → AreToldOf probes (option_map answers_of probes)
are_told None = refl
are_told (Some b) = (answers_of b, refl, of_are b)

-- what is told of the answers is told of the bytes that give them
pub of_told : (probes : Option (List ℕ)) (told : Option (List Next)) (P : List Next → Type 0) (Q : List ℕ → Type 0) → AreToldOf probes told → IfSome told P
    → ((b : List ℕ) (answers : List Next) → AreAnswers b answers → P answers → Q b) → IfSome probes Q
of_told None told P Q tells h go = tt
of_told (Some b) told P Q tells h go = go b tells.0 tells.2 (subst (λ (t : Option (List Next)). IfSome t P) tells.1 h)

first_map : (f : FirstInput) (image : Option (List ℕ)) (P Q : List ℕ → Type 0) → WhereFirst f image P → ((i : List ℕ) → P i → Q i) → WhereFirst f image Q
first_map an_image image P Q h go = some_map image P Q h go
first_map nothing image P Q h go = λ i. go i (h i)

probes_map : (r : Bool) (probes : Option (List ℕ)) (P Q : List ℕ → Type 0) → WhereProbes r probes P → ((b : List ℕ) → P b → Q b) → WhereProbes r probes Q
probes_map true probes P Q h go = some_map probes P Q h go
probes_map false probes P Q h go = λ b. go b (h b)

pub where_map : (asked : Option Asked) (image probes : Option (List ℕ)) (P Q : List ℕ → List ℕ → Type 0) → WhereTold asked image probes P
    → ((i b : List ℕ) → P i b → Q i b) → WhereTold asked image probes Q
where_map None image probes P Q h go = λ i b. go i b (h i b)
where_map (Some asked) image probes P Q h go =
    first_map (first_input asked.task) image (λ i. WhereProbes (reads_probes asked.task) probes (P i)) (λ i. WhereProbes (reads_probes asked.task) probes (Q i)) h
    (λ i told. probes_map (reads_probes asked.task) probes (P i) (Q i) told (go i))

-- a task of the other top call is none of this one's
pub not_own : (is_own : Task → Bool) (asked : Asked) → is_own asked.task ≡ false → asked_among is_own (Some asked) ≡ None
not_own is_own asked other = rw other refl

pub check_alone : (t : Task) → (t ≡ Check → ⊥) → is_threaded t ≡ false
check_alone Pass other = refl
check_alone Check other = absurd (other refl)
check_alone Dump other = refl
check_alone Convert other = refl

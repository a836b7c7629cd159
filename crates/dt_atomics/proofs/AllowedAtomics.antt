use Rattle.std.proofs.Common.{ℕ, ◌≡◌, ◌-◌, ◌==◌, Bool, true, false, List, Result, Ok, Err, IsTrue, refl, sym, ap, ◌∙◌, inl, inr, arith}
use Rattle.std.specs.Prelude.{slice_get}
use Rattle.std.proofs.lemmas.Bool.{cases_Bool}
use Rattle.std.proofs.lemmas.Bool.Decides.{nat_tests}
use Rattle.dt_record.specs.declared.origins.Origin.TheVariants as origin
use Rattle.dt_record.specs.declared.origins.Sources.{Sources}
use Rattle.dt_record.specs.declared.reasons.Reason.{Reason}
use Rattle.dt_record.specs.declared.reasons.Reason.TheVariants.{AtomicWrite}
use Rattle.dt_record.specs.declared.writes.Write.{Write}
use Rattle.dt_record.specs.Memory.{moment_of}
use Rattle.dt_rules.specs.declared.misfits.Misfit.{Misfit}
use Rattle.dt_rules.specs.Checks.{and_then, misfit}
use Rattle.dt_atomics.specs.declared.accesses.AtomicAccess.{AtomicAccess}
use Rattle.dt_atomics.specs.Answers.{may_succeed, old_value}
use Rattle.dt_atomics.specs.Asking.{reads, writes_now}
use Rattle.dt_atomics.specs.Draining.{all_drained_check}
use Rattle.dt_atomics.specs.Laws.{AllowedAtomicsAreExact}
use Rattle.dt_atomics.specs.Reading.{source_of, sources_of}
use Rattle.dt_atomics.specs.Values.{due_check, new_value, one_if, success_check, value_check, write_check}
use Rattle.dt_atomics.proofs.FilledSources.{filled, filled_at}

-- What an allowed atomic is known by.

same_number : (a b : ℕ) → IsTrue (a == b) → a ≡ b
same_number a b is = grind (arith, nat_tests)

is_due : (reason : Reason) (due found : ℕ) → due_check reason due found ≡ Ok tt → found ≡ due
is_due reason due found is = elim (cases_Bool (due == found)) [
  | inl same ↦ sym (same_number due found same)
  | inr differs ↦ (let no : Err (misfit reason due found) ≡ Ok tt = rw differs at is in absurd (cc))
]

-- what comes after a check that holds
after : {A B : Type 0} (first : Result A Misfit) (later : A → Result B Misfit) (y : B) → and_then first later ≡ Ok y → (x : A) × (first ≡ Ok x) × (later x ≡ Ok y)
after (Ok x) later y is = (x, refl, is)
after (Err refused) later y is = let no : Err refused ≡ Ok y = is in absurd (cc)

same_test : (a b : Bool) → one_if a ≡ one_if b → a ≡ b
same_test true true is = refl
same_test false false is = refl
same_test true false is = absurd (omega arith)
same_test false true is = absurd (omega arith)

from_is : (writes : List Write) (k : ℕ) (x : AtomicAccess) → IsTrue (reads x.op)
    → (sources_of writes k x).from ≡ filled (source_of writes k) origin.Image x.paddr x.width (8 - x.width)
from_is writes k x reading = rw reading refl

pub allowed_are_exact : AllowedAtomicsAreExact
allowed_are_exact g key x passed is =
    let old : ℕ = old_value g key x in
    let success = after (all_drained_check g.actions key x) _ tt is.0 in
    let value = after (success_check (may_succeed g key x) x) _ tt success.2 in
    let width = after (value_check old x) (λ _. write_check old x) tt value.2 in
    let wrote = after (due_check AtomicWrite x.width x.said_width) _ tt width.2 in
    let new = after (due_check AtomicWrite (one_if (writes_now x.op x.wrote)) (one_if x.wrote)) _ tt wrote.2 in
    let k : ℕ = moment_of g.writes key in
    record {
      width = is_due AtomicWrite x.width x.said_width wrote.1;
      wrote = same_test x.wrote (writes_now x.op x.wrote) (is_due AtomicWrite (one_if (writes_now x.op x.wrote)) (one_if x.wrote) new.1);
      new = is_due AtomicWrite (new_value x.op x.wrote x.width old x.operand) x.new new.2;
      origins = λ reading place within.
          ap (λ (s : Sources). slice_get s.from place) is.1.sources
          ∙ ap (λ xs. slice_get xs place) (from_is g.writes k x reading)
          ∙ filled_at (source_of g.writes k) origin.Image x.paddr x.width (8 - x.width) place within;
    }

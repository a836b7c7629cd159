use Rattle.std.proofs.Common.{◌≡◌, ◌↔◌, Bool, true, false, Ok, Err, IsTrue, refl, sym, ap, ◌∙◌}
use Rattle.dt_rules.specs.declared.misfits.Passed.{Passed}
use Rattle.dt_record.specs.declared.keys.Key.{Key}
use Rattle.dt_record.specs.declared.origins.Letters.{Letters}
use Rattle.dt_record.specs.declared.origins.Sources.{Sources}
use Rattle.dt_atomics.specs.declared.accesses.AtomicAccess.{AtomicAccess}
use Rattle.dt_atomics.specs.Answers.{AtomicPasses, access_check, atomic_letters, fails_alive}
use Rattle.dt_atomics.specs.Grounds.{AtomicGrounds}
use Rattle.dt_atomics.specs.Laws.{AtomicsHaveOneAnswer}
use Rattle.dt_atomics.specs.Reading.{ReadsNewer}

-- An atomic has one answer.

same_test : (a b : Bool) (P : Type 0) → (IsTrue a ↔ P) → (IsTrue b ↔ P) → a ≡ b
same_test true true P is also = refl
same_test false false P is also = refl
same_test true false P is also = sym (also.1 (is.0 refl))
same_test false true P is also = is.1 (also.0 refl)

same_pass : (g : AtomicGrounds) (key : Key) (x : AtomicAccess) (one other : Passed) → AtomicPasses g key x one → AtomicPasses g key x other → one ≡ other
same_pass g key x one other is also =
    let newer = same_test one.letters.l other.letters.l (ReadsNewer g key x) is.newer also.newer in
    joined one other (is.letters ∙ ap (λ l. atomic_letters l (fails_alive g key x)) newer ∙ sym also.letters) (is.sources ∙ sym also.sources)
  where
    made : Letters → Sources → Passed
    made letters sources = record { letters = letters; sources = sources }

    joined : (a b : Passed) → a.letters ≡ b.letters → a.sources ≡ b.sources → a ≡ b
    joined a b letters sources = ap (λ l. made l a.sources) letters ∙ ap (made b.letters) sources

pub one_answer : AtomicsHaveOneAnswer
one_answer g key x (Ok one) (Ok other) is also = ap (λ passed. Ok passed) (same_pass g key x one other is.1 also.1)
one_answer g key x (Ok one) (Err other) is also = let no : Ok tt ≡ Err other = sym is.0 ∙ also in absurd (cc)
one_answer g key x (Err one) (Ok other) is also = let no : Ok tt ≡ Err one = sym also.0 ∙ is in absurd (cc)
one_answer g key x (Err one) (Err other) is also =
    let both : access_check g key x ≡ Err other = also in
    let same : one ≡ other = cc in
    ap (λ refused. Err refused) same

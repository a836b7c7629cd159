use Rattle.std.proofs.Common.{ℕ, ◌≡◌, ◌+◌, ◌<◌, ◌↔◌, Bool, true, false, Option, Some, None, zero, suc, Result, Ok, Err, IsTrue, inl, inr, refl, sym, subst, ◌∙◌, arith}
use Rattle.std.specs.Prelude.{◌⊎◌, ⊤}
use Rattle.std.proofs.lemmas.Bool.{cases_Bool, cases_lt, false≢true}
use Rattle.dt_rules.specs.declared.misfits.Passed.{Passed}
use Rattle.dt_loads.specs.Reading.{KnownKeysAreDecided}
use Rattle.dt_record.specs.declared.keys.Key.{Key}
use Rattle.dt_record.specs.Keys.{KeyBelow}
use Rattle.dt_record.specs.Memory.{moment_of, source_at}
use Rattle.dt_rules.specs.declared.misfits.Misfit.{Misfit}
use Rattle.dt_sources.specs.Knowing.{IsKnownKey}
use Rattle.dt_atomics.specs.declared.accesses.AtomicAccess.{AtomicAccess}
use Rattle.dt_atomics.specs.Answers.{AtomicPasses, IsAtomicAnswer, access_check, atomic_letters, fails_alive}
use Rattle.dt_atomics.specs.Asking.{reads}
use Rattle.dt_atomics.specs.Grounds.{AtomicGrounds}
use Rattle.dt_atomics.specs.Laws.{AtomicsHaveAnAnswer}
use Rattle.dt_atomics.specs.Reading.{ReadsNewer, sources_of}

-- An atomic has an answer.

-- the first of some numbers for which a fact that is decided holds, or it holds for none
some_or_none : (P : ℕ → Type 0) → ((n : ℕ) → P n ⊎ ¬ P n) → (bound : ℕ) → ((n : ℕ) × (n < bound) × P n) ⊎ ((n : ℕ) → n < bound → ¬ P n)
some_or_none P decide zero = inr (λ n below holds. absurd (omega arith))
some_or_none P decide (suc bound) = one_more (some_or_none P decide bound) (decide bound)
  where
    one_more : (((n : ℕ) × (n < bound) × P n) ⊎ ((n : ℕ) → n < bound → ¬ P n)) → P bound ⊎ ¬ P bound → ((n : ℕ) × (n < suc bound) × P n) ⊎ ((n : ℕ) → n < suc bound → ¬ P n)
    one_more (inl found) last = inl (found.0, (let below = found.1 in omega arith), found.2)
    one_more (inr none) (inl holds) = inl (bound, omega arith, holds)
    one_more (inr none) (inr fails) = inr (λ n below holds. elim (cases_lt n bound) [
      | inl less ↦ none n less holds
      | inr more ↦ (let same : n ≡ bound = omega arith in fails (subst P same holds))
    ])

module _ (decided : KnownKeysAreDecided) (g : AtomicGrounds) (key : Key) (x : AtomicAccess) where
  -- the byte at a place comes from a write that is newer than all that the hart knew there
  record IsNewerAt (place : ℕ) (o : Option Key) : Type 0 where
    pub source : Key
    pub from : o ≡ Some source
    pub newer : (known : Key) → IsKnownKey g.writes g.actions g.moments key (x.paddr + place) known → KeyBelow known source

  abbrev source_in : ℕ → Option Key
  source_in place = source_at g.writes (moment_of g.writes key) (x.paddr + place)

  newer_at : (place : ℕ) (o : Option Key) → IsNewerAt place o ⊎ ¬ IsNewerAt place o
  newer_at place None = inr (λ is. let no : None ≡ Some is.source = is.from in absurd (cc))
  newer_at place (Some source) = elim (decided g.writes g.actions g.moments key (x.paddr + place) source) [
    | inl above ↦ inl (record { source = source; from = refl; newer = above })
    | inr below ↦ inr (λ is. below (let same : is.source ≡ source = (let both : Some source ≡ Some is.source = is.from in cc) in
        subst (λ (s : Key). (known : Key) → IsKnownKey g.writes g.actions g.moments key (x.paddr + place) known → KeyBelow known s) same is.newer))
  ]

  reads_or_not : ReadsNewer g key x ⊎ ¬ ReadsNewer g key x
  reads_or_not = elim (cases_Bool (reads x.op)) [
    | inr quiet ↦ inr (λ is. false≢true (sym quiet ∙ is.reading))
    | inl reading ↦ elim (some_or_none (λ place. IsNewerAt place (source_in place)) (λ place. newer_at place (source_in place)) x.width) [
      | inl found ↦ (let at = found.2 in inl (record { reading = reading; place = found.0; within = found.1; source = at.source; from = at.from; newer = at.newer }))
      | inr none ↦ inr (λ is. none is.place is.within (record { source = is.source; from = is.from; newer = is.newer }))
    ]
  ]

  letter : ReadsNewer g key x ⊎ ¬ ReadsNewer g key x → (l : Bool) × (IsTrue l ↔ ReadsNewer g key x)
  letter (inl is) = (true, (λ yes. is, λ newer. refl))
  letter (inr none) = (false, (λ yes. absurd (false≢true yes), λ newer. absurd (none newer)))

  passes : (l : Bool) → IsTrue l ↔ ReadsNewer g key x → access_check g key x ≡ Ok tt → (answer : Result Passed Misfit) × IsAtomicAnswer g key x answer
  passes l newer holds =
      let passed : Passed = record { letters = atomic_letters l (fails_alive g key x); sources = sources_of g.writes (moment_of g.writes key) x } in
      let are : AtomicPasses g key x passed = record { newer = newer; letters = refl; sources = refl } in
      (Ok passed, (holds, are))

  by_check : (r : Result ⊤ Misfit) → access_check g key x ≡ r → (answer : Result Passed Misfit) × IsAtomicAnswer g key x answer
  by_check (Ok u) is = let l = letter reads_or_not in passes l.0 l.1 is
  by_check (Err refused) is = (Err refused, is)

pub an_answer : KnownKeysAreDecided → AtomicsHaveAnAnswer
an_answer decided g key x = by_check decided g key x (access_check g key x) refl

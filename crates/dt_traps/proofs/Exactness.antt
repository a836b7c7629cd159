-- A trap is allowed exactly where it is one of its kind.
use Rattle.std.proofs.Common.{◌≡◌, ◌≢◌, ℕ, ◌-◌, ◌%◌, ◌^◌, ◌⊎◌, ◌↔◌, ◌==◌, Bool, true, false, ◌||◌, if◌then◌else◌, List, Option, Some, None, option_and_then, Result, Ok, Err, IsOk, IsSomeAnd, refl, sym, ap, ◌∙◌, subst, inl, inr}
use Rattle.std.proofs.lemmas.Bool.{cases_Bool, eq-eqb, eqb-true, false≢true, ne_eqb, or_cases}
use Rattle.dt_access.specs.Faults.{access_cause, fault_cause, page_cause}
use Rattle.dt_access.specs.Translating.{atomic_access, walk_args}
use Rattle.dt_alu.specs.Words.{sum_of}
use Rattle.dt_csr.specs.Traps.{is_enabled}
use Rattle.dt_record.specs.declared.origins.Letters.{Letters}
use Rattle.dt_record.specs.declared.reasons.Reason.TheVariants.{Pc}
use Rattle.dt_record.specs.declared.writes.Write.{Write}
use Rattle.dt_record.specs.Lawful.{is_fetch_fault}
use Rattle.dt_versions.specs.declared.moments.Span.{Span}
use Rattle.dt_walk.specs.declared.arguments.Access.{Access}
use Rattle.dt_walk.specs.declared.arguments.Access.TheVariants.{Fetch, Load, Store}
use Rattle.dt_walk.specs.declared.arguments.WalkAnswer.{WalkAnswer}
use Rattle.dt_walk.specs.declared.arguments.WalkAnswer.TheVariants.{Page, PageFault, AccessFault}
use Rattle.dt_walk.specs.declared.arguments.WalkArgs.{WalkArgs}
use Rattle.dt_translate.specs.Fetches.{IsChosen, fetch_moments}
use Rattle.dt_translate.specs.Laws.{AMomentAllows, APairFetches, ChosenIsNewest, ChosenPairIsNewest}
use Rattle.dt_translate.specs.Newest.{IsNewest}
use Rattle.dt_translate.specs.Outcomes.{allowed_moment, outcome_at}
use Rattle.dt_step.specs.declared.plans.Planned.{Planned}
use Rattle.dt_step.specs.declared.plans.Planned.TheVariants.{Done, NeedsLoad, NeedsStore, NeedsAtomic, Csr, Returns, Fences, FenceI, FencesPages, Raises}
use Rattle.dt_step.specs.declared.state.Arch.{Arch}
use Rattle.dt_rules.specs.declared.misfits.Misfit.{Misfit}
use Rattle.dt_rules.specs.Checks.{check, and_then, misfit}
use Rattle.dt_checks.specs.declared.fetching.FetchSpans.{FetchSpans}
use Rattle.dt_checks.specs.Fetching.{fetch_check, first_half, half_answer, half_check, is_older, rest_check, second_check, second_half}
use Rattle.dt_traps.specs.declared.faults.Raised.{Raised}
use Rattle.dt_traps.specs.declared.traps.TrapSpans.{TrapSpans}
use Rattle.dt_traps.specs.Exact.{AreHalvesFetched, IsFirstFetchTrap, IsHalfFetched, IsInstructionTrap, IsInterruptTrap, IsSecondFetchTrap, PlanRaises, RaisesAt, ShowsTval, TrapsAreExact}
use Rattle.dt_traps.specs.Faults.{fault_answer, fault_check, fault_moment, fault_of, raised}
use Rattle.dt_traps.specs.Instructions.{plan_check, planned}
use Rattle.dt_traps.specs.Traps.{cause_check, entry_check, execution_check, fetch_fault_check, first_half_check, instruction_check, interrupt_check, is_first_half, is_interrupt, raised_after, second_fault_check, trap_check}

-- the laws of the crate below
pub record Found : Type 0 where
  pub allowed : AMomentAllows
  pub fetched : APairFetches
  pub newest : ChosenIsNewest
  pub newest_pair : ChosenPairIsNewest

-- checks one after another pass where each does
passed_check : {A : Type 0} (b : Bool) (refused : Misfit) (later : Result A Misfit) (y : A) → check b refused later ≡ Ok y → (b ≡ true) × (later ≡ Ok y)
passed_check true refused later y is = (refl, is)
passed_check {A = A} false refused later y is = absurd (let no : ◌≡◌ {A = Result A Misfit} (Err refused) (Ok y) = is in cc)

check_passed : {A : Type 0} (b : Bool) (refused : Misfit) (later : Result A Misfit) → b ≡ true → check b refused later ≡ later
check_passed b refused later holds = ap (λ c. check c refused later) holds

passed_both : {A B : Type 0} (r : Result A Misfit) (f : A → Result B Misfit) (y : B) → and_then r f ≡ Ok y → (x : A) × (r ≡ Ok x) × (f x ≡ Ok y)
passed_both (Ok x) f y is = (x, refl, is)
passed_both {B = B} (Err refused) f y is = absurd (let no : ◌≡◌ {A = Result B Misfit} (Err refused) (Ok y) = is in cc)

same_raised : (first second : Raised) → ◌≡◌ {A = Result Raised Misfit} (Ok first) (Ok second) → first ≡ second
same_raised first second is = cc

no_raised : (refused : Misfit) (found : Raised) → ◌≡◌ {A = Result Raised Misfit} (Err refused) (Ok found) → ⊥
no_raised refused found is = cc

-- the tval of an allowed cause
tval_shown : (b c : Bool) (refused : Misfit) (f : Bool → Result Letters Misfit) → IsOk (and_then (if b then Ok false else check c refused (Ok true)) f) → (b ≡ true) ⊎ (c ≡ true)
tval_shown true c refused f ok = inl refl
tval_shown false true refused f ok = inr refl
tval_shown false false refused f ok = absurd (false≢true ok)

tval_shows : (b c : Bool) (refused : Misfit) (f : Bool → Result Letters Misfit) → ((x : Bool) → IsOk (f x)) → (b ≡ true) ⊎ (c ≡ true)
    → IsOk (and_then (if b then Ok false else check c refused (Ok true)) f)
tval_shows true c refused f all either = all false
tval_shows false true refused f all either = all true
tval_shows false false refused f all (inl same) = absurd (false≢true same)
tval_shows false false refused f all (inr zero) = absurd (false≢true zero)

entry_shown : (cause tval : ℕ) (found : Raised) → IsOk (entry_check cause tval found) → ShowsTval found.tval tval
entry_shown cause tval found ok = elim (tval_shown (tval == found.tval) (tval == 0) _ _ ok) [
  | inl same ↦ inl (eqb-true tval found.tval same)
  | inr zero ↦ inr (eqb-true tval 0 zero)
]

entry_shows : (cause tval : ℕ) (found : Raised) → ShowsTval found.tval tval → IsOk (entry_check cause tval found)
entry_shows cause tval found (inl same) = tval_shows (tval == found.tval) (tval == 0) _ _ (λ x. refl) (inl (eq-eqb tval found.tval same))
entry_shows cause tval found (inr zero) = tval_shows (tval == found.tval) (tval == 0) _ _ (λ x. refl) (inr (eq-eqb tval 0 zero))

-- the outcome that raises a cause
fault_of-raises : (access : Access) (b c : Bool) (wanted : WalkAnswer) (cause : ℕ) → (b ≡ true → cause ≡ page_cause access) → (c ≡ true → cause ≡ access_cause access)
    → (if b then Some PageFault else (if c then Some AccessFault else None)) ≡ Some wanted → fault_cause access wanted ≡ Some cause
fault_of-raises access true c wanted cause at_page at_access is =
    let same : PageFault ≡ wanted = cc in
    ap (fault_cause access) (sym same) ∙ ap Some (sym (at_page refl))
fault_of-raises access false true wanted cause at_page at_access is =
    let same : AccessFault ≡ wanted = cc in
    ap (fault_cause access) (sym same) ∙ ap Some (sym (at_access refl))
fault_of-raises access false false wanted cause at_page at_access is = absurd (let no : ◌≡◌ {A = Option WalkAnswer} None (Some wanted) = is in cc)

causes_apart : (access : Access) → (access_cause access == page_cause access) ≡ false
causes_apart Fetch = refl
causes_apart Load = refl
causes_apart Store = refl

fault_of-is : (access : Access) (outcome : WalkAnswer) (cause : ℕ) → fault_cause access outcome ≡ Some cause → fault_of access cause ≡ Some outcome
fault_of-is access (Page addr) cause is = absurd (let no : ◌≡◌ {A = Option ℕ} None (Some cause) = is in cc)
fault_of-is access PageFault cause is =
    let same : page_cause access ≡ cause = cc in
    subst (λ n. fault_of access n ≡ Some PageFault) same
    (ap (λ b. if b then Some PageFault else (if page_cause access == access_cause access then Some AccessFault else None)) (eq-eqb (page_cause access) (page_cause access) refl))
fault_of-is access AccessFault cause is =
    let same : access_cause access ≡ cause = cc in
    subst (λ n. fault_of access n ≡ Some AccessFault) same
    (ap (λ b. if b then Some PageFault else (if access_cause access == access_cause access then Some AccessFault else None)) (causes_apart access)
    ∙ ap (λ b. if b then Some AccessFault else None) (eq-eqb (access_cause access) (access_cause access) refl))

module _ (laws : Found) (image : List ℕ) (writes : List Write) where
  -- an access may raise the cause exactly where it does at some moment
  module _ (window : Span) (args : WalkArgs) (ram_only : Bool) (cause : ℕ) where
    fault_raised : (found : Raised) → fault_check image writes window args ram_only cause ≡ Ok found
        → RaisesAt image writes window args ram_only cause × (found.tval ≡ args.va)
    fault_raised found is = by (fault_moment image writes window args ram_only cause) refl is
      where
        wanted_at : (k : ℕ) (o : Option WalkAnswer) → fault_of args.access cause ≡ o → option_and_then (allowed_moment image writes window args ram_only) o ≡ Some k
            → RaisesAt image writes window args ram_only cause
        wanted_at k None there gives = absurd (let no : ◌≡◌ {A = Option ℕ} None (Some k) = gives in cc)
        wanted_at k (Some wanted) there gives =
            let newest = laws.newest image writes window args ram_only wanted k gives in
            record {
              moment = k;
              within = newest.within;
              raises = ap (fault_cause args.access) newest.holds
                  ∙ fault_of-raises args.access (cause == page_cause args.access) (cause == access_cause args.access) wanted cause (eqb-true _ _) (eqb-true _ _) there;
            }

        by : (o : Option ℕ) → fault_moment image writes window args ram_only cause ≡ o
            → fault_answer window args (outcome_at image writes window.last args ram_only) cause o ≡ Ok found
            → RaisesAt image writes window args ram_only cause × (found.tval ≡ args.va)
        by None moment gives = absurd (no_raised _ found gives)
        by (Some k) moment gives =
            (wanted_at k (fault_of args.access cause) refl moment, sym (ap (λ (r : Raised). r.tval) (same_raised (raised (is_older window k) args.va) found gives)))

    fault_raises : RaisesAt image writes window args ram_only cause → (found : Raised) × (fault_check image writes window args ram_only cause ≡ Ok found) × (found.tval ≡ args.va)
    fault_raises r =
        let wanted = outcome_at image writes r.moment args ram_only in
        by wanted (fault_of-is args.access wanted cause r.raises) (allowed_moment image writes window args ram_only wanted) refl
        (laws.allowed image writes window args ram_only wanted r.moment r.within refl)
      where
        by : (wanted : WalkAnswer) → fault_of args.access cause ≡ Some wanted → (o : Option ℕ) → allowed_moment image writes window args ram_only wanted ≡ o
            → IsSomeAnd o (IsNewest (λ j. outcome_at image writes j args ram_only ≡ wanted) window)
            → (found : Raised) × (fault_check image writes window args ram_only cause ≡ Ok found) × (found.tval ≡ args.va)
        by wanted there None moment some = absurd some
        by wanted there (Some k) moment some = (
          raised (is_older window k) args.va,
          ap (fault_answer window args (outcome_at image writes window.last args ram_only) cause)
              (ap (option_and_then (allowed_moment image writes window args ram_only)) there ∙ moment),
          refl,
        )

  -- a halfword may have been fetched exactly where it was at some moments
  module _ (window since : Span) (a : Arch) (va half : ℕ) where
    half_had : (stale : Bool) → half_check image writes window since a va half ≡ Ok stale → IsHalfFetched image writes window since a va half
    half_had stale is = by (fetch_moments image writes window since (walk_args a Fetch va) half) refl is
      where
        by : (o : Option (ℕ × ℕ)) → fetch_moments image writes window since (walk_args a Fetch va) half ≡ o → half_answer window since va half o ≡ Ok stale
            → IsHalfFetched image writes window since a va half
        by None there gives = absurd (let no : ◌≡◌ {A = Result Bool Misfit} (half_answer window since va half None) (Ok stale) = gives in cc)
        by (Some pair) there gives =
            let chosen = laws.newest_pair image writes window since (walk_args a Fetch va) half pair.0 pair.1 there in
            record { translated = pair.0; held = pair.1; in_window = chosen.translated.within; in_since = chosen.held.within; fetched = chosen.held.holds }

    half_has : IsHalfFetched image writes window since a va half → (stale : Bool) × (half_check image writes window since a va half ≡ Ok stale)
    half_has h =
        by (fetch_moments image writes window since (walk_args a Fetch va) half) refl
        (laws.fetched image writes window since (walk_args a Fetch va) half h.translated h.held h.in_window h.in_since h.fetched)
      where
        by : (o : Option (ℕ × ℕ)) → fetch_moments image writes window since (walk_args a Fetch va) half ≡ o
            → IsSomeAnd o (λ pair. IsChosen image writes window since (walk_args a Fetch va) half pair.0 pair.1)
            → (stale : Bool) × (half_check image writes window since a va half ≡ Ok stale)
        by None there some = absurd some
        by (Some pair) there some = (is_older window pair.0 || is_older since pair.1, ap (half_answer window since va half) there)

  module _ (spans : FetchSpans) (a : Arch) (bits : ℕ) where
    halves_had : (stale : Bool) → fetch_check image writes spans a bits ≡ Ok stale → AreHalvesFetched image writes spans a bits
    halves_had stale is =
        let both = passed_both (half_check image writes spans.first spans.since a a.pc (first_half bits)) (rest_check image writes spans a bits) stale is in
        record {
          first = half_had spans.first spans.since a a.pc (first_half bits) both.0 both.1;
          second = λ long.
              let second = half_check image writes spans.second spans.since a (sum_of 64 a.pc 2) (second_half bits) in
              let rest : second_check image writes spans a bits both.0 ≡ Ok stale =
              sym (ap (λ (b : Bool). if b then second_check image writes spans a bits both.0 else Ok both.0) (eq-eqb (bits % 4) 3 long)) ∙ both.2 in
              let last = passed_both second (λ s. Ok (both.0 || s)) stale rest in
              half_had spans.second spans.since a (sum_of 64 a.pc 2) (second_half bits) last.0 last.1;
        }

    halves_have : AreHalvesFetched image writes spans a bits → (stale : Bool) × (fetch_check image writes spans a bits ≡ Ok stale)
    halves_have h =
        let first = half_has spans.first spans.since a a.pc (first_half bits) h.first in
        let begun : fetch_check image writes spans a bits ≡ rest_check image writes spans a bits first.0 = ap (λ (r : Result Bool Misfit). and_then r (rest_check image writes spans a bits)) first.1 in
        elim (cases_Bool (bits % 4 == 3)) [
          | inl long ↦
              let second = half_has spans.second spans.since a (sum_of 64 a.pc 2) (second_half bits) (h.second (eqb-true (bits % 4) 3 long)) in (
                first.0 || second.0,
                begun
                    ∙ ap (λ (b : Bool). if b then second_check image writes spans a bits first.0 else Ok first.0) long
                    ∙ ap (λ (r : Result Bool Misfit). and_then r (λ s. Ok (first.0 || s))) second.1,
              )
          | inr short ↦ (first.0, begun ∙ ap (λ (b : Bool). if b then second_check image writes spans a bits first.0 else Ok first.0) short)
        ]

  -- what an instruction with a plan raises
  module _ (window : Span) (a : Arch) (cause tval : ℕ) where
    by_access : (args : WalkArgs) (ram_only : Bool) (found : Raised) → fault_check image writes window args ram_only cause ≡ Ok found → ShowsTval found.tval tval
        → RaisesAt image writes window args ram_only cause × ShowsTval args.va tval
    by_access args ram_only found is shows =
        let fault = fault_raised window args ram_only cause found is in
        (fault.0, subst (λ n. ShowsTval n tval) fault.1 shows)

    from_access : (args : WalkArgs) (ram_only : Bool) → RaisesAt image writes window args ram_only cause → ShowsTval args.va tval
        → (found : Raised) × (fault_check image writes window args ram_only cause ≡ Ok found) × ShowsTval found.tval tval
    from_access args ram_only r shows =
        let fault = fault_raises window args ram_only cause r in
        (fault.0, fault.1, subst (λ n. ShowsTval n tval) (sym fault.2) shows)

    plan_raised : (plan : Planned) (found : Raised) → plan_check image writes window a plan cause ≡ Ok found → ShowsTval found.tval tval → PlanRaises image writes window a plan cause tval
    plan_raised (Raises due own) found is shows =
        let passed = passed_check (cause == due) _ (Ok (raised false own)) found is in
        (eqb-true cause due passed.0, subst (λ (r : Raised). ShowsTval r.tval tval) (sym (same_raised (raised false own) found passed.1)) shows)
    plan_raised (NeedsLoad va width signed rd) found is shows = by_access (walk_args a Load va) false found is shows
    plan_raised (NeedsStore va width value) found is shows = by_access (walk_args a Store va) false found is shows
    plan_raised (NeedsAtomic va width op aq rl rd operand) found is shows = by_access (walk_args a (atomic_access op) va) true found is shows
    plan_raised (Done rd value next) found is shows = no_raised _ found is
    plan_raised (Csr number op operand reads writes rd) found is shows = no_raised _ found is
    plan_raised (Returns from_m) found is shows = no_raised _ found is
    plan_raised (Fences ww wr rr) found is shows = no_raised _ found is
    plan_raised FenceI found is shows = no_raised _ found is
    plan_raised (FencesPages va all) found is shows = no_raised _ found is

    plan_raises : (plan : Planned) → PlanRaises image writes window a plan cause tval
        → (found : Raised) × (plan_check image writes window a plan cause ≡ Ok found) × ShowsTval found.tval tval
    plan_raises (Raises due own) r = (raised false own, check_passed (cause == due) _ (Ok (raised false own)) (eq-eqb cause due r.0), r.1)
    plan_raises (NeedsLoad va width signed rd) r = from_access (walk_args a Load va) false r.0 r.1
    plan_raises (NeedsStore va width value) r = from_access (walk_args a Store va) false r.0 r.1
    plan_raises (NeedsAtomic va width op aq rl rd operand) r = from_access (walk_args a (atomic_access op) va) true r.0 r.1
    plan_raises (Done rd value next) r = absurd r
    plan_raises (Csr number op operand reads writes rd) r = absurd r
    plan_raises (Returns from_m) r = absurd r
    plan_raises (Fences ww wr rr) r = absurd r
    plan_raises FenceI r = absurd r
    plan_raises (FencesPages va all) r = absurd r

  module _ (spans : TrapSpans) (a : Arch) (pc bits cause tval : ℕ) where
    -- a trap by the check of its cause, whichever that is
    entered : (r : Result Raised Misfit) → cause_check image writes spans a bits cause ≡ r → IsOk (trap_check image writes spans a pc bits cause tval)
        → (pc ≡ a.pc) × ((found : Raised) × (r ≡ Ok found) × ShowsTval found.tval tval)
    entered r is ok = by (misfit Pc a.pc pc) (pc == a.pc) r refl (subst (λ (q : Result Raised Misfit). IsOk (check (pc == a.pc) (misfit Pc a.pc pc) (and_then q (entry_check cause tval)))) is ok)
      where
        by : (refused : Misfit) (b : Bool) (r : Result Raised Misfit) → (pc == a.pc) ≡ b → IsOk (check b refused (and_then r (entry_check cause tval)))
            → (pc ≡ a.pc) × ((found : Raised) × (r ≡ Ok found) × ShowsTval found.tval tval)
        by refused true (Ok found) here passes = (eqb-true pc a.pc here, (found, refl, entry_shown cause tval found passes))
        by refused true (Err other) here passes = absurd (false≢true passes)
        by refused false r here passes = absurd (false≢true passes)

    enters : (found : Raised) → cause_check image writes spans a bits cause ≡ Ok found → pc ≡ a.pc → ShowsTval found.tval tval
        → IsOk (trap_check image writes spans a pc bits cause tval)
    enters found is here shows =
        subst (λ (q : Result Letters Misfit). IsOk q)
        (sym (check_passed (pc == a.pc) _ _ (eq-eqb pc a.pc here) ∙ ap (λ (q : Result Raised Misfit). and_then q (entry_check cause tval)) is))
        (entry_shows cause tval found shows)

    -- which check a cause comes to
    abbrev other_check : Result Raised Misfit
    other_check = if is_fetch_fault cause then fetch_fault_check image writes spans.fetch a bits cause else instruction_check image writes spans a bits cause

    comes_to_interrupt : is_interrupt cause ≡ true → cause_check image writes spans a bits cause ≡ interrupt_check a cause
    comes_to_interrupt is = ap (λ (b : Bool). if b then interrupt_check a cause else other_check) is

    comes_to_fetch : is_interrupt cause ≡ false → is_fetch_fault cause ≡ true → cause_check image writes spans a bits cause ≡ fetch_fault_check image writes spans.fetch a bits cause
    comes_to_fetch exception is =
        ap (λ (b : Bool). if b then interrupt_check a cause else other_check) exception
        ∙ ap (λ (b : Bool). if b then fetch_fault_check image writes spans.fetch a bits cause else instruction_check image writes spans a bits cause) is

    comes_to_instruction : is_interrupt cause ≡ false → is_fetch_fault cause ≡ false → cause_check image writes spans a bits cause ≡ instruction_check image writes spans a bits cause
    comes_to_instruction exception none =
        ap (λ (b : Bool). if b then interrupt_check a cause else other_check) exception
        ∙ ap (λ (b : Bool). if b then fetch_fault_check image writes spans.fetch a bits cause else instruction_check image writes spans a bits cause) none

    zero_shown : ShowsTval 0 tval → tval ≡ 0
    zero_shown (inl zero) = zero
    zero_shown (inr zero) = zero

    interrupt_exact : is_interrupt cause ≡ true → IsOk (trap_check image writes spans a pc bits cause tval) ↔ IsInterruptTrap a pc cause tval
    interrupt_exact is = (
      λ ok.
          let e = entered (interrupt_check a cause) (comes_to_interrupt is) ok in
          let passed = passed_check (is_enabled a.csrs a.mode (cause - 2 ^ 63)) _ (Ok (raised false 0)) e.1.0 e.1.1 in
          let same = same_raised (raised false 0) e.1.0 passed.1 in
          record { at_pc = e.0; enabled = passed.0; no_tval = zero_shown (subst (λ (r : Raised). ShowsTval r.tval tval) (sym same) e.1.2) },
      λ t. enters (raised false 0)
          (comes_to_interrupt is ∙ check_passed (is_enabled a.csrs a.mode (cause - 2 ^ 63)) _ (Ok (raised false 0)) t.enabled) t.at_pc (inr t.no_tval),
    )

    abbrev second_args : WalkArgs
    second_args = walk_args a Fetch (sum_of 64 a.pc 2)

    second_fetch : bits ≢ 0 → fetch_fault_check image writes spans.fetch a bits cause
        ≡ and_then (first_half_check image writes spans.fetch a bits) (second_fault_check image writes spans.fetch a cause)
    second_fetch some =
        ap (λ (b : Bool). if b then fault_check image writes spans.fetch.first (walk_args a Fetch a.pc) true cause
        else and_then (first_half_check image writes spans.fetch a bits) (second_fault_check image writes spans.fetch a cause)) (ne_eqb bits 0 some)

    second_exact : is_interrupt cause ≡ false → is_fetch_fault cause ≡ true → bits ≢ 0
        → IsOk (trap_check image writes spans a pc bits cause tval) ↔ IsSecondFetchTrap image writes spans.fetch a pc bits cause tval
    second_exact exception is some = (
      λ ok.
          let e = entered (and_then (first_half_check image writes spans.fetch a bits) (second_fault_check image writes spans.fetch a cause)) (comes_to_fetch exception is ∙ second_fetch some) ok in
          let both = passed_both (first_half_check image writes spans.fetch a bits) (second_fault_check image writes spans.fetch a cause) e.1.0 e.1.1 in
          let half = passed_check (is_first_half bits) _ (half_check image writes spans.fetch.first spans.fetch.since a a.pc (first_half bits)) both.0 both.1 in
          let fault = passed_both (fault_check image writes spans.fetch.second second_args true cause) (raised_after both.0) e.1.0 both.2 in
          let same = ap (λ (r : Raised). r.tval) (same_raised (raised (both.0 || fault.0.stale) fault.0.tval) e.1.0 fault.2) in
          let there = fault_raised spans.fetch.second second_args true cause fault.0 fault.1 in
          record {
            at_pc = e.0;
            is_half = half.0;
            first = half_had spans.fetch.first spans.fetch.since a a.pc (first_half bits) both.0 half.1;
            raises = there.0;
            shows = subst (λ n. ShowsTval n tval) (sym same ∙ there.1) e.1.2;
          },
      λ t.
          let half = half_has spans.fetch.first spans.fetch.since a a.pc (first_half bits) t.first in
          let fault = fault_raises spans.fetch.second second_args true cause t.raises in
          let front : first_half_check image writes spans.fetch a bits ≡ Ok half.0 = check_passed (is_first_half bits) _ (half_check image writes spans.fetch.first spans.fetch.since a a.pc (first_half bits)) t.is_half ∙ half.1 in
          enters (raised (half.0 || fault.0.stale) fault.0.tval)
          (comes_to_fetch exception is ∙ second_fetch some
          ∙ ap (λ (r : Result Bool Misfit). and_then r (second_fault_check image writes spans.fetch a cause)) front
          ∙ ap (λ (r : Result Raised Misfit). and_then r (raised_after half.0)) fault.1)
          t.at_pc (subst (λ n. ShowsTval n tval) (sym fault.2) t.shows),
    )

    instruction_exact : is_interrupt cause ≡ false → is_fetch_fault cause ≡ false
        → IsOk (trap_check image writes spans a pc bits cause tval) ↔ IsInstructionTrap image writes spans a pc bits cause tval
    instruction_exact exception none = (
      λ ok.
          let e = entered (instruction_check image writes spans a bits cause) (comes_to_instruction exception none) ok in
          let both = passed_both (fetch_check image writes spans.fetch a bits) (execution_check image writes spans.access a bits cause) e.1.0 e.1.1 in
          let found = passed_both (plan_check image writes spans.access a (planned a bits) cause) (raised_after both.0) e.1.0 both.2 in
          let same = ap (λ (r : Raised). r.tval) (same_raised (raised (both.0 || found.0.stale) found.0.tval) e.1.0 found.2) in
          record {
            at_pc = e.0;
            fetched = halves_had spans.fetch a bits both.0 both.1;
            raises = plan_raised spans.access a cause tval (planned a bits) found.0 found.1 (subst (λ n. ShowsTval n tval) (sym same) e.1.2);
          },
      λ t.
          let fetched = halves_have spans.fetch a bits t.fetched in
          let found = plan_raises spans.access a cause tval (planned a bits) t.raises in
          enters (raised (fetched.0 || found.0.stale) found.0.tval)
          (comes_to_instruction exception none
          ∙ ap (λ (r : Result Bool Misfit). and_then r (execution_check image writes spans.access a bits cause)) fetched.1
          ∙ ap (λ (r : Result Raised Misfit). and_then r (raised_after fetched.0)) found.1)
          t.at_pc found.2,
    )

  module _ (spans : TrapSpans) (a : Arch) (pc cause tval : ℕ) where
    first_exact : is_interrupt cause ≡ false → is_fetch_fault cause ≡ true
        → IsOk (trap_check image writes spans a pc 0 cause tval) ↔ IsFirstFetchTrap image writes spans.fetch a pc cause tval
    first_exact exception is = (
      λ ok.
          let e = entered spans a pc 0 cause tval (fault_check image writes spans.fetch.first (walk_args a Fetch a.pc) true cause) (comes_to_fetch spans a pc 0 cause tval exception is) ok in
          let there = fault_raised spans.fetch.first (walk_args a Fetch a.pc) true cause e.1.0 e.1.1 in
          record { at_pc = e.0; raises = there.0; shows = subst (λ n. ShowsTval n tval) there.1 e.1.2 },
      λ t.
          let fault = fault_raises spans.fetch.first (walk_args a Fetch a.pc) true cause t.raises in
          enters spans a pc 0 cause tval fault.0 (comes_to_fetch spans a pc 0 cause tval exception is ∙ fault.1) t.at_pc (subst (λ n. ShowsTval n tval) (sym fault.2) t.shows),
    )

no_interrupt : (cause : ℕ) → is_fetch_fault cause ≡ true → is_interrupt cause ≡ false
no_interrupt cause is = elim (or_cases (cause == 1) (cause == 12) is) [
  | inl one ↦ ap is_interrupt (eqb-true cause 1 one)
  | inr twelve ↦ ap is_interrupt (eqb-true cause 12 twelve)
]

pub traps_exact : Found → TrapsAreExact
traps_exact laws = record {
  interrupts = λ image writes spans a pc bits cause tval is. interrupt_exact laws image writes spans a pc bits cause tval is;
  first_fetches = λ image writes spans a pc cause tval is. first_exact laws image writes spans a pc cause tval (no_interrupt cause is) is;
  second_fetches = λ image writes spans a pc bits cause tval is some. second_exact laws image writes spans a pc bits cause tval (no_interrupt cause is) is some;
  instructions = λ image writes spans a pc bits cause tval exception none. instruction_exact laws image writes spans a pc bits cause tval exception none;
}

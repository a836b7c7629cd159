use Rattle.std.proofs.Common.{ℕ, ◌≡◌, ◌≤◌, ◌||◌, Bool, true, false, List, ◌++◌, take, Result, Ok, Err, IsTrue, refl, sym, ap, subst, ◌∙◌, arith}
use Rattle.std.specs.List.{list_all}
use Rattle.std.specs.Option.{unwrap_or}
use Rattle.std.proofs.lemmas.List.{take-append-le}
use Rattle.dt_access.specs.Translating.{atomic_access, walk_args}
use Rattle.dt_atomics.specs.declared.accesses.AtomicAccess.{AtomicAccess}
use Rattle.dt_atomics.specs.Answers.{IsAtomicAnswer}
use Rattle.dt_atomics.specs.Laws.{FirstWritesDecideAtomics}
use Rattle.dt_checks.specs.declared.starting.Started.{Started}
use Rattle.dt_checks.specs.Laws.{BeginAlike, SameAddresses, SameStarts}
use Rattle.dt_commits.specs.Undrained.{undrained_check}
use Rattle.dt_commits.specs.Values.{commit_value_check}
use Rattle.dt_drains.specs.Draining.{store_data_check}
use Rattle.dt_rules.specs.declared.misfits.Passed.{Passed}
use Rattle.dt_loads.specs.Checks.{order_check}
use Rattle.dt_loads.specs.Reading.{ask_of}
use Rattle.dt_record.specs.declared.accesses.LoadAsk.{LoadAsk}
use Rattle.dt_record.specs.declared.keys.Key.{Key}
use Rattle.dt_record.specs.declared.records.Body.{Body}
use Rattle.dt_record.specs.declared.records.Body.TheVariants.{Commit, Trap, Regs, Csrs, Load, Store, Atomic, Drain, Refill, Beat}
use Rattle.dt_record.specs.declared.writes.Write.{Write}
use Rattle.dt_record.specs.Lawful.{is_in_ram}
use Rattle.dt_refills.specs.Laws.{SameRefills}
use Rattle.dt_refills.specs.Refilling.{refill_check}
use Rattle.dt_rules.specs.declared.misfits.Misfit.{Misfit}
use Rattle.dt_rules.specs.declared.misfits.TheConstants.{NO_LETTERS}
use Rattle.dt_rules.specs.Checks.{and_then}
use Rattle.dt_step.specs.declared.plans.Planned.{Planned}
use Rattle.dt_step.specs.declared.plans.Planned.TheVariants.{Done, NeedsLoad, NeedsStore, NeedsAtomic, Csr, Returns, Fences, FenceI, FencesPages, Raises}
use Rattle.dt_traps.specs.Instructions.{access_address}
use Rattle.dt_traps.specs.Laws.{SameTraps}
use Rattle.dt_versions.specs.declared.moments.Span.{Span}
use Rattle.dt_walk.specs.declared.arguments.Access.{Access}
use Rattle.dt_walk.specs.declared.arguments.Access.TheVariants as access
use Rattle.dt_judge.specs.declared.atomics.Said.{Said}
use Rattle.dt_judge.specs.Grounds.{Grounds}
use Rattle.dt_judge.specs.Judgement.{FindsBody}
use Rattle.dt_judge.specs.Judging.{are_later}
use Rattle.dt_judge.specs.Kinds.{Accesses, AtomicBy, Leads, Loads, LoadsBy, ReadsRam, access_in, accessed, atomic_on, fine, passed, refill_finding, seen_by, started, stored, trap_spans}
use Rattle.dt_judge.proofs.LaterFits.{Steady, is_seen}
use Rattle.dt_judge.proofs.LaterReads.{answer_more}
use Rattle.dt_judge.proofs.LaterWrites.{first_same, last_same, last_within}

-- What is found of a record is the same with writes of later cycles.

-- the laws of the checks that this rests on
pub record CheckLaws : Type 0 where
  pub starts : SameStarts
  pub addresses : SameAddresses
  pub traps : SameTraps
  pub atomics : FirstWritesDecideAtomics
  pub refills : SameRefills

leads_too : {A : Type 0} (r : Result A Misfit) (Later Other : A → Result Passed Misfit → Type 0) (f : Result Passed Misfit) → ((x : A) → Later x f → Other x f) → Leads r Later f → Leads r Other f
leads_too (Ok x) Later Other f too is = too x is
leads_too (Err refused) Later Other f too is = is

-- a load reads in a cycle that is not later
abbrev pub ReadsUntil : ℕ → Body → Type 0
ReadsUntil stamp (Load retire at paddr) = at ≤ stamp
ReadsUntil stamp body = Unit {0}

-- the grounds with more writes
abbrev pub with_more : Grounds → List Write → Grounds
with_more g later = record g { writes = g.writes ++ later }

-- the checks see no write that stands behind the grounds' own
pub record SeesNoMore (g : Grounds) (later : List Write) : Type 0 where
  pub fetch : BeginAlike g.fetch g.writes (g.writes ++ later)
  pub window : (va : ℕ) → take (g.window va).last g.writes ≡ take (g.window va).last (g.writes ++ later)

module _ (laws : CheckLaws) (g : Grounds) (later : List Write) (stamp : ℕ) (after : IsTrue (are_later stamp later)) (sees : SeesNoMore g later)
    (steady : Steady g.writes later g.actions g.moments) (seen : IsTrue (list_all (is_seen stamp) g.actions)) where
  abbrev more : Grounds
  more = with_more g later

  started_same : (pc bits tag : ℕ) → started g pc bits tag ≡ started more pc bits tag
  started_same pc bits tag = laws.starts g.image g.writes (g.writes ++ later) g.fetch g.arch pc bits tag sees.fetch

  accessed_same : (a : Access) (ram_only : Bool) (va paddr : ℕ) → accessed g a ram_only va paddr ≡ accessed more a ram_only va paddr
  accessed_same a ram_only va paddr = laws.addresses g.image g.writes (g.writes ++ later) (g.window va) (walk_args g.arch a va) ram_only paddr (sees.window va)

  stored_same : (stale : Bool) (plan : Planned) (paddr value : ℕ) → stored g stale plan paddr value ≡ stored more stale plan paddr value
  stored_same stale (NeedsStore va width due) paddr value =
      ap (λ r. and_then r (λ older. and_then (store_data_check due value) (λ _. passed (record NO_LETTERS { p = stale || older })))) (accessed_same access.Store false va paddr)
  stored_same stale (Done rd due next) paddr value = refl
  stored_same stale (NeedsLoad va width signed rd) paddr value = refl
  stored_same stale (NeedsAtomic va width op aq rl rd operand) paddr value = refl
  stored_same stale (Csr number op operand reads writes rd) paddr value = refl
  stored_same stale (Returns from_m) paddr value = refl
  stored_same stale (Fences ww wr rr) paddr value = refl
  stored_same stale FenceI paddr value = refl
  stored_same stale (FencesPages va all) paddr value = refl
  stored_same stale (Raises cause tval) paddr value = refl

  reads_ram : (p : Bool) (ask : LoadAsk) (signed : Bool) (value : ℕ) (f : Result Passed Misfit) → ask.at ≤ stamp → ask.key.stamp ≤ stamp → ReadsRam g p ask signed value f → ReadsRam more p ask signed value f
  reads_ram p ask signed value f at early is = (is.0, is.1, answer_more g.writes later stamp after g.actions g.moments steady seen g.image ask signed value is.0 (record { at = at; key = early }) is.2, is.3)

  loads : (in_ram p : Bool) (ask : LoadAsk) (signed : Bool) (value : ℕ) (f : Result Passed Misfit) → ask.at ≤ stamp → ask.key.stamp ≤ stamp → Loads in_ram g p ask signed value f → Loads in_ram more p ask signed value f
  loads true p ask signed value f at early is =
      leads_too (order_check g.actions ask.at) (λ _ found. ReadsRam g p ask signed value found) (λ _ found. ReadsRam more p ask signed value found) f (λ _. reads_ram p ask signed value f at early) is
  loads false p ask signed value f at early is = is

  loads_by : (key : Key) (stale : Bool) (plan : Planned) (value at paddr : ℕ) (f : Result Passed Misfit) → at ≤ stamp → key.stamp ≤ stamp → LoadsBy g key stale plan value at paddr f → LoadsBy more key stale plan value at paddr f
  loads_by key stale (NeedsLoad va width signed rd) value at paddr f before early is =
      let ask : LoadAsk = ask_of key at paddr width value in
      leads_too (accessed more access.Load false va paddr) (λ older found. Loads (is_in_ram paddr) g (stale || older) ask signed value found)
      (λ older found. Loads (is_in_ram paddr) more (stale || older) ask signed value found) f
      (λ older. loads (is_in_ram paddr) (stale || older) ask signed value f before early)
      (subst (λ r. Leads r (λ older found. Loads (is_in_ram paddr) g (stale || older) ask signed value found) f) (accessed_same access.Load false va paddr) is)
  loads_by key stale (Done rd due next) value at paddr f before early is = is
  loads_by key stale (NeedsStore va width due) value at paddr f before early is = is
  loads_by key stale (NeedsAtomic va width op aq rl rd operand) value at paddr f before early is = is
  loads_by key stale (Csr number op operand reads writes rd) value at paddr f before early is = is
  loads_by key stale (Returns from_m) value at paddr f before early is = is
  loads_by key stale (Fences ww wr rr) value at paddr f before early is = is
  loads_by key stale FenceI value at paddr f before early is = is
  loads_by key stale (FencesPages va all) value at paddr f before early is = is
  loads_by key stale (Raises cause tval) value at paddr f before early is = is

  -- an atomic takes place at its key
  atomic_answer : (key : Key) (x : AtomicAccess) (answer : Result Passed Misfit) → key.stamp ≡ stamp → IsAtomicAnswer (atomic_on g) key x answer → IsAtomicAnswer (atomic_on more) key x answer
  atomic_answer key x answer now is = (laws.atomics (atomic_on g) later key x answer (subst (λ n. IsTrue (are_later n later)) (sym now) after) steady).0 is

  atomic_by : (key : Key) (stale : Bool) (plan : Planned) (said : Said) (f : Result Passed Misfit) → key.stamp ≡ stamp → AtomicBy g key stale plan said f → AtomicBy more key stale plan said f
  atomic_by key stale (NeedsAtomic va width op aq rl rd operand) said f now is =
      let x : AtomicAccess = access_in op width rl operand said in
      leads_too (accessed more (atomic_access op) true va said.paddr) (λ older found. Accesses g key (stale || older) x found) (λ older found. Accesses more key (stale || older) x found) f
      (λ older at. (at.0, atomic_answer key x at.0 now at.1, at.2))
      (subst (λ r. Leads r (λ older found. Accesses g key (stale || older) x found) f) (accessed_same (atomic_access op) true va said.paddr) is)
  atomic_by key stale (Done rd due next) said f now is = is
  atomic_by key stale (NeedsLoad va width signed rd) said f now is = is
  atomic_by key stale (NeedsStore va width due) said f now is = is
  atomic_by key stale (Csr number op operand reads writes rd) said f now is = is
  atomic_by key stale (Returns from_m) said f now is = is
  atomic_by key stale (Fences ww wr rr) said f now is = is
  atomic_by key stale FenceI said f now is = is
  atomic_by key stale (FencesPages va all) said f now is = is
  atomic_by key stale (Raises cause tval) said f now is = is

  -- what a record of this cycle may see is the same
  seen_same : (key : Key) → key.stamp ≡ stamp → seen_by g.writes key ≡ seen_by (g.writes ++ later) key
  seen_same key now =
      let early : key.stamp ≤ stamp = omega arith in
      let first = first_same g.writes later stamp after key key.stamp early in
      let end = last_same g.writes later stamp after key key.stamp early in
      sym (λ i. record { first = first i; last = end i })

  refilled_same : (key : Key) (line : ℕ) (bytes : List ℕ) → key.stamp ≡ stamp → refill_finding g key line bytes ≡ refill_finding more key line bytes
  refilled_same key line bytes now =
      let seen = seen_by g.writes key in
      let within_seen = last_within g.writes later stamp after key key.stamp in
      ap (λ (r : Result (Unit {0}) Misfit). and_then r fine)
      (laws.refills g.image g.writes (g.writes ++ later) seen line bytes (sym (take-append-le seen.last g.writes later within_seen))
      ∙ ap (λ (s : Span). refill_check g.image (g.writes ++ later) s line bytes) (seen_same key now))

  pub finds_more : (key : Key) (b : Body) (f : Result Passed Misfit) → ReadsUntil stamp b → key.stamp ≡ stamp → FindsBody g key b f → FindsBody more key b f
  finds_more key (Commit retire) f at now is =
      is ∙ ap (λ r. and_then r (λ (st : Started).
      and_then (undrained_check g.actions st.plan key.stamp key.seq) (λ _.
      and_then (commit_value_check g.arch st.plan retire.value) (λ adopted.
      passed (record NO_LETTERS { p = st.stale; c = adopted }))))) (started_same retire.pc retire.bits 1)
  finds_more key (Trap pc bits cause tval) f at now is =
      is ∙ ap (λ r. and_then r passed) (laws.traps g.image g.writes (g.writes ++ later) (trap_spans g bits) g.arch pc bits cause tval (record { fetch = sees.fetch; access = sees.window (unwrap_or (access_address g.arch bits) 0) }))
  finds_more key (Regs pc x) f at now is = is
  finds_more key (Csrs mode v) f at now is = is
  finds_more key (Load retire at paddr) f before now is =
      leads_too (started more retire.pc retire.bits 5) (λ st found. LoadsBy g key st.stale st.plan retire.value at paddr found) (λ st found. LoadsBy more key st.stale st.plan retire.value at paddr found) f
      (λ st. loads_by key st.stale st.plan retire.value at paddr f before (omega arith))
      (subst (λ r. Leads r (λ (st : Started) found. LoadsBy g key st.stale st.plan retire.value at paddr found) f) (started_same retire.pc retire.bits 5) is)
  finds_more key (Store pc bits paddr value) f at now is =
      let later_part : (λ (st : Started). stored g st.stale st.plan paddr value) ≡ (λ (st : Started). stored more st.stale st.plan paddr value) = λ i st. stored_same st.stale st.plan paddr value i in
      is ∙ ap (λ r. and_then r (λ (st : Started). stored g st.stale st.plan paddr value)) (started_same pc bits 6)
      ∙ ap (λ (then : Started → Result Passed Misfit). and_then (started more pc bits 6) then) later_part
  finds_more key (Atomic retire paddr width wrote new) f at now is =
      let said : Said = record { value = retire.value; paddr = paddr; width = width; wrote = wrote; new = new } in
      leads_too (started more retire.pc retire.bits 7) (λ st found. AtomicBy g key st.stale st.plan said found) (λ st found. AtomicBy more key st.stale st.plan said found) f
      (λ st. atomic_by key st.stale st.plan said f now)
      (subst (λ r. Leads r (λ (st : Started) found. AtomicBy g key st.stale st.plan said found) f) (started_same retire.pc retire.bits 7) is)
  finds_more key (Drain line mask count bytes) f at now is = is
  finds_more key (Refill line bytes) f at now is = is ∙ refilled_same key line bytes now
  finds_more key Beat f at now is = is

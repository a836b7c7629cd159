use Rattle.std.proofs.Common.{ℕ, ◌≡◌, ◌≤◌, ◌||◌, Bool, true, false, Option, Some, None, List, ◌++◌, Result, Ok, Err, IsTrue, inl, inr, refl, sym, subst, ◌∙◌}
use Rattle.std.specs.Prelude.{◌≢◌, IfSome}
use Rattle.std.specs.Option.{option_to_list}
use Rattle.std.proofs.lemmas.Bool.{cases_Bool, false≢true}
use Rattle.std.proofs.lemmas.List.{append-nil}
use Rattle.dt_atomics.specs.declared.accesses.AtomicAccess.{AtomicAccess}
use Rattle.dt_atomics.specs.Laws.{AtomicsHaveAnAnswer}
use Rattle.dt_checks.specs.declared.starting.Started.{Started}
use Rattle.dt_checks.specs.Retiring.{due_tag}
use Rattle.dt_decode.specs.declared.instructions.Instr.{Instr}
use Rattle.dt_decode.specs.declared.instructions.Instr.TheVariants.{Fence as FenceOf}
use Rattle.dt_decode.specs.Decoded.{IsDecoded}
use Rattle.dt_decode.specs.Table.{instr_of}
use Rattle.dt_hart.specs.Settings.{Setting, did, does, key_in, moments_after}
use Rattle.dt_rules.specs.declared.misfits.Passed.{Passed}
use Rattle.dt_loads.specs.Checks.{order_check}
use Rattle.dt_loads.specs.Reading.{IsLoadAnswer, IsReading, LoadsHaveAnAnswer, ask_of}
use Rattle.dt_record.specs.declared.accesses.LoadAsk.{LoadAsk}
use Rattle.dt_record.specs.declared.keys.Key.{Key}
use Rattle.dt_record.specs.declared.records.Body.{Body}
use Rattle.dt_record.specs.declared.records.Body.TheVariants.{Commit, Trap, Regs, Csrs, Load, Store, Atomic, Drain, Refill, Beat}
use Rattle.dt_record.specs.declared.records.Record.{Record}
use Rattle.dt_record.specs.declared.records.Retire.{Retire}
use Rattle.dt_record.specs.Actions.{Action, Stored, Drained, Fenced, Loaded, Atomic as Accessed}
use Rattle.dt_record.specs.Lawful.{is_in_ram}
use Rattle.dt_record.specs.LoadSources.{AreLeastSources}
use Rattle.dt_reference.specs.HartActions.{body_action, commit_action, width_of}
use Rattle.dt_reference.specs.Meaning.{meaning_of}
use Rattle.dt_rules.specs.declared.misfits.Misfit.{Misfit}
use Rattle.dt_sources.specs.Choice.{LeastChoiceGoesOn, LeastChoiceIsLeast, then_action}
use Rattle.dt_step.specs.declared.plans.Planned.{Planned}
use Rattle.dt_step.specs.declared.plans.Planned.TheVariants.{Done, NeedsLoad, NeedsStore, NeedsAtomic, Csr, Returns, Fences, FenceI, FencesPages, Raises}
use Rattle.dt_access.specs.Translating.{atomic_access}
use Rattle.dt_versions.specs.History.{are_in_order}
use Rattle.dt_walk.specs.declared.arguments.Access.TheVariants as access
use Rattle.dt_judge.specs.declared.atomics.Said.{Said}
use Rattle.dt_judge.specs.Grounds.{Grounds, grounds_of}
use Rattle.dt_judge.specs.Judgement.{Finds, FindsBody}
use Rattle.dt_judge.specs.Kinds.{Accesses, AtomicBy, IsLoadFinding, Leads, Loads, LoadsBy, LoadsRam, ReadsRam, access_in, accessed, atomic_on, started, with_p}
use Rattle.dt_judge.proofs.Placing.{differs}
use Rattle.dt_judge.proofs.PlannedBy.{few_planned, planned_width, started_is_planned}
use Rattle.dt_judge.proofs.Widths.{width_in}

-- A record has a finding, and the least fitting assignment goes on by an allowed one.

-- the laws that this rests on
pub record Laws : Type 0 where
  pub loads : LoadsHaveAnAnswer
  pub atomics : AtomicsHaveAnAnswer
  pub decoded : (bits : ℕ) → IfSome (instr_of bits) IsDecoded
  pub is_least : LeastChoiceIsLeast
  pub goes_on : LeastChoiceGoesOn

-- ---- there is a finding

abbrev pub HasFinding : (Result Passed Misfit → Type 0) → Type 0
HasFinding P = (f : Result Passed Misfit) × P f

leads_somewhere : {A : Type 0} (r : Result A Misfit) (Later : A → Result Passed Misfit → Type 0) → ((x : A) → r ≡ Ok x → HasFinding (Later x)) → HasFinding (Leads r Later)
leads_somewhere (Ok x) Later each = each x refl
leads_somewhere (Err refused) Later each = (Err refused, refl)

module _ (laws : Laws) (g : Grounds) (ordered : IsTrue (are_in_order g.writes)) (chosen : AreLeastSources g.image g.writes g.actions g.moments) where
  read_found : (p : Bool) (ask : LoadAsk) (signed : Bool) (value : ℕ) → ask.width ≤ 8 → HasFinding (ReadsRam g p ask signed value)
  read_found p ask signed value few =
      let answer = laws.loads g.image g.writes g.actions g.moments ask signed value few ordered chosen in
      (with_p p answer.0, (answer.0, answer.1, answer.2, refl))

  loads_found : (in_ram p : Bool) (ask : LoadAsk) (signed : Bool) (value : ℕ) → ask.width ≤ 8 → HasFinding (Loads in_ram g p ask signed value)
  loads_found true p ask signed value few =
      leads_somewhere (order_check g.actions ask.at) (λ _ found. ReadsRam g p ask signed value found) (λ x is. read_found p ask signed value few)
  loads_found false p ask signed value few = (_, refl)

  load_found : (key : Key) (stale : Bool) (plan : Planned) (value at paddr : ℕ) → width_in plan ≤ 8 → HasFinding (LoadsBy g key stale plan value at paddr)
  load_found key stale (NeedsLoad va width signed rd) value at paddr few =
      leads_somewhere (accessed g access.Load false va paddr) (λ older found. Loads (is_in_ram paddr) g (stale || older) (ask_of key at paddr width value) signed value found)
      (λ older is. loads_found (is_in_ram paddr) (stale || older) (ask_of key at paddr width value) signed value few)
  load_found key stale (Done rd due next) value at paddr few = (_, refl)
  load_found key stale (NeedsStore va width due) value at paddr few = (_, refl)
  load_found key stale (NeedsAtomic va width op aq rl rd operand) value at paddr few = (_, refl)
  load_found key stale (Csr number op operand reads writes rd) value at paddr few = (_, refl)
  load_found key stale (Returns from_m) value at paddr few = (_, refl)
  load_found key stale (Fences ww wr rr) value at paddr few = (_, refl)
  load_found key stale FenceI value at paddr few = (_, refl)
  load_found key stale (FencesPages va all) value at paddr few = (_, refl)
  load_found key stale (Raises cause tval) value at paddr few = (_, refl)

  access_found : (key : Key) (p : Bool) (x : AtomicAccess) → HasFinding (Accesses g key p x)
  access_found key p x = let answer = laws.atomics (atomic_on g) key x in (with_p p answer.0, (answer.0, answer.1, refl))

  atomic_found : (key : Key) (stale : Bool) (plan : Planned) (said : Said) → HasFinding (AtomicBy g key stale plan said)
  atomic_found key stale (NeedsAtomic va width op aq rl rd operand) said =
      leads_somewhere (accessed g (atomic_access op) true va said.paddr) (λ older found. Accesses g key (stale || older) (access_in op width rl operand said) found)
      (λ older is. access_found key (stale || older) (access_in op width rl operand said))
  atomic_found key stale (Done rd due next) said = (_, refl)
  atomic_found key stale (NeedsLoad va width signed rd) said = (_, refl)
  atomic_found key stale (NeedsStore va width due) said = (_, refl)
  atomic_found key stale (Csr number op operand reads writes rd) said = (_, refl)
  atomic_found key stale (Returns from_m) said = (_, refl)
  atomic_found key stale (Fences ww wr rr) said = (_, refl)
  atomic_found key stale FenceI said = (_, refl)
  atomic_found key stale (FencesPages va all) said = (_, refl)
  atomic_found key stale (Raises cause tval) said = (_, refl)

  -- a load that retires moves at most eight bytes
  few_bytes : (retire : Retire) (st : Started) → started g retire.pc retire.bits 5 ≡ Ok st → width_in st.plan ≤ 8
  few_bytes retire st is =
      let planned = started_is_planned g retire.pc retire.bits 5 st is in
      few_planned laws.decoded g.arch retire.bits 5 st.plan planned (λ one. differs 5 1 refl (sym planned.due ∙ one))

  pub body_found : (key : Key) (b : Body) → HasFinding (FindsBody g key b)
  body_found key (Load retire at paddr) =
      leads_somewhere (started g retire.pc retire.bits 5) (λ st found. LoadsBy g key st.stale st.plan retire.value at paddr found)
      (λ st is. load_found key st.stale st.plan retire.value at paddr (few_bytes retire st is))
  body_found key (Atomic retire paddr width wrote new) =
      let said : Said = record { value = retire.value; paddr = paddr; width = width; wrote = wrote; new = new } in
      leads_somewhere (started g retire.pc retire.bits 7) (λ st found. AtomicBy g key st.stale st.plan said found) (λ st is. atomic_found key st.stale st.plan said)
  body_found key (Commit retire) = (_, refl)
  body_found key (Trap pc bits cause tval) = (_, refl)
  body_found key (Regs pc x) = (_, refl)
  body_found key (Csrs mode v) = (_, refl)
  body_found key (Store pc bits paddr value) = (_, refl)
  body_found key (Drain line mask count bytes) = (_, refl)
  body_found key (Refill line bytes) = (_, refl)
  body_found key Beat = (_, refl)

-- ---- the least fitting assignment goes on

-- what was found of checks whose later part is a relation
leads_back : {A : Type 0} (r : Result A Misfit) (Later : A → Result Passed Misfit → Type 0) (p : Passed) → Leads r Later (Ok p) → (x : A) × (r ≡ Ok x) × Later x (Ok p)
leads_back (Ok x) Later p is = (x, refl, is)
leads_back (Err refused) Later p is = absurd (let no : Ok p ≡ Err refused = is in cc)

module _ (g : Grounds) (key : Key) (p : Passed) where
  -- an allowed load from RAM has a reading
  abbrev Read : (width value at paddr : ℕ) → Type 0
  Read width value at paddr = (passed : Passed) × IsReading g.image g.writes g.actions g.moments (ask_of key at paddr width value) passed

  answer_read : (q : Bool) (ask : LoadAsk) (signed : Bool) (value : ℕ) (answer : Result Passed Misfit) → ◌≡◌ {A = Result Passed Misfit} (Ok p) (with_p q answer)
      → IsLoadAnswer g.image g.writes g.actions g.moments ask signed value answer → (passed : Passed) × IsReading g.image g.writes g.actions g.moments ask passed
  answer_read q ask signed value (Ok passed) is answers = (passed, answers.1)
  answer_read q ask signed value (Err refused) is answers = absurd (let no : Ok p ≡ Err refused = is in cc)

  loads_read : (q : Bool) (width : ℕ) (signed : Bool) (value at paddr : ℕ) → LoadsRam g q (ask_of key at paddr width value) signed value (Ok p) → Read width value at paddr
  loads_read q width signed value at paddr is =
      let ask : LoadAsk = ask_of key at paddr width value in
      let led = leads_back (order_check g.actions at) (λ _ found. ReadsRam g q ask signed value found) p is in
      let read : ReadsRam g q ask signed value (Ok p) = led.2 in
      answer_read q ask signed value read.0 read.3 read.2

  plan_read : (stale : Bool) (plan : Planned) (value at paddr : ℕ) → is_in_ram paddr ≡ true → due_tag plan ≡ 5 → LoadsBy g key stale plan value at paddr (Ok p) → Read (width_in plan) value at paddr
  plan_read stale (NeedsLoad va width signed rd) value at paddr ram due is =
      let ask : LoadAsk = ask_of key at paddr width value in
      let led = leads_back (accessed g access.Load false va paddr) (λ older found. Loads (is_in_ram paddr) g (stale || older) ask signed value found) p is in
      let loads : Loads true g (stale || led.0) ask signed value (Ok p) = subst (λ b. Loads b g (stale || led.0) ask signed value (Ok p)) ram led.2 in
      loads_read (stale || led.0) width signed value at paddr loads
  plan_read stale (Done rd value next) found at paddr ram due is = absurd (differs 1 5 refl due)
  plan_read stale (NeedsStore va width value) found at paddr ram due is = absurd (differs 6 5 refl due)
  plan_read stale (NeedsAtomic va width op aq rl rd operand) found at paddr ram due is = absurd (differs 7 5 refl due)
  plan_read stale (Csr number op operand reads writes rd) found at paddr ram due is = absurd (differs 1 5 refl due)
  plan_read stale (Returns from_m) found at paddr ram due is = absurd (differs 1 5 refl due)
  plan_read stale (Fences ww wr rr) found at paddr ram due is = absurd (differs 1 5 refl due)
  plan_read stale FenceI found at paddr ram due is = absurd (differs 1 5 refl due)
  plan_read stale (FencesPages va all) found at paddr ram due is = absurd (differs 1 5 refl due)
  plan_read stale (Raises cause tval) found at paddr ram due is = absurd (differs 1 5 refl due)

  load_read : (retire : Retire) (at paddr : ℕ) → is_in_ram paddr ≡ true → IsLoadFinding g key retire at paddr (Ok p) → Read (width_of (meaning_of retire.bits)) retire.value at paddr
  load_read retire at paddr ram is =
      let led = leads_back (started g retire.pc retire.bits 5) (λ st found. LoadsBy g key st.stale st.plan retire.value at paddr found) p is in
      let planned = started_is_planned g retire.pc retire.bits 5 led.0 led.1 in
      let width = planned_width g.arch retire.bits 5 led.0.plan planned (λ one. differs 5 1 refl (sym planned.due ∙ one)) in
      subst (λ w. Read w retire.value at paddr) width (plan_read led.0.stale led.0.plan retire.value at paddr ram planned.due led.2)

-- an action that is no load
abbrev is_quiet : Option Action → Bool
is_quiet (Some (Loaded ask)) = false
is_quiet action = true

-- the least fitting assignment after one more action
abbrev pub GoesOnAt : Setting → Option Action → ℕ → Type 0
GoesOnAt s action moment = AreLeastSources s.image s.writes (did s ++ option_to_list action) (moments_after s action moment)

module _ (laws : Laws) (s : Setting) (ordered : IsTrue (are_in_order s.writes)) (chosen : AreLeastSources s.image s.writes (did s) s.moments) where
  other_least : (action : Action) → ((ask : LoadAsk) → action ≢ Loaded ask) → AreLeastSources s.image s.writes (then_action (did s) action) s.moments
  other_least action no_load =
      (laws.is_least s.image s.writes (then_action (did s) action) s.moments ordered).0
      (laws.goes_on.other s.image s.writes (did s) s.moments action ((laws.is_least s.image s.writes (did s) s.moments ordered).1 chosen) no_load)

  quiet_least : (action : Option Action) → is_quiet action ≡ true → GoesOnAt s action 0
  quiet_least None quiet = subst (λ (l : List Action). AreLeastSources s.image s.writes l s.moments) (sym (append-nil (did s))) chosen
  quiet_least (Some (Stored store)) quiet = other_least (Stored store) (λ ask is. cc is)
  quiet_least (Some (Drained key line count)) quiet = other_least (Drained key line count) (λ ask is. cc is)
  quiet_least (Some (Fenced ww wr rr)) quiet = other_least (Fenced ww wr rr) (λ ask is. cc is)
  quiet_least (Some (Accessed key addr width reads acquires)) quiet = other_least (Accessed key addr width reads acquires) (λ ask is. cc is)
  quiet_least (Some (Loaded ask)) quiet = absurd (false≢true quiet)

  commit_quiet : (o : Option Instr) → is_quiet (commit_action o) ≡ true
  commit_quiet (Some (FenceOf fm pred succ)) = refl
  commit_quiet o = refl

  quiet_on : (action : Option Action) → is_quiet action ≡ true → (moment : ℕ) × GoesOnAt s action moment
  quiet_on action quiet = (0, quiet_least action quiet)

  -- by an allowed record with this body
  body_goes_on : (key : Key) (p : Passed) (b : Body) → FindsBody (grounds_of s key) key b (Ok p) → (moment : ℕ) × GoesOnAt s (body_action key b) moment
  body_goes_on key p (Load retire at paddr) is = elim (cases_Bool (is_in_ram paddr)) [
    | inr device ↦ rw device (quiet_on None refl)
    | inl ram ↦
        let read = load_read (grounds_of s key) key p retire at paddr ram is in
        rw ram (read.1.moment, read.1.chosen)
  ]
  body_goes_on key p (Store pc bits paddr value) is = elim (cases_Bool (is_in_ram paddr)) [
    | inr device ↦ rw device (quiet_on None refl)
    | inl ram ↦ rw ram (quiet_on (Some (Stored (record { seq = key.seq; addr = paddr; width = width_of (meaning_of bits); value = value }))) refl)
  ]
  body_goes_on key p (Commit retire) is = quiet_on (commit_action (meaning_of retire.bits)) (commit_quiet (meaning_of retire.bits))
  body_goes_on key p (Trap pc bits cause tval) is = quiet_on None refl
  body_goes_on key p (Regs pc x) is = quiet_on None refl
  body_goes_on key p (Csrs mode v) is = quiet_on None refl
  body_goes_on key p (Atomic retire paddr width wrote new) is = quiet_on (body_action key (Atomic retire paddr width wrote new)) refl
  body_goes_on key p (Drain line mask count bytes) is = quiet_on (Some (Drained key line count)) refl
  body_goes_on key p (Refill line bytes) is = quiet_on None refl
  body_goes_on key p Beat is = quiet_on None refl

  pub least_goes_on : (r : Record) (p : Passed) → Finds s r (Ok p) → (moment : ℕ) × GoesOnAt s (does s r) moment
  least_goes_on r p is = body_goes_on (key_in s r) p r.body is

pub finding_of : (laws : Laws) (s : Setting) → IsTrue (are_in_order s.writes) → AreLeastSources s.image s.writes (did s) s.moments → (r : Record) → HasFinding (Finds s r)
finding_of laws s ordered chosen r = body_found laws (grounds_of s (key_in s r)) ordered chosen (key_in s r) r.body

use Rattle.std.specs.Prelude.{ℕ, ◌≡◌, ◌||◌, Bool, true, false, List, Result, Ok, Err}
use Rattle.std.specs.Option.{unwrap_or}
use Rattle.dt_record.specs.declared.accesses.LoadAsk.{LoadAsk}
use Rattle.dt_record.specs.declared.keys.Key.{Key}
use Rattle.dt_record.specs.declared.origins.Letters.{Letters}
use Rattle.dt_record.specs.declared.reasons.Reason.TheVariants.{Kind}
use Rattle.dt_record.specs.declared.records.Retire.{Retire}
use Rattle.dt_record.specs.declared.writes.Write.{Write}
use Rattle.dt_record.specs.Lawful.{is_in_ram}
use Rattle.dt_rules.specs.declared.misfits.Misfit.{Misfit}
use Rattle.dt_rules.specs.declared.misfits.TheConstants.{NO_LETTERS, NO_NUMBER, NO_SOURCES}
use Rattle.dt_rules.specs.Checks.{and_then, misfit}
use Rattle.dt_step.specs.declared.plans.AtomicOp.{AtomicOp}
use Rattle.dt_step.specs.declared.plans.Planned.{Planned}
use Rattle.dt_step.specs.declared.plans.Planned.TheVariants.{NeedsLoad, NeedsStore, NeedsAtomic}
use Rattle.dt_walk.specs.declared.arguments.Access.{Access}
use Rattle.dt_walk.specs.declared.arguments.Access.TheVariants as access
use Rattle.dt_versions.specs.declared.moments.Span.{Span}
use Rattle.dt_versions.specs.History.{history}
use Rattle.dt_versions.specs.Spans.{first_visible, last_visible}
use Rattle.dt_access.specs.Translating.{atomic_access, walk_args}
use Rattle.dt_atomics.specs.declared.accesses.AtomicAccess.{AtomicAccess}
use Rattle.dt_atomics.specs.Answers.{IsAtomicAnswer}
use Rattle.dt_atomics.specs.Grounds.{AtomicGrounds, atomic_grounds}
use Rattle.dt_checks.specs.declared.starting.Started.{Started}
use Rattle.dt_checks.specs.Starting.{start_check}
use Rattle.dt_checks.specs.Addresses.{address_check}
use Rattle.dt_commits.specs.Undrained.{undrained_check}
use Rattle.dt_commits.specs.Values.{commit_value_check}
use Rattle.dt_drains.specs.Draining.{store_data_check}
use Rattle.dt_rules.specs.declared.misfits.Passed.{Passed}
use Rattle.dt_loads.specs.Checks.{device_check, order_check}
use Rattle.dt_loads.specs.Reading.{HasEightPlaces, IsLoadAnswer, ask_of}
use Rattle.dt_refills.specs.Refilling.{refill_check}
use Rattle.dt_traps.specs.declared.traps.TrapSpans.{TrapSpans}
use Rattle.dt_traps.specs.Instructions.{access_address}
use Rattle.dt_traps.specs.Traps.{trap_check}
use Rattle.dt_judge.specs.declared.atomics.Said.{Said}
use Rattle.dt_judge.specs.Grounds.{Grounds}

-- The judgement of a record by its kind (this project's own): allowed, with its letters and sources, or the misfit of the
-- first check that fails.

abbrev pub passed : Letters → Result Passed Misfit
passed letters = Ok (record { letters = letters; sources = NO_SOURCES })

-- an allowed record of which nothing else is to be said
abbrev pub fine : {A : Type 0} → A → Result Passed Misfit
fine x = passed NO_LETTERS

-- a record with this tag whose plan asks for another kind; the checks that it begins with let none through
abbrev pub of_another_kind : (tag : ℕ) → Result Passed Misfit
of_another_kind tag = Err (misfit Kind NO_NUMBER tag)

-- the checks that a record of a retired instruction begins with
abbrev pub started : Grounds → (pc bits tag : ℕ) → Result Started Misfit
started g pc bits tag = start_check g.image g.writes g.fetch g.arch pc bits tag

-- where an access goes
abbrev pub accessed : Grounds → Access → (ram_only : Bool) → (va paddr : ℕ) → Result Bool Misfit
accessed g access ram_only va paddr =
    address_check g.image g.writes (g.window va) (walk_args g.arch access va) ram_only paddr

-- what comes of checks whose later part is a relation
abbrev pub Leads : {A : Type 0} → Result A Misfit → (A → Result Passed Misfit → Type 0) → Result Passed Misfit → Type 0
Leads (Ok x) Later f = Later x f
Leads (Err refused) Later f = f ≡ Err refused

abbrev pub commit_finding : Grounds → Key → Retire → Result Passed Misfit
commit_finding g key retire =
    and_then (started g retire.pc retire.bits 1) (λ st.
    and_then (undrained_check g.actions st.plan key.stamp key.seq) (λ _.
    and_then (commit_value_check g.arch st.plan retire.value) (λ adopted.
    passed (record NO_LETTERS { p = st.stale; c = adopted }))))

-- the moments for a trap: of the fetch, and of the page that its instruction accesses, if it accesses one
abbrev pub trap_spans : Grounds → (bits : ℕ) → TrapSpans
trap_spans g bits = record { fetch = g.fetch; access = g.window (unwrap_or (access_address g.arch bits) 0) }

abbrev pub trap_finding : Grounds → (pc bits cause tval : ℕ) → Result Passed Misfit
trap_finding g pc bits cause tval = and_then (trap_check g.image g.writes (trap_spans g bits) g.arch pc bits cause tval) passed

-- a store after its common start; no other plan starts in a Store record
abbrev pub stored : Grounds → (stale : Bool) → Planned → (paddr value : ℕ) → Result Passed Misfit
stored g stale (NeedsStore va width due) paddr value =
    and_then (accessed g access.Store false va paddr) (λ older.
    and_then (store_data_check due value) (λ _.
    passed (record NO_LETTERS { p = stale || older })))
stored g stale plan paddr value = of_another_kind 6

abbrev pub store_finding : Grounds → (pc bits paddr value : ℕ) → Result Passed Misfit
store_finding g pc bits paddr value = and_then (started g pc bits 6) (λ st. stored g st.stale st.plan paddr value)

-- the moments that a record with this key may see at its stamp
abbrev pub seen_by : List Write → Key → Span
seen_by writes key = record { first = first_visible writes key key.stamp; last = last_visible writes key key.stamp }

-- a refill: some moment that the record may see has the whole line
abbrev pub refill_finding : Grounds → Key → (line : ℕ) → List ℕ → Result Passed Misfit
refill_finding g key line bytes = and_then (refill_check g.image g.writes (seen_by g.writes key) line bytes) fine

-- the letter P of an allowed load or atomic, beside its others
abbrev pub with_p : (p : Bool) → Result Passed Misfit → Result Passed Misfit
with_p p (Ok x) = Ok (record x { letters = record x.letters { p = p } })
with_p p (Err refused) = Err refused

-- a load from RAM, where its order allows it
abbrev pub ReadsRam : Grounds → (p : Bool) → LoadAsk → (signed : Bool) → (value : ℕ) → Result Passed Misfit → Type 0
ReadsRam g p ask signed value f =
    (answer : Result Passed Misfit) × HasEightPlaces answer
    × IsLoadAnswer g.image g.writes g.actions g.moments ask signed value answer
    × (f ≡ with_p p answer)

abbrev pub LoadsRam : Grounds → (p : Bool) → LoadAsk → (signed : Bool) → (value : ℕ) → Result Passed Misfit → Type 0
LoadsRam g p ask signed value f = Leads (order_check g.actions ask.at) (λ _ found. ReadsRam g p ask signed value found) f

-- a load from a device
abbrev pub device_finding : (p : Bool) → (width : ℕ) → (signed : Bool) → (value : ℕ) → Result Passed Misfit
device_finding p width signed value =
    and_then (device_check width signed value) (λ _. passed (record NO_LETTERS { p = p; d = true }))

-- a load where its address is allowed
abbrev pub Loads : (in_ram : Bool) → Grounds → (p : Bool) → LoadAsk → (signed : Bool) → (value : ℕ) → Result Passed Misfit → Type 0
Loads true g p ask signed value f = LoadsRam g p ask signed value f
Loads false g p ask signed value f = f ≡ device_finding p ask.width signed value

-- a load after its common start; no other plan starts in a Load record
abbrev pub LoadsBy : Grounds → Key → (stale : Bool) → Planned → (value at paddr : ℕ) → Result Passed Misfit → Type 0
LoadsBy g key stale (NeedsLoad va width signed rd) value at paddr f =
    Leads (accessed g access.Load false va paddr)
    (λ older found. Loads (is_in_ram paddr) g (stale || older) (ask_of key at paddr width value) signed value found) f
LoadsBy g key stale plan value at paddr f = f ≡ of_another_kind 5

abbrev pub IsLoadFinding : Grounds → Key → Retire → (at paddr : ℕ) → Result Passed Misfit → Type 0
IsLoadFinding g key retire at paddr f =
    Leads (started g retire.pc retire.bits 5) (λ st found. LoadsBy g key st.stale st.plan retire.value at paddr found) f

-- what an atomic asks for, by its plan, and what its record says
abbrev pub access_in : AtomicOp → (width : ℕ) → (release : Bool) → (operand : ℕ) → Said → AtomicAccess
access_in op width release operand said = record {
  op = op;
  width = width;
  release = release;
  operand = operand;
  paddr = said.paddr;
  value = said.value;
  said_width = said.width;
  wrote = said.wrote;
  new = said.new;
}

-- what an atomic is checked against
abbrev pub atomic_on : Grounds → AtomicGrounds
atomic_on g = atomic_grounds (history g.image g.writes) g.actions g.moments g.reserved

-- an atomic where its address is allowed
abbrev pub Accesses : Grounds → Key → (p : Bool) → AtomicAccess → Result Passed Misfit → Type 0
Accesses g key p x f = (answer : Result Passed Misfit) × IsAtomicAnswer (atomic_on g) key x answer × (f ≡ with_p p answer)

-- an atomic after its common start; no other plan starts in an Atomic record
abbrev pub AtomicBy : Grounds → Key → (stale : Bool) → Planned → Said → Result Passed Misfit → Type 0
AtomicBy g key stale (NeedsAtomic va width op aq rl rd operand) said f =
    Leads (accessed g (atomic_access op) true va said.paddr)
    (λ older found. Accesses g key (stale || older) (access_in op width rl operand said) found) f
AtomicBy g key stale plan said f = f ≡ of_another_kind 7

abbrev pub IsAtomicFinding : Grounds → Key → (pc bits : ℕ) → Said → Result Passed Misfit → Type 0
IsAtomicFinding g key pc bits said f =
    Leads (started g pc bits 7) (λ st found. AtomicBy g key st.stale st.plan said found) f

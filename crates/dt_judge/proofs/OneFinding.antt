use Rattle.std.proofs.Common.{ℕ, ◌≡◌, ◌||◌, Bool, true, false, Result, Ok, Err, sym, ap, ◌∙◌}
use Rattle.dt_record.specs.declared.accesses.LoadAsk.{LoadAsk}
use Rattle.dt_record.specs.declared.keys.Key.{Key}
use Rattle.dt_record.specs.declared.records.Body.{Body}
use Rattle.dt_record.specs.declared.records.Body.TheVariants.{Commit, Trap, Regs, Csrs, Load, Store, Atomic, Drain, Refill, Beat}
use Rattle.dt_record.specs.declared.records.Record.{Record}
use Rattle.dt_record.specs.Lawful.{is_in_ram}
use Rattle.dt_access.specs.Translating.{atomic_access}
use Rattle.dt_atomics.specs.declared.accesses.AtomicAccess.{AtomicAccess}
use Rattle.dt_atomics.specs.Laws.{AtomicsHaveOneAnswer}
use Rattle.dt_hart.specs.Settings.{Setting, key_in}
use Rattle.dt_rules.specs.declared.misfits.Passed.{Passed}
use Rattle.dt_loads.specs.Checks.{order_check}
use Rattle.dt_loads.specs.Reading.{LoadsHaveOneAnswer, ask_of}
use Rattle.dt_rules.specs.declared.misfits.Misfit.{Misfit}
use Rattle.dt_step.specs.declared.plans.Planned.{Planned}
use Rattle.dt_step.specs.declared.plans.Planned.TheVariants.{Done, NeedsLoad, NeedsStore, NeedsAtomic, Csr, Returns, Fences, FenceI, FencesPages, Raises}
use Rattle.dt_walk.specs.declared.arguments.Access.TheVariants as access
use Rattle.dt_judge.specs.declared.atomics.Said.{Said}
use Rattle.dt_judge.specs.Grounds.{Grounds, grounds_of}
use Rattle.dt_judge.specs.Judgement.{FindsBody, Finds}
use Rattle.dt_judge.specs.Kinds.{Accesses, AtomicBy, Leads, Loads, LoadsBy, ReadsRam, access_in, accessed, atomic_on, started, with_p}

-- A record has one finding.

-- a finding that what came before decides
abbrev pub IsOne : (Result Passed Misfit → Type 0) → Type 0
IsOne P = (f g : Result Passed Misfit) → P f → P g → f ≡ g

leads_one : {A : Type 0} (r : Result A Misfit) (Later : A → Result Passed Misfit → Type 0) → ((x : A) → IsOne (Later x)) → IsOne (Leads r Later)
leads_one (Ok x) Later one f g is also = one x f g is also
leads_one (Err refused) Later one f g is also = is ∙ sym also

reads_one : LoadsHaveOneAnswer → (g : Grounds) (p : Bool) (ask : LoadAsk) (signed : Bool) (value : ℕ) → IsOne (ReadsRam g p ask signed value)
reads_one law g p ask signed value f h is also =
    is.3 ∙ ap (with_p p) (law g.image g.writes g.actions g.moments ask signed value is.0 also.0 is.1 also.1 is.2 also.2) ∙ sym also.3

loads_one : LoadsHaveOneAnswer → (in_ram : Bool) (g : Grounds) (p : Bool) (ask : LoadAsk) (signed : Bool) (value : ℕ) → IsOne (Loads in_ram g p ask signed value)
loads_one law true g p ask signed value f h is also =
    leads_one (order_check g.actions ask.at) (λ _ found. ReadsRam g p ask signed value found) (λ _. reads_one law g p ask signed value) f h is also
loads_one law false g p ask signed value f h is also = is ∙ sym also

loads_by_one : LoadsHaveOneAnswer → (g : Grounds) (key : Key) (stale : Bool) (plan : Planned) (value at paddr : ℕ) → IsOne (LoadsBy g key stale plan value at paddr)
loads_by_one law g key stale (NeedsLoad va width signed rd) value at paddr f h is also =
    leads_one (accessed g access.Load false va paddr) (λ older found. Loads (is_in_ram paddr) g (stale || older) (ask_of key at paddr width value) signed value found)
    (λ older. loads_one law (is_in_ram paddr) g (stale || older) (ask_of key at paddr width value) signed value) f h is also
loads_by_one law g key stale (Done rd due next) value at paddr f h is also = is ∙ sym also
loads_by_one law g key stale (NeedsStore va width due) value at paddr f h is also = is ∙ sym also
loads_by_one law g key stale (NeedsAtomic va width op aq rl rd operand) value at paddr f h is also = is ∙ sym also
loads_by_one law g key stale (Csr number op operand reads writes rd) value at paddr f h is also = is ∙ sym also
loads_by_one law g key stale (Returns from_m) value at paddr f h is also = is ∙ sym also
loads_by_one law g key stale (Fences ww wr rr) value at paddr f h is also = is ∙ sym also
loads_by_one law g key stale FenceI value at paddr f h is also = is ∙ sym also
loads_by_one law g key stale (FencesPages va all) value at paddr f h is also = is ∙ sym also
loads_by_one law g key stale (Raises cause tval) value at paddr f h is also = is ∙ sym also

accesses_one : AtomicsHaveOneAnswer → (g : Grounds) (key : Key) (p : Bool) (x : AtomicAccess) → IsOne (Accesses g key p x)
accesses_one law g key p x f h is also = is.2 ∙ ap (with_p p) (law (atomic_on g) key x is.0 also.0 is.1 also.1) ∙ sym also.2

atomic_by_one : AtomicsHaveOneAnswer → (g : Grounds) (key : Key) (stale : Bool) (plan : Planned) (said : Said) → IsOne (AtomicBy g key stale plan said)
atomic_by_one law g key stale (NeedsAtomic va width op aq rl rd operand) said f h is also =
    leads_one (accessed g (atomic_access op) true va said.paddr) (λ older found. Accesses g key (stale || older) (access_in op width rl operand said) found)
    (λ older. accesses_one law g key (stale || older) (access_in op width rl operand said)) f h is also
atomic_by_one law g key stale (Done rd value next) said f h is also = is ∙ sym also
atomic_by_one law g key stale (NeedsLoad va width signed rd) said f h is also = is ∙ sym also
atomic_by_one law g key stale (NeedsStore va width value) said f h is also = is ∙ sym also
atomic_by_one law g key stale (Csr number op operand reads writes rd) said f h is also = is ∙ sym also
atomic_by_one law g key stale (Returns from_m) said f h is also = is ∙ sym also
atomic_by_one law g key stale (Fences ww wr rr) said f h is also = is ∙ sym also
atomic_by_one law g key stale FenceI said f h is also = is ∙ sym also
atomic_by_one law g key stale (FencesPages va all) said f h is also = is ∙ sym also
atomic_by_one law g key stale (Raises cause tval) said f h is also = is ∙ sym also

body_one : LoadsHaveOneAnswer → AtomicsHaveOneAnswer → (g : Grounds) (key : Key) (b : Body) → IsOne (FindsBody g key b)
body_one law atomics g key (Load retire at paddr) f h is also =
    leads_one (started g retire.pc retire.bits 5) (λ st found. LoadsBy g key st.stale st.plan retire.value at paddr found)
    (λ st. loads_by_one law g key st.stale st.plan retire.value at paddr) f h is also
body_one law atomics g key (Atomic retire paddr width wrote new) f h is also =
    let said : Said = record { value = retire.value; paddr = paddr; width = width; wrote = wrote; new = new } in
    leads_one (started g retire.pc retire.bits 7) (λ st found. AtomicBy g key st.stale st.plan said found) (λ st. atomic_by_one atomics g key st.stale st.plan said) f h is also
body_one law atomics g key (Commit retire) f h is also = is ∙ sym also
body_one law atomics g key (Trap pc bits cause tval) f h is also = is ∙ sym also
body_one law atomics g key (Regs pc x) f h is also = is ∙ sym also
body_one law atomics g key (Csrs mode v) f h is also = is ∙ sym also
body_one law atomics g key (Store pc bits paddr value) f h is also = is ∙ sym also
body_one law atomics g key (Drain line mask count bytes) f h is also = is ∙ sym also
body_one law atomics g key (Refill line bytes) f h is also = is ∙ sym also
body_one law atomics g key Beat f h is also = is ∙ sym also

pub one_finding : LoadsHaveOneAnswer → AtomicsHaveOneAnswer → (s : Setting) (r : Record) (f g : Result Passed Misfit) → Finds s r f → Finds s r g → f ≡ g
one_finding law atomics s r f g is also = body_one law atomics (grounds_of s (key_in s r)) (key_in s r) r.body f g is also

use Rattle.std.proofs.Common.{ℕ, ◌≡◌, ◌||◌, Bool, true, false, List, Result, Ok, Err, refl, sym, subst, ◌∙◌, inl, inr}
use Rattle.std.specs.Prelude.{IfOk}
use Rattle.std.proofs.lemmas.Bool.{cases_Bool}
use Rattle.dt_record.specs.declared.accesses.LoadAsk.{LoadAsk}
use Rattle.dt_record.specs.declared.keys.Key.{Key}
use Rattle.dt_record.specs.declared.origins.Sources.{Sources}
use Rattle.dt_record.specs.declared.records.Body.TheVariants.{Load}
use Rattle.dt_record.specs.declared.records.Retire.{Retire}
use Rattle.dt_record.specs.declared.writes.Write.{Write}
use Rattle.dt_record.specs.Actions.{Action}
use Rattle.dt_record.specs.Lawful.{is_in_ram}
use Rattle.dt_checks.specs.Retiring.{IsRetired}
use Rattle.dt_hart.specs.HartView.{HartView}
use Rattle.dt_rules.specs.declared.misfits.Passed.{Passed}
use Rattle.dt_loads.specs.Reading.{IsLoadAnswer, ask_of}
use Rattle.dt_reference.specs.HartActions.{body_action}
use Rattle.dt_rules.specs.declared.misfits.Misfit.{Misfit}
use Rattle.dt_step.specs.declared.plans.Planned.{Planned}
use Rattle.dt_step.specs.declared.plans.Planned.TheVariants.{NeedsLoad}
use Rattle.dt_step.specs.declared.state.Arch.{Arch}
use Rattle.dt_versions.specs.History.{History}
use Rattle.dt_walk.specs.declared.arguments.Access.TheVariants as access
use Rattle.dt_judge.specs.Grounds.{Grounds}
use Rattle.dt_judge.specs.Kinds.{Loads, LoadsBy, accessed, with_p}
use Rattle.dt_judge.specs.Keeping.{HasReading, IsReadBy, IsReadIn, Remembers}
use Rattle.dt_judge.proofs.Leading.{if_ok, leads_ok}
use Rattle.dt_judge.proofs.Placing.{differs, only_load}
use Rattle.dt_judge.proofs.Widths.{retired_width}

-- How a load is read.

-- a load whose address is allowed, by its plan
pub loads_by : (g : Grounds) (key : Key) (stale : Bool) (plan : Planned) (va width : ℕ) (signed : Bool) (rd value at paddr : ℕ) (older p in_ram : Bool) (f : Result Passed Misfit)
    → plan ≡ NeedsLoad va width signed rd → Ok older ≡ accessed g access.Load false va paddr → (stale || older) ≡ p → is_in_ram paddr ≡ in_ram
    → Loads in_ram g p (ask_of key at paddr width value) signed value f → LoadsBy g key stale plan value at paddr f
loads_by g key stale plan va width signed rd value at paddr older p in_ram f planned allowed is ram loads =
    subst (λ q. LoadsBy g key stale q value at paddr f) (sym planned)
    (leads_ok (accessed g access.Load false va paddr) older
    (λ o found. Loads (is_in_ram paddr) g (stale || o) (ask_of key at paddr width value) signed value found) f (sym allowed)
    (subst (λ b. Loads b g (stale || older) (ask_of key at paddr width value) signed value f) (sym ram)
    (subst (λ q. Loads in_ram g q (ask_of key at paddr width value) signed value f) (sym is) loads)))

-- what is read of RAM, where the hart remembers its actions
abbrev pub Reads : HartView → History → Key → (List Action → (ℕ → ℕ) → Sources → Type 0) → Passed → Type 0
Reads h m key P x = (actions : List Action) (moments : ℕ → ℕ) → Remembers h m key actions moments → P actions moments x.sources

-- a load that is allowed read
pub read_with_p : (h : HartView) (m : History) (p : Bool) (found r : Result Passed Misfit) (ask : LoadAsk) (signed : Bool) (value : ℕ) → r ≡ with_p p found
    → ((actions : List Action) (moments : ℕ → ℕ) → Remembers h m ask.key actions moments → IsLoadAnswer m.image m.writes actions moments ask signed value found)
    → IfOk r (Reads h m ask.key (λ actions moments sources. HasReading m.image m.writes actions moments ask sources))
read_with_p h m p (Ok x) r ask signed value is answers =
    subst (λ q. IfOk q (Reads h m ask.key (λ actions moments sources. HasReading m.image m.writes actions moments ask sources))) (sym is)
    (λ actions moments known. (x.letters, (answers actions moments known).1))
read_with_p h m p (Err refused) r ask signed value is answers =
    subst (λ q. IfOk q (Reads h m ask.key (λ actions moments sources. HasReading m.image m.writes actions moments ask sources))) (sym is) tt

-- a load from RAM reads by its plan
pub reads_by : (h : HartView) (m : History) (r : Result Passed Misfit) (key : Key) (ask : LoadAsk) (plan : Planned) (va width : ℕ) (signed : Bool) (rd value at paddr : ℕ)
    → plan ≡ NeedsLoad va width signed rd → ask ≡ ask_of key at paddr width value
    → IfOk r (Reads h m ask.key (λ actions moments sources. HasReading m.image m.writes actions moments ask sources))
    → IfOk r (Reads h m key (λ actions moments sources. IsReadBy m.image m.writes actions moments plan key value at paddr sources))
reads_by h m r key ask plan va width signed rd value at paddr planned is reads =
    subst (λ q. IfOk r (Reads h m key (λ actions moments sources. IsReadBy m.image m.writes actions moments q key value at paddr sources))) (sym planned)
    (if_ok r (Reads h m key (λ actions moments sources. HasReading m.image m.writes actions moments (ask_of key at paddr width value) sources))
    (Reads h m key (λ actions moments sources. IsReadBy m.image m.writes actions moments (NeedsLoad va width signed rd) key value at paddr sources))
    (λ x read actions moments knows ram. read actions moments knows)
    (subst (λ (a : LoadAsk). IfOk r (Reads h m a.key (λ actions moments sources. HasReading m.image m.writes actions moments a sources))) is reads))

-- a load from a device reads nothing
pub reads_nothing : (h : HartView) (m : History) (r : Result Passed Misfit) (key : Key) (plan : Planned) (value at paddr : ℕ) → is_in_ram paddr ≡ false
    → IfOk r (Reads h m key (λ actions moments sources. IsReadBy m.image m.writes actions moments plan key value at paddr sources))
reads_nothing h m (Err e) key plan value at paddr device = tt
reads_nothing h m (Ok x) key (NeedsLoad va width signed rd) value at paddr device = λ actions moments knows ram. let no : false ≡ true = sym device ∙ ram in absurd (cc)
reads_nothing h m (Ok x) key plan value at paddr device = λ actions moments knows. tt

read_of : (image : List ℕ) (writes : List Write) (actions : List Action) (moments : ℕ → ℕ) (key : Key) (a : Arch) (retire : Retire) (at paddr : ℕ) (plan : Planned) (sources : Sources)
    → IsRetired a retire.bits 5 plan → is_in_ram paddr ≡ true → IsReadBy image writes actions moments plan key retire.value at paddr sources
    → IsReadIn image writes actions moments (body_action key (Load retire at paddr)) sources
read_of image writes actions moments key a retire at paddr (NeedsLoad va width signed rd) sources retired ram read =
    rw ram
    (subst (λ w. HasReading image writes actions moments (ask_of key at paddr w retire.value) sources)
    (retired_width a retire.bits 5 (NeedsLoad va width signed rd) retired (differs 5 1 refl)) (read ram))
read_of image writes actions moments key a retire at paddr plan sources retired ram read = absurd (only_load plan retired.is_due (λ va width signed rd is. cc))

-- what is read by the plan is read by the record
pub read_in : (image : List ℕ) (writes : List Write) (actions : List Action) (moments : ℕ → ℕ) (key : Key) (a : Arch) (retire : Retire) (at paddr : ℕ) (plan : Planned) (sources : Sources)
    → IsRetired a retire.bits 5 plan → IsReadBy image writes actions moments plan key retire.value at paddr sources
    → IsReadIn image writes actions moments (body_action key (Load retire at paddr)) sources
read_in image writes actions moments key a retire at paddr plan sources retired read = elim (cases_Bool (is_in_ram paddr)) [
  | inl ram ↦ read_of image writes actions moments key a retire at paddr plan sources retired ram read
  | inr device ↦ rw device tt
]

pub reads_in : (h : HartView) (m : History) (r : Result Passed Misfit) (key : Key) (a : Arch) (retire : Retire) (at paddr : ℕ) (plan : Planned) → IsRetired a retire.bits 5 plan
    → IfOk r (Reads h m key (λ actions moments sources. IsReadBy m.image m.writes actions moments plan key retire.value at paddr sources))
    → IfOk r (Reads h m key (λ actions moments sources. IsReadIn m.image m.writes actions moments (body_action key (Load retire at paddr)) sources))
reads_in h m r key a retire at paddr plan retired reads =
    if_ok r (Reads h m key (λ actions moments sources. IsReadBy m.image m.writes actions moments plan key retire.value at paddr sources))
    (Reads h m key (λ actions moments sources. IsReadIn m.image m.writes actions moments (body_action key (Load retire at paddr)) sources))
    (λ x read actions moments known. read_in m.image m.writes actions moments key a retire at paddr plan x.sources retired (read actions moments known)) reads

use Rattle.std.proofs.Common.{ℕ, ◌||◌, Bool, true, false, Some, List, length, take, Result, Ok, Err, sym, ap, ◌∙◌, inl, inr}
use Rattle.dt_record.specs.declared.accesses.LoadAsk.{LoadAsk}
use Rattle.dt_record.specs.declared.keys.Key.{Key}
use Rattle.dt_record.specs.declared.records.Body.{Body}
use Rattle.dt_record.specs.declared.records.Body.TheVariants.{Commit, Trap, Regs, Csrs, Load, Store, Atomic, Drain, Refill, Beat}
use Rattle.dt_record.specs.declared.records.Record.{Record}
use Rattle.dt_record.specs.declared.writes.Write.{Write}
use Rattle.dt_record.specs.Actions.{Action, Loaded}
use Rattle.dt_record.specs.Lawful.{is_in_ram}
use Rattle.dt_access.specs.Translating.{atomic_access}
use Rattle.dt_atomics.specs.declared.accesses.AtomicAccess.{AtomicAccess}
use Rattle.dt_atomics.specs.Answers.{AtomicPasses, IsAtomicAnswer}
use Rattle.dt_atomics.specs.Reading.{ReadsNewer}
use Rattle.dt_hart.specs.Settings.{Setting, did, key_in}
use Rattle.dt_rules.specs.declared.misfits.Passed.{Passed}
use Rattle.dt_loads.specs.Checks.{order_check}
use Rattle.dt_loads.specs.Reading.{HasNewer, IsLoadAnswer, IsNewer, IsReading, ask_of}
use Rattle.dt_rules.specs.declared.misfits.Misfit.{Misfit}
use Rattle.dt_sources.specs.Choice.{then_action, with_moment}
use Rattle.dt_sources.specs.Knowing.{IsKnownKey}
use Rattle.dt_step.specs.declared.plans.Planned.{Planned}
use Rattle.dt_step.specs.declared.plans.Planned.TheVariants.{Done, NeedsLoad, NeedsStore, NeedsAtomic, Csr, Returns, Fences, FenceI, FencesPages, Raises}
use Rattle.dt_walk.specs.declared.arguments.Access.TheVariants as access
use Rattle.dt_judge.specs.declared.atomics.Said.{Said}
use Rattle.dt_judge.specs.Grounds.{Grounds, grounds_of}
use Rattle.dt_judge.specs.Judgement.{FindsBody, Finds}
use Rattle.dt_judge.specs.Kinds.{Accesses, AtomicBy, Leads, Loads, LoadsBy, ReadsRam, access_in, accessed, atomic_on, started}
use Rattle.dt_judge.specs.Laws.{AgreeAtLoads, with_moments}
use Rattle.dt_judge.proofs.LoadMoments.{agree_next, least_again, same_origin}

-- Moments that agree at the hart's loads so far give the same findings.

back : (actions : List Action) (moments others : ℕ → ℕ) → AgreeAtLoads actions moments others → AgreeAtLoads actions others moments
back actions moments others agree = λ place ask there. sym (agree place ask there)

known_key : (writes : List Write) (actions : List Action) (moments others : ℕ → ℕ) (next : Key) (byte : ℕ) (key : Key) → AgreeAtLoads actions moments others
    → IsKnownKey writes actions moments next byte key → IsKnownKey writes actions others next byte key
known_key writes actions moments others next byte key agree (inr wrote) = inr wrote
known_key writes actions moments others next byte key agree (inl had) = inl (record {
  place = had.place;
  action = had.action;
  there = had.there;
  had = sym (same_origin writes (take had.place actions) (moments had.place) (others had.place) had.action byte
      (λ ask is. agree had.place ask (had.there ∙ ap Some is))) ∙ had.had;
})

has_newer : (writes : List Write) (actions : List Action) (moments others : ℕ → ℕ) (ask : LoadAsk) (k : ℕ) → AgreeAtLoads actions moments others
    → HasNewer writes actions moments ask k → HasNewer writes actions others ask k
has_newer writes actions moments others ask k agree has = (has.0, newer has.1)
  where
    newer : IsNewer writes actions moments ask k has.0 → IsNewer writes actions others ask k has.0
    newer is = record {
      within = is.within;
      key = is.key;
      from = is.from;
      above = λ known knows. is.above known (known_key writes actions others moments ask.key _ known (back actions moments others agree) knows);
    }

reading : (image : List ℕ) (writes : List Write) (actions : List Action) (moments others : ℕ → ℕ) (ask : LoadAsk) (passed : Passed) → AgreeAtLoads actions moments others
    → IsReading image writes actions moments ask passed → IsReading image writes actions others ask passed
reading image writes actions moments others ask passed agree is =
    let again = back actions moments others agree in record {
      moment = is.moment;
      chosen =
          least_again image writes (then_action actions (Loaded ask)) (with_moment moments (length actions) is.moment) (with_moment others (length actions) is.moment)
          (agree_next actions (Loaded ask) moments others is.moment agree) is.chosen;
      sources = is.sources;
      newer = (
        λ l. has_newer writes actions moments others ask is.moment agree (is.newer.0 l),
        λ has. is.newer.1 (has_newer writes actions others moments ask is.moment again has),
      );
      no_other = is.no_other;
    }

load_answer : (image : List ℕ) (writes : List Write) (actions : List Action) (moments others : ℕ → ℕ) (ask : LoadAsk) (signed : Bool) (value : ℕ) (answer : Result Passed Misfit)
    → AgreeAtLoads actions moments others → IsLoadAnswer image writes actions moments ask signed value answer → IsLoadAnswer image writes actions others ask signed value answer
load_answer image writes actions moments others ask signed value (Ok passed) agree is = (is.0, reading image writes actions moments others ask passed agree is.1)
load_answer image writes actions moments others ask signed value (Err refused) agree is = is

-- what leads to a finding leads to the same one
leads_too : {A : Type 0} (r : Result A Misfit) (Later Other : A → Result Passed Misfit → Type 0) (f : Result Passed Misfit) → ((x : A) → Later x f → Other x f) → Leads r Later f → Leads r Other f
leads_too (Ok x) Later Other f too is = too x is
leads_too (Err refused) Later Other f too is = is

abbrev at_others : Grounds → (ℕ → ℕ) → Grounds
at_others g others = record g { moments = others }

module _ (g : Grounds) (others : ℕ → ℕ) (agree : AgreeAtLoads g.actions g.moments others) where
  reads_ram : (p : Bool) (ask : LoadAsk) (signed : Bool) (value : ℕ) (f : Result Passed Misfit) → ReadsRam g p ask signed value f → ReadsRam (at_others g others) p ask signed value f
  reads_ram p ask signed value f is = (is.0, is.1, load_answer g.image g.writes g.actions g.moments others ask signed value is.0 agree is.2, is.3)

  loads : (in_ram p : Bool) (ask : LoadAsk) (signed : Bool) (value : ℕ) (f : Result Passed Misfit) → Loads in_ram g p ask signed value f → Loads in_ram (at_others g others) p ask signed value f
  loads true p ask signed value f is =
      leads_too (order_check g.actions ask.at) (λ _ found. ReadsRam g p ask signed value found) (λ _ found. ReadsRam (at_others g others) p ask signed value found) f
      (λ _. reads_ram p ask signed value f) is
  loads false p ask signed value f is = is

  loads_by : (key : Key) (stale : Bool) (plan : Planned) (value at paddr : ℕ) (f : Result Passed Misfit) → LoadsBy g key stale plan value at paddr f → LoadsBy (at_others g others) key stale plan value at paddr f
  loads_by key stale (NeedsLoad va width signed rd) value at paddr f is =
      leads_too (accessed g access.Load false va paddr) (λ older found. Loads (is_in_ram paddr) g (stale || older) (ask_of key at paddr width value) signed value found)
      (λ older found. Loads (is_in_ram paddr) (at_others g others) (stale || older) (ask_of key at paddr width value) signed value found) f
      (λ older. loads (is_in_ram paddr) (stale || older) (ask_of key at paddr width value) signed value f) is
  loads_by key stale (Done rd due next) value at paddr f is = is
  loads_by key stale (NeedsStore va width due) value at paddr f is = is
  loads_by key stale (NeedsAtomic va width op aq rl rd operand) value at paddr f is = is
  loads_by key stale (Csr number op operand reads writes rd) value at paddr f is = is
  loads_by key stale (Returns from_m) value at paddr f is = is
  loads_by key stale (Fences ww wr rr) value at paddr f is = is
  loads_by key stale FenceI value at paddr f is = is
  loads_by key stale (FencesPages va all) value at paddr f is = is
  loads_by key stale (Raises cause tval) value at paddr f is = is

  reads_newer : (key : Key) (x : AtomicAccess) → ReadsNewer (atomic_on g) key x → ReadsNewer (atomic_on (at_others g others)) key x
  reads_newer key x is = record {
    reading = is.reading;
    place = is.place;
    within = is.within;
    source = is.source;
    from = is.from;
    newer = λ known knows. is.newer known (known_key g.writes g.actions others g.moments key _ known (back g.actions g.moments others agree) knows);
  }

  reads_newer_back : (key : Key) (x : AtomicAccess) → ReadsNewer (atomic_on (at_others g others)) key x → ReadsNewer (atomic_on g) key x
  reads_newer_back key x is = record {
    reading = is.reading;
    place = is.place;
    within = is.within;
    source = is.source;
    from = is.from;
    newer = λ known knows. is.newer known (known_key g.writes g.actions g.moments others key _ known agree knows);
  }

  atomic_answer : (key : Key) (x : AtomicAccess) (answer : Result Passed Misfit) → IsAtomicAnswer (atomic_on g) key x answer → IsAtomicAnswer (atomic_on (at_others g others)) key x answer
  atomic_answer key x (Ok passed) is =
      let passes : AtomicPasses (atomic_on g) key x passed = is.1 in (
        is.0,
        record {
          newer = (λ l. reads_newer key x (passes.newer.0 l), λ has. passes.newer.1 (reads_newer_back key x has));
          letters = passes.letters;
          sources = passes.sources;
        },
      )
  atomic_answer key x (Err refused) is = is

  accesses : (key : Key) (p : Bool) (x : AtomicAccess) (f : Result Passed Misfit) → Accesses g key p x f → Accesses (at_others g others) key p x f
  accesses key p x f is = (is.0, atomic_answer key x is.0 is.1, is.2)

  atomic_by : (key : Key) (stale : Bool) (plan : Planned) (said : Said) (f : Result Passed Misfit) → AtomicBy g key stale plan said f → AtomicBy (at_others g others) key stale plan said f
  atomic_by key stale (NeedsAtomic va width op aq rl rd operand) said f is =
      leads_too (accessed g (atomic_access op) true va said.paddr) (λ older found. Accesses g key (stale || older) (access_in op width rl operand said) found)
      (λ older found. Accesses (at_others g others) key (stale || older) (access_in op width rl operand said) found) f
      (λ older. accesses key (stale || older) (access_in op width rl operand said) f) is
  atomic_by key stale (Done rd value next) said f is = is
  atomic_by key stale (NeedsLoad va width signed rd) said f is = is
  atomic_by key stale (NeedsStore va width value) said f is = is
  atomic_by key stale (Csr number op operand reads writes rd) said f is = is
  atomic_by key stale (Returns from_m) said f is = is
  atomic_by key stale (Fences ww wr rr) said f is = is
  atomic_by key stale FenceI said f is = is
  atomic_by key stale (FencesPages va all) said f is = is
  atomic_by key stale (Raises cause tval) said f is = is

  finds_body : (key : Key) (b : Body) (f : Result Passed Misfit) → FindsBody g key b f → FindsBody (at_others g others) key b f
  finds_body key (Load retire at paddr) f is =
      leads_too (started g retire.pc retire.bits 5) (λ st found. LoadsBy g key st.stale st.plan retire.value at paddr found)
      (λ st found. LoadsBy (at_others g others) key st.stale st.plan retire.value at paddr found) f (λ st. loads_by key st.stale st.plan retire.value at paddr f) is
  finds_body key (Atomic retire paddr width wrote new) f is =
      let said : Said = record { value = retire.value; paddr = paddr; width = width; wrote = wrote; new = new } in
      leads_too (started g retire.pc retire.bits 7) (λ st found. AtomicBy g key st.stale st.plan said found)
      (λ st found. AtomicBy (at_others g others) key st.stale st.plan said found) f (λ st. atomic_by key st.stale st.plan said f) is
  finds_body key (Commit retire) f is = is
  finds_body key (Trap pc bits cause tval) f is = is
  finds_body key (Regs pc x) f is = is
  finds_body key (Csrs mode v) f is = is
  finds_body key (Store pc bits paddr value) f is = is
  finds_body key (Drain line mask count bytes) f is = is
  finds_body key (Refill line bytes) f is = is
  finds_body key Beat f is = is

pub finds_at_others : (s : Setting) (others : ℕ → ℕ) (r : Record) (f : Result Passed Misfit) → AgreeAtLoads (did s) s.moments others → Finds s r f → Finds (with_moments s others) r f
finds_at_others s others r f agree is = finds_body (grounds_of s (key_in s r)) others agree (key_in s r) r.body f is

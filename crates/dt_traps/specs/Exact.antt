use Rattle.std.specs.Prelude.{ℕ, ◌≡◌, ◌≢◌, ◌⊎◌, ◌↔◌, ◌-◌, ◌%◌, ◌^◌, Bool, true, false, List, Some, IsOk, IsTrue}
use Rattle.dt_access.specs.Faults.{fault_cause}
use Rattle.dt_access.specs.Translating.{atomic_access, walk_args}
use Rattle.dt_alu.specs.Words.{sum_of}
use Rattle.dt_csr.specs.Traps.{is_enabled}
use Rattle.dt_record.specs.declared.writes.Write.{Write}
use Rattle.dt_record.specs.Lawful.{is_fetch_fault}
use Rattle.dt_versions.specs.declared.moments.Span.{Span}
use Rattle.dt_walk.specs.declared.arguments.Access.TheVariants.{Fetch, Load, Store}
use Rattle.dt_walk.specs.declared.arguments.WalkArgs.{WalkArgs}
use Rattle.dt_translate.specs.Fetches.{IsFetched}
use Rattle.dt_translate.specs.Newest.{IsWithin}
use Rattle.dt_translate.specs.Outcomes.{outcome_at}
use Rattle.dt_step.specs.declared.plans.Planned.{Planned}
use Rattle.dt_step.specs.declared.plans.Planned.TheVariants.{NeedsLoad, NeedsStore, NeedsAtomic, Raises}
use Rattle.dt_step.specs.declared.state.Arch.{Arch}
use Rattle.dt_checks.specs.declared.fetching.FetchSpans.{FetchSpans}
use Rattle.dt_checks.specs.Fetching.{first_half, second_half}
use Rattle.dt_traps.specs.declared.traps.TrapSpans.{TrapSpans}
use Rattle.dt_traps.specs.Instructions.{planned}
use Rattle.dt_traps.specs.Traps.{is_first_half, is_interrupt, trap_check}

-- What it is for a trap to be allowed, for each kind of trap (this project's own).

-- the tval of a trap is the expected value, or 0 in its place
abbrev pub ShowsTval : (expected found : ℕ) → Type 0
ShowsTval expected found = (found ≡ expected) ⊎ (found ≡ 0)

-- an access raises the cause at some moment of a window
pub record RaisesAt (image : List ℕ) (writes : List Write) (window : Span) (args : WalkArgs) (ram_only : Bool) (cause : ℕ) : Type 0 where
  pub moment : ℕ
  pub within : IsWithin window moment
  pub raises : fault_cause args.access (outcome_at image writes moment args ram_only) ≡ Some cause

-- a halfword was fetched at some two moments
pub record IsHalfFetched (image : List ℕ) (writes : List Write) (window since : Span) (a : Arch) (va half : ℕ) : Type 0 where
  pub translated : ℕ
  pub held : ℕ
  pub in_window : IsWithin window translated
  pub in_since : IsWithin since held
  pub fetched : IsFetched image writes (walk_args a Fetch va) half translated held

-- each halfword of an instruction was
pub record AreHalvesFetched (image : List ℕ) (writes : List Write) (spans : FetchSpans) (a : Arch) (bits : ℕ) : Type 0 where
  pub first : IsHalfFetched image writes spans.first spans.since a a.pc (first_half bits)
  pub second : bits % 4 ≡ 3 → IsHalfFetched image writes spans.second spans.since a (sum_of 64 a.pc 2) (second_half bits)

-- an interrupt: it is enabled
pub record IsInterruptTrap (a : Arch) (pc cause tval : ℕ) : Type 0 where
  pub at_pc : pc ≡ a.pc
  pub enabled : IsTrue (is_enabled a.csrs a.mode (cause - 2 ^ 63))
  pub no_tval : tval ≡ 0

-- the first halfword cannot be fetched
pub record IsFirstFetchTrap (image : List ℕ) (writes : List Write) (spans : FetchSpans) (a : Arch) (pc cause tval : ℕ) : Type 0 where
  pub at_pc : pc ≡ a.pc
  pub raises : RaisesAt image writes spans.first (walk_args a Fetch a.pc) true cause
  pub shows : ShowsTval a.pc tval

-- the second halfword cannot, where the first one is half of an instruction
pub record IsSecondFetchTrap (image : List ℕ) (writes : List Write) (spans : FetchSpans) (a : Arch) (pc bits cause tval : ℕ) : Type 0 where
  pub at_pc : pc ≡ a.pc
  pub is_half : IsTrue (is_first_half bits)
  pub first : IsHalfFetched image writes spans.first spans.since a a.pc (first_half bits)
  pub raises : RaisesAt image writes spans.second (walk_args a Fetch (sum_of 64 a.pc 2)) true cause
  pub shows : ShowsTval (sum_of 64 a.pc 2) tval

-- an instruction raises a cause by itself, or its access of memory does
abbrev pub PlanRaises : List ℕ → List Write → (window : Span) → Arch → Planned → (cause tval : ℕ) → Type 0
PlanRaises image writes window a (Raises due own) cause tval = (cause ≡ due) × ShowsTval own tval
PlanRaises image writes window a (NeedsLoad va width signed rd) cause tval =
    RaisesAt image writes window (walk_args a Load va) false cause × ShowsTval va tval
PlanRaises image writes window a (NeedsStore va width value) cause tval =
    RaisesAt image writes window (walk_args a Store va) false cause × ShowsTval va tval
PlanRaises image writes window a (NeedsAtomic va width op aq rl rd operand) cause tval =
    RaisesAt image writes window (walk_args a (atomic_access op) va) true cause × ShowsTval va tval
PlanRaises image writes window a plan cause tval = ⊥

pub record IsInstructionTrap (image : List ℕ) (writes : List Write) (spans : TrapSpans) (a : Arch) (pc bits cause tval : ℕ) : Type 0 where
  pub at_pc : pc ≡ a.pc
  pub fetched : AreHalvesFetched image writes spans.fetch a bits
  pub raises : PlanRaises image writes spans.access a (planned a bits) cause tval

-- a trap is allowed exactly where it is one of its kind
pub record TrapsAreExact : Type 0 where
  pub interrupts : (image : List ℕ) (writes : List Write) (spans : TrapSpans) (a : Arch) (pc bits cause tval : ℕ)
      → is_interrupt cause ≡ true
      → IsOk (trap_check image writes spans a pc bits cause tval) ↔ IsInterruptTrap a pc cause tval
  pub first_fetches : (image : List ℕ) (writes : List Write) (spans : TrapSpans) (a : Arch) (pc cause tval : ℕ)
      → is_fetch_fault cause ≡ true
      → IsOk (trap_check image writes spans a pc 0 cause tval) ↔ IsFirstFetchTrap image writes spans.fetch a pc cause tval
  pub second_fetches : (image : List ℕ) (writes : List Write) (spans : TrapSpans) (a : Arch) (pc bits cause tval : ℕ)
      → is_fetch_fault cause ≡ true → bits ≢ 0
      → IsOk (trap_check image writes spans a pc bits cause tval) ↔ IsSecondFetchTrap image writes spans.fetch a pc bits cause tval
  pub instructions : (image : List ℕ) (writes : List Write) (spans : TrapSpans) (a : Arch) (pc bits cause tval : ℕ)
      → is_interrupt cause ≡ false → is_fetch_fault cause ≡ false
      → IsOk (trap_check image writes spans a pc bits cause tval) ↔ IsInstructionTrap image writes spans a pc bits cause tval

use Rattle.std.proofs.Common.{ℕ, ◌≡◌, ◌%◌, ◌==◌, ◌||◌, Bool, true, false, IsTrue, refl, inl, inr, arith}
use Rattle.std.proofs.lemmas.Bool.{cases_Bool}
use Rattle.std.proofs.lemmas.Bool.Decides.{nat_tests}
use Rattle.dt_access.specs.Reaching.{is_reachable}
use Rattle.dt_alu.specs.Amo.{IsAmoWidth}
use Rattle.dt_alu.specs.Extend.{IsAccessWidth}
use Rattle.dt_checks.specs.Addresses.{IsPlaceOf}
use Rattle.dt_checks.specs.Retiring.{IsRetired, due_tag}
use Rattle.dt_hart.specs.Taking.{is_placed_at}
use Rattle.dt_record.specs.Lawful.{is_atomic_place, is_in_ram}
use Rattle.dt_step.specs.declared.plans.AtomicOp.{AtomicOp}
use Rattle.dt_step.specs.declared.plans.Planned.{Planned}
use Rattle.dt_step.specs.declared.plans.Planned.TheVariants.{Done, NeedsLoad, NeedsStore, NeedsAtomic, Csr, Returns, Fences, FenceI, FencesPages, Raises}
use Rattle.dt_step.specs.declared.state.Arch.{Arch}
use Rattle.dt_step.specs.Alignment.{IsAlignedAtomic}
use Rattle.dt_judge.specs.Keeping.{IsPlacedBy}
use Rattle.dt_judge.proofs.Widths.{retired_width, aligned_is_placed}

-- Which plans records of loads and stores have, and where these access memory.

pub differs : (a b : ℕ) → (a == b) ≡ false → a ≡ b → ⊥
differs a b test same = grind (arith, nat_tests)

-- a record of a store has the plan of one
pub only_store : (plan : Planned) → due_tag plan ≡ 6 → ((va width value : ℕ) → plan ≡ NeedsStore va width value → ⊥) → ⊥
only_store (Done rd value next) due unlike = differs 1 6 refl due
only_store (NeedsLoad va width signed rd) due unlike = differs 5 6 refl due
only_store (NeedsStore va width value) due unlike = unlike va width value refl
only_store (NeedsAtomic va width op aq rl rd operand) due unlike = differs 7 6 refl due
only_store (Csr number op operand reads writes rd) due unlike = differs 1 6 refl due
only_store (Returns from_m) due unlike = differs 1 6 refl due
only_store (Fences ww wr rr) due unlike = differs 1 6 refl due
only_store FenceI due unlike = differs 1 6 refl due
only_store (FencesPages va all) due unlike = differs 1 6 refl due
only_store (Raises cause tval) due unlike = differs 1 6 refl due

-- a record of a load has the plan of one
pub only_load : (plan : Planned) → due_tag plan ≡ 5 → ((va width : ℕ) (signed : Bool) (rd : ℕ) → plan ≡ NeedsLoad va width signed rd → ⊥) → ⊥
only_load (Done rd value next) due unlike = differs 1 5 refl due
only_load (NeedsLoad va width signed rd) due unlike = unlike va width signed rd refl
only_load (NeedsStore va width value) due unlike = differs 6 5 refl due
only_load (NeedsAtomic va width op aq rl rd operand) due unlike = differs 7 5 refl due
only_load (Csr number op operand reads writes rd) due unlike = differs 1 5 refl due
only_load (Returns from_m) due unlike = differs 1 5 refl due
only_load (Fences ww wr rr) due unlike = differs 1 5 refl due
only_load FenceI due unlike = differs 1 5 refl due
only_load (FencesPages va all) due unlike = differs 1 5 refl due
only_load (Raises cause tval) due unlike = differs 1 5 refl due

-- a record of an atomic has the plan of one
pub only_atomic : (plan : Planned) → due_tag plan ≡ 7
    → ((va width : ℕ) (op : AtomicOp) (aq rl : Bool) (rd operand : ℕ) → plan ≡ NeedsAtomic va width op aq rl rd operand → ⊥) → ⊥
only_atomic (Done rd value next) due unlike = differs 1 7 refl due
only_atomic (NeedsLoad va width signed rd) due unlike = differs 5 7 refl due
only_atomic (NeedsStore va width value) due unlike = differs 6 7 refl due
only_atomic (NeedsAtomic va width op aq rl rd operand) due unlike = unlike va width op aq rl rd operand refl
only_atomic (Csr number op operand reads writes rd) due unlike = differs 1 7 refl due
only_atomic (Returns from_m) due unlike = differs 1 7 refl due
only_atomic (Fences ww wr rr) due unlike = differs 1 7 refl due
only_atomic FenceI due unlike = differs 1 7 refl due
only_atomic (FencesPages va all) due unlike = differs 1 7 refl due
only_atomic (Raises cause tval) due unlike = differs 1 7 refl due

width_test : (width : ℕ) → IsAmoWidth width → ((width == 4) || (width == 8)) ≡ true
width_test width (inl four) = rw four refl
width_test width (inr eight) = rw eight refl

is_access_width : (width : ℕ) → IsAmoWidth width → IsAccessWidth width
is_access_width width (inl four) = inr (inr (inl four))
is_access_width width (inr eight) = inr (inr (inr eight))

zero_test : (n : ℕ) → n ≡ 0 → (n == 0) ≡ true
zero_test n is = rw is refl

in_ram_alone : (addr : ℕ) → IsTrue (is_reachable true addr) → is_in_ram addr ≡ true
in_ram_alone addr reached = elim (cases_Bool (is_in_ram addr)) [
  | inl ram ↦ ram
  | inr device ↦ let no : false ≡ true = rw device at reached in absurd (cc)
]

-- an aligned atomic stays one at an address that it can reach
pub is_atomic_there : (va width paddr : ℕ) → IsAlignedAtomic va width → IsPlaceOf va true paddr → IsTrue (is_atomic_place paddr width)
is_atomic_there va width paddr aligned place =
    rw (
      width_test width aligned.bytes,
      zero_test (paddr % width) (place.alignment width (is_access_width width aligned.bytes) aligned.multiple),
      in_ram_alone paddr place.reachable,
    ) refl

-- an access that is placed by its plan is placed by its bits
pub store_is_placed : (a : Arch) (bits paddr : ℕ) (plan : Planned) → IsRetired a bits 6 plan → IsPlacedBy plan paddr → IsTrue (is_placed_at bits paddr)
store_is_placed a bits paddr (NeedsStore va width value) retired aligned =
    aligned_is_placed bits paddr width (retired_width a bits 6 (NeedsStore va width value) retired (differs 6 1 refl)) aligned
store_is_placed a bits paddr plan retired aligned = absurd (only_store plan retired.is_due (λ va width value is. cc))

pub load_is_placed : (a : Arch) (bits paddr : ℕ) (plan : Planned) → IsRetired a bits 5 plan → IsPlacedBy plan paddr → IsTrue (is_placed_at bits paddr)
load_is_placed a bits paddr (NeedsLoad va width signed rd) retired aligned =
    aligned_is_placed bits paddr width (retired_width a bits 5 (NeedsLoad va width signed rd) retired (differs 5 1 refl)) aligned
load_is_placed a bits paddr plan retired aligned = absurd (only_load plan retired.is_due (λ va width signed rd is. cc))

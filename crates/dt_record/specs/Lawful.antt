use Rattle.std.specs.Prelude.{ℕ, ◌≡◌, ◌<◌, ◌^◌, ◌/◌, ◌%◌, ◌==◌, ◌&&◌, ◌||◌, Bool, true, not, List, [], ◌∷◌, length, nat_lt, nat_le, IsTrue}
use Rattle.std.specs.List.{list_all, AllByRecursion}
use Rattle.dt_record.specs.declared.limits.TheConstants.{HART_LIMIT, LINE_SIZE, RAM_START, RAM_END}
use Rattle.dt_record.specs.declared.records.Record.{Record}
use Rattle.dt_record.specs.declared.records.Retire.{Retire}
use Rattle.dt_record.specs.declared.records.Body.{Body}
use Rattle.dt_record.specs.declared.records.Body.TheVariants.{Commit, Trap, Regs, Csrs, Load, Store, Atomic, Drain, Refill, Beat}

-- Every number fits its field, and every list has its length. The code's types say so; a list of
-- definitions has to.
pub record FitsRetire (r : Retire) : Type 0 where
  pub pc : r.pc < 2 ^ 64
  pub bits : r.bits < 2 ^ 32
  pub value : r.value < 2 ^ 64

-- so many numbers, each below the bound
pub record FitsList (count bound : ℕ) (xs : List ℕ) : Type 0 where
  pub count_is : length xs ≡ count
  pub each : AllByRecursion (λ x. x < bound) xs

abbrev pub FitsBody : Body → Type 0
FitsBody (Commit retire) = FitsRetire retire
FitsBody (Trap pc bits cause tval) = (pc < 2 ^ 64) × (bits < 2 ^ 32) × (cause < 2 ^ 64) × (tval < 2 ^ 64)
FitsBody (Regs pc x) = (pc < 2 ^ 64) × FitsList 31 (2 ^ 64) x
FitsBody (Csrs mode v) = (mode < 2 ^ 8) × FitsList 17 (2 ^ 64) v
FitsBody (Load retire at paddr) = FitsRetire retire × (at < 2 ^ 64) × (paddr < 2 ^ 64)
FitsBody (Store pc bits paddr value) = (pc < 2 ^ 64) × (bits < 2 ^ 32) × (paddr < 2 ^ 64) × (value < 2 ^ 64)
FitsBody (Atomic retire paddr width wrote new) = FitsRetire retire × (paddr < 2 ^ 64) × (width < 2 ^ 8) × (new < 2 ^ 64)
FitsBody (Drain line mask count bytes) = (line < 2 ^ 64) × (mask < 2 ^ 64) × (count < 2 ^ 16) × FitsList 64 (2 ^ 8) bytes
FitsBody (Refill line bytes) = (line < 2 ^ 64) × FitsList 64 (2 ^ 8) bytes
FitsBody Beat = Unit {0}

pub record FitsRecord (r : Record) : Type 0 where
  pub stamp : r.stamp < 2 ^ 64
  pub hart : r.hart < 2 ^ 8
  pub body : FitsBody r.body

-- an address of RAM
abbrev pub is_in_ram : ℕ → Bool
is_in_ram addr = nat_le RAM_START addr && nat_lt addr RAM_END

-- the address of a 64-byte line of RAM
abbrev pub is_ram_line : ℕ → Bool
is_ram_line line = (line % LINE_SIZE == 0) && is_in_ram line

-- a 32-bit instruction, or a 16-bit one with its upper half zero
abbrev pub is_instruction : ℕ → Bool
is_instruction bits = (bits % 4 == 3) || nat_lt bits 65536

-- the fetch itself failed: instruction access fault or instruction page fault (Volume II, table 3.6)
abbrev pub is_fetch_fault : ℕ → Bool
is_fetch_fault cause = (cause == 1) || (cause == 12)

-- the lowest mask bit is set, or the byte is 0
abbrev pub is_byte_masked : ℕ → ℕ → Bool
is_byte_masked mask byte = (mask % 2 == 1) || (byte == 0)

-- each byte without its mask bit is 0
abbrev pub is_masked : ℕ → List ℕ → Bool
is_masked mask [] = true
is_masked mask (b ∷ bs) = is_byte_masked mask b && is_masked (mask / 2) bs

-- a trap's bits: those of a fetch fault may be the first half of any instruction
abbrev pub are_trap_bits : ℕ → ℕ → Bool
are_trap_bits bits cause = is_fetch_fault cause || is_instruction bits

-- an interrupt, whose cause has bit 63, has no bits
abbrev pub is_trap_cause : ℕ → ℕ → Bool
is_trap_cause bits cause = nat_lt cause (2 ^ 63) || (bits == 0)

-- an atomic's width and address: aligned inside RAM
abbrev pub is_atomic_place : ℕ → ℕ → Bool
is_atomic_place paddr width = ((width == 4) || (width == 8)) && ((paddr % width == 0) && is_in_ram paddr)

-- what an atomic wrote: 0 where it wrote nothing, and of its width
abbrev pub is_atomic_value : ℕ → Bool → ℕ → Bool
is_atomic_value width wrote new = (wrote || (new == 0)) && ((width == 8) || nat_lt new (2 ^ 32))

abbrev pub is_mode : ℕ → Bool
is_mode mode = (mode == 0) || ((mode == 1) || (mode == 3))

-- a bound on a field: the place of the field in the record's version 1 spelling, and whether the bound holds
pub record Bound : Type 0 where
  pub place : ℕ
  pub holds : Bool

abbrev pub bound : ℕ → Bool → Bound
bound place holds = record { place = place; holds = holds }

-- the bounds on the fields of a kind, in the order of the fields
abbrev pub body_bounds : ℕ → Body → List Bound
body_bounds stamp (Commit retire) = bound 18 (is_instruction retire.bits) ∷ []
body_bounds stamp (Trap pc bits cause tval) =
    bound 18 (are_trap_bits bits cause) ∷ bound 22 (is_trap_cause bits cause) ∷ []
body_bounds stamp (Regs pc x) = []
body_bounds stamp (Csrs mode v) = bound 10 (is_mode mode) ∷ []
body_bounds stamp (Load retire at paddr) = bound 18 (is_instruction retire.bits) ∷ bound 30 (nat_le at stamp) ∷ []
body_bounds stamp (Store pc bits paddr value) = bound 18 (is_instruction bits) ∷ []
body_bounds stamp (Atomic retire paddr width wrote new) =
    bound 18 (is_instruction retire.bits)
    ∷ bound 38 (is_atomic_place paddr width)
    ∷ bound 40 (is_atomic_value width wrote new) ∷ []
body_bounds stamp (Drain line mask count bytes) =
    bound 10 (is_ram_line line) ∷ bound 18 (not (mask == 0)) ∷ bound 26 (not (count == 0)) ∷ bound 28 (is_masked mask bytes) ∷ []
body_bounds stamp (Refill line bytes) = bound 10 (is_ram_line line) ∷ []
body_bounds stamp Beat = []

abbrev pub bounds_of : Record → List Bound
bounds_of r = bound 1 (nat_lt r.hart HART_LIMIT) ∷ body_bounds r.stamp r.body

-- every bound of the record holds
abbrev pub is_lawful : Record → Bool
is_lawful r = list_all (λ b. b.holds) (bounds_of r)

abbrev pub IsLawful : Record → Type 0
IsLawful r = IsTrue (is_lawful r)

use Rattle.std.specs.Prelude.{◌≡◌, ℕ, zero, suc, ◌+◌, ◌-◌, ◌*◌, ◌/◌, ◌%◌, ◌^◌, ◌<◌, ◌≤◌, ◌==◌, nat_lt, nat_le, Bool, ◌&&◌, ◌||◌, if◌then◌else◌, IsTrue, List, [], ◌∷◌, All}
use Rattle.dt_walk.specs.declared.arguments.WalkArgs.{WalkArgs}
use Rattle.dt_walk.specs.declared.arguments.WalkAnswer.{WalkAnswer}
use Rattle.dt_walk.specs.declared.arguments.WalkAnswer.TheVariants.{Page, PageFault, AccessFault}
use Rattle.dt_walk.specs.Entry.{is_faulty, is_leaf, page_number, table_of}

-- The walk through page tables (Volume II, section 4.3.2; sections 4.4 and 4.5 for 3 and 4
-- levels), over a function from the address of an entry to the entry.

-- what a walk asks for: where addresses are translated, the root is the address of a page, the
-- mode is U or S, and there are 3 or 4 levels
pub record CanWalk (a : WalkArgs) : Type 0 where
  pub root : IsTrue a.on → a.root % 4096 ≡ 0
  pub mode : IsTrue a.on → a.mode ≤ 1
  pub levels : IsTrue a.on → (3 ≤ a.levels) × (a.levels ≤ 4)

-- the bits of an address from 63 down to the highest that is translated (38 for 3 levels, 47 for
-- 4) are all equal (sections 4.4.1 and 4.5.1)
abbrev pub is_canonical : ℕ → ℕ → Bool
is_canonical levels va =
    let high = va / 2 ^ (9 * levels + 11) in
    high == 0 || high == 2 ^ (53 - 9 * levels) - 1

-- the address of the entry for a virtual address in a table: each level takes 9 bits
abbrev pub entry_address : ℕ → ℕ → ℕ → ℕ
entry_address va level table = table + 8 * (va / 2 ^ (12 + 9 * level) % 2 ^ 9)

-- page tables lie in RAM, from 8000_0000 to 83FF_FFFF (this project's own address map)
abbrev pub is_in_ram : ℕ → Bool
is_in_ram address = nat_le 0x8000_0000 address && nat_lt address 0x8400_0000

-- the physical address: the leaf's page number with its lowest 9 bits a level taken from the
-- virtual page number, and then the offset in the page (section 4.3.2, step 8)
abbrev pub page_address : ℕ → ℕ → ℕ → ℕ
page_address va level pte =
    let span = 2 ^ (9 * level) in
    (page_number pte / span * span + va / 4096 % span) * 4096 + va % 4096

-- the answer from a table on, with this many levels left; with none there is no table, and an entry
-- of level 0 that points to one has given its fault already
unfoldable pub walk_from : (ℕ → ℕ) → WalkArgs → ℕ → ℕ → WalkAnswer
walk_from entry a zero table = PageFault
walk_from entry a (suc level) table =
    let address = entry_address a.va level table in
    let pte = entry address in
    if is_in_ram address
    then (if is_faulty a level pte
    then PageFault
    else (if is_leaf pte then Page (page_address a.va level pte) else walk_from entry a level (table_of pte)))
    else AccessFault

-- the answer of the walk
unfoldable pub walk_of : (ℕ → ℕ) → WalkArgs → WalkAnswer
walk_of entry a =
    if a.on
    then (if is_canonical a.levels a.va then walk_from entry a a.levels a.root else PageFault)
    else Page a.va

-- the addresses of the entries that are read from a table on, in order
unfoldable pub reads_from : (ℕ → ℕ) → WalkArgs → ℕ → ℕ → List ℕ
reads_from entry a zero table = []
reads_from entry a (suc level) table =
    let address = entry_address a.va level table in
    let pte = entry address in
    if is_in_ram address
    then address ∷ (if is_faulty a level pte || is_leaf pte then [] else reads_from entry a level (table_of pte))
    else []

-- the addresses of the entries that the walk reads, in order
unfoldable pub reads_of : (ℕ → ℕ) → WalkArgs → List ℕ
reads_of entry a =
    if a.on && is_canonical a.levels a.va then reads_from entry a a.levels a.root else []

-- two memories have the same entries at these addresses
abbrev pub AgreeOn : List ℕ → (ℕ → ℕ) → (ℕ → ℕ) → Type 0
AgreeOn addresses first second = All (λ address. first address ≡ second address) addresses

-- an entry may be read there: a multiple of 8 in RAM
pub record IsEntryAddress (address : ℕ) : Type 0 where
  pub aligned : address % 8 ≡ 0
  pub in_ram : 0x8000_0000 ≤ address
  pub before_end : address < 0x8400_0000

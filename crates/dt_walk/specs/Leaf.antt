use Rattle.std.specs.Prelude.{◌≡◌, ℕ, zero, suc, ◌+◌, ◌-◌, ◌*◌, ◌/◌, ◌%◌, ◌^◌, ◌≤◌, ◌==◌, Bool, ◌||◌, if◌then◌else◌, IsTrue}
use Rattle.dt_walk.specs.declared.arguments.WalkAnswer.{WalkAnswer}
use Rattle.dt_walk.specs.declared.arguments.WalkAnswer.TheVariants as walked
use Rattle.dt_walk.specs.declared.arguments.WalkArgs.{WalkArgs}
use Rattle.dt_walk.specs.declared.leaves.LeafAnswer.{LeafAnswer}
use Rattle.dt_walk.specs.declared.leaves.LeafAnswer.TheVariants as found
use Rattle.dt_walk.specs.declared.leaves.Tables.{Tables}
use Rattle.dt_walk.specs.Entry.{is_broken, is_leaf, leaf_bits, page_number, permits, table_of}
use Rattle.dt_walk.specs.Walk.{CanWalk, is_in_ram, walk_of}

-- The leaf that page tables have for a virtual page, whoever asks (Volume II, sections 4.3.2, 4.4 and
-- 4.5). A page is told by its number, its address divided by 4096.

-- what a search for a leaf asks for: the first table begins a page, and there are 3 or 4 levels
pub record CanFind (t : Tables) : Type 0 where
  pub root : t.root % 4096 ≡ 0
  pub few : 3 ≤ t.levels
  pub many : t.levels ≤ 4

-- the bits of a page's number above those that are translated, and the highest of these, are all equal
abbrev pub is_canonical_page : ℕ → ℕ → Bool
is_canonical_page levels page =
    let high = page / 2 ^ (9 * levels - 1) in
    high == 0 || high == 2 ^ (53 - 9 * levels) - 1

-- the address of the entry for a page in a table: each level takes 9 bits of its number
abbrev pub entry_place : ℕ → ℕ → ℕ → ℕ
entry_place page level table = table + 8 * (page / 2 ^ (9 * level) % 2 ^ 9)

-- the number of the physical page: the leaf's with its lowest 9 bits a level taken from the virtual one
abbrev pub physical_page : ℕ → ℕ → ℕ → ℕ
physical_page page level pte =
    let span = 2 ^ (9 * level) in
    page_number pte / span * span + page % span

-- what is found from a table on, with this many levels left
unfoldable pub leaf_from : (ℕ → ℕ) → ℕ → ℕ → ℕ → LeafAnswer
leaf_from entry page zero table = found.PageFault
leaf_from entry page (suc level) table =
    let address = entry_place page level table in
    let pte = entry address in
    if is_in_ram address
    then (if is_broken level pte
    then found.PageFault
    else (if is_leaf pte then found.Leaf (physical_page page level pte) (leaf_bits pte) else leaf_from entry page level (table_of pte)))
    else found.AccessFault

-- what the tables have for a page
unfoldable pub leaf_of : (ℕ → ℕ) → Tables → ℕ → LeafAnswer
leaf_of entry t page =
    if is_canonical_page t.levels page then leaf_from entry page t.levels t.root else found.PageFault

-- the tables that an access goes through
abbrev pub tables_of : WalkArgs → Tables
tables_of a = record { root = a.root; levels = a.levels }

-- what an access is answered by what the tables have for its page
abbrev pub answer_by : LeafAnswer → WalkArgs → WalkAnswer
answer_by (found.Leaf page bits) a = if permits a bits then walked.Page (page * 4096 + a.va % 4096) else walked.PageFault
answer_by found.PageFault a = walked.PageFault
answer_by found.AccessFault a = walked.AccessFault

-- a translation is decided by the leaf of its page, and then by the leaf's bits, the access, the mode,
-- SUM and MXR alone
abbrev pub LeafDecides : Type 0
LeafDecides = (entry : ℕ → ℕ) (a : WalkArgs) → CanWalk a → IsTrue a.on
    → walk_of entry a ≡ answer_by (leaf_of entry (tables_of a) (a.va / 4096)) a

-- the page that an access is given has the address's place in its page
abbrev pub KeepsOffset : WalkArgs → WalkAnswer → Type 0
KeepsOffset a (walked.Page address) = address % 4096 ≡ a.va % 4096
KeepsOffset a _ = Unit {0}

abbrev pub OffsetIsKept : Type 0
OffsetIsKept = (entry : ℕ → ℕ) (a : WalkArgs) → CanWalk a → KeepsOffset a (walk_of entry a)

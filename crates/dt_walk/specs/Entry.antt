use Rattle.std.specs.Prelude.{ℕ, ◌*◌, ◌/◌, ◌%◌, ◌^◌, ◌==◌, Bool, false, not, ◌&&◌, ◌||◌, if◌then◌else◌}
use Rattle.dt_walk.specs.declared.arguments.Access.{Access}
use Rattle.dt_walk.specs.declared.arguments.Access.TheVariants.{Fetch, Load, Store}
use Rattle.dt_walk.specs.declared.arguments.WalkArgs.{WalkArgs}

-- Page-table entries (The RISC-V Instruction Set Manual, Volume II, 20211203, sections 4.3.1,
-- 4.4.1 and 4.5.1). An entry is a number of 64 bits.

-- the bit of a number at a place
abbrev pub has_bit : ℕ → ℕ → Bool
has_bit n place = n / 2 ^ place % 2 == 1

-- bit V: the entry is in use
abbrev pub is_in_use : ℕ → Bool
is_in_use pte = has_bit pte 0

-- bit R
abbrev pub is_readable : ℕ → Bool
is_readable pte = has_bit pte 1

-- bit W
abbrev pub is_writable : ℕ → Bool
is_writable pte = has_bit pte 2

-- bit X
abbrev pub is_executable : ℕ → Bool
is_executable pte = has_bit pte 3

-- bit U: the page belongs to U mode
abbrev pub is_user : ℕ → Bool
is_user pte = has_bit pte 4

-- bit A
abbrev pub is_accessed : ℕ → Bool
is_accessed pte = has_bit pte 6

-- bit D
abbrev pub is_dirty : ℕ → Bool
is_dirty pte = has_bit pte 7

-- bits 53 to 10: the physical page number
abbrev pub page_number : ℕ → ℕ
page_number pte = pte / 2 ^ 10 % 2 ^ 44

-- the address of the table that an entry points to
abbrev pub table_of : ℕ → ℕ
table_of pte = page_number pte * 4096

-- R or X is set: the entry is a leaf, which maps a page; any other entry points to a table (section
-- 4.3.2, step 4)
abbrev pub is_leaf : ℕ → Bool
is_leaf pte = is_readable pte || is_executable pte

-- V is set, W does not stand without R, and bits 63 to 54, which are reserved without Svnapot and
-- Svpbmt, are clear (section 4.3.2, step 3; section 4.4.1)
abbrev pub is_valid_entry : ℕ → Bool
is_valid_entry pte =
    is_in_use pte && (is_readable pte || not (is_writable pte)) && pte / 2 ^ 54 == 0

-- the lowest 9 bits a level of a leaf's page number are clear: a superpage begins at a multiple of
-- its size (section 4.3.2, step 6)
abbrev pub is_aligned : ℕ → ℕ → Bool
is_aligned level pte = page_number pte % 2 ^ (9 * level) == 0

-- the leaf allows the kind of access: fetches need X, loads R or with MXR X, stores W (section
-- 4.3.2, step 5; MXR in section 3.1.6.3)
abbrev pub permits_access : Access → Bool → ℕ → Bool
permits_access Fetch mxr pte = is_executable pte
permits_access Load mxr pte = is_readable pte || (mxr && is_executable pte)
permits_access Store mxr pte = is_writable pte

-- S reaches pages of U by loads and stores alone, and only with SUM (sections 3.1.6.3 and 4.3.1)
abbrev pub reaches_user_page : Access → Bool → Bool
reaches_user_page Fetch sum = false
reaches_user_page Load sum = sum
reaches_user_page Store sum = sum

-- the leaf allows the mode: U reaches pages of U alone, and S all others (section 4.3.2, step 5)
abbrev pub permits_mode : WalkArgs → ℕ → Bool
permits_mode a pte =
    if is_user pte then (a.mode == 0 || reaches_user_page a.access a.sum) else not (a.mode == 0)

-- A is set, and for a store D too: no hardware sets them (section 4.3.2, step 7; the choice is this
-- project's own)
abbrev pub is_marked : Access → ℕ → Bool
is_marked Fetch pte = is_accessed pte
is_marked Load pte = is_accessed pte
is_marked Store pte = is_accessed pte && is_dirty pte

-- the faults of a leaf: it is misaligned, lacks a mark, or denies the access
abbrev pub is_faulty_leaf : WalkArgs → ℕ → ℕ → Bool
is_faulty_leaf a level pte =
    not (is_aligned level pte) || not (is_marked a.access pte) || not (permits_access a.access a.mxr pte) || not (permits_mode a pte)

-- the faults of an entry that points to a table: it stands at level 0 (section 4.3.2, step 4), or
-- A, D or U is set, which are reserved there (section 4.3.1; that it faults is this project's own)
abbrev pub is_faulty_pointer : ℕ → ℕ → Bool
is_faulty_pointer level pte = level == 0 || is_accessed pte || is_dirty pte || is_user pte

-- the entry, at this level, gives a page fault
abbrev pub is_faulty : WalkArgs → ℕ → ℕ → Bool
is_faulty a level pte =
    not (is_valid_entry pte) || (if is_leaf pte then is_faulty_leaf a level pte else is_faulty_pointer level pte)

-- the entry, at this level, gives a page fault to whoever asks: it is invalid, a misaligned leaf, or a
-- faulty pointer
abbrev pub is_broken : ℕ → ℕ → Bool
is_broken level pte =
    not (is_valid_entry pte) || (if is_leaf pte then not (is_aligned level pte) else is_faulty_pointer level pte)

-- bits 7 to 0 of a leaf: its marks and rights
abbrev pub leaf_bits : ℕ → ℕ
leaf_bits pte = pte % 2 ^ 8

-- a leaf with these bits gives an access its page: it is marked, and allows the access and the mode
abbrev pub permits : WalkArgs → ℕ → Bool
permits a bits = is_marked a.access bits && (permits_access a.access a.mxr bits && permits_mode a bits)

use Rattle.std.specs.Prelude.{ℕ, ◌≡◌, ◌+◌, ◌/◌, ◌%◌, ◌^◌, ◌<◌, ◌≤◌, ◌&&◌, Bool, true, Option, None, Some, List, [], ◌∷◌, length, map, nat_lt, unwrap_or, if◌then◌else◌, option_map, option_to_list, IsTrue, All}
use Rattle.std.specs.BTreeMap.{is_at}
use Rattle.std.specs.List.{filter_map, list_all}
use Rattle.std.specs.List.Sorted.{IsStrictlySortedBy}
use Rattle.std.specs.Map.{lookup, keys_of}
use Rattle.std.specs.Option.{option_map_or}
use Rattle.std.specs.Ordering.{nat_cmp}
use Rattle.dt_csr.specs.Kept.{KeepsBounds, values_of}
use Rattle.dt_csr.specs.Modes.{IsMode}
use Rattle.dt_record.specs.declared.keys.Key.{Key}
use Rattle.dt_record.specs.declared.limits.TheConstants.{RECORD_LIMIT}
use Rattle.dt_record.specs.declared.states.HartState.{HartState}
use Rattle.dt_record.specs.declared.states.PageMark.{PageMark}
use Rattle.dt_record.specs.Actions.{order_floor}
use Rattle.dt_record.specs.Keys.{key_below}
use Rattle.dt_local.specs.LocalMemory.{AreKnownBytes, local_memory, pair_of}
use Rattle.dt_sources.specs.Knowing.{Knows}
use Rattle.dt_step.specs.declared.state.Arch.{Arch}
use Rattle.dt_windows.specs.Fences.{covers_all, covers_page, last_fence}
use Rattle.dt_hart.specs.Fences.{fences_of}
use Rattle.dt_hart.specs.Settings.{Setting, arch_of, did, next_key}

-- What a snapshot file says of a hart (this project's own).

-- how many records a hart had up to and with that of a key, and 0 where there is none
abbrev pub number_of : Option Key → ℕ
number_of key = option_map_or (λ k. k.seq + 1) key 0

-- a page, with the number of its mark
abbrev pub page_pair : PageMark → ℕ × ℕ
page_pair p = (p.page, p.seq)

-- how many records came up to and with the last fence that covers the page of an address
abbrev pub page_number : HartState → (va : ℕ) → ℕ
page_number d va = unwrap_or (lookup (is_at (nat_cmp (va / 4096))) (map page_pair d.pages)) d.all_pages

-- the data say this state of the reference
pub record HasArch (a : Arch) (d : HartState) : Type 0 where
  pub pc : d.pc ≡ a.pc
  pub x : 0 ∷ d.x ≡ a.x
  pub mode : d.mode ≡ a.mode
  pub v : d.v ≡ values_of a.csrs
  pub floors : d.floors ≡ a.csrs.cycle_floor ∷ a.csrs.instret_floor ∷ a.csrs.time_floor ∷ []

-- pages that there are, by rising numbers, and bytes of RAM by rising addresses
pub record AreListed (d : HartState) : Type 0 where
  pub pages : IsStrictlySortedBy nat_cmp (keys_of (map page_pair d.pages))
  pub exist : IsTrue (list_all (λ page. nat_lt page (2 ^ 52)) (keys_of (map page_pair d.pages)))
  pub known : AreKnownBytes (map pair_of d.known)

-- The data are those of the hart before its next record: how many records it had, the reference's state, the order floor,
-- the numbers of its last SFENCE.VMA of all pages and of each page that a later one covers, and for each byte the greatest
-- key that it knows.
pub record HasData (s : Setting) (d : HartState) : Type 0 where
  pub seq : d.seq ≡ length s.before
  pub arch : HasArch (arch_of s) d
  pub order : d.order ≡ order_floor (did s)
  pub all_pages : d.all_pages ≡ number_of (last_fence covers_all (fences_of s))
  pub pages : (va : ℕ) → page_number d va ≡ number_of (last_fence (covers_page va) (fences_of s))
  pub later : All (λ p. d.all_pages < p.seq) d.pages
  pub known : Knows (local_memory (map pair_of d.known) None) s.writes (did s) s.moments (next_key s)
  pub listed : AreListed d

-- data that some hart could have, in a file that does or does not let harts use Sv48; which harts wrote the known bytes is
-- not asked
pub record IsWithin (wide : Bool) (d : HartState) : Type 0 where
  pub seq : d.seq ≤ RECORD_LIMIT
  pub pc : d.pc % 2 ≡ 0
  pub mode : IsMode d.mode
  pub csrs : KeepsBounds d.v wide
  pub all_pages : d.all_pages ≤ d.seq
  pub pages : All (λ p. (d.all_pages < p.seq) × (p.seq ≤ d.seq)) d.pages
  pub listed : AreListed d

-- an entry, where it has a value
abbrev pub kept_value : {B : Type 0} → ℕ → Option B → List (ℕ × B)
kept_value n value = option_to_list (option_map (λ b. (n, b)) value)

-- the entries whose value a function gives another one, with that
abbrev pub kept_values : {A B : Type 0} → (A → Option B) → List (ℕ × A) → List (ℕ × B)
kept_values value entries = filter_map (λ e. option_map (λ b. (e.0, b)) (value e.1)) entries

-- a key is above that of a fence, where there was one
abbrev pub is_later : Key → Option Key → Bool
is_later key fence = option_map_or (λ f. key_below f key) fence true

-- the number of a fence, where it is that of one of so many records
abbrev pub number_within : (count : ℕ) → Option Key → ℕ
number_within count fence = option_map_or (λ f. if nat_lt f.seq count then f.seq + 1 else 0) fence 0

-- the number of a page's own fence with this key, where it came after the last one of all pages
abbrev pub own_number : (count : ℕ) (all : Option Key) → Key → Option ℕ
own_number count all key =
    if is_later key all && nat_lt (number_within count all) (number_within count (Some key))
    then Some (number_within count (Some key))
    else None

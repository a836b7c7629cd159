use Rattle.std.specs.Prelude.{ℕ, ◌≡◌, ◌≢◌, ◌≤◌, ◌<◌, ◌+◌, ◌⊎◌, ◌↔◌, Bool, List, Result, Ok, Err, IsTrue, length}
use Rattle.dt_record.specs.declared.keys.Key.{Key}
use Rattle.dt_record.specs.declared.writes.Write.{Write}
use Rattle.dt_record.specs.declared.accesses.LoadAsk.{LoadAsk}
use Rattle.dt_record.specs.declared.origins.Letters.{Letters}
use Rattle.dt_record.specs.declared.origins.Origin.TheVariants as origin
use Rattle.dt_record.specs.declared.reasons.Reason.TheVariants.{LoadSource}
use Rattle.dt_record.specs.Keys.{KeyBelow}
use Rattle.dt_record.specs.Actions.{Action, Loaded}
use Rattle.dt_record.specs.LoadSources.{origin_of, found_value, HasSources, AreLeastSources}
use Rattle.dt_versions.specs.History.{History, are_in_order}
use Rattle.dt_versions.specs.Spans.{last_visible}
use Rattle.dt_stores.specs.Kept.{Kept}
use Rattle.dt_stores.specs.Standing.{StoresStand}
use Rattle.dt_local.specs.LocalMemory.{LocalMemory}
use Rattle.dt_sources.specs.Finding.{AreSourcesAt}
use Rattle.dt_sources.specs.Choice.{then_action, with_moment}
use Rattle.dt_sources.specs.Knowing.{IsKnownKey, Knows, AreJudged}
use Rattle.dt_alu.specs.Extend.{extend_value, low_bytes_of}
use Rattle.dt_rules.specs.declared.misfits.Misfit.{Misfit}
use Rattle.dt_rules.specs.declared.misfits.TheConstants.{NO_LETTERS}
use Rattle.dt_rules.specs.Checks.{misfit}
use Rattle.dt_rules.specs.declared.misfits.Passed.{Passed}

-- What a load from RAM may give, after some actions of its hart whose loads read memory at these
-- moments (this project's own).

-- a load with this value, as it asks where its bytes may come from: the bytes are the low ones of the value
abbrev pub ask_of : Key → (at paddr width value : ℕ) → LoadAsk
ask_of key at paddr width value = record { key = key; at = at; addr = paddr; width = width; raw = low_bytes_of width value }

-- The byte at a place of the load comes, at moment k, from a write that is newer than each that the
-- hart knows for the byte: than its own writes and than what its earlier loads had for it.
pub record IsNewer (writes : List Write) (actions : List Action) (moments : ℕ → ℕ) (ask : LoadAsk) (k place : ℕ) : Type 0 where
  pub within : place < ask.width
  pub key : Key
  pub from : origin_of writes actions ask k (ask.addr + place) ≡ origin.Write key
  pub above : (known : Key) → IsKnownKey writes actions moments ask.key (ask.addr + place) known → KeyBelow known key

-- some byte of the load does
abbrev pub HasNewer : List Write → List Action → (ℕ → ℕ) → LoadAsk → ℕ → Type 0
HasNewer writes actions moments ask k = (place : ℕ) × IsNewer writes actions moments ask k place

-- the letters of a load: L or none
abbrev pub load_letters : Bool → Letters
load_letters newer = record NO_LETTERS { l = newer }

-- What a load that is allowed has: the sources of its bytes at its moment in the least fitting assignment
-- of the loads up to it, which gives the loads before it theirs, and the letter L where some byte then comes
-- from a newer write than its hart knew.
pub record IsReading (image : List ℕ) (writes : List Write) (actions : List Action) (moments : ℕ → ℕ) (ask : LoadAsk)
    (passed : Passed) : Type 0 where
  pub moment : ℕ
  pub chosen : AreLeastSources image writes (then_action actions (Loaded ask)) (with_moment moments (length actions) moment)
  pub sources : AreSourcesAt writes actions ask moment passed.sources
  pub newer : IsTrue passed.letters.l ↔ HasNewer writes actions moments ask moment
  pub no_other : passed.letters ≡ load_letters passed.letters.l

-- the value that the load would give at the greatest moment that it may see, with what the hart's own
-- stores forward, and whatever the floors of its bytes
abbrev pub expected_load : List ℕ → List Write → List Action → LoadAsk → Bool → ℕ
expected_load image writes actions ask signed =
    extend_value ask.width signed (found_value image writes actions ask (last_visible writes ask.key ask.at) ask.width ask.addr)

-- the load does not have this value: the value does not extend the loaded bytes, or no assignment fits the
-- load and all loads before it
abbrev pub IsUnread : List ℕ → List Write → List Action → LoadAsk → Bool → ℕ → Type 0
IsUnread image writes actions ask signed value =
    (extend_value ask.width signed ask.raw ≢ value) ⊎ ¬ HasSources image writes (then_action actions (Loaded ask))

-- The answer to a load with this value: it is allowed where the value extends the loaded bytes and
-- these have sources, and refused where not.
abbrev pub IsLoadAnswer : List ℕ → List Write → List Action → (ℕ → ℕ) → LoadAsk → Bool → ℕ
    → Result Passed Misfit → Type 0
IsLoadAnswer image writes actions moments ask signed value (Ok passed) =
    (extend_value ask.width signed ask.raw ≡ value) × IsReading image writes actions moments ask passed
IsLoadAnswer image writes actions moments ask signed value (Err refused) =
    IsUnread image writes actions ask signed value × (refused ≡ misfit LoadSource (expected_load image writes actions ask signed) value)

-- What is kept of a hart is what these actions left before a load with this key: its loads read at the moments
-- of the least fitting assignment, over writes that stand in the order of their keys.
pub record IsPast (h : History) (kept : Kept) (local : LocalMemory) (key : Key) (actions : List Action) (moments : ℕ → ℕ) : Type 0 where
  pub stores : StoresStand kept actions
  pub knows : Knows local h.writes actions moments key
  pub judged : AreJudged h.writes actions key
  pub in_order : IsTrue (are_in_order h.writes)
  pub chosen : AreLeastSources h.image h.writes actions moments

-- the answer to a load with this value, by what is kept of its hart, whatever past that is left by
abbrev pub IsAnswered : History → Kept → LocalMemory → LoadAsk → Bool → ℕ → Result Passed Misfit → Type 0
IsAnswered h stores local ask signed value answer =
    (actions : List Action) (moments : ℕ → ℕ) → IsPast h stores local ask.key actions moments
    → IsLoadAnswer h.image h.writes actions moments ask signed value answer

-- the answer has a place for each of eight sources, as all of the code's have
abbrev pub HasEightPlaces : Result Passed Misfit → Type 0
HasEightPlaces (Ok passed) = length passed.sources.from ≡ 8
HasEightPlaces (Err refused) = Unit {0}

-- no load has two answers
abbrev pub LoadsHaveOneAnswer : Type 0
LoadsHaveOneAnswer = (image : List ℕ) (writes : List Write) (actions : List Action) (moments : ℕ → ℕ) (ask : LoadAsk) (signed : Bool)
    (value : ℕ) (one other : Result Passed Misfit)
    → HasEightPlaces one → HasEightPlaces other
    → IsLoadAnswer image writes actions moments ask signed value one
    → IsLoadAnswer image writes actions moments ask signed value other → one ≡ other

-- a load of at most eight bytes has an answer, where the loads before it read at the moments of the least fitting
-- assignment and the writes stand in the order of their keys
abbrev pub LoadsHaveAnAnswer : Type 0
LoadsHaveAnAnswer = (image : List ℕ) (writes : List Write) (actions : List Action) (moments : ℕ → ℕ) (ask : LoadAsk) (signed : Bool)
    (value : ℕ)
    → ask.width ≤ 8 → IsTrue (are_in_order writes) → AreLeastSources image writes actions moments
    → (answer : Result Passed Misfit) × HasEightPlaces answer × IsLoadAnswer image writes actions moments ask signed value answer

-- a key stands above all that a hart knows for a byte
abbrev pub IsAboveKnown : List Write → List Action → (ℕ → ℕ) → (next : Key) → (byte : ℕ) → Key → Type 0
IsAboveKnown writes actions moments next byte key = (known : Key) → IsKnownKey writes actions moments next byte known → KeyBelow known key

-- whether it does is decided
abbrev pub KnownKeysAreDecided : Type 0
KnownKeysAreDecided = (writes : List Write) (actions : List Action) (moments : ℕ → ℕ) (next : Key) (byte : ℕ) (key : Key)
    → IsAboveKnown writes actions moments next byte key ⊎ ¬ IsAboveKnown writes actions moments next byte key

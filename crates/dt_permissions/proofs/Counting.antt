-- How many events stand behind a header, and which.
use Rattle.std.proofs.Common.{◌≡◌, ℕ, ◌+◌, ◌<◌, ◌≤◌, Bool, true, false, if◌then◌else◌, zero, suc, Some, None, List, [], ◌∷◌, ◌++◌, length, refl, sym, ap, ◌∙◌, subst, inl, inr, arith}
use Rattle.std.specs.Prelude.{◌⊎◌, ◌&&◌, ◌==◌, nat_le}
use Rattle.std.proofs.lemmas.Bool.{cases_lt, cond-true, cond-false, and_parts, leb-true}
use Rattle.std.proofs.lemmas.List.{length-append}
use Rattle.dt_permissions.specs.declared.perms.TheConstants.{EVENT_LIMIT}
use Rattle.dt_permissions.specs.declared.events.PermEvent.{PermEvent}
use Rattle.dt_permissions.specs.Events.{AreEvents, is_event_of}
use Rattle.dt_permissions.specs.Files.{part, harts_in, event_start, event_of, event_at, may_stand, stamp_before, is_event, first_without, event_count, first_events}

first_step : (bytes : List ℕ) (number many count : ℕ) → ((number < count) ⊎ (count ≤ number)) → number ≤ count
    → ((i : ℕ) → i < count → is_event bytes i ≡ true) → (count < number + suc many → is_event bytes count ≡ false)
    → (number < count → first_without bytes (suc number) many ≡ count)
    → (if is_event bytes number then first_without bytes (suc number) many else number) ≡ count
first_step bytes number many count (inl below) low each ends more =
    cond-true (is_event bytes number) (first_without bytes (suc number) many) number (each number below) ∙ more below
first_step bytes number many count (inr here) low each ends more =
    let same : number ≡ count = omega arith in
    cond-false (is_event bytes number) (first_without bytes (suc number) many) number (ap (is_event bytes) same ∙ ends (omega arith)) ∙ same

-- an event stands in each place below this one, and none stands here
first_is : (bytes : List ℕ) (number many count : ℕ) → number ≤ count → count ≤ number + many
    → ((i : ℕ) → i < count → is_event bytes i ≡ true) → (count < number + many → is_event bytes count ≡ false)
    → first_without bytes number many ≡ count
unfolding first_without
first_is bytes number zero count low high each ends = omega arith
first_is bytes number (suc many) count low high each ends =
    first_step bytes number many count (cases_lt number count) low each ends
    (λ below. first_is bytes (suc number) many count (omega arith) (omega arith) each (λ lt. ends (omega arith)))

-- the stamp of the last of some events, and this one where there is none
abbrev pub last_stamp : ℕ → List PermEvent → ℕ
last_stamp least [] = least
last_stamp least (e ∷ es) = last_stamp e.stamp es

last_of_more : (least : ℕ) (es : List PermEvent) (e : PermEvent) → last_stamp least (es ++ e ∷ []) ≡ e.stamp
last_of_more least [] e = refl
last_of_more least (d ∷ es) e = last_of_more d.stamp es e

are_more : (harts least : ℕ) (es : List PermEvent) (e : PermEvent) → AreEvents harts least es → is_event_of harts e ≡ true
    → last_stamp least es ≤ e.stamp → AreEvents harts least (es ++ e ∷ [])
are_more harts least [] e are is above = (is, above, tt)
are_more harts least (d ∷ es) e are is above = (are.0, are.1, are_more harts d.stamp es e are.2 is above)

by_place : (bytes : List ℕ) (count i : ℕ) → ((i : ℕ) → i < count → is_event bytes i ≡ true) → is_event bytes count ≡ true → i < suc count
    → ((i < count) ⊎ (count ≤ i)) → is_event bytes i ≡ true
by_place bytes count i each here lt (inl below) = each i below
by_place bytes count i each here lt (inr above) =
    let same : count ≡ i = omega arith in subst (λ (n : ℕ). is_event bytes n ≡ true) same here

-- an event that may stand is lawful, and not before the one with the stamp
may_stand_parts : (harts least : ℕ) (bytes : List ℕ) → may_stand harts least bytes ≡ true
    → (is_event_of harts (event_of bytes) ≡ true) × (least ≤ (event_of bytes).stamp)
unfolding may_stand
may_stand_parts harts least bytes may =
    let parts = and_parts (length bytes == 18) (is_event_of harts (event_of bytes) && nat_le least (event_of bytes).stamp) may in
    let two = and_parts (is_event_of harts (event_of bytes)) (nat_le least (event_of bytes).stamp) parts.1 in
    (two.0, leb-true least (event_of bytes).stamp two.1)

some_is : (b : Bool) (d e : PermEvent) → (if b then Some d else None) ≡ Some e → (b ≡ true) × (d ≡ e)
some_is true d e there = (refl, cc)
some_is false d e there = absurd cc

none_is : (b : Bool) (d : PermEvent) → (if b then Some d else None) ≡ None → b ≡ false
none_is true d there = absurd cc
none_is false d there = refl

-- what was read so far: an event stands in each place, these are the events, and this is the stamp of the last
pub record IsReadSoFar (bytes : List ℕ) (harts least : ℕ) (events : List PermEvent) : Type 0 where
  pub few : length events ≤ 4194305
  pub harts_is : harts ≡ harts_in bytes
  pub each : (i : ℕ) → i < length events → is_event bytes i ≡ true
  pub are : events ≡ first_events bytes (length events)
  pub least_is : least ≡ stamp_before bytes (length events)
  pub last : least ≡ last_stamp 0 events
  pub lawful : AreEvents harts 0 events

pub nothing_read : (bytes : List ℕ) → IsReadSoFar bytes (harts_in bytes) 0 []
unfolding first_events
nothing_read bytes = record {
  few = omega arith;
  harts_is = refl;
  each = λ i lt. absurd (omega arith);
  are = refl;
  least_is = refl;
  last = refl;
  lawful = tt;
}

stands_here : (bytes : List ℕ) (harts least : ℕ) (events : List PermEvent) → IsReadSoFar bytes harts least events
    → may_stand harts least (part (event_start (length events)) 18 bytes) ≡ is_event bytes (length events)
unfolding is_event
stands_here bytes harts least events far =
    let piece = part (event_start (length events)) 18 bytes in
    ap (λ (h : ℕ). may_stand h least piece) far.harts_is ∙ ap (λ (s : ℕ). may_stand (harts_in bytes) s piece) far.least_is

pub one_more : (bytes : List ℕ) (harts least : ℕ) (events : List PermEvent) (e : PermEvent) → IsReadSoFar bytes harts least events
    → length events < 4194305
    → (if may_stand harts least (part (event_start (length events)) 18 bytes) then Some (event_at bytes (length events)) else None) ≡ Some e
    → IsReadSoFar bytes harts e.stamp (events ++ e ∷ [])
unfolding first_events
one_more bytes harts least events e far few there = record {
  few = omega (arith, long);
  harts_is = far.harts_is;
  each = λ i lt. by_place bytes (length events) i far.each here (omega (arith, long)) (cases_lt i (length events));
  are =
      ap (λ (es : List PermEvent). es ++ e ∷ []) far.are
      ∙ ap (λ (d : PermEvent). first_events bytes (length events) ++ d ∷ []) (sym stood.1)
      ∙ ap (first_events bytes) (sym long);
  least_is = ap (λ (d : PermEvent). d.stamp) (sym stood.1) ∙ ap (stamp_before bytes) (sym long);
  last = sym (last_of_more 0 events e);
  lawful = are_more harts 0 events e far.lawful (subst (λ (d : PermEvent). is_event_of harts d ≡ true) stood.1 parts.0)
      (omega (arith, far.last, parts.1, ap (λ (d : PermEvent). d.stamp) stood.1));
}
  where
    long : length (events ++ e ∷ []) ≡ suc (length events)
    long = omega (arith, length-append events (e ∷ []))

    stood : (may_stand harts least (part (event_start (length events)) 18 bytes) ≡ true) × (event_at bytes (length events) ≡ e)
    stood = some_is (may_stand harts least (part (event_start (length events)) 18 bytes)) (event_at bytes (length events)) e there

    here : is_event bytes (length events) ≡ true
    here = sym (stands_here bytes harts least events far) ∙ stood.0

    parts : (is_event_of harts (event_at bytes (length events)) ≡ true) × (least ≤ (event_at bytes (length events)).stamp)
    parts = may_stand_parts harts least (part (event_start (length events)) 18 bytes) stood.0

pub all_read : (bytes : List ℕ) (harts least : ℕ) (events : List PermEvent) → IsReadSoFar bytes harts least events
    → (length events < 4194305 → may_stand harts least (part (event_start (length events)) 18 bytes) ≡ false)
    → length events ≡ event_count bytes
unfolding event_count
all_read bytes harts least events far ends =
    sym (first_is bytes 0 (EVENT_LIMIT + 1) (length events) (omega arith) (omega (arith, far.few)) far.each
    (λ lt. sym (stands_here bytes harts least events far) ∙ ends (omega arith)))

pub stopped : (bytes : List ℕ) (harts least : ℕ) (events : List PermEvent) → IsReadSoFar bytes harts least events
    → (if may_stand harts least (part (event_start (length events)) 18 bytes) then Some (event_at bytes (length events)) else None) ≡ None
    → length events ≡ event_count bytes
stopped bytes harts least events far none =
    all_read bytes harts least events far
    (λ lt. none_is (may_stand harts least (part (event_start (length events)) 18 bytes)) (event_at bytes (length events)) none)

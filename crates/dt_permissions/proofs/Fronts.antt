-- What the front of a long file decides.
use Rattle.std.proofs.Common.{◌≡◌, ℕ, ◌+◌, ◌<◌, ◌≤◌, Bool, true, false, not, if◌then◌else◌, zero, suc, Option, Some, None, List, [], ◌∷◌, ◌++◌, length, take, drop, refl, sym, ap, ◌∙◌, inl, inr, arith}
use Rattle.std.specs.Prelude.{◌⊎◌, ◌==◌, ◌&&◌, nat_lt, nat_le, codes, Result, Ok, Err}
use Rattle.std.specs.Option.{option_map_or}
use Rattle.std.specs.Str.{bytes_eq}
use Rattle.dt_record.specs.declared.limits.TheConstants.{HART_LIMIT}
use Rattle.dt_permissions.specs.declared.perms.TheConstants.{EVENT_LIMIT}
use Rattle.dt_permissions.specs.declared.events.PermEvent.{PermEvent}
use Rattle.dt_permissions.specs.declared.reading.PermsRefusal.{PermsRefusal}
use Rattle.dt_permissions.specs.declared.reading.PermsRefusal.TheVariants.{Malformed, Limit}
use Rattle.dt_permissions.specs.Events.{PermsView}
use Rattle.std.proofs.lemmas.Bool.{cases_Bool, cases_lt, cond-true, lt-ltb, eqb-true}
use Rattle.std.proofs.lemmas.List.{take-append-le, drop-append-le, length-drop, length-append, get_or_append_left}
use Rattle.dt_permissions.specs.Files.{part, harts_in, header_fault, event_start, event_of, event_at, may_stand, stamp_before, is_event, first_without, event_count, first_events, is_end, fault_behind, said_behind, perms_of}

pub part_of_front : (at width : ℕ) (xs ys : List ℕ) → at + width ≤ length xs → part at width (xs ++ ys) ≡ part at width xs
unfolding part
part_of_front at width xs ys fits =
    ap (take width) (drop-append-le at xs ys (omega arith))
    ∙ take-append-le width (drop at xs) ys (omega (arith, length-drop at xs))

harts_of_front : (xs ys : List ℕ) → 16 ≤ length xs → harts_in (xs ++ ys) ≡ harts_in xs
harts_of_front xs ys long = get_or_append_left xs ys 0 8 (omega arith)

stamp_of_front : (xs ys : List ℕ) (number : ℕ) → event_start number ≤ length xs → stamp_before (xs ++ ys) number ≡ stamp_before xs number
stamp_of_front xs ys zero fits = refl
stamp_of_front xs ys (suc number) fits = ap (λ (b : List ℕ). (event_of b).stamp) (part_of_front (event_start number) 18 xs ys (omega arith))

event_of_front : (xs ys : List ℕ) (number : ℕ) → event_start (suc number) ≤ length xs → is_event (xs ++ ys) number ≡ is_event xs number
unfolding is_event
event_of_front xs ys number fits =
    ap (λ (h : ℕ). may_stand h (stamp_before (xs ++ ys) number) (part (event_start number) 18 (xs ++ ys))) (harts_of_front xs ys (omega arith))
    ∙ ap (λ (s : ℕ). may_stand (harts_in xs) s (part (event_start number) 18 (xs ++ ys))) (stamp_of_front xs ys number (omega arith))
    ∙ ap (may_stand (harts_in xs) (stamp_before xs number)) (part_of_front (event_start number) 18 xs ys (omega arith))

first_of_front : (xs ys : List ℕ) (number many : ℕ) → event_start (number + many) ≤ length xs
    → first_without (xs ++ ys) number many ≡ first_without xs number many
unfolding first_without
first_of_front xs ys number zero fits = refl
first_of_front xs ys number (suc many) fits =
    ap (λ (b : Bool). if b then first_without (xs ++ ys) (suc number) many else number) (event_of_front xs ys number (omega arith))
    ∙ ap (λ (n : ℕ). if is_event xs number then n else number) (first_of_front xs ys (suc number) many (omega arith))

within_step : (bytes : List ℕ) (number many : ℕ) (is : Bool) → first_without bytes (suc number) many ≤ suc number + many
    → (if is then first_without bytes (suc number) many else number) ≤ number + suc many
within_step bytes number many true more = omega arith
within_step bytes number many false more = omega arith

first_within : (bytes : List ℕ) (number many : ℕ) → first_without bytes number many ≤ number + many
unfolding first_without
first_within bytes number zero = omega arith
first_within bytes number (suc many) = within_step bytes number many (is_event bytes number) (first_within bytes (suc number) many)

pub count_within : (bytes : List ℕ) → event_count bytes ≤ 4194305
unfolding event_count
count_within bytes = first_within bytes 0 (EVENT_LIMIT + 1)

count_of_front : (xs ys : List ℕ) → length xs ≡ 75497506 → event_count (xs ++ ys) ≡ event_count xs
unfolding event_count
count_of_front xs ys long = first_of_front xs ys 0 (EVENT_LIMIT + 1) (omega (arith, long))

events_of_front : (xs ys : List ℕ) (number : ℕ) → event_start number ≤ length xs → first_events (xs ++ ys) number ≡ first_events xs number
unfolding first_events
events_of_front xs ys zero fits = refl
events_of_front xs ys (suc number) fits =
    ap (λ (es : List PermEvent). es ++ event_at (xs ++ ys) number ∷ []) (events_of_front xs ys number (omega arith))
    ∙ ap (λ (b : List ℕ). first_events xs number ++ event_of b ∷ []) (part_of_front (event_start number) 18 xs ys (omega arith))

-- what is wrong behind so many events, by the bytes of the end and the number of all bytes
abbrev pub fault_with : ℕ → List ℕ → ℕ → Option PermsRefusal
fault_with count end long =
    if nat_lt EVENT_LIMIT count then Some Limit
    else if not (is_end count end) then Some (Malformed (event_start count))
    else if not (long == event_start count + 9) then Some (Malformed (event_start count + 9))
    else None

unequal : (a b : ℕ) → (a ≡ b → ⊥) → (a == b) ≡ false
unequal a b ne = elim (cases_Bool (a == b)) [
  | inl is ↦ absurd (ne (eqb-true a b is))
  | inr isnt ↦ isnt
]

fault_of_front : (xs ys : List ℕ) (count : ℕ) → length xs ≡ 75497506 → fault_behind (xs ++ ys) count ≡ fault_behind xs count
unfolding fault_behind
fault_of_front xs ys count long = by_number (cases_lt EVENT_LIMIT count)
  where
    both : (long other : ℕ) → count ≤ EVENT_LIMIT → 75497506 ≤ long → 75497506 ≤ other
        → (long == event_start count + 9) ≡ (other == event_start count + 9)
    both long other few l o =
        unequal long (event_start count + 9) (λ same. absurd (omega (arith, same)))
        ∙ sym (unequal other (event_start count + 9) (λ same. absurd (omega (arith, same))))

    rest : List ℕ → Option PermsRefusal
    rest bytes =
        if not (is_end count (part (event_start count) 9 bytes)) then Some (Malformed (event_start count))
        else if not (length bytes == event_start count + 9) then Some (Malformed (event_start count + 9))
        else None

    by_number : ((EVENT_LIMIT < count) ⊎ (count ≤ EVENT_LIMIT)) → fault_behind (xs ++ ys) count ≡ fault_behind xs count
    by_number (inl many) =
        cond-true (nat_lt EVENT_LIMIT count) (Some Limit) (rest (xs ++ ys)) (lt-ltb EVENT_LIMIT count many)
        ∙ sym (cond-true (nat_lt EVENT_LIMIT count) (Some Limit) (rest xs) (lt-ltb EVENT_LIMIT count many))
    by_number (inr few) =
        ap (λ (end : List ℕ). fault_with count end (length (xs ++ ys))) (part_of_front (event_start count) 9 xs ys (omega (arith, long)))
        ∙ ap (λ (b : Bool). if nat_lt EVENT_LIMIT count then Some Limit
        else if not (is_end count (part (event_start count) 9 xs)) then Some (Malformed (event_start count))
        else if not b then Some (Malformed (event_start count + 9))
        else None) (both (length (xs ++ ys)) (length xs) few (omega (arith, length-append xs ys, long)) (omega (arith, long)))

-- what is wrong in a header, by its fields
abbrev pub header_with : List ℕ → ℕ → List ℕ → Option ℕ
header_with magic harts zeros =
    if not (bytes_eq magic (codes "SMPDPERM")) then Some 0
    else if not (nat_le 1 harts && nat_le harts HART_LIMIT) then Some 8
    else if not (bytes_eq zeros (0 ∷ 0 ∷ 0 ∷ 0 ∷ 0 ∷ 0 ∷ 0 ∷ [])) then Some 9
    else None

abbrev pub said_with : Option ℕ → Result PermsView PermsRefusal → Result PermsView PermsRefusal
said_with fault said = option_map_or (λ place. Err (Malformed place)) fault said

abbrev pub read_with : Option PermsRefusal → ℕ → List PermEvent → Result PermsView PermsRefusal
read_with fault harts events = option_map_or Err fault (Ok (record { harts = harts; events = events }))

header_of_front : (xs ys : List ℕ) → 16 ≤ length xs → header_fault (xs ++ ys) ≡ header_fault xs
unfolding header_fault
header_of_front xs ys long =
    ap (λ (b : List ℕ). header_with b (harts_in (xs ++ ys)) (part 9 7 (xs ++ ys))) (part_of_front 0 8 xs ys (omega arith))
    ∙ ap (λ (h : ℕ). header_with (part 0 8 xs) h (part 9 7 (xs ++ ys))) (harts_of_front xs ys long)
    ∙ ap (header_with (part 0 8 xs) (harts_in xs)) (part_of_front 9 7 xs ys (omega arith))

-- bytes as many as those of a header, all events that there may be, and one more, decide what a file says
pub front_decides : (xs ys : List ℕ) → length xs ≡ 75497506 → perms_of (xs ++ ys) ≡ perms_of xs
unfolding perms_of
front_decides xs ys long =
    ap (λ (f : Option ℕ). said_with f (said_behind (xs ++ ys) (event_count (xs ++ ys)))) (header_of_front xs ys (omega (arith, long)))
    ∙ ap (λ (n : ℕ). said_with (header_fault xs) (said_behind (xs ++ ys) n)) (count_of_front xs ys long)
    ∙ ap (λ (f : Option PermsRefusal). said_with (header_fault xs) (read_with f (harts_in (xs ++ ys)) (first_events (xs ++ ys) (event_count xs))))
    (fault_of_front xs ys (event_count xs) long)
    ∙ ap (λ (h : ℕ). said_with (header_fault xs) (read_with (fault_behind xs (event_count xs)) h (first_events (xs ++ ys) (event_count xs))))
    (harts_of_front xs ys (omega (arith, long)))
    ∙ ap (λ (es : List PermEvent). said_with (header_fault xs) (read_with (fault_behind xs (event_count xs)) (harts_in xs) es))
    (events_of_front xs ys (event_count xs) (omega (arith, count_within xs, long)))

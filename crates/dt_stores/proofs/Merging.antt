use Rattle.std.proofs.Common.{ℕ, ◌≡◌, ◌+◌, ◌-◌, ◌*◌, ◌^◌, ◌%◌, ◌<◌, ◌≤◌, ◌==◌, ◌&&◌, ◌||◌, ◌⊎◌, Bool, true, false, if◌then◌else◌, Option, None, Some, List, [], ◌∷◌, drop, filter, get_or, length, map, max, slice_get, take, nat_lt, nat_le, zero, suc, refl, subst, sym, ap, ◌∙◌, inl, inr, arith, bit_or, suc-mul}
use Rattle.std.specs.Int.{bit_at}
use Rattle.std.specs.Int.Bits.{or_zero_r}
use Rattle.std.specs.List.{cons_option, list_all, range_with_len}
use Rattle.std.specs.Option.{option_map_or}
use Rattle.std.specs.Simd.Lanes.{mask_l}
use Rattle.std.proofs.lemmas.Bool.{cases_Bool, cases_lt, and_parts, and_from, eqb-true, lt-ltb, le-ltb, lt-leb, le-leb}
use Rattle.std.proofs.lemmas.Bool.Decides.{nat_tests}
use Rattle.std.proofs.lemmas.List.{drop_all, drop_more}
use Rattle.std.proofs.lemmas.List.FromFn.{length-map-range_with_len, get_or-map-range_with_len}
use Rattle.std.proofs.lemmas.Nat.{or_lt, pow-add, pow_pos}
use Rattle.std.proofs.lemmas.Nat.Bits.{bit_at_or, bit_at-zero, bit_at_mask_above, bit_at_mask_below, bit_at_mask_inside, same_from_bits_below}
use Rattle.std.proofs.lemmas.Simd.{bit_mask_l, mask_l-lt}
use Rattle.dt_record.proofs.Placed.{ones-fit}
use Rattle.dt_record.specs.declared.accesses.OwnStore.{OwnStore}
use Rattle.dt_record.specs.Actions.{Held, is_on, is_waiting, store_covers}
use Rattle.dt_record.specs.Lawful.{is_in_ram}
use Rattle.dt_record.specs.Memory.{line_of}
use Rattle.dt_record.specs.Writes.{width_mask}
use Rattle.dt_stores.specs.Draining.{is_waiting_on, is_covered, mask_over}
use Rattle.dt_stores.specs.Indexed.{AreAt}
use Rattle.dt_stores.specs.Places.{is_store_place, is_store_width}
use Rattle.dt_stores.specs.Taking.{AreOnLine, put_over}
use Rattle.dt_stores.proofs.PlacesOn.{at-stores, stores_at}

-- The mask that is merged of one store after the other has the bytes that they cover.

-- the mask of the bytes of a line that some stores cover, beside a mask
abbrev pub merged_mask : ℕ → List Held → ℕ
merged_mask mask [] = mask
merged_mask mask (h ∷ hs) = merged_mask (bit_or mask (width_mask (h.store.addr % 64) h.store.width)) hs

-- a line with the bytes of some stores over its own, a younger store over an older one
abbrev pub merged_bytes : List ℕ → List Held → List ℕ
merged_bytes bytes [] = bytes
merged_bytes bytes (h ∷ hs) = merged_bytes (put_over bytes h.store) hs

-- where a store lies on a line
pub record LiesOn (line : ℕ) (s : OwnStore) : Type 0 where
  pub begins : s.addr ≡ line + s.addr % 64
  pub ends : s.addr % 64 + s.width ≤ 64
  pub narrow : s.width ≤ 8

pub widths : (w : ℕ) → is_store_width w ≡ true → (w ≡ 1) ⊎ ((w ≡ 2) ⊎ ((w ≡ 4) ⊎ (w ≡ 8)))
widths w narrow = grind (arith, nat_tests)

aligned_ends : (addr width : ℕ) → (width ≡ 1) ⊎ ((width ≡ 2) ⊎ ((width ≡ 4) ⊎ (width ≡ 8))) → addr % width ≡ 0 → (addr % 64 + width ≤ 64) × (width ≤ 8)
aligned_ends addr width (inl one) aligned = (omega arith, omega arith)
aligned_ends addr width (inr (inl two)) aligned = let even : addr % 2 ≡ 0 = sym (ap (λ w. addr % w) two) ∙ aligned in (omega arith, omega arith)
aligned_ends addr width (inr (inr (inl four))) aligned = let fourth : addr % 4 ≡ 0 = sym (ap (λ w. addr % w) four) ∙ aligned in (omega arith, omega arith)
aligned_ends addr width (inr (inr (inr eight))) aligned = let eighth : addr % 8 ≡ 0 = sym (ap (λ w. addr % w) eight) ∙ aligned in (omega arith, omega arith)

pub lies_on : (line : ℕ) (s : OwnStore) → (is_store_place s && is_on line s) ≡ true → LiesOn line s
lies_on line s placed =
    let parts = and_parts (is_store_place s) (is_on line s) placed in
    let own = and_parts (is_store_width s.width) ((s.addr % s.width == 0) && is_in_ram s.addr) parts.0 in
    let aligned : s.addr % s.width ≡ 0 = eqb-true (s.addr % s.width) 0 (and_parts (s.addr % s.width == 0) (is_in_ram s.addr) own.1).0 in
    let on : line_of s.addr ≡ line = eqb-true (line_of s.addr) line parts.1 in
    let inside = aligned_ends s.addr s.width (widths s.width own.0) aligned in
    record { begins = omega arith; ends = inside.0; narrow = inside.1 }

-- the stores that a drain takes lie on its line
waiting_on_line : (line : ℕ) (held : List Held) → list_all (λ h. is_store_place h.store) held ≡ true → AreOnLine line (filter (is_waiting_on line) held)
waiting_on_line line [] placed = refl
waiting_on_line line (h ∷ hs) placed =
    let parts = and_parts (is_store_place h.store) (list_all (λ g. is_store_place g.store) hs) placed in
    let rest = waiting_on_line line hs parts.1 in
    elim (cases_Bool (is_waiting_on line h)) [
      | inl waits ↦ (let on = (and_parts (is_waiting h) (is_on line h.store) waits).1 in
          rw waits (and_from (is_store_place h.store && is_on line h.store) (list_all (λ g. is_store_place g.store && is_on line g.store) (filter (is_waiting_on line) hs))
          (and_from (is_store_place h.store) (is_on line h.store) parts.0 on) rest))
      | inr not_here ↦ rw not_here rest
    ]

list_all-take : (p : Held → Bool) (n : ℕ) (hs : List Held) → list_all p hs ≡ true → list_all p (take n hs) ≡ true
list_all-take p zero hs all = refl
list_all-take p (suc n) [] all = refl
list_all-take p (suc n) (h ∷ hs) all = let parts = and_parts (p h) (list_all p hs) all in and_from (p h) (list_all p (take n hs)) parts.0 (list_all-take p n hs parts.1)

pub taken_on_line : (line n : ℕ) (held : List Held) → list_all (λ h. is_store_place h.store) held ≡ true → AreOnLine line (take n (filter (is_waiting_on line) held))
taken_on_line line n held placed = list_all-take (λ h. is_store_place h.store && is_on line h.store) n (filter (is_waiting_on line) held) (waiting_on_line line held placed)

-- one bit
abbrev pub bit_of : Bool → ℕ
bit_of b = if b then 1 else 0

mask_of_ones : (place width : ℕ) → width_mask place width ≡ 2 ^ (width + place) - 2 ^ place
mask_of_ones place width =
    let both : 2 ^ (width + place) ≡ 2 ^ width * 2 ^ place = pow-add 2 width place in
    times_less (2 ^ width) (2 ^ place) ∙ ap (λ n. n - 2 ^ place) (sym both)
  where
    times_less : (a b : ℕ) → (a - 1) * b ≡ a * b - b
    times_less zero b =
        let none : 0 - 1 ≡ 0 = omega arith in
        ap (λ n. n * b) none ∙ (omega arith)
    times_less (suc a) b =
        let less : suc a - 1 ≡ a = omega arith in
        let more : suc a * b ≡ a * b + b = suc-mul a b in
        ap (λ n. n * b) less ∙ (omega arith)

pub width_has : (place width bit : ℕ) → place ≤ bit → bit < place + width → bit_at (width_mask place width) bit ≡ 1
width_has place width bit from to = ap (λ n. bit_at n bit) (mask_of_ones place width) ∙ bit_at_mask_inside place (width + place) bit from (omega arith)

-- the mask of one store has the bytes that it covers
store_bit : (line i : ℕ) (s : OwnStore) → LiesOn line s → bit_at (width_mask (s.addr % 64) s.width) i ≡ bit_of (store_covers (line + i) s)
store_bit line i s lies =
    let place : ℕ = s.addr % 64 in
    let begins = lies.begins in
    let ones = ap (λ n. bit_at n i) (mask_of_ones place s.width) in
    elim (cases_lt i place) [
      | inl before ↦ (let out : nat_le s.addr (line + i) ≡ false = lt-leb s.addr (line + i) (omega arith) in
          ones ∙ bit_at_mask_below place (s.width + place) i before ∙ (rw out refl))
      | inr from ↦ (let in_it : nat_le s.addr (line + i) ≡ true = le-leb s.addr (line + i) (omega arith) in
          elim (cases_lt i (s.width + place)) [
            | inl within ↦ (let there : nat_lt (line + i) (s.addr + s.width) ≡ true = lt-ltb (line + i) (s.addr + s.width) (omega arith) in
                ones ∙ bit_at_mask_inside place (s.width + place) i from within ∙ (rw (in_it, there) refl))
            | inr past ↦ (let out : nat_lt (line + i) (s.addr + s.width) ≡ false = le-ltb (line + i) (s.addr + s.width) (omega arith) in
                ones ∙ bit_at_mask_above place (s.width + place) i past ∙ (rw (in_it, out) refl))
          ])
    ]

either_bit : (a b : Bool) → max (bit_of a) (bit_of b) ≡ bit_of (a || b)
either_bit true true = refl
either_bit true false = refl
either_bit false true = refl
either_bit false false = refl

merged_bits : (line i mask : ℕ) (hs : List Held) → AreOnLine line hs → bit_at (merged_mask mask hs) i ≡ max (bit_at mask i) (bit_of (is_covered hs (line + i)))
merged_bits line i mask [] on = omega arith
merged_bits line i mask (h ∷ hs) on =
    let parts = and_parts (is_store_place h.store && is_on line h.store) (list_all (λ g. is_store_place g.store && is_on line g.store) hs) on in
    let own : ℕ = width_mask (h.store.addr % 64) h.store.width in
    let here = store_bit line i h.store (lies_on line h.store parts.0) in
    let later = merged_bits line i (bit_or mask own) hs parts.1 in
    let either = either_bit (store_covers (line + i) h.store) (is_covered hs (line + i)) in
    let joined = bit_at_or mask own i in
    later ∙ omega (arith, here, either, joined)

merged_fits : (line mask : ℕ) (hs : List Held) → AreOnLine line hs → mask < 2 ^ 64 → merged_mask mask hs < 2 ^ 64
merged_fits line mask [] on fits = fits
merged_fits line mask (h ∷ hs) on fits =
    let parts = and_parts (is_store_place h.store && is_on line h.store) (list_all (λ g. is_store_place g.store && is_on line g.store) hs) on in
    let some : 0 < 2 ^ h.store.width = pow_pos h.store.width in
    let own = ones-fit (2 ^ h.store.width - 1) h.store.width (h.store.addr % 64) (omega arith) (lies_on line h.store parts.0).ends in
    merged_fits line (bit_or mask (width_mask (h.store.addr % 64) h.store.width)) hs parts.1 (or_lt 64 mask (width_mask (h.store.addr % 64) h.store.width) fits own)

-- the bits of the mask of what is covered
pub covered_bit : (line i : ℕ) (hs : List Held) → i < 64 → bit_at (mask_over line hs) i ≡ bit_of (is_covered hs (line + i))
unfolding mask_over
covered_bit line i hs within =
    bit_mask_l (map (is_covered hs) (range_with_len line 64)) i ∙ ap bit_of (get_or-map-range_with_len (is_covered hs) line 64 i (line + i) false within refl)

covered_fits : (line : ℕ) (hs : List Held) → mask_over line hs < 2 ^ 64
unfolding mask_over
covered_fits line hs =
    subst (λ n. mask_l (map (is_covered hs) (range_with_len line 64)) < 2 ^ n) (length-map-range_with_len (is_covered hs) line 64)
    (mask_l-lt (map (is_covered hs) (range_with_len line 64)))

merged_covers : (line : ℕ) (hs : List Held) → AreOnLine line hs → merged_mask 0 hs ≡ mask_over line hs
merged_covers line hs on =
    same_from_bits_below 64 (merged_mask 0 hs) (mask_over line hs) (merged_fits line 0 hs on (pow_pos 64)) (covered_fits line hs)
    (λ i within. let merged = merged_bits line i 0 hs on in let none = bit_at-zero i in let either = covered_bit line i hs within in omega arith)

-- a store adds its mask before later ones do
adds_mask : (o : Option Held) (bits mask : ℕ) (hs : List Held) → bits ≡ option_map_or (λ h. width_mask (h.store.addr % 64) h.store.width) o 0
    → merged_mask (bit_or mask bits) hs ≡ merged_mask mask (cons_option o hs)
adds_mask None bits mask hs is = ap (λ m. merged_mask m hs) (ap (bit_or mask) is ∙ or_zero_r mask)
adds_mask (Some h) bits mask hs is = ap (λ b. merged_mask (bit_or mask b) hs) is

pub merges_next : (held : List Held) (places : List ℕ) (i bits mask : ℕ) (d : ℕ) → i < length places
    → bits ≡ option_map_or (λ h. width_mask (h.store.addr % 64) h.store.width) (slice_get held (get_or places i d)) 0
    → merged_mask (bit_or mask bits) (stores_at held (drop (i + 1) places)) ≡ merged_mask mask (stores_at held (drop i places))
merges_next held places i bits mask d within is =
    adds_mask (slice_get held (get_or places i d)) bits mask (stores_at held (drop (i + 1) places)) is
    ∙ ap (λ l. merged_mask mask (stores_at held l)) (sym (drop_more places i d within))

pub mask_of_all : (line : ℕ) (held hs : List Held) (places : List ℕ) (i mask : ℕ) → AreAt held places hs → AreOnLine line hs → length places ≤ i
    → merged_mask mask (stores_at held (drop i places)) ≡ merged_mask 0 (stores_at held places) → mask ≡ mask_over line hs
mask_of_all line held hs places i mask at on end is =
    sym (ap (λ l. merged_mask mask (stores_at held l)) (drop_all i places end)) ∙ is ∙ ap (merged_mask 0) (at-stores held hs places at) ∙ merged_covers line hs on

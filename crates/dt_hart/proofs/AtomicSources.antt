use Rattle.std.proofs.Common.{ℕ, ◌≡◌, ◌+◌, ◌-◌, ◌%◌, ◌<◌, ◌≤◌, ◌==◌, ◌⊎◌, ◌&&◌, ◌||◌, nat_lt, nat_le, Bool, true, false, Option, Some, None, List, [], ◌∷◌, length, filter, take, zero, suc, refl, sym, ap, ◌∙◌, subst, inl, inr, IsTrue, arith}
use Rattle.std.specs.Prelude.{reverse}
use Rattle.std.specs.Int.{bit_at}
use Rattle.std.specs.List.{find, list_all}
use Rattle.std.specs.Option.{option_map}
use Rattle.std.proofs.lemmas.Bool.{and_parts, and_from, cases_Bool, eqb-true, eq-eqb, leb-true, ltb-true}
use Rattle.std.proofs.lemmas.Bool.Decides.{nat_tests}
use Rattle.std.proofs.lemmas.Option.{same_Some}
use Rattle.dt_stores.proofs.Merging.{width_has}
use Rattle.dt_lists.proofs.Lists.{list_all-reverse, found_passes}
use Rattle.dt_record.specs.declared.keys.Key.{Key}
use Rattle.dt_record.specs.declared.writes.Write.{Write}
use Rattle.dt_record.specs.Actions.{Action, Atomic}
use Rattle.dt_record.proofs.KeyLaws.{KeyBelow-chain}
use Rattle.dt_record.specs.Keys.{KeyBelow, key_below}
use Rattle.dt_record.specs.Lawful.{is_atomic_place, is_in_ram}
use Rattle.dt_record.specs.LoadSources.{is_within, origin_at, origin_of_key}
use Rattle.dt_record.specs.Memory.{covers, line_of, moment_of, source_at}
use Rattle.dt_record.specs.Writes.{line_with, width_mask}
use Rattle.dt_local.specs.LocalMemory.{greater, is_noted}
use Rattle.dt_sources.specs.Knowing.{covering_key, write_key}
use Rattle.dt_versions.specs.History.{are_in_order}

-- An atomic reads writes that stand below its own key, and one that writes covers each byte that it reads.

-- after a write that does not stand below a key there is none that does
none_below : (key : Key) (w : Write) (ws : List Write) → list_all (λ v. key_below w.key v.key) ws ≡ true → key_below w.key key ≡ false
    → length (filter (λ v. key_below v.key key) ws) ≡ 0
none_below key w [] above late = refl
none_below key w (v ∷ vs) above late =
    let parts = and_parts (key_below w.key v.key) (list_all (λ u. key_below w.key u.key) vs) above in
    elim (cases_Bool (key_below v.key key)) [
      | inl below ↦ absurd (let no : true ≡ false = sym (KeyBelow-chain w.key v.key key parts.0 below) ∙ late in cc no)
      | inr past ↦ rw past (none_below key w vs parts.1 late)
    ]

-- as many first writes as stand below a key are those that do
front_below : (key : Key) (n : ℕ) (writes : List Write) → IsTrue (are_in_order writes) → n ≡ length (filter (λ w. key_below w.key key) writes)
    → list_all (λ w. key_below w.key key) (take n writes) ≡ true
front_below key zero writes ordered is = refl
front_below key (suc n) [] ordered is = refl
front_below key (suc n) (w ∷ ws) ordered is =
    let parts = and_parts (list_all (λ v. key_below w.key v.key) ws) (are_in_order ws) ordered in
    elim (cases_Bool (key_below w.key key)) [
      | inl below ↦
          let more : suc n ≡ length (w ∷ filter (λ v. key_below v.key key) ws) = rw below at is in
          and_from (key_below w.key key) (list_all (λ v. key_below v.key key) (take n ws)) below (front_below key n ws parts.1 (omega arith))
      | inr late ↦
          let none : suc n ≡ length (filter (λ v. key_below v.key key) ws) = rw late at is in
          absurd (omega (arith, none_below key w ws parts.0 late))
    ]

-- the write that a byte comes from at the moment of a key stands below it
source_below : (writes : List Write) (key : Key) (byte : ℕ) (source : Key) → IsTrue (are_in_order writes)
    → source_at writes (moment_of writes key) byte ≡ Some source → KeyBelow source key
source_below writes key byte source ordered is = by_found (find (covers byte) (reverse (take (moment_of writes key) writes))) refl is
  where
    by_found : (o : Option Write) → find (covers byte) (reverse (take (moment_of writes key) writes)) ≡ o → option_map (λ w. w.key) o ≡ Some source → KeyBelow source key
    by_found None found has = absurd (cc has)
    by_found (Some w) found has =
        let below = front_below key (moment_of writes key) writes ordered refl in
        subst (λ (k : Key). KeyBelow k key) (same_Some w.key source has)
        (found_passes (covers byte) (λ v. key_below v.key key) (reverse (take (moment_of writes key) writes)) w found
        (list_all-reverse (λ v. key_below v.key key) (take (moment_of writes key) writes) below))

-- a byte of an atomic lies inside the line in which the atomic begins
record IsInside (addr width byte : ℕ) : Type 0 where
  same_line : line_of addr ≡ line_of byte
  from : addr % 64 ≤ byte % 64
  to : byte % 64 < addr % 64 + width

inside : (addr width byte : ℕ) → (width ≡ 4) ⊎ (width ≡ 8) → addr % width ≡ 0 → addr ≤ byte → byte < addr + width → IsInside addr width byte
inside addr width byte (inl four) aligned from to =
    let fourth : addr % 4 ≡ 0 = sym (ap (λ w. addr % w) four) ∙ aligned in
    record { same_line = omega arith; from = omega arith; to = omega arith }
inside addr width byte (inr eight) aligned from to =
    let eighth : addr % 8 ≡ 0 = sym (ap (λ w. addr % w) eight) ∙ aligned in
    record { same_line = omega arith; from = omega arith; to = omega arith }

pub atomic_widths : (width : ℕ) → IsTrue ((width == 4) || (width == 8)) → (width ≡ 4) ⊎ (width ≡ 8)
atomic_widths width either = grind (arith, nat_tests)

-- the bytes of an atomic are those of its mask
pub mask_has : (addr width byte : ℕ) → is_atomic_place addr width ≡ true → is_within addr width byte ≡ true
    → is_noted (addr - addr % 64) (width_mask (addr % 64) width) byte ≡ true
mask_has addr width byte placed within =
    let parts = and_parts ((width == 4) || (width == 8)) ((addr % width == 0) && is_in_ram addr) placed in
    let aligned : addr % width ≡ 0 = eqb-true (addr % width) 0 (and_parts (addr % width == 0) (is_in_ram addr) parts.1).0 in
    let ends = and_parts (nat_le addr byte) (nat_lt byte (addr + width)) within in
    let has = inside addr width byte (atomic_widths width parts.0) aligned (leb-true addr byte ends.0) (ltb-true byte (addr + width) ends.1) in
    and_from (addr - addr % 64 == line_of byte) (bit_at (width_mask (addr % 64) width) (byte % 64) == 1)
    (eq-eqb (addr - addr % 64) (line_of byte) has.same_line)
    (eq-eqb (bit_at (width_mask (addr % 64) width) (byte % 64)) 1 (width_has (addr % 64) width (byte % 64) has.from has.to))

-- the write of an atomic
abbrev pub atomic_write : (key : Key) (addr width new : ℕ) → Write
atomic_write key addr width new =
    record { key = key; line = addr - addr % 64; mask = width_mask (addr % 64) width; bytes = line_with (addr % 64) width new }

-- so what it adds to what is known of a byte is its own key alone
pub own_is_greater : (writes : List Write) (actions : List Action) (moment : ℕ) (key : Key) (addr width new : ℕ) (reads acquires : Bool) (byte : ℕ)
    → IsTrue (are_in_order writes) → is_atomic_place addr width ≡ true
    → greater (write_key (origin_at writes actions moment (Atomic key addr width reads acquires) byte)) (covering_key byte (atomic_write key addr width new))
    ≡ covering_key byte (atomic_write key addr width new)
own_is_greater writes actions moment key addr width new false acquires byte ordered placed = refl
own_is_greater writes actions moment key addr width new true acquires byte ordered placed = elim (cases_Bool (is_within addr width byte)) [
  | inl within ↦ rw (within, mask_has addr width byte placed within) (by_source (source_at writes (moment_of writes key) byte) refl)
  | inr outside ↦ rw outside refl
]
  where
    by_source : (o : Option Key) → source_at writes (moment_of writes key) byte ≡ o → greater (write_key (Some (origin_of_key o))) (Some key) ≡ Some key
    by_source None is = refl
    by_source (Some source) is = rw (source_below writes key byte source ordered is) refl

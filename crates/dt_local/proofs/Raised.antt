use Rattle.std.proofs.Common.{ℕ, ◌≡◌, ◌+◌, ◌-◌, ◌*◌, ◌/◌, ◌%◌, ◌^◌, ◌<◌, ◌==◌, ◌&&◌, Bool, true, false, not, if◌then◌else◌, List, Option, None, Some, nat_lt, refl, sym, ap, ◌∙◌, inl, inr, IsTrue, arith}
use Rattle.std.specs.List.{slice_get}
use Rattle.std.specs.Int.{bit_at}
use Rattle.std.proofs.Math.Nat.{div-div-eq-div-mul}
use Rattle.std.proofs.lemmas.Nat.{pow-add}
use Rattle.std.proofs.lemmas.Bool.{and_parts, and_left, and_right, cases_Bool, cases_eq, cond-true, cond-false, eqb-true, eq-eqb, ne_eqb, le-ltb, lt-ltb, false≢true}
use Rattle.std.proofs.lemmas.Bool.Decides.{nat_tests}
use Rattle.std.proofs.lemmas.Nat.Bits.{bit_at-zero, bit_at_cat_low}
use Rattle.dt_record.specs.declared.keys.Key.{Key}
use Rattle.dt_record.specs.Lawful.{is_ram_line}
use Rattle.dt_record.specs.Memory.{line_of}
use Rattle.dt_local.specs.LocalMemory.{greater, is_noted, noted_key}
use Rattle.dt_local.specs.Slots.{has_word, noted_in}

-- A note of some first words of a line.

abbrev pub noted_before : (line mask : ℕ) → List Key → (addr place : ℕ) → Option Key
noted_before line mask keys addr place = if is_noted line mask addr && nat_lt (addr % 64 / 8) place then slice_get keys (addr % 64) else None

-- the key that the word at a place of its line gives a byte
abbrev pub noted_by_word : (line mask : ℕ) → List Key → (addr place : ℕ) → Option Key
noted_by_word line mask keys addr place = if addr / 8 == line / 8 + place then noted_in mask keys (8 * place + addr % 8) else None

pub greater-none : (a : Option Key) → greater a None ≡ a
greater-none None = refl
greater-none (Some a) = refl

-- a word of which the mask has no byte
no_bit : (mask place byte : ℕ) → has_word mask place ≡ false → byte < 8 → bit_at mask (8 * place + byte) ≡ 0
no_bit mask place byte none within =
    let high = mask / 2 ^ (8 * place) in
    let clear : high % 256 ≡ 0 = eqb-true (high % 256) 0 (was_true (high % 256 == 0) none) in
    let whole : high ≡ high / 256 * 2 ^ 8 + 0 = omega arith in
    ap (λ n. n % 2) (sym (div-div-eq-div-mul mask (2 ^ (8 * place)) (2 ^ byte) ∙ ap (λ n. mask / n) (sym (pow-add 2 (8 * place) byte))))
    ∙ ap (λ n. bit_at n byte) whole ∙ bit_at_cat_low (high / 256) 8 0 byte within ∙ bit_at-zero byte
  where
    was_true : (b : Bool) → not b ≡ false → b ≡ true
    was_true true is = refl
    was_true false is = absurd (false≢true (sym is))

pub gives_none : (line mask place addr : ℕ) (keys : List Key) → has_word mask place ≡ false → noted_by_word line mask keys addr place ≡ None
gives_none line mask place addr keys none =
    ap (λ o. if addr / 8 == line / 8 + place then o else None) clear ∙ same (addr / 8 == line / 8 + place)
  where
    clear : noted_in mask keys (8 * place + addr % 8) ≡ None
    clear = cond-false (bit_at mask (8 * place + addr % 8) == 1) (slice_get keys (8 * place + addr % 8)) None
        (ne_eqb (bit_at mask (8 * place + addr % 8)) 1 (λ is. let zero = no_bit mask place (addr % 8) none (omega arith) in omega (arith, zero, is)))

    same : (b : Bool) → ◌≡◌ {A = Option Key} (if b then None else None) None
    same true = refl
    same false = refl

-- in the word itself
more_here : (line mask place addr : ℕ) (keys : List Key) (old : Option Key) → IsTrue (is_ram_line line) → place < 8 → addr / 8 ≡ line / 8 + place
    → greater (greater old (noted_before line mask keys addr place)) (noted_by_word line mask keys addr place) ≡ greater old (noted_before line mask keys addr (place + 1))
more_here line mask place addr keys old lawful within its =
    let aligned : line % 64 ≡ 0 = eqb-true (line % 64) 0 (and_parts (line % 64 == 0) _ lawful).0 in
    let start : line ≡ addr - addr % 64 = omega arith in
    let there : 8 * place + addr % 8 ≡ addr % 64 = omega arith in
    let before : noted_before line mask keys addr place ≡ None =
    cond-false (is_noted line mask addr && nat_lt (addr % 64 / 8) place) (slice_get keys (addr % 64)) None
    (and_right (is_noted line mask addr) (nat_lt (addr % 64 / 8) place) (le-ltb (addr % 64 / 8) place (omega arith))) in
    let word : noted_by_word line mask keys addr place ≡ noted_in mask keys (addr % 64) =
    cond-true (addr / 8 == line / 8 + place) (noted_in mask keys (8 * place + addr % 8)) None (eq-eqb (addr / 8) (line / 8 + place) its) ∙ ap (noted_in mask keys) there in
    let after : noted_before line mask keys addr (place + 1) ≡ noted_in mask keys (addr % 64) =
    ap (λ b. if (b && (bit_at mask (addr % 64) == 1)) && nat_lt (addr % 64 / 8) (place + 1) then slice_get keys (addr % 64) else None) (eq-eqb line (line_of addr) start)
    ∙ ap (λ b. if (bit_at mask (addr % 64) == 1) && b then slice_get keys (addr % 64) else None) (lt-ltb (addr % 64 / 8) (place + 1) (omega arith))
    ∙ ap (λ b. if b then slice_get keys (addr % 64) else None) (and-true (bit_at mask (addr % 64) == 1)) in
    ap (λ o. greater (greater old o) (noted_by_word line mask keys addr place)) before
    ∙ ap (λ o. greater o (noted_by_word line mask keys addr place)) (greater-none old)
    ∙ ap (greater old) (word ∙ sym after)
  where
    and-true : (b : Bool) → (b && true) ≡ b
    and-true true = refl
    and-true false = refl

-- in another one
more_elsewhere : (line mask place addr : ℕ) (keys : List Key) (old : Option Key) → IsTrue (is_ram_line line) → (addr / 8 ≡ line / 8 + place → ⊥)
    → greater (greater old (noted_before line mask keys addr place)) (noted_by_word line mask keys addr place) ≡ greater old (noted_before line mask keys addr (place + 1))
more_elsewhere line mask place addr keys old lawful other =
    ap (greater (greater old (noted_before line mask keys addr place)))
    (cond-false (addr / 8 == line / 8 + place) (noted_in mask keys (8 * place + addr % 8)) None (ne_eqb (addr / 8) (line / 8 + place) other))
    ∙ greater-none (greater old (noted_before line mask keys addr place))
    ∙ ap (λ b. greater old (if b then slice_get keys (addr % 64) else None)) same
  where
    same : (is_noted line mask addr && nat_lt (addr % 64 / 8) place) ≡ (is_noted line mask addr && nat_lt (addr % 64 / 8) (place + 1))
    same = elim (cases_Bool (is_noted line mask addr)) [
      | inl noted ↦
          let aligned : line % 64 ≡ 0 = eqb-true (line % 64) 0 (and_parts (line % 64 == 0) _ lawful).0 in
          let start : line ≡ addr - addr % 64 = eqb-true line (line_of addr) (and_parts (line == line_of addr) _ noted).0 in
          let apart : addr % 64 / 8 ≡ place → ⊥ = λ is. other (omega arith) in
          let tests : nat_lt (addr % 64 / 8) place ≡ nat_lt (addr % 64 / 8) (place + 1) = grind (arith, nat_tests) in
          ap (λ b. is_noted line mask addr && b) tests
      | inr free ↦ and_left (is_noted line mask addr) (nat_lt (addr % 64 / 8) place) free
          ∙ sym (and_left (is_noted line mask addr) (nat_lt (addr % 64 / 8) (place + 1)) free)
    ]

-- one more word
pub noted_before-more : (line mask place addr : ℕ) (keys : List Key) (old : Option Key) → IsTrue (is_ram_line line) → place < 8
    → greater (greater old (noted_before line mask keys addr place)) (noted_by_word line mask keys addr place) ≡ greater old (noted_before line mask keys addr (place + 1))
noted_before-more line mask place addr keys old lawful within = elim (cases_eq (addr / 8) (line / 8 + place)) [
  | inl its ↦ more_here line mask place addr keys old lawful within its
  | inr other ↦ more_elsewhere line mask place addr keys old lawful other
]

-- no words yet
pub noted_before-none : (line mask addr : ℕ) (keys : List Key) → noted_before line mask keys addr 0 ≡ None
noted_before-none line mask addr keys = cond-false (is_noted line mask addr && nat_lt (addr % 64 / 8) 0) (slice_get keys (addr % 64)) None
    (and_right (is_noted line mask addr) (nat_lt (addr % 64 / 8) 0) (le-ltb (addr % 64 / 8) 0 (omega arith)))

-- all of them
pub noted_before-all : (line mask addr : ℕ) (keys : List Key) → noted_before line mask keys addr 8 ≡ noted_key line mask keys addr
noted_before-all line mask addr keys =
    ap (λ b. if is_noted line mask addr && b then slice_get keys (addr % 64) else None) (lt-ltb (addr % 64 / 8) 8 (omega arith))
    ∙ ap (λ b. if b then slice_get keys (addr % 64) else None) (and-true (is_noted line mask addr))
  where
    and-true : (b : Bool) → (b && true) ≡ b
    and-true true = refl
    and-true false = refl

use Rattle.std.proofs.Common.{ℕ, ◌≡◌, ◌+◌, ◌-◌, ◌*◌, ◌/◌, ◌%◌, ◌<◌, ◌≤◌, ◌==◌, zero, suc, Bool, true, false, cond, slice_get, List, [], ◌∷◌, ◌++◌, map, Option, None, Some, refl, sym, ap, ◌∙◌, inl, inr, arith}
use Rattle.std.specs.Option.{option_or, option_map, option_and_then}
use Rattle.std.specs.Int.{bit_at}
use Rattle.std.specs.Ordering.{nat_cmp, is_eq}
use Rattle.std.specs.declared.cmp.Ordering.TheVariants.{Less}
use Rattle.std.specs.BTreeMap.{is_at}
use Rattle.std.specs.List.{cons_option, range_with_len, AllByRecursion}
use Rattle.std.specs.List.Sorted.{IsStrictlySortedBy}
use Rattle.std.specs.Map.{lookup, keys_of}
use Rattle.std.proofs.lemmas.Bool.{cases_Bool, cases_eq, cases_lt, cond-true, cond-false, eq-eqb, ne_eqb}
use Rattle.std.proofs.lemmas.Bool.Decides.{nat_tests}
use Rattle.std.proofs.lemmas.Map.Keys.{sorted_head, sorted_tail}
use Rattle.std.proofs.lemmas.Nat.Bits.{bit_at-zero}
use Rattle.dt_lists.proofs.Lists.{option_or-none}
use Rattle.dt_record.specs.declared.keys.Key.{Key}
use Rattle.dt_local.specs.declared.slots.Slot.{Slot}
use Rattle.dt_local.specs.Slots.{Entries, key_at, word_bytes, present, known_bytes, slot_key}

-- What is known of each byte, by its word's slot.

-- a look-up in two lists, one after the other
lookup-append : {X : Type 0} (test : ℕ → Bool) (xs ys : List (ℕ × X)) → lookup test (xs ++ ys) ≡ option_or (lookup test xs) (lookup test ys)
lookup-append test [] ys = refl
lookup-append {X} test (x ∷ xs) ys = elim (cases_Bool (test x.0)) [
  | inl hit ↦ cond-true (test x.0) (Some x.1) (lookup test (xs ++ ys)) hit
      ∙ ap (λ (o : Option X). option_or o (lookup test ys)) (sym (cond-true (test x.0) (Some x.1) (lookup test xs) hit))
  | inr miss ↦ cond-false (test x.0) (Some x.1) (lookup test (xs ++ ys)) miss ∙ lookup-append test xs ys
      ∙ ap (λ (o : Option X). option_or o (lookup test ys)) (sym (cond-false (test x.0) (Some x.1) (lookup test xs) miss))
]

-- a look-up past a byte that is another one, or that has no key
past_other : (addr a : ℕ) (o : Option Key) (keys : List (ℕ × Key)) → (a == addr) ≡ false
    → lookup (λ b. b == addr) (cons_option (option_map (λ key. (a, key)) o) keys) ≡ lookup (λ b. b == addr) keys
past_other addr a None keys other = refl
past_other addr a (Some key) keys other = cond-false (a == addr) (Some key) (lookup (λ b. b == addr) keys) other

here : (addr a : ℕ) (o : Option Key) (keys : List (ℕ × Key)) → (a == addr) ≡ true → lookup (λ b. b == addr) keys ≡ None
    → lookup (λ b. b == addr) (cons_option (option_map (λ key. (a, key)) o) keys) ≡ o
here addr a None keys same none = none
here addr a (Some key) keys same none = cond-true (a == addr) (Some key) (lookup (λ b. b == addr) keys) same

-- the bytes from a place on, where f has the key of each place
abbrev pub run : (ℕ → Option Key) → (base from count : ℕ) → List (ℕ × Key)
run f base from count = present (map (λ place. (base + place, f place)) (range_with_len from count))

run_misses : (f : ℕ → Option Key) (addr base from count : ℕ) → addr < base + from → lookup (λ a. a == addr) (run f base from count) ≡ None
run_misses f addr base from zero under = refl
run_misses f addr base from (suc count) under =
    past_other addr (base + from) (f from) (run f base (from + 1) count) (ne_eqb (base + from) addr (λ e. omega arith))
    ∙ run_misses f addr base (from + 1) count (omega arith)

run_past : (f : ℕ → Option Key) (addr base from count : ℕ) → base + from + count ≤ addr → lookup (λ a. a == addr) (run f base from count) ≡ None
run_past f addr base from zero past = refl
run_past f addr base from (suc count) past =
    past_other addr (base + from) (f from) (run f base (from + 1) count) (ne_eqb (base + from) addr (λ e. omega arith))
    ∙ run_past f addr base (from + 1) count (omega arith)

run_hits : (f : ℕ → Option Key) (addr base from count : ℕ) → base + from ≤ addr → addr < base + from + count
    → lookup (λ a. a == addr) (run f base from count) ≡ f (addr - base)
run_hits f addr base from zero low high = absurd (omega arith)
run_hits f addr base from (suc count) low high = elim (cases_eq (base + from) addr) [
  | inl same ↦
      let place : from ≡ addr - base = omega arith in
      here addr (base + from) (f from) (run f base (from + 1) count) (eq-eqb (base + from) addr same) (run_misses f addr base (from + 1) count (omega arith))
      ∙ ap f place
  | inr apart ↦ past_other addr (base + from) (f from) (run f base (from + 1) count) (ne_eqb (base + from) addr apart)
      ∙ run_hits f addr base (from + 1) count (omega arith) (omega arith)
]

-- a word's own bytes
in_word : (addr : ℕ) (e : ℕ × Slot) → addr / 8 ≡ e.0 → lookup (λ a. a == addr) (present (word_bytes e)) ≡ key_at e.1 (addr % 8)
in_word addr e its =
    let place : addr - 8 * e.0 ≡ addr % 8 = omega arith in
    run_hits (key_at e.1) addr (8 * e.0) 0 8 (omega arith) (omega arith) ∙ ap (key_at e.1) place

other_word : (addr : ℕ) (e : ℕ × Slot) → (addr / 8 ≡ e.0 → ⊥) → lookup (λ a. a == addr) (present (word_bytes e)) ≡ None
other_word addr e other = elim (cases_lt addr (8 * e.0)) [
  | inl under ↦ run_misses (key_at e.1) addr (8 * e.0) 0 8 (omega arith)
  | inr from ↦ run_past (key_at e.1) addr (8 * e.0) 0 8 (elim (cases_lt addr (8 * e.0 + 8)) [
    | inl within ↦ absurd (other (omega arith))
    | inr past ↦ omega arith
  ])
]

-- no later word is an earlier one
none_above : (word : ℕ) (es : Entries) → AllByRecursion (λ a. nat_cmp word a ≡ Less) (keys_of es) → lookup (is_at (nat_cmp word)) es ≡ None
none_above word [] above = refl
none_above word (e ∷ es) above =
    cond-false (is_at (nat_cmp word) e.0) (Some e.1) (lookup (is_at (nat_cmp word)) es) (ap is_eq above.0) ∙ none_above word es above.1

pub at_same : (word a : ℕ) → a ≡ word → is_at (nat_cmp word) a ≡ true
at_same word a same = grind (arith, nat_tests)

pub at_other : (word a : ℕ) → (a ≡ word → ⊥) → is_at (nat_cmp word) a ≡ false
at_other word a other = grind (arith, nat_tests)

pub newest-known_bytes : (addr : ℕ) (es : Entries) → IsStrictlySortedBy nat_cmp (keys_of es) → lookup (λ a. a == addr) (known_bytes es) ≡ slot_key es addr
newest-known_bytes addr [] ordered = refl
newest-known_bytes addr (e ∷ es) ordered =
    let rest = newest-known_bytes addr es (sorted_tail nat_cmp e.0 (keys_of es) ordered) in
    lookup-append (λ a. a == addr) (present (word_bytes e)) (known_bytes es)
    ∙ elim (cases_eq (addr / 8) e.0) [
      | inl its ↦
          let above : AllByRecursion (λ a. nat_cmp (addr / 8) a ≡ Less) (keys_of es) = rw its (sorted_head nat_cmp e.0 (keys_of es) ordered) in
          let none : slot_key es addr ≡ None = ap (option_and_then (λ slot. key_at slot (addr % 8))) (none_above (addr / 8) es above) in
          ap (λ (o : Option Key). option_or (lookup (λ a. a == addr) (present (word_bytes e))) o) (rest ∙ none)
          ∙ option_or-none (lookup (λ a. a == addr) (present (word_bytes e))) ∙ in_word addr e its
          ∙ ap (option_and_then (λ slot. key_at slot (addr % 8)))
          (sym (cond-true (is_at (nat_cmp (addr / 8)) e.0) (Some e.1) (lookup (is_at (nat_cmp (addr / 8))) es) (at_same (addr / 8) e.0 (sym its))))
      | inr other ↦
          ap (λ (o : Option Key). option_or o (lookup (λ a. a == addr) (known_bytes es))) (other_word addr e other) ∙ rest
          ∙ ap (option_and_then (λ slot. key_at slot (addr % 8)))
          (sym (cond-false (is_at (nat_cmp (addr / 8)) e.0) (Some e.1) (lookup (is_at (nat_cmp (addr / 8))) es) (at_other (addr / 8) e.0 (λ same. other (sym same)))))
    ]

-- a word none of whose bytes has a key
no_key : (slot : Slot) (place : ℕ) → slot.mask ≡ 0 → key_at slot place ≡ None
no_key slot place none = ap (λ mask. cond (bit_at mask place == 1) (slice_get slot.keys place) None) none
    ∙ ap (λ bit. cond (bit == 1) (slice_get slot.keys place) None) (bit_at-zero place)

run_is_empty : (f : ℕ → Option Key) → ((place : ℕ) → f place ≡ None) → (base from count : ℕ) → run f base from count ≡ []
run_is_empty f none base from zero = refl
run_is_empty f none base from (suc count) =
    ap (λ o. cons_option (option_map (λ key. (base + from, key)) o) (run f base (from + 1) count)) (none from) ∙ run_is_empty f none base (from + 1) count

pub no_bytes : (word : ℕ) (slot : Slot) → slot.mask ≡ 0 → present (word_bytes (word, slot)) ≡ []
no_bytes word slot none = run_is_empty (key_at slot) (λ place. no_key slot place none) (8 * word) 0 8

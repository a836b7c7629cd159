use Rattle.std.proofs.Common.{ℕ, ◌≡◌, ◌+◌, ◌-◌, ◌*◌, ◌<◌, ◌≤◌, zero, suc, Bool, true, false, if◌then◌else◌, List, [], ◌∷◌, ◌++◌, Option, None, Some, IsSome, IsTrue, refl, sym, ap, ◌∙◌, subst, arith}
use Rattle.std.specs.Option.{option_map}
use Rattle.std.specs.List.{cons_option, list_all, AllByRecursion}
use Rattle.std.specs.List.Sorted.{IsStrictlySortedBy}
use Rattle.std.specs.Ordering.{nat_cmp}
use Rattle.std.specs.declared.cmp.Ordering.TheVariants.{Less}
use Rattle.std.specs.Map.{lookup, keys_of}
use Rattle.std.proofs.lemmas.Bool.{and_from}
use Rattle.std.proofs.lemmas.Bool.Decides.{nat_tests}
use Rattle.std.proofs.lemmas.Map.Keys.{sorted_head, sorted_tail}
use Rattle.std.proofs.lemmas.List.{append_assoc}
use Rattle.dt_record.specs.declared.keys.Key.{Key}
use Rattle.dt_record.specs.Lawful.{is_in_ram}
use Rattle.dt_local.specs.declared.slots.Slot.{Slot}
use Rattle.dt_local.specs.LocalMemory.{AreKnownBytes}
use Rattle.dt_local.specs.Slots.{Entries, key_at, present, word_bytes, known_bytes, is_ram_word}
use Rattle.dt_local.proofs.Bytes.{run}
use Rattle.dt_record.proofs.Undoing.{at}

-- The bytes that have a key, one by one; they stand in order, and lie in RAM.

-- ---- one by one

next_byte : (f : ℕ → Option Key) (base from : ℕ) → from < 8
    → run f base from (8 - from) ≡ cons_option (option_map (λ key. (base + from, key)) (f from)) (run f base (from + 1) (8 - (from + 1)))
next_byte f base from within = let count : 8 - from ≡ suc (8 - (from + 1)) = omega arith in ap (run f base from) count

-- the bytes of a word that are still to come, after one with a key and after one without
pub after_key : (f : ℕ → Option Key) (base from : ℕ) (bytes all : List (ℕ × Key)) (key : Key) → from < 8 → f from ≡ Some key
    → bytes ++ run f base from (8 - from) ≡ all → (bytes ++ (base + from, key) ∷ []) ++ run f base (from + 1) (8 - (from + 1)) ≡ all
after_key f base from bytes all key within has before =
    append_assoc bytes ((base + from, key) ∷ []) (run f base (from + 1) (8 - (from + 1)))
    ∙ sym (ap (λ (o : Option Key). bytes ++ cons_option (option_map (λ key. (base + from, key)) o) (run f base (from + 1) (8 - (from + 1)))) has)
    ∙ sym (ap (λ (later : List (ℕ × Key)). bytes ++ later) (next_byte f base from within)) ∙ before

pub after_none : (f : ℕ → Option Key) (base from : ℕ) (bytes all : List (ℕ × Key)) → from < 8 → f from ≡ None
    → bytes ++ run f base from (8 - from) ≡ all → bytes ++ run f base (from + 1) (8 - (from + 1)) ≡ all
after_none f base from bytes all within has before =
    sym (ap (λ (o : Option Key). bytes ++ cons_option (option_map (λ key. (base + from, key)) o) (run f base (from + 1) (8 - (from + 1)))) has)
    ∙ sym (ap (λ (later : List (ℕ × Key)). bytes ++ later) (next_byte f base from within)) ∙ before

-- the words that are still to come, after one of them
pub after_word : (e : ℕ × Slot) (es others : Entries) (bytes all : List (ℕ × Key)) → others ≡ e ∷ es
    → bytes ++ known_bytes others ≡ all → (bytes ++ present (word_bytes e)) ++ known_bytes es ≡ all
after_word e es others bytes all steps before =
    append_assoc bytes (present (word_bytes e)) (known_bytes es)
    ∙ sym (ap (λ (later : Entries). bytes ++ known_bytes later) steps) ∙ before

-- ---- in order

-- no address is below a number
abbrev AreFrom : ℕ → List (ℕ × Key) → Type 0
AreFrom n keys = AllByRecursion (λ a. n ≤ a) (keys_of keys)

weaker : (n m : ℕ) (keys : List (ℕ × Key)) → n ≤ m → AreFrom m keys → AreFrom n keys
weaker n m [] below all = tt
weaker n m (k ∷ ks) below all = (omega (arith, all.0), weaker n m ks below all.1)

less_than : (a b : ℕ) → a < b → nat_cmp a b ≡ Less
less_than a b below = grind (arith, nat_tests)

is_less : (a b : ℕ) → nat_cmp a b ≡ Less → a < b
is_less a b less = grind (arith, nat_tests)

all_above : (a : ℕ) (keys : List (ℕ × Key)) → AreFrom (a + 1) keys → AllByRecursion (λ b. nat_cmp a b ≡ Less) (keys_of keys)
all_above a [] all = tt
all_above a (k ∷ ks) all = (less_than a k.0 (omega (arith, all.0)), all_above a ks all.1)

sorted_cons : (a : ℕ) (bs : List ℕ) → AllByRecursion (λ b. nat_cmp a b ≡ Less) bs → IsStrictlySortedBy nat_cmp bs → IsStrictlySortedBy nat_cmp (a ∷ bs)
unfolding IsStrictlySortedBy
sorted_cons a bs above rest = (above, rest)

either_from : (a : ℕ) (o : Option Key) (keys rest : List (ℕ × Key)) → AreFrom (a + 1) (keys ++ rest)
    → AreFrom a (cons_option (option_map (λ key. (a, key)) o) keys ++ rest)
either_from a None keys rest all = weaker a (a + 1) (keys ++ rest) (omega arith) all
either_from a (Some key) keys rest all = (omega arith, weaker a (a + 1) (keys ++ rest) (omega arith) all)

either_sorted : (a : ℕ) (o : Option Key) (keys rest : List (ℕ × Key)) → AreFrom (a + 1) (keys ++ rest) → IsStrictlySortedBy nat_cmp (keys_of (keys ++ rest))
    → IsStrictlySortedBy nat_cmp (keys_of (cons_option (option_map (λ key. (a, key)) o) keys ++ rest))
either_sorted a None keys rest all sorted = sorted
either_sorted a (Some key) keys rest all sorted = sorted_cons a (keys_of (keys ++ rest)) (all_above a (keys ++ rest) all) sorted

run_from : (f : ℕ → Option Key) (base from count : ℕ) (rest : List (ℕ × Key)) → AreFrom (base + from + count) rest → AreFrom (base + from) (run f base from count ++ rest)
run_from f base from zero rest all = weaker (base + from) (base + from + 0) rest (omega arith) all
run_from f base from (suc count) rest all =
    either_from (base + from) (f from) (run f base (from + 1) count) rest
    (weaker (base + from + 1) (base + (from + 1)) (run f base (from + 1) count ++ rest) (omega arith)
    (run_from f base (from + 1) count rest (weaker (base + (from + 1) + count) (base + from + suc count) rest (omega arith) all)))

run_sorted : (f : ℕ → Option Key) (base from count : ℕ) (rest : List (ℕ × Key)) → AreFrom (base + from + count) rest → IsStrictlySortedBy nat_cmp (keys_of rest)
    → IsStrictlySortedBy nat_cmp (keys_of (run f base from count ++ rest))
run_sorted f base from zero rest all sorted = sorted
run_sorted f base from (suc count) rest all sorted =
    let later = weaker (base + (from + 1) + count) (base + from + suc count) rest (omega arith) all in
    either_sorted (base + from) (f from) (run f base (from + 1) count) rest
    (weaker (base + from + 1) (base + (from + 1)) (run f base (from + 1) count ++ rest) (omega arith) (run_from f base (from + 1) count rest later))
    (run_sorted f base (from + 1) count rest later sorted)

known_from : (word : ℕ) (es : Entries) → AllByRecursion (λ a. nat_cmp word a ≡ Less) (keys_of es) → IsStrictlySortedBy nat_cmp (keys_of es) → AreFrom (8 * word + 8) (known_bytes es)
known_from word [] above sorted = tt
known_from word (e ∷ es) above sorted =
    let below : word < e.0 = is_less word e.0 above.0 in
    let later = known_from e.0 es (sorted_head nat_cmp e.0 (keys_of es) sorted) (sorted_tail nat_cmp e.0 (keys_of es) sorted) in
    weaker (8 * word + 8) (8 * e.0 + 0) (run (key_at e.1) (8 * e.0) 0 8 ++ known_bytes es) (omega arith)
    (run_from (key_at e.1) (8 * e.0) 0 8 (known_bytes es) (weaker (8 * e.0 + 0 + 8) (8 * e.0 + 8) (known_bytes es) (omega arith) later))

known_sorted : (es : Entries) → IsStrictlySortedBy nat_cmp (keys_of es) → IsStrictlySortedBy nat_cmp (keys_of (known_bytes es))
known_sorted [] sorted = sorted
known_sorted (e ∷ es) sorted =
    let tail = sorted_tail nat_cmp e.0 (keys_of es) sorted in
    let later = known_from e.0 es (sorted_head nat_cmp e.0 (keys_of es) sorted) tail in
    run_sorted (key_at e.1) (8 * e.0) 0 8 (known_bytes es) (weaker (8 * e.0 + 0 + 8) (8 * e.0 + 8) (known_bytes es) (omega arith) later) (known_sorted es tail)

-- ---- in RAM

either_in_ram : (a : ℕ) (o : Option Key) (keys rest : List (ℕ × Key)) → is_in_ram a ≡ true → list_all is_in_ram (keys_of (keys ++ rest)) ≡ true
    → list_all is_in_ram (keys_of (cons_option (option_map (λ key. (a, key)) o) keys ++ rest)) ≡ true
either_in_ram a None keys rest here later = later
either_in_ram a (Some key) keys rest here later = and_from (is_in_ram a) (list_all is_in_ram (keys_of (keys ++ rest))) here later

byte_in_ram : (word place : ℕ) → place < 8 → IsTrue (is_ram_word word) → is_in_ram (8 * word + place) ≡ true
byte_in_ram word place within in_ram = grind (arith, nat_tests)

run_in_ram : (f : ℕ → Option Key) (word from count : ℕ) (rest : List (ℕ × Key)) → from + count ≤ 8 → IsTrue (is_ram_word word)
    → list_all is_in_ram (keys_of rest) ≡ true → list_all is_in_ram (keys_of (run f (8 * word) from count ++ rest)) ≡ true
run_in_ram f word from zero rest within in_ram later = later
run_in_ram f word from (suc count) rest within in_ram later =
    either_in_ram (8 * word + from) (f from) (run f (8 * word) (from + 1) count) rest (byte_in_ram word from (omega arith) in_ram)
    (run_in_ram f word (from + 1) count rest (omega arith) in_ram later)

itself : (word : ℕ) → at word word ≡ true
itself word = grind (arith, nat_tests)

either_found : (b : Bool) (slot : Slot) (o : Option Slot) → IsSome o → IsSome (if b then Some slot else o)
either_found true slot o some = refl
either_found false slot o some = some

-- each word is one of RAM
abbrev pub AreInRam : Entries → Type 0
AreInRam es = AllByRecursion (λ word. IsTrue (is_ram_word word)) (keys_of es)

pub words_in_ram : (es : Entries) → ((word : ℕ) → IsSome (lookup (at word) es) → IsTrue (is_ram_word word)) → AreInRam es
words_in_ram [] in_ram = tt
words_in_ram (e ∷ es) in_ram =
    let some = subst (λ (b : Bool). IsSome (if b then Some e.1 else lookup (at e.0) es)) (sym (itself e.0)) refl in
    (in_ram e.0 some, words_in_ram es (λ word there. in_ram word (either_found (at word e.0) e.1 (lookup (at word) es) there)))

known_in_ram : (es : Entries) → AreInRam es → list_all is_in_ram (keys_of (known_bytes es)) ≡ true
known_in_ram [] in_ram = refl
known_in_ram (e ∷ es) in_ram = run_in_ram (key_at e.1) e.0 0 8 (known_bytes es) (omega arith) in_ram.0 (known_in_ram es in_ram.1)

pub known_in_order : (es : Entries) → IsStrictlySortedBy nat_cmp (keys_of es) → ((word : ℕ) → IsSome (lookup (at word) es) → IsTrue (is_ram_word word)) → AreKnownBytes (known_bytes es)
known_in_order es sorted in_ram = record { rising = known_sorted es sorted; in_ram = known_in_ram es (words_in_ram es in_ram) }

use Rattle.std.proofs.Common.{ℕ, ◌≡◌, ◌+◌, ◌<◌, ◌==◌, zero, suc, Bool, true, false, List, [], ◌∷◌, ◌++◌, Option, None, Some, map, take, drop, length, get_or, refl, sym, ap, ◌∙◌, subst, inl, inr, arith}
use Rattle.std.specs.Prelude.{if◌then◌else◌}
use Rattle.std.specs.List.{list_all, AllByRecursion}
use Rattle.std.specs.List.Sorted.{IsStrictlySortedBy}
use Rattle.std.specs.Ordering.{nat_cmp}
use Rattle.std.specs.declared.cmp.Ordering.TheVariants.{Less}
use Rattle.std.specs.Map.{lookup, keys_of}
use Rattle.std.proofs.lemmas.Bool.{and_parts, cases_Bool, eqb-true}
use Rattle.std.proofs.lemmas.Bool.Decides.{nat_tests}
use Rattle.std.proofs.lemmas.List.{map-append, map_more, take-append-drop, drop_more}
use Rattle.std.proofs.lemmas.Map.Entries.{lookup_head, lookup_tail}
use Rattle.std.proofs.lemmas.Map.Keys.{sorted_head, sorted_tail}
use Rattle.dt_record.specs.declared.keys.Key.{Key}
use Rattle.dt_record.specs.declared.states.KnownByte.{KnownByte}
use Rattle.dt_record.specs.declared.origins.Origin.TheVariants as origin
use Rattle.dt_record.specs.Lawful.{is_in_ram}
use Rattle.dt_local.specs.LocalMemory.{AreKnownBytes, LocalMemory, greater, newest_of, pair_of}
use Rattle.dt_hart.specs.Following.{read_key}
use Rattle.dt_hart.proofs.ReadKeys.{greater-none, read_key-push}

-- What is noted of bytes by rising addresses, one by one.

abbrev Pairs : Type 0
Pairs = List (ℕ × Key)

abbrev known_at : Pairs → ℕ → Option Key
known_at keys byte = lookup (λ a. a == byte) keys

-- ---- a further one

further_other : (keys : Pairs) (e : ℕ × Key) (byte : ℕ) → (e.0 == byte) ≡ false → known_at (keys ++ e ∷ []) byte ≡ known_at keys byte
further_other [] e byte other = lookup_tail (λ a. a == byte) e [] other
further_other (k ∷ ks) e byte other = ap (λ (o : Option Key). if k.0 == byte then Some k.1 else o) (further_other ks e byte other)

further_same : (keys : Pairs) (e : ℕ × Key) (byte : ℕ) → (e.0 == byte) ≡ true → known_at keys byte ≡ None → known_at (keys ++ e ∷ []) byte ≡ Some e.1
further_same [] e byte same none = lookup_head (λ a. a == byte) e [] same
further_same (k ∷ ks) e byte same none = elim (cases_Bool (k.0 == byte)) [
  | inl here ↦ absurd (let no : Some k.1 ≡ None = sym (lookup_head (λ a. a == byte) k ks here) ∙ none in cc no)
  | inr past ↦
      lookup_tail (λ a. a == byte) k (ks ++ e ∷ []) past
      ∙ further_same ks e byte same (sym (lookup_tail (λ a. a == byte) k ks past) ∙ none)
]

below_other : (a b : ℕ) → nat_cmp a b ≡ Less → (a == b) ≡ false
below_other a b less = grind (arith, nat_tests)

one_of_all : (n : ℕ) (xs : Pairs) (e : ℕ × Key) (ys : Pairs) → AllByRecursion (λ a. nat_cmp n a ≡ Less) (keys_of (xs ++ e ∷ ys)) → nat_cmp n e.0 ≡ Less
one_of_all n [] e ys all = all.0
one_of_all n (x ∷ xs) e ys all = one_of_all n xs e ys all.1

-- no earlier byte is the next one
new_one : (xs : Pairs) (e : ℕ × Key) (ys : Pairs) → IsStrictlySortedBy nat_cmp (keys_of (xs ++ e ∷ ys)) → known_at xs e.0 ≡ None
new_one [] e ys rising = refl
new_one (x ∷ xs) e ys rising =
    let less = one_of_all x.0 xs e ys (sorted_head nat_cmp x.0 (keys_of (xs ++ e ∷ ys)) rising) in
    lookup_tail (λ a. a == e.0) x xs (below_other x.0 e.0 less) ∙ new_one xs e ys (sorted_tail nat_cmp x.0 (keys_of (xs ++ e ∷ ys)) rising)

-- ---- what it notes

one_key : (place : ℕ) (key : Key) (at : ℕ) → read_key place (origin.Write key ∷ []) at ≡ (if at == place then Some key else None)
one_key place key at = elim (cases_Bool (at == place)) [
  | inl same ↦ grind (arith, nat_tests, read_key-push place [] (origin.Write key) at)
  | inr other ↦ grind (arith, nat_tests, read_key-push place [] (origin.Write key) at)
]

split_at : (known : List KnownByte) (i : ℕ) (d : KnownByte) → i < length known → known ≡ take i known ++ get_or known i d ∷ drop (i + 1) known
split_at known i d within = sym (take-append-drop i known) ∙ ap (λ (rest : List KnownByte). take i known ++ rest) (drop_more known i d within)

turned : (a b : ℕ) → (a == b) ≡ (b == a)
turned a b = grind (arith, nat_tests)

pub known_next : (known : List KnownByte) (i : ℕ) (d : KnownByte) → AreKnownBytes (map pair_of known) → i < length known → (old new : LocalMemory)
    → ((byte : ℕ) → newest_of old byte ≡ lookup (λ a. a == byte) (map pair_of (take i known)))
    → ((byte : ℕ) → newest_of new byte ≡ greater (newest_of old byte) (read_key (get_or known i d).addr (origin.Write (get_or known i d).key ∷ []) byte))
    → (byte : ℕ) → newest_of new byte ≡ lookup (λ a. a == byte) (map pair_of (take (i + 1) known))
known_next known i d are within old new before noted byte =
    let e = get_or known i d in
    let keys = map pair_of (take i known) in
    let more : map pair_of (take (i + 1) known) ≡ keys ++ pair_of e ∷ [] = map_more pair_of known i d within in
    let whole : map pair_of known ≡ keys ++ pair_of e ∷ map pair_of (drop (i + 1) known) =
    ap (map pair_of) (split_at known i d within) ∙ map-append pair_of (take i known) (e ∷ drop (i + 1) known) in
    let rising : IsStrictlySortedBy nat_cmp (keys_of (keys ++ pair_of e ∷ map pair_of (drop (i + 1) known))) =
    subst (λ (ps : Pairs). IsStrictlySortedBy nat_cmp (keys_of ps)) whole are.rising in
    let note = noted byte ∙ ap (λ (o : Option Key). greater (newest_of old byte) o) (one_key e.addr e.key byte) in
    elim (cases_Bool (e.addr == byte)) [
      | inl same ↦
          let is : e.addr ≡ byte = eqb-true e.addr byte same in
          let none : known_at keys byte ≡ None = ap (known_at keys) (sym is) ∙ new_one keys (pair_of e) (map pair_of (drop (i + 1) known)) rising in
          note ∙ ap (λ (b : Bool). greater (newest_of old byte) (if b then Some e.key else None)) (sym (turned e.addr byte) ∙ same)
          ∙ ap (λ (o : Option Key). greater o (Some e.key)) (before byte ∙ none)
          ∙ sym (ap (λ (ps : Pairs). known_at ps byte) more ∙ further_same keys (pair_of e) byte same none)
      | inr other ↦
          note ∙ ap (λ (b : Bool). greater (newest_of old byte) (if b then Some e.key else None)) (sym (turned e.addr byte) ∙ other)
          ∙ greater-none (newest_of old byte) ∙ before byte
          ∙ sym (ap (λ (ps : Pairs). known_at ps byte) more ∙ further_other keys (pair_of e) byte other)
    ]

pub known_in_ram : (known : List KnownByte) (i : ℕ) (d : KnownByte) → AreKnownBytes (map pair_of known) → i < length known → is_in_ram (get_or known i d).addr ≡ true
known_in_ram known i d are within = by_place known i within are.in_ram
  where
    by_place : (ks : List KnownByte) (n : ℕ) → n < length ks → list_all is_in_ram (keys_of (map pair_of ks)) ≡ true → is_in_ram (get_or ks n d).addr ≡ true
    by_place [] n below all = absurd (omega arith)
    by_place (k ∷ ks) zero below all = (and_parts (is_in_ram k.addr) (list_all is_in_ram (keys_of (map pair_of ks))) all).0
    by_place (k ∷ ks) (suc n) below all = by_place ks n (omega arith) (and_parts (is_in_ram k.addr) (list_all is_in_ram (keys_of (map pair_of ks))) all).1

use Rattle.std.proofs.Common.{ℕ, ◌≡◌, ◌+◌, ◌-◌, ◌<◌, ◌≤◌, ◌%◌, ◌==◌, Option, Some, None, List, [], ◌∷◌, ◌++◌, length, get_or, take, refl, sym, ap, ◌∙◌, subst, inl, inr, arith}
use Rattle.std.proofs.Math.ListN.{set}
use Rattle.std.specs.Prelude.{if◌then◌else◌, is_some}
use Rattle.std.specs.Int.{bit_at}
use Rattle.std.specs.List.{slice_get}
use Rattle.std.proofs.lemmas.Bool.{cases_lt, cases_eq, cases_order, eq-eqb, ne_eqb}
use Rattle.std.proofs.lemmas.Bool.Decides.{nat_tests}
use Rattle.std.proofs.lemmas.List.{take_more, length-append, length-take, length-set, get_or-set_other}
use Rattle.std.proofs.lemmas.Grind.{get_or-set_at}
use Rattle.std.proofs.lemmas.Option.{slice_get_past, slice_get_within, slice_get-get_or, get_or_from_slice_get}
use Rattle.dt_lists.proofs.Lists.{slice_get-append_left, slice_get-append_seam}
use Rattle.dt_record.specs.declared.keys.Key.{Key}
use Rattle.dt_record.specs.declared.origins.Origin.{Origin}
use Rattle.dt_record.specs.declared.origins.Origin.TheVariants as origin
use Rattle.dt_record.specs.Memory.{line_of}
use Rattle.dt_local.specs.LocalMemory.{greater, noted_key}
use Rattle.dt_sources.specs.Knowing.{write_key}
use Rattle.dt_hart.specs.Following.{read_key}

-- The keys of the writes that a load's bytes came from.

pub greater-none : (o : Option Key) → greater o None ≡ o
greater-none None = refl
greater-none (Some key) = refl

pub read_key-below : (place : ℕ) (from : List Origin) (at : ℕ) → at < place → read_key place from at ≡ None
read_key-below place from at below = grind (arith, nat_tests)

pub read_key-within : (place : ℕ) (from : List Origin) (at : ℕ) → place ≤ at → read_key place from at ≡ write_key (slice_get from (at - place))
read_key-within place from at within = grind (arith, nat_tests)

pub read_key-past : (place : ℕ) (from : List Origin) (at : ℕ) → place + length from ≤ at → read_key place from at ≡ None
read_key-past place from at past =
    read_key-within place from at (omega arith) ∙ ap write_key (slice_get_past from (at - place) (omega arith))

-- one source more
pub read_key-push : (place : ℕ) (from : List Origin) (source : Origin) (at : ℕ)
    → read_key place (from ++ source ∷ []) at ≡ (if at == place + length from then write_key (Some source) else read_key place from at)
read_key-push place from source at = elim (cases_order at (place + length from)) [
  | inl here ↦
      let seam : slice_get (from ++ source ∷ []) (at - place) ≡ Some source =
      ap (λ n. slice_get (from ++ source ∷ []) n) (omega arith) ∙ slice_get-append_seam from source [] in
      rw (eq-eqb at (place + length from) here) (read_key-within place (from ++ source ∷ []) at (omega arith) ∙ ap write_key seam)
  | inr apart ↦ elim apart [
    | inl before ↦
        rw (ne_eqb at (place + length from) (λ same. omega arith))
        (elim (cases_lt at place) [
          | inl below ↦ read_key-below place (from ++ source ∷ []) at below ∙ sym (read_key-below place from at below)
          | inr within ↦
              read_key-within place (from ++ source ∷ []) at within
              ∙ ap write_key (slice_get-append_left from (source ∷ []) (at - place) (omega arith))
              ∙ sym (read_key-within place from at within)
        ])
    | inr past ↦
        let long : length (from ++ source ∷ []) ≡ length from + 1 = length-append from (source ∷ []) in
        rw (ne_eqb at (place + length from) (λ same. omega arith))
        (read_key-past place (from ++ source ∷ []) at (omega arith) ∙ sym (read_key-past place from at (omega arith)))
  ]
]

pub read_key_more : (place : ℕ) (from : List Origin) (i : ℕ) (d : Origin) (at : ℕ) → i < length from
    → read_key place (take (i + 1) from) at ≡ (if at == place + i then write_key (Some (get_or from i d)) else read_key place (take i from) at)
read_key_more place from i d at within =
    let long : length (take i from) ≡ i = omega (arith, length-take i from) in
    ap (λ (xs : List Origin). read_key place xs at) (take_more from i d within)
    ∙ subst (λ n. read_key place (take i from ++ get_or from i d ∷ []) at ≡ (if at == place + n then write_key (Some (get_or from i d)) else read_key place (take i from) at)) long
    (read_key-push place (take i from) (get_or from i d) at)

write_key_some : (source : Origin) (key : Key) → write_key (Some source) ≡ Some key → source ≡ origin.Write key
write_key_some origin.Image key is = absurd (cc)
write_key_some (origin.Write one) key is = cc
write_key_some (origin.Store seq) key is = absurd (cc)

slice_get-set_other : {X : Type 0} (xs : List X) (i j : ℕ) (y x : X) → (j ≡ i → ⊥) → slice_get xs j ≡ Some x → slice_get (set xs i y) j ≡ Some x
slice_get-set_other xs i j y x apart there =
    let within = slice_get_within xs j x there in
    let long = length-set xs i y in
    slice_get-get_or (set xs i y) j x (omega arith)
    ∙ ap Some (get_or-set_other xs i j y x apart ∙ get_or_from_slice_get xs j x x there)

slice_get-set_same : {X : Type 0} (xs : List X) (i : ℕ) (y : X) → i < length xs → slice_get (set xs i y) i ≡ Some y
slice_get-set_same xs i y within =
    let long = length-set xs i y in
    slice_get-get_or (set xs i y) i y (omega arith) ∙ ap Some (get_or-set_at xs i i y y refl within)

-- the keys with one more written
pub keys_more : (place i at : ℕ) (from : List Origin) (keys : List Key) (new key : Key)
    → place + length from ≤ 64 → i < length from → length keys ≡ 64
    → ((at : ℕ) (key : Key) → read_key place (take i from) at ≡ Some key → slice_get keys at ≡ Some key)
    → ((key : Key) → get_or from i origin.Image ≡ origin.Write key → new ≡ key)
    → read_key place (take (i + 1) from) at ≡ Some key → slice_get (set keys (place + i) new) at ≡ Some key
keys_more place i at from keys new key fits within long done is read =
    let more = sym (read_key_more place from i origin.Image at within) ∙ read in
    elim (cases_eq at (place + i)) [
      | inl same ↦
          let had : write_key (Some (get_or from i origin.Image)) ≡ Some key = rw (eq-eqb at (place + i) same) at more in
          ap (λ n. slice_get (set keys (place + i) new) n) same
          ∙ slice_get-set_same keys (place + i) new (omega arith)
          ∙ ap Some (is key (write_key_some (get_or from i origin.Image) key had))
      | inr apart ↦
          slice_get-set_other keys (place + i) at new key apart (done at key (rw (ne_eqb at (place + i) apart) at more))
    ]

-- a byte that is noted where its bit is set has the key that was read
bit_tells : (found read : Option Key) (bit : ℕ) → bit ≡ (if is_some read then 1 else 0) → ((key : Key) → read ≡ Some key → found ≡ Some key)
    → (if bit == 1 then found else None) ≡ read
bit_tells found None bit is has = rw is refl
bit_tells found (Some key) bit is has = rw is (has key refl)

-- the places on a line are those of the addresses there
on_the_line : (addr byte : ℕ) (from : List Origin) → addr - addr % 64 ≡ line_of byte → read_key (addr % 64) from (byte % 64) ≡ read_key addr from byte
on_the_line addr byte from same = elim (cases_lt byte addr) [
  | inl below ↦ read_key-below (addr % 64) from (byte % 64) (omega arith) ∙ sym (read_key-below addr from byte below)
  | inr within ↦
      read_key-within (addr % 64) from (byte % 64) (omega arith)
      ∙ ap (λ n. write_key (slice_get from n)) (omega arith)
      ∙ sym (read_key-within addr from byte within)
]

off_the_line : (addr byte : ℕ) (from : List Origin) → addr % 64 + length from ≤ 64 → (addr - addr % 64 ≡ line_of byte → ⊥) → read_key addr from byte ≡ None
off_the_line addr byte from fits apart = elim (cases_order (addr - addr % 64) (line_of byte)) [
  | inl same ↦ absurd (apart same)
  | inr differ ↦ elim differ [
    | inl later ↦ read_key-past addr from byte (omega arith)
    | inr earlier ↦ read_key-below addr from byte (omega arith)
  ]
]

-- what is noted for the bytes of a line is what the bytes from an address on there had
pub noted_read : (addr : ℕ) (from : List Origin) (mask : ℕ) (keys : List Key) → addr % 64 + length from ≤ 64
    → ((at : ℕ) → bit_at mask at ≡ (if is_some (read_key (addr % 64) from at) then 1 else 0))
    → ((at : ℕ) (key : Key) → read_key (addr % 64) from at ≡ Some key → slice_get keys at ≡ Some key)
    → (byte : ℕ) → noted_key (addr - addr % 64) mask keys byte ≡ read_key addr from byte
noted_read addr from mask keys fits bits has byte = elim (cases_eq (addr - addr % 64) (line_of byte)) [
  | inl same ↦
      rw (eq-eqb (addr - addr % 64) (line_of byte) same)
      (bit_tells (slice_get keys (byte % 64)) (read_key (addr % 64) from (byte % 64)) (bit_at mask (byte % 64)) (bits (byte % 64)) (has (byte % 64))
      ∙ on_the_line addr byte from same)
  | inr apart ↦ rw (ne_eqb (addr - addr % 64) (line_of byte) apart) (sym (off_the_line addr byte from fits apart))
]

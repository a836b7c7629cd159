use Rattle.std.proofs.Common.{ℕ, ◌≡◌, ◌+◌, ◌-◌, ◌*◌, ◌/◌, ◌^◌, ◌%◌, ◌<◌, ◌≤◌, ◌&&◌, Bool, true, false, if◌then◌else◌, Option, None, Some, List, [], ◌∷◌, ◌++◌, drop, find, length, map, replicate, reverse, take, nat_lt, nat_le, zero, suc, refl, sym, ap, ◌∙◌, inl, inr, arith}
use Rattle.std.specs.Int.{byte_at, bytes_low_first}
use Rattle.std.specs.List.{list_all, range_with_len}
use Rattle.std.specs.Option.{option_map_or, option_or}
use Rattle.std.proofs.lemmas.Bool.{cases_Bool, and_parts, lt-ltb, le-ltb, lt-leb, le-leb}
use Rattle.std.proofs.lemmas.List.{drop_all, map-append, reverse-append}
use Rattle.std.proofs.lemmas.List.Folds.{find-append}
use Rattle.std.proofs.lemmas.List.FromFn.{take-map-range_with_len}
use Rattle.std.proofs.Math.Nat.{pow-suc}
use Rattle.std.proofs.lemmas.Nat.{pow-add}
use Rattle.dt_record.specs.Actions.{Held, is_on, store_covers}
use Rattle.dt_record.specs.LoadSources.{stored_byte}
use Rattle.dt_record.specs.Spelling.{double}
use Rattle.dt_stores.specs.Draining.{bytes_over}
use Rattle.dt_stores.specs.Indexed.{AreAt}
use Rattle.dt_stores.specs.Places.{is_store_place}
use Rattle.dt_stores.specs.Taking.{AreOnLine, put_over}
use Rattle.dt_stores.proofs.Merging.{LiesOn, lies_on, merged_bytes}
use Rattle.dt_stores.proofs.PlacesOn.{at-stores, drop-map, stores_at}

-- The line that is merged of one store after the other has the byte of the youngest that covers it.

map-same : (f g : ℕ → ℕ) (a n : ℕ) → ((x : ℕ) → a ≤ x → x < a + n → f x ≡ g x) → map f (range_with_len a n) ≡ map g (range_with_len a n)
map-same f g a zero same = refl
map-same f g a (suc n) same =
    ap (λ b. b ∷ map f (range_with_len (a + 1) n)) (same a (omega arith) (omega arith))
    ∙ ap (λ l. g a ∷ l) (map-same f g (a + 1) n (λ x from to. same x (omega arith) (omega arith)))

range-append : (a n m : ℕ) → range_with_len a (n + m) ≡ range_with_len a n ++ range_with_len (a + n) m
range-append a zero m = let start : a ≡ a + 0 = omega arith in let count : 0 + m ≡ m = omega arith in ap (range_with_len a) count ∙ ap (λ b. range_with_len b m) start
range-append a (suc n) m =
    let count : suc n + m ≡ suc (n + m) = omega arith in
    let start : a + 1 + n ≡ a + suc n = omega arith in
    ap (range_with_len a) count ∙ ap (λ l. a ∷ l) (range-append (a + 1) n m ∙ ap (λ b. range_with_len (a + 1) n ++ range_with_len b m) start)

drop-range : (a n m : ℕ) → drop n (range_with_len a (n + m)) ≡ range_with_len (a + n) m
drop-range a zero m = let start : a ≡ a + 0 = omega arith in let count : 0 + m ≡ m = omega arith in ap (range_with_len a) count ∙ ap (λ b. range_with_len b m) start
drop-range a (suc n) m =
    let count : suc n + m ≡ suc (n + m) = omega arith in
    let start : a + 1 + n ≡ a + suc n = omega arith in
    ap (λ k. drop (suc n) (range_with_len a k)) count ∙ drop-range (a + 1) n m ∙ ap (λ b. range_with_len b m) start

bytes_of_bits : (i : ℕ) → 256 ^ i ≡ 2 ^ (8 * i)
bytes_of_bits zero = refl
bytes_of_bits (suc i) =
    let place : 8 * suc i ≡ 8 * i + 8 = omega arith in
    pow-suc 256 i ∙ ap (λ n. n * 256) (bytes_of_bits i) ∙ sym (pow-add 2 (8 * i) 8) ∙ ap (λ k. 2 ^ k) (sym place)

byte_is : (i n : ℕ) → byte_at i n ≡ n / 2 ^ (8 * i) % 256
byte_is zero n = omega arith
byte_is (suc i) n = ap (λ p. n / p % 256) (bytes_of_bits (suc i))

-- the low bytes of a value by their addresses
low_bytes : (addr value i width k : ℕ) → width ≤ k → take width (bytes_low_first i k value) ≡ map (λ a. value / 2 ^ (8 * (a - addr)) % 256) (range_with_len (addr + i) width)
low_bytes addr value i zero k within = refl
low_bytes addr value i (suc width) zero within = absurd (omega arith)
low_bytes addr value i (suc width) (suc k) within =
    let next : addr + suc i ≡ addr + i + 1 = omega arith in
    let place : i ≡ addr + i - addr = omega arith in
    ap (λ b. b ∷ take width (bytes_low_first (suc i) k value)) (byte_is i value ∙ ap (λ p. value / 2 ^ (8 * p) % 256) place)
    ∙ ap (λ l. value / 2 ^ (8 * (addr + i - addr)) % 256 ∷ l)
    (low_bytes addr value (suc i) width k (omega arith) ∙ ap (λ a. map (λ x. value / 2 ^ (8 * (x - addr)) % 256) (range_with_len a width)) next)

-- a byte of a line, with a store over it
abbrev over : (ℕ → ℕ) → Held → ℕ → ℕ
over byte h addr = if store_covers addr h.store then stored_byte addr h else byte addr

before_it : (byte : ℕ → ℕ) (h : Held) (x : ℕ) → x < h.store.addr → byte x ≡ over byte h x
before_it byte h x below = let out : nat_le h.store.addr x ≡ false = lt-leb h.store.addr x below in rw out refl

in_it : (byte : ℕ → ℕ) (h : Held) (x : ℕ) → h.store.addr ≤ x → x < h.store.addr + h.store.width → stored_byte x h ≡ over byte h x
in_it byte h x from to =
    let above : nat_le h.store.addr x ≡ true = le-leb h.store.addr x from in
    let below : nat_lt x (h.store.addr + h.store.width) ≡ true = lt-ltb x (h.store.addr + h.store.width) to in
    rw (above, below) refl

behind_it : (byte : ℕ → ℕ) (h : Held) (x : ℕ) → h.store.addr + h.store.width ≤ x → byte x ≡ over byte h x
behind_it byte h x past =
    let above : nat_le h.store.addr x ≡ true = le-leb h.store.addr x (omega arith) in
    let out : nat_lt x (h.store.addr + h.store.width) ≡ false = le-ltb x (h.store.addr + h.store.width) past in
    rw (above, out) refl

puts : (line : ℕ) (byte : ℕ → ℕ) (h : Held) → LiesOn line h.store → put_over (map byte (range_with_len line 64)) h.store ≡ map (over byte h) (range_with_len line 64)
unfolding double
puts line byte h lies =
    let place : ℕ = h.store.addr % 64 in
    let width : ℕ = h.store.width in
    let addr : ℕ = h.store.addr in
    let rest : ℕ = 64 - (place + width) in
    let begins : line + place ≡ addr = sym lies.begins in
    let whole : place + width + rest ≡ 64 = omega (arith, lies.ends) in
    let ends : line + (place + width) ≡ addr + width = omega arith in
    let none : addr + 0 ≡ addr = omega arith in
    let new : ℕ → ℕ = over byte h in
    let front : take place (map byte (range_with_len line 64)) ≡ map new (range_with_len line place) =
    take-map-range_with_len byte line 64 place (omega (arith, lies.ends)) ∙ map-same byte new line place (λ x from to. before_it byte h x (omega arith)) in
    let middle : take width (double h.store.value) ≡ map new (range_with_len addr width) =
    low_bytes addr h.store.value 0 width 8 lies.narrow ∙ ap (λ a. map (λ x. stored_byte x h) (range_with_len a width)) none
    ∙ map-same (λ x. stored_byte x h) new addr width (λ x from to. in_it byte h x from to) in
    let back : drop (place + width) (map byte (range_with_len line 64)) ≡ map new (range_with_len (addr + width) rest) =
    drop-map byte (place + width) (range_with_len line 64)
    ∙ ap (map byte) (ap (λ n. drop (place + width) (range_with_len line n)) (sym whole) ∙ drop-range line (place + width) rest ∙ ap (λ a. range_with_len a rest) ends)
    ∙ map-same byte new (addr + width) rest (λ x from to. behind_it byte h x from) in
    let all : (range_with_len line place ++ range_with_len addr width) ++ range_with_len (addr + width) rest ≡ range_with_len line 64 =
    ap (λ a. (range_with_len line place ++ range_with_len a width) ++ range_with_len (addr + width) rest) (sym begins)
    ∙ ap (λ l. l ++ range_with_len (addr + width) rest) (sym (range-append line place width))
    ∙ ap (λ a. range_with_len line (place + width) ++ range_with_len a rest) (sym ends) ∙ sym (range-append line (place + width) rest)
    ∙ ap (range_with_len line) whole in
    ap (λ l. l ++ take width (double h.store.value) ++ drop (place + width) (map byte (range_with_len line 64))) front
    ∙ ap (λ l. map new (range_with_len line place) ++ l ++ drop (place + width) (map byte (range_with_len line 64))) middle
    ∙ ap (λ l. map new (range_with_len line place) ++ map new (range_with_len addr width) ++ l) back
    ∙ ap (λ l. l ++ map new (range_with_len (addr + width) rest)) (sym (map-append new (range_with_len line place) (range_with_len addr width)))
    ∙ sym (map-append new (range_with_len line place ++ range_with_len addr width) (range_with_len (addr + width) rest))
    ∙ ap (map new) all

-- a byte with some stores over it, the youngest last
abbrev found_over : (ℕ → ℕ) → List Held → ℕ → ℕ
found_over byte hs addr = option_map_or (stored_byte addr) (find (λ h. store_covers addr h.store) (reverse hs)) (byte addr)

first_found : (f : Held → ℕ) (p : Held → Bool) (o : Option Held) (h : Held) (b : ℕ)
    → option_map_or f (option_or o (find p (h ∷ []))) b ≡ option_map_or f o (if p h then f h else b)
first_found f p (Some g) h b = refl
first_found f p None h b = elim (cases_Bool (p h)) [ inl passes ↦ rw passes refl | inr fails ↦ rw fails refl ]

found-cons : (byte : ℕ → ℕ) (h : Held) (hs : List Held) (addr : ℕ) → found_over (over byte h) hs addr ≡ found_over byte (h ∷ hs) addr
found-cons byte h hs addr =
    let covers : Held → Bool = λ g. store_covers addr g.store in
    sym (ap (λ l. option_map_or (stored_byte addr) (find covers l) (byte addr)) (reverse-append (h ∷ []) hs)
    ∙ ap (λ o. option_map_or (stored_byte addr) o (byte addr)) (find-append covers (reverse hs) (h ∷ []))
    ∙ first_found (stored_byte addr) covers (find covers (reverse hs)) h (byte addr))

merged_found : (line : ℕ) (byte : ℕ → ℕ) (hs : List Held) → AreOnLine line hs → merged_bytes (map byte (range_with_len line 64)) hs ≡ map (found_over byte hs) (range_with_len line 64)
merged_found line byte [] on = refl
merged_found line byte (h ∷ hs) on =
    let parts = and_parts (is_store_place h.store && is_on line h.store) (list_all (λ g. is_store_place g.store && is_on line g.store) hs) on in
    ap (λ l. merged_bytes l hs) (puts line byte h (lies_on line h.store parts.0)) ∙ merged_found line (over byte h) hs parts.1
    ∙ map-same (found_over (over byte h) hs) (found_over byte (h ∷ hs)) line 64 (λ x from to. found-cons byte h hs x)

zeros : (a n : ℕ) → replicate {A = ℕ} n 0 ≡ map (λ x. 0) (range_with_len a n)
zeros a zero = refl
zeros a (suc n) = ap (λ l. 0 ∷ l) (zeros (a + 1) n)

merged_youngest : (line : ℕ) (hs : List Held) → AreOnLine line hs → merged_bytes (replicate 64 0) hs ≡ bytes_over line hs
unfolding bytes_over
merged_youngest line hs on = ap (λ l. merged_bytes l hs) (zeros line 64) ∙ merged_found line (λ x. 0) hs on

pub bytes_of_all : (line : ℕ) (held hs : List Held) (places : List ℕ) (i : ℕ) (bytes : List ℕ) → AreAt held places hs → AreOnLine line hs → length places ≤ i
    → merged_bytes bytes (stores_at held (drop i places)) ≡ merged_bytes (replicate 64 0) (stores_at held places) → bytes ≡ bytes_over line hs
bytes_of_all line held hs places i bytes at on end is =
    sym (ap (λ l. merged_bytes bytes (stores_at held l)) (drop_all i places end)) ∙ is ∙ ap (merged_bytes (replicate 64 0)) (at-stores held hs places at)
    ∙ merged_youngest line hs on

-- A line from the bytes whose mask bit is set, and back.
use Rattle.std.proofs.Common.{◌≡◌, ℕ, zero, suc, ◌+◌, ◌-◌, ◌*◌, ◌/◌, ◌%◌, ◌^◌, ◌<◌, ◌≤◌, Bool, true, false, cond, eqb, List, [], ◌∷◌, ◌++◌, length, take, refl, sym, ap, ◌∙◌, arith}
use lib.Count.{ones}
use Rattle.std.specs.List.{AllByRecursion}
use Rattle.std.specs.Prelude.{count_ones, ◌||◌}
use Rattle.std.proofs.lemmas.Bool.{eqb-true, eqb-false, and_parts}
use Rattle.std.proofs.lemmas.Nat.{ones_cat, pow-add}
use Rattle.std.proofs.lemmas.List.{append_assoc, append-nil, take_all}
use Rattle.dt_record.specs.Lawful.{is_masked, is_byte_masked}
use Rattle.dt_record.specs.Spelling.{masked_bytes}
use Rattle.dt_short_bytes.specs.ShortReading.{next_byte, line_after, spread}

pub goes_on : (front : List ℕ) (i bits : ℕ) (rest total : List ℕ) → i < 64 → front ++ spread (64 - i) bits rest ≡ total
    → (front ++ next_byte (eqb (bits % 2) 1) rest ∷ []) ++ spread (64 - (i + 1)) (bits / 2) (line_after (eqb (bits % 2) 1) rest) ≡ total
unfolding spread
goes_on front i bits rest total lt so_far =
    let k : 64 - i ≡ suc (64 - (i + 1)) = omega arith in
    append_assoc front (next_byte (eqb (bits % 2) 1) rest ∷ []) (spread (64 - (i + 1)) (bits / 2) (line_after (eqb (bits % 2) 1) rest))
    ∙ ap (λ (n : ℕ). front ++ spread n bits rest) (sym k) ∙ so_far

pub is_done : (bytes : List ℕ) (i bits : ℕ) (rest total : List ℕ) → length bytes ≤ i → 64 ≤ i → take i bytes ++ spread (64 - i) bits rest ≡ total → bytes ≡ total
unfolding spread
is_done bytes i bits rest total all le so_far =
    let k : 64 - i ≡ 0 = omega arith in
    sym (append-nil bytes) ∙ ap (λ (t : List ℕ). t ++ []) (sym (take_all i bytes all)) ∙ ap (λ (n : ℕ). take i bytes ++ spread n bits rest) (sym k) ∙ so_far

-- ---- laws of a whole line

one_bit : (n : ℕ) → n < 2 → count_ones n ≡ n
unfolding ones
one_bit zero lt = refl
one_bit (suc zero) lt = refl
one_bit (suc (suc n)) lt = absurd (omega arith)

halves : (mask : ℕ) → count_ones mask ≡ count_ones (mask / 2) + mask % 2
halves mask =
    let split : mask ≡ mask / 2 * 2 ^ 1 + mask % 2 = omega arith in
    let low : mask % 2 < 2 ^ 1 = omega arith in
    ap count_ones split ∙ ones_cat 1 (mask / 2) (mask % 2) low ∙ ap (λ (k : ℕ). count_ones (mask / 2) + k) (one_bit (mask % 2) low)

half_below : (n mask : ℕ) → mask < 2 ^ suc n → mask / 2 < 2 ^ n
half_below n mask lt =
    let e : 2 ^ suc n ≡ 2 * 2 ^ n = ap (λ (j : ℕ). 2 ^ j) (let s : suc n ≡ 1 + n = omega arith in s) ∙ pow-add 2 1 n in
    omega arith

none_left : (mask : ℕ) → mask < 2 ^ 0 → count_ones mask ≡ 0
unfolding ones
none_left mask lt = ap count_ones (let e : mask ≡ 0 = omega arith in e)

length_masked : (b : ℕ) (others : List ℕ) (bit : ℕ) → (t : Bool) → eqb bit 1 ≡ t → bit < 2 → length (cond t (b ∷ []) [] ++ others) ≡ length others + bit
length_masked b others bit true et lt =
    let e : bit ≡ 1 = eqb-true bit 1 et in
    omega arith
length_masked b others bit false et lt =
    let e : bit ≡ 1 → ⊥ = eqb-false bit 1 et in
    omega arith

-- a line spells as many bytes as its mask has bits set
pub masked_count : (n mask : ℕ) (bytes : List ℕ) → length bytes ≡ n → mask < 2 ^ n → length (masked_bytes mask bytes) ≡ count_ones mask
masked_count zero mask [] long lt = sym (none_left mask lt)
masked_count zero mask (b ∷ bytes) long lt = absurd (omega arith)
masked_count (suc n) mask [] long lt = absurd (omega arith)
masked_count (suc n) mask (b ∷ bytes) long lt =
    let others = masked_count n (mask / 2) bytes (omega arith) (half_below n mask lt) in
    let both = length_masked b (masked_bytes (mask / 2) bytes) (mask % 2) (eqb (mask % 2) 1) refl (omega arith) in
    omega (arith, others, both, halves mask)

masked_each_cases : (b : ℕ) (others : List ℕ) (t : Bool) → b < 2 ^ 8 → AllByRecursion (λ x. x < 2 ^ 8) others → AllByRecursion (λ x. x < 2 ^ 8) (cond t (b ∷ []) [] ++ others)
masked_each_cases b others true lt each = (lt, each)
masked_each_cases b others false lt each = each

pub masked_each : (mask : ℕ) (bytes : List ℕ) → AllByRecursion (λ x. x < 2 ^ 8) bytes → AllByRecursion (λ x. x < 2 ^ 8) (masked_bytes mask bytes)
masked_each mask [] each = tt
masked_each mask (b ∷ bytes) each = masked_each_cases b (masked_bytes (mask / 2) bytes) (eqb (mask % 2) 1) each.0 (masked_each (mask / 2) bytes each.1)

pub spread_length : (n mask : ℕ) (line : List ℕ) → length (spread n mask line) ≡ n
unfolding spread
spread_length zero mask line = refl
spread_length (suc n) mask line = ap suc (spread_length n (mask / 2) (line_after (eqb (mask % 2) 1) line))

next_below : (t : Bool) (line : List ℕ) → AllByRecursion (λ x. x < 2 ^ 8) line → (next_byte t line < 2 ^ 8) × AllByRecursion (λ x. x < 2 ^ 8) (line_after t line)
next_below false line each = (omega arith, each)
next_below true [] each = (omega arith, tt)
next_below true (b ∷ line) each = each

pub spread_each : (n mask : ℕ) (line : List ℕ) → AllByRecursion (λ x. x < 2 ^ 8) line → AllByRecursion (λ x. x < 2 ^ 8) (spread n mask line)
unfolding spread
spread_each zero mask line each = tt
spread_each (suc n) mask line each =
    let first = next_below (eqb (mask % 2) 1) line each in
    (first.0, spread_each n (mask / 2) (line_after (eqb (mask % 2) 1) line) first.1)

spread_back_cases : (n mask : ℕ) (line : List ℕ) → ((rest : List ℕ) → length rest ≡ count_ones (mask / 2) → masked_bytes (mask / 2) (spread n (mask / 2) rest) ≡ rest)
    → length line ≡ count_ones (mask / 2) + mask % 2 → (t : Bool) → eqb (mask % 2) 1 ≡ t
    → cond t (next_byte t line ∷ []) [] ++ masked_bytes (mask / 2) (spread n (mask / 2) (line_after t line)) ≡ line
spread_back_cases n mask [] others long true et =
    let one : mask % 2 ≡ 1 = eqb-true (mask % 2) 1 et in
    absurd (omega arith)
spread_back_cases n mask (b ∷ line) others long true et =
    let one : mask % 2 ≡ 1 = eqb-true (mask % 2) 1 et in
    ap (λ (t : List ℕ). b ∷ t) (others line (omega arith))
spread_back_cases n mask line others long false et =
    let none : mask % 2 ≡ 1 → ⊥ = eqb-false (mask % 2) 1 et in
    others line (omega arith)

-- the bytes that were spelled are those of the line whose mask bit is set
pub spread_back : (n mask : ℕ) (line : List ℕ) → length line ≡ count_ones mask → mask < 2 ^ n → masked_bytes mask (spread n mask line) ≡ line
unfolding spread
spread_back zero mask [] long lt = refl
spread_back zero mask (b ∷ line) long lt = absurd (omega (arith, none_left mask lt))
spread_back (suc n) mask line long lt =
    spread_back_cases n mask line (λ rest same. spread_back n (mask / 2) rest same (half_below n mask lt)) (long ∙ halves mask) (eqb (mask % 2) 1) refl

masked_back_cases : (mask b : ℕ) (bytes : List ℕ) → spread (length bytes) (mask / 2) (masked_bytes (mask / 2) bytes) ≡ bytes → (t : Bool) → (t || eqb b 0) ≡ true
    → next_byte t (cond t (b ∷ []) [] ++ masked_bytes (mask / 2) bytes) ∷ spread (length bytes) (mask / 2) (line_after t (cond t (b ∷ []) [] ++ masked_bytes (mask / 2) bytes)) ≡ b ∷ bytes
masked_back_cases mask b bytes others true clear = ap (λ (t : List ℕ). b ∷ t) others
masked_back_cases mask b bytes others false clear =
    let nothing : b ≡ 0 = eqb-true b 0 clear in
    ap (λ (t : List ℕ). 0 ∷ t) others ∙ ap (λ (k : ℕ). k ∷ bytes) (sym nothing)

-- a line that is 0 outside its mask is the bytes that it spells
pub masked_back : (mask : ℕ) (bytes : List ℕ) → is_masked mask bytes ≡ true → spread (length bytes) mask (masked_bytes mask bytes) ≡ bytes
unfolding spread
masked_back mask [] clear = refl
masked_back mask (b ∷ bytes) clear =
    let both = and_parts (is_byte_masked mask b) (is_masked (mask / 2) bytes) clear in
    masked_back_cases mask b bytes (masked_back (mask / 2) bytes both.1) (eqb (mask % 2) 1) both.0

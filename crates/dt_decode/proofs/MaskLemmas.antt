-- A word fits a row exactly where its bits under the row's mask are the row's match.
use Rattle.std.proofs.Common.{◌≡◌, ℕ, zero, suc, ◌+◌, ◌-◌, ◌*◌, ◌/◌, ◌%◌, ◌^◌, ◌<◌, ◌≤◌, ◌↔◌, Bool, true, ◌&&◌, nat_lt, nat_le, List, [], ◌∷◌, Some, IsTrue, slice_get, bit_and, refl, ap, sym, ◌∙◌, arith, add-zero}
use Rattle.std.proofs.Math.Nat.{mul_assoc, add-mul}
use Rattle.std.proofs.lemmas.Bool.Decides.{nat_tests}
use Rattle.std.proofs.lemmas.Nat.{pow_pos, pow-add, shr_split, and_mask, and_block, mod_below, shl_below, same_from_place}
use Rattle.std.specs.Int.Bits.{and_zero_r}
use Rattle.dt_decode.specs.Fields.{field}
use Rattle.dt_decode.specs.Masks.{mask_of, match_of}
use Rattle.dt_decode.specs.Rows.{Row, Fixed, fits}

-- the fields stand from bit p on, each above the one before, and each value has its field's width
abbrev pub ascending : ℕ → List Fixed → Bool
ascending p [] = true
ascending p (f ∷ fs) = nat_le p f.low && (nat_lt f.value (2 ^ f.width) && ascending (f.width + f.low) fs)

abbrev pub all_ascending : List Row → Bool
all_ascending [] = true
all_ascending (r ∷ rs) = ascending 0 r.fixed && all_ascending rs

and_split : (bits k q m : ℕ) → m < 2 ^ k → bit_and bits (q * 2 ^ k + m) ≡ bit_and (bits / 2 ^ k) q * 2 ^ k + bit_and (bits % 2 ^ k) m
and_split bits k q m h =
    let s = shr_split bits k in
    let b = and_block k (bits / 2 ^ k) q (bits % 2 ^ k) m (mod_below bits (2 ^ k) (pow_pos k)) h in
    cc

and_high : (bits k q : ℕ) → bit_and bits (q * 2 ^ k) ≡ bit_and (bits / 2 ^ k) q * 2 ^ k
and_high bits k q =
    let s = and_split bits k q 0 (pow_pos k) in
    let e = add-zero (q * 2 ^ k) in
    let z = and_zero_r (bits % 2 ^ k) in
    let f = add-zero (bit_and (bits / 2 ^ k) q * 2 ^ k) in
    cc

and_field : (bits low w : ℕ) → bit_and bits ((2 ^ w - 1) * 2 ^ low) ≡ field low w bits * 2 ^ low
and_field bits low w = and_high bits low (2 ^ w - 1) ∙ ap (λ x. x * 2 ^ low) (and_mask (bits / 2 ^ low) w)

multiple_up : (p l x : ℕ) → p ≤ l → (q : ℕ) × (x * 2 ^ l ≡ q * 2 ^ p)
multiple_up p l x h =
    let e : l ≡ (l - p) + p = omega arith in
    (x * 2 ^ (l - p), ap (λ n. x * 2 ^ n) e ∙ (ap (λ y. x * y) (pow-add 2 (l - p) p) ∙ sym (mul_assoc x (2 ^ (l - p)) (2 ^ p))))

lowest : (p : ℕ) (f : Fixed) (fs : List Fixed) → IsTrue (ascending p (f ∷ fs)) → p ≤ f.low
lowest p f fs h = grind (arith, nat_tests)

narrow : (p : ℕ) (f : Fixed) (fs : List Fixed) → IsTrue (ascending p (f ∷ fs)) → f.value < 2 ^ f.width
narrow p f fs h = grind (arith, nat_tests)

higher : (p : ℕ) (f : Fixed) (fs : List Fixed) → IsTrue (ascending p (f ∷ fs)) → IsTrue (ascending (f.width + f.low) fs)
higher p f fs h = grind arith

multiple_sum : (a b x y p : ℕ) → a ≡ x * 2 ^ p → b ≡ y * 2 ^ p → a + b ≡ (x + y) * 2 ^ p
multiple_sum a b x y p e f = let g = add-mul x y (2 ^ p) in cc

-- a number at bit `low`, and a multiple of the place above its field
multiple_more : (p w low x total : ℕ) → p ≤ low → ((q : ℕ) × (total ≡ q * 2 ^ (w + low))) → (q : ℕ) × (x * 2 ^ low + total ≡ q * 2 ^ p)
multiple_more p w low x total h rest =
    let a = multiple_up p low x h in
    let b = multiple_up p (w + low) rest.0 (omega arith) in
    (a.0 + b.0, multiple_sum (x * 2 ^ low) total a.0 b.0 p a.1 (rest.1 ∙ b.1))

mask_multiple : (fs : List Fixed) (p : ℕ) → IsTrue (ascending p fs) → (q : ℕ) × (mask_of fs ≡ q * 2 ^ p)
mask_multiple [] p h = (0, omega arith)
mask_multiple (f ∷ fs) p h =
    multiple_more p f.width f.low (2 ^ f.width - 1) (mask_of fs) (lowest p f fs h) (mask_multiple fs (f.width + f.low) (higher p f fs h))

match_multiple : (fs : List Fixed) (p : ℕ) → IsTrue (ascending p fs) → (q : ℕ) × (match_of fs ≡ q * 2 ^ p)
match_multiple [] p h = (0, omega arith)
match_multiple (f ∷ fs) p h =
    multiple_more p f.width f.low f.value (match_of fs) (lowest p f fs h) (match_multiple fs (f.width + f.low) (higher p f fs h))

and_low : (bits k m : ℕ) → m < 2 ^ k → bit_and (bits % 2 ^ k) m ≡ bit_and bits m
and_low bits k m h =
    let s = and_split bits k 0 m h in
    let z = and_zero_r (bits / 2 ^ k) in
    let e : 0 * 2 ^ k + m ≡ m = omega arith in
    let f : 0 * 2 ^ k + bit_and (bits % 2 ^ k) m ≡ bit_and (bits % 2 ^ k) m = omega arith in
    cc

-- the bits under one field's ones, and under those of fields above it
and_sum : (bits low w q : ℕ) → bit_and bits ((2 ^ w - 1) * 2 ^ low + q * 2 ^ (w + low)) ≡ bit_and (bits / 2 ^ (w + low)) q * 2 ^ (w + low) + field low w bits * 2 ^ low
and_sum bits low w q =
    let fits : (2 ^ w - 1) * 2 ^ low < 2 ^ (w + low) = shl_below (2 ^ w - 1) w low (omega (arith, pow_pos w)) in
    let s = and_split bits (w + low) q ((2 ^ w - 1) * 2 ^ low) fits in
    let l = and_low bits (w + low) ((2 ^ w - 1) * 2 ^ low) fits in
    let f = and_field bits low w in
    let e : (2 ^ w - 1) * 2 ^ low + q * 2 ^ (w + low) ≡ q * 2 ^ (w + low) + (2 ^ w - 1) * 2 ^ low = omega arith in
    cc

same_value : (a b low : ℕ) → a * 2 ^ low ≡ b * 2 ^ low → a ≡ b
same_value a b low e = (same_from_place a 0 b 0 (2 ^ low) (pow_pos low) (pow_pos low) (omega (arith, e))).0

-- the sum over one field and those above it
mask_sum : (f : Fixed) (fs : List Fixed) (bits q : ℕ) → mask_of fs ≡ q * 2 ^ (f.width + f.low) → bit_and bits (mask_of (f ∷ fs)) ≡ bit_and bits (mask_of fs) + field f.low f.width bits * 2 ^ f.low
mask_sum f fs bits q e =
    let m : bit_and bits (mask_of (f ∷ fs)) ≡ bit_and bits ((2 ^ f.width - 1) * 2 ^ f.low + q * 2 ^ (f.width + f.low)) = ap (λ x. bit_and bits ((2 ^ f.width - 1) * 2 ^ f.low + x)) e in
    let s = and_sum bits f.low f.width q in
    let r : bit_and bits (mask_of fs) ≡ bit_and (bits / 2 ^ (f.width + f.low)) q * 2 ^ (f.width + f.low) = ap (bit_and bits) e ∙ and_high bits (f.width + f.low) q in
    cc

step_to : (f : Fixed) (fs : List Fixed) (bits q : ℕ) → mask_of fs ≡ q * 2 ^ (f.width + f.low) → (IsTrue (fits fs bits) → bit_and bits (mask_of fs) ≡ match_of fs) → IsTrue (fits (f ∷ fs) bits) → bit_and bits (mask_of (f ∷ fs)) ≡ match_of (f ∷ fs)
step_to f fs bits q e rest h =
    let value : field f.low f.width bits ≡ f.value = grind (arith, nat_tests) in
    let placed : field f.low f.width bits * 2 ^ f.low ≡ f.value * 2 ^ f.low = ap (λ x. x * 2 ^ f.low) value in
    let others : bit_and bits (mask_of fs) ≡ match_of fs = rest (grind arith) in
    omega (arith, mask_sum f fs bits q e, placed, others)

step_from : (f : Fixed) (fs : List Fixed) (bits q m : ℕ) → f.value < 2 ^ f.width → mask_of fs ≡ q * 2 ^ (f.width + f.low) → match_of fs ≡ m * 2 ^ (f.width + f.low) → (bit_and bits (mask_of fs) ≡ match_of fs → IsTrue (fits fs bits)) → bit_and bits (mask_of (f ∷ fs)) ≡ match_of (f ∷ fs) → IsTrue (fits (f ∷ fs) bits)
step_from f fs bits q m small e g rest h =
    let t : ℕ = bit_and (bits / 2 ^ (f.width + f.low)) q in
    let r : bit_and bits (mask_of fs) ≡ t * 2 ^ (f.width + f.low) = ap (bit_and bits) e ∙ and_high bits (f.width + f.low) q in
    let below : field f.low f.width bits * 2 ^ f.low < 2 ^ (f.width + f.low) = shl_below (field f.low f.width bits) f.width f.low (mod_below (bits / 2 ^ f.low) (2 ^ f.width) (pow_pos f.width)) in
    let value_below : f.value * 2 ^ f.low < 2 ^ (f.width + f.low) = shl_below f.value f.width f.low small in
    let joined : t * 2 ^ (f.width + f.low) + field f.low f.width bits * 2 ^ f.low ≡ m * 2 ^ (f.width + f.low) + f.value * 2 ^ f.low = omega (arith, mask_sum f fs bits q e, r, g, h) in
    let places = same_from_place t (field f.low f.width bits * 2 ^ f.low) m (f.value * 2 ^ f.low) (2 ^ (f.width + f.low)) below value_below joined in
    let value : field f.low f.width bits ≡ f.value = same_value (field f.low f.width bits) f.value f.low places.1 in
    let others : bit_and bits (mask_of fs) ≡ match_of fs = r ∙ (ap (λ x. x * 2 ^ (f.width + f.low)) places.0 ∙ sym g) in
    let rest_fits : IsTrue (fits fs bits) = rest others in
    grind (arith, nat_tests)

pub fits_mask : (fs : List Fixed) (p bits : ℕ) → IsTrue (ascending p fs) → IsTrue (fits fs bits) ↔ (bit_and bits (mask_of fs) ≡ match_of fs)
fits_mask [] p bits h = (λ k. and_zero_r bits, λ k. refl)
fits_mask (f ∷ fs) p bits h =
    let rest = mask_multiple fs (f.width + f.low) (higher p f fs h) in
    let other = match_multiple fs (f.width + f.low) (higher p f fs h) in
    let both = fits_mask fs (f.width + f.low) bits (higher p f fs h) in
    (step_to f fs bits rest.0 rest.1 both.0, step_from f fs bits rest.0 other.0 (narrow p f fs h) rest.1 other.1 both.1)

ascending_at : (rows : List Row) (i : ℕ) (r : Row) → IsTrue (all_ascending rows) → slice_get rows i ≡ Some r → IsTrue (ascending 0 r.fixed)
ascending_at [] i r a e = cc
ascending_at (t ∷ rows) zero r a e = grind arith
ascending_at (t ∷ rows) (suc i) r a e = ascending_at rows i r (grind arith) e

pub row_mask : (rows : List Row) (bits i : ℕ) (r : Row) → IsTrue (all_ascending rows) → slice_get rows i ≡ Some r → IsTrue (fits r.fixed bits) ↔ (bit_and bits (mask_of r.fixed) ≡ match_of r.fixed)
row_mask rows bits i r a e = fits_mask r.fixed 0 bits (ascending_at rows i r a e)

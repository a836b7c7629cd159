-- The number fields and the line of a form.
use Rattle.std.proofs.Common.{◌≡◌, ℕ, zero, suc, ◌+◌, ◌-◌, ◌*◌, ◌/◌, ◌%◌, ◌^◌, ◌<◌, ◌≤◌, Bool, true, false, cond, eqb, ltb, not, List, [], ◌∷◌, ◌++◌, length, take, drop, replicate, Ok, Err, refl, sym, ap, subst, ◌∙◌, arith}
use Rattle.std.specs.List.{flat_map}
use Rattle.std.proofs.lemmas.Bool.{eqb-true, eqb-false, ltb-true, ltb-false}
use Rattle.std.proofs.lemmas.List.{append-nil, length-append, length-take-le, take-append-drop, take_at, length-replicate}
use Rattle.std.proofs.lemmas.Nat.{pow-add}
use Rattle.std.proofs.lemmas.List.Concat.{flat_map-cons}
use Rattle.dt_record.specs.Lawful.{FitsList}
use Rattle.dt_record.specs.Spelling.{present_bytes, presence}
use Rattle.dt_short_bytes.specs.declared.short_pieces.Stop.TheVariants.{Short}
use Rattle.dt_short_bytes.specs.ShortReading.{◌>>=◌, field_at, fields_at, padded, padded_at, line_at}
use Rattle.dt_short_bytes.proofs.ShortGrammar.{IsBytes, IsBytes-back, IsBytes-front, Reads, IsFree, IsInhabited, Then, Ends, Ends-reads, Ends-free, Ends-inhabited, Then-free, Then-inhabited, Then-reads, Reads-same, free-same}
use Rattle.dt_short_bytes.proofs.ShortVarint.{FieldText, Field-free, Field-inhabited, field_reads}

-- so many numbers with these presence bits
pub record FieldsText (count bits : ℕ) (text : List ℕ) (numbers : List ℕ) : Type 0 where
  pub fits : FitsList count (2 ^ 64) numbers
  pub bits_are : presence numbers ≡ bits
  pub text_is : text ≡ flat_map present_bytes numbers

-- the first of them, and the others
abbrev OneMore : ℕ → ℕ → List ℕ → List ℕ → Type 0
OneMore count bits = Then (FieldText (eqb (bits % 2) 1)) (λ (x : ℕ). Then (FieldsText count (bits / 2)) (λ (others : List ℕ). Ends (x ∷ others)))

joined_bits : (n others bits : ℕ) → (t : Bool) → eqb n 0 ≡ t → not t ≡ eqb (bits % 2) 1 → others ≡ bits / 2 → cond t 0 1 + 2 * others ≡ bits
joined_bits n others bits true et bit e =
    let odd : bits % 2 ≡ 1 → ⊥ = eqb-false (bits % 2) 1 (sym bit) in
    omega arith
joined_bits n others bits false et bit e =
    let odd : bits % 2 ≡ 1 = eqb-true (bits % 2) 1 (sym bit) in
    omega arith

first_bit : (n others : ℕ) → (t : Bool) → eqb n 0 ≡ t → not t ≡ eqb ((cond t 0 1 + 2 * others) % 2) 1
first_bit n others true et =
    let e : (0 + 2 * others) % 2 ≡ 0 = omega arith in
    sym (ap (λ (k : ℕ). eqb k 1) e)
first_bit n others false et =
    let e : (1 + 2 * others) % 2 ≡ 1 = omega arith in
    sym (ap (λ (k : ℕ). eqb k 1) e)

other_bits : (others : ℕ) → (t : Bool) → (cond t 0 1 + 2 * others) / 2 ≡ others
other_bits others true = omega arith
other_bits others false = omega arith

to_Fields : (count bits : ℕ) (text numbers : List ℕ) → OneMore count bits text numbers → FieldsText (suc count) bits text numbers
to_Fields count bits text numbers h =
    let first = h.front_piece in
    let others = h.back_piece.front_piece in
    let ends = h.back_piece.back_piece in
    let n = h.x in
    let ns = h.back_piece.x in
    let whole : text ≡ flat_map present_bytes (n ∷ ns) =
    h.whole ∙ ap (λ (t : List ℕ). t ++ h.back) first.text_is ∙ ap (λ (t : List ℕ). present_bytes n ++ t)
    (h.back_piece.whole ∙ ap (λ (t : List ℕ). h.back_piece.front ++ t) ends.nothing ∙ append-nil h.back_piece.front ∙ others.text_is)
    ∙ sym (flat_map-cons present_bytes n ns) in
    let made : FieldsText (suc count) bits text (n ∷ ns) = record {
      fits = record { count_is = ap suc others.fits.count_is; each = (first.below, others.fits.each) };
      bits_are = joined_bits n (presence ns) bits (eqb n 0) refl first.bit others.bits_are;
      text_is = whole;
    } in
    subst (λ (ms : List ℕ). FieldsText (suc count) bits text ms) (sym ends.same) made

from_Fields : (count bits : ℕ) (text numbers : List ℕ) → FieldsText (suc count) bits text numbers → OneMore count bits text numbers
from_Fields count bits text [] h =
    let none : 0 ≡ suc count = h.fits.count_is in
    absurd (omega arith)
from_Fields count bits text (n ∷ ns) h =
    let long : suc (length ns) ≡ suc count = h.fits.count_is in
    let bits_are : cond (eqb n 0) 0 1 + 2 * presence ns ≡ bits = h.bits_are in
    record {
      front = present_bytes n;
      back = flat_map present_bytes ns;
      x = n;
      front_piece = record { below = h.fits.each.0; bit = first_bit n (presence ns) (eqb n 0) refl ∙ ap (λ (k : ℕ). eqb (k % 2) 1) bits_are; text_is = refl };
      back_piece = record {
        front = flat_map present_bytes ns;
        back = [];
        x = ns;
        front_piece = record {
          fits = record { count_is = omega arith; each = h.fits.each.1 };
          bits_are = sym (other_bits (presence ns) (eqb n 0)) ∙ ap (λ (k : ℕ). k / 2) bits_are;
          text_is = refl;
        };
        back_piece = record { nothing = refl; same = refl };
        whole = sym (append-nil (flat_map present_bytes ns));
      };
      whole = h.text_is ∙ flat_map-cons present_bytes n ns;
    }

no_Fields : (bits : ℕ) (text numbers : List ℕ) → FieldsText zero bits text numbers → Ends [] text numbers
no_Fields bits text [] h = record { nothing = h.text_is; same = refl }
no_Fields bits text (n ∷ ns) h =
    let none : suc (length ns) ≡ 0 = h.fits.count_is in
    absurd (omega arith)

none_Fields : FieldsText zero 0 [] []
none_Fields = record { fits = record { count_is = refl; each = tt }; bits_are = refl; text_is = refl }

pub Fields-free : (count bits : ℕ) → IsFree (FieldsText count bits)
Fields-free zero bits = free-same (Ends []) (FieldsText zero bits) (no_Fields bits) (Ends-free [])
Fields-free (suc count) bits =
    free-same (OneMore count bits) (FieldsText (suc count) bits) (from_Fields count bits)
    (Then-free (FieldText (eqb (bits % 2) 1)) (λ (x : ℕ). Then (FieldsText count (bits / 2)) (λ (others : List ℕ). Ends (x ∷ others))) (Field-free (eqb (bits % 2) 1))
    (λ x. Then-free (FieldsText count (bits / 2)) (λ (others : List ℕ). Ends (x ∷ others)) (Fields-free count (bits / 2)) (λ others. Ends-free (x ∷ others))))

half_below : (count bits : ℕ) → bits < 2 ^ suc count → bits / 2 < 2 ^ count
half_below count bits lt =
    let one_more : suc count ≡ 1 + count = omega arith in
    let double : 2 ^ suc count ≡ 2 * 2 ^ count = ap (λ (k : ℕ). 2 ^ k) one_more ∙ pow-add 2 1 count in
    omega arith

pub Fields-inhabited : (count bits : ℕ) → bits < 2 ^ count → IsInhabited (FieldsText count bits)
Fields-inhabited zero bits lt =
    let none : 0 ≡ bits = omega arith in
    record { text = []; x = []; piece = subst (λ (b : ℕ). FieldsText zero b [] []) none none_Fields }
Fields-inhabited (suc count) bits lt =
    let made = Then-inhabited (FieldText (eqb (bits % 2) 1)) (λ (x : ℕ). Then (FieldsText count (bits / 2)) (λ (others : List ℕ). Ends (x ∷ others))) (Field-inhabited (eqb (bits % 2) 1))
    (λ text x piece. Then-inhabited (FieldsText count (bits / 2)) (λ (others : List ℕ). Ends (x ∷ others)) (Fields-inhabited count (bits / 2) (half_below count bits lt)) (λ text' others piece'. Ends-inhabited (x ∷ others))) in
    record { text = made.text; x = made.x; piece = to_Fields count bits made.text made.x made.piece }

pub fields_reads : (count bits : ℕ) (bytes : List ℕ) → bits < 2 ^ count → IsBytes bytes → Reads (FieldsText count bits) bytes (fields_at count bits bytes)
unfolding fields_at
fields_reads zero bits bytes lt fits =
    let none : 0 ≡ bits = omega arith in
    record { text = []; piece = subst (λ (b : ℕ). FieldsText zero b [] []) none none_Fields; parts = refl }
fields_reads (suc count) bits bytes lt fits =
    Reads-same (OneMore count bits) (FieldsText (suc count) bits) (to_Fields count bits) (from_Fields count bits) bytes (fields_at (suc count) bits bytes)
    (Then-reads (FieldText (eqb (bits % 2) 1)) (λ (x : ℕ). Then (FieldsText count (bits / 2)) (λ (others : List ℕ). Ends (x ∷ others))) bytes (field_at (eqb (bits % 2) 1) bytes)
    (λ first. fields_at count (bits / 2) first.1 >>= λ others. Ok (first.0 ∷ others.0, others.1))
    (Field-free (eqb (bits % 2) 1))
    (λ text x piece. Then-inhabited (FieldsText count (bits / 2)) (λ (others : List ℕ). Ends (x ∷ others)) (Fields-inhabited count (bits / 2) (half_below count bits lt)) (λ text' others piece'. Ends-inhabited (x ∷ others)))
    (field_reads (eqb (bits % 2) 1) bytes fits)
    (λ text x rest piece parts.
    Then-reads (FieldsText count (bits / 2)) (λ (others : List ℕ). Ends (x ∷ others)) rest (fields_at count (bits / 2) rest) (λ others. Ok (x ∷ others.0, others.1))
    (Fields-free count (bits / 2)) (λ text' others piece'. Ends-inhabited (x ∷ others))
    (fields_reads count (bits / 2) rest (half_below count bits lt) (IsBytes-back text rest (subst IsBytes parts fits)))
    (λ text' others rest' piece' parts'. Ends-reads (x ∷ others) rest')))

-- the same numbers in 32 places
abbrev pub PaddedText : ℕ → ℕ → List ℕ → List ℕ → Type 0
PaddedText count bits = Then (FieldsText count bits) (λ (numbers : List ℕ). Ends (padded numbers))

pub Padded-free : (count bits : ℕ) → IsFree (PaddedText count bits)
Padded-free count bits = Then-free (FieldsText count bits) (λ (numbers : List ℕ). Ends (padded numbers)) (Fields-free count bits) (λ numbers. Ends-free (padded numbers))

pub Padded-inhabited : (count bits : ℕ) → bits < 2 ^ count → IsInhabited (PaddedText count bits)
Padded-inhabited count bits lt =
    Then-inhabited (FieldsText count bits) (λ (numbers : List ℕ). Ends (padded numbers)) (Fields-inhabited count bits lt) (λ text numbers piece. Ends-inhabited (padded numbers))

pub padded_reads : (count bits : ℕ) (bytes : List ℕ) → bits < 2 ^ count → IsBytes bytes → Reads (PaddedText count bits) bytes (padded_at count bits bytes)
unfolding padded_at
padded_reads count bits bytes lt fits =
    Then-reads (FieldsText count bits) (λ (numbers : List ℕ). Ends (padded numbers)) bytes (fields_at count bits bytes) (λ numbers. Ok (padded numbers.0, numbers.1))
    (Fields-free count bits) (λ text numbers piece. Ends-inhabited (padded numbers)) (fields_reads count bits bytes lt fits) (λ text numbers rest piece parts. Ends-reads (padded numbers) rest)

-- ---- the line

pub record LineText (len : ℕ) (text : List ℕ) (line : List ℕ) : Type 0 where
  pub fits : FitsList len (2 ^ 8) line
  pub same : text ≡ line

zero_bytes : (n : ℕ) → IsBytes (replicate n 0)
zero_bytes zero = tt
zero_bytes (suc n) = (omega arith, zero_bytes n)

both_bytes : (xs ys : List ℕ) → IsBytes xs → IsBytes ys → IsBytes (xs ++ ys)
both_bytes [] ys hx hy = hy
both_bytes (x ∷ xs) ys hx hy = (hx.0, both_bytes xs ys hx.1 hy)

pub Line-inhabited : (len : ℕ) → IsInhabited (LineText len)
Line-inhabited len = record {
  text = replicate len 0;
  x = replicate len 0;
  piece = record { fits = record { count_is = length-replicate len 0; each = zero_bytes len }; same = refl };
}

pub Line-free : (len : ℕ) → IsFree (LineText len)
Line-free len = record {
  one = λ a b p q x y ga gb e.
      let la : length a ≡ len = ap length ga.same ∙ ga.fits.count_is in
      let lb : length b ≡ len = ap length gb.same ∙ gb.fits.count_is in
      let same : a ≡ b = sym (take_at a p len la) ∙ ap (take len) e ∙ take_at b q len lb in
      (same, sym ga.same ∙ same ∙ gb.same);
}

line_cases : (len : ℕ) (bytes : List ℕ) → IsBytes bytes → (t : Bool) → ltb (length bytes) len ≡ t → Reads (LineText len) bytes (cond t (Err Short) (Ok (take len bytes, drop len bytes)))
line_cases len bytes fits true et =
    let few : length bytes < len = ltb-true (length bytes) len et in
    let k = len - (length bytes + 1) in
    let zeros : List ℕ = replicate (suc k) 0 in
    let long : length (bytes ++ zeros) ≡ len = omega (arith, length-append bytes zeros, length-replicate {A = ℕ} (suc k) 0) in
    record {
      next = 0;
      more = replicate k 0;
      x = bytes ++ zeros;
      piece = record { fits = record { count_is = long; each = both_bytes bytes zeros fits (zero_bytes (suc k)) }; same = refl };
    }
line_cases len bytes fits false et =
    let many : len ≤ length bytes = ltb-false (length bytes) len et in
    record {
      text = take len bytes;
      piece = record {
        fits = record { count_is = length-take-le len bytes many; each = IsBytes-front (take len bytes) (drop len bytes) (subst IsBytes (sym (take-append-drop len bytes)) fits) };
        same = refl;
      };
      parts = sym (take-append-drop len bytes);
    }

pub line_reads : (len : ℕ) (bytes : List ℕ) → IsBytes bytes → Reads (LineText len) bytes (line_at len bytes)
unfolding line_at
line_reads len bytes fits = line_cases len bytes fits (ltb (length bytes) len) refl

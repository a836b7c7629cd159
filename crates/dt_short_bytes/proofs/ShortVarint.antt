-- Numbers in groups of seven bits.
use Rattle.std.proofs.Common.{◌≡◌, ℕ, zero, suc, ◌+◌, ◌-◌, ◌*◌, ◌/◌, ◌%◌, ◌^◌, ◌<◌, ◌≤◌, Bool, true, false, cond, eqb, ltb, not, List, [], ◌∷◌, ◌++◌, Result, Ok, Err, refl, sym, ap, ◌∙◌, arith}
use Rattle.std.proofs.lemmas.Bool.{eqb-true, eqb-false, ltb-true, ltb-false, le-ltb, ne_eqb}
use Rattle.std.proofs.lemmas.Nat.{pow-add, pow_pos}
use Rattle.dt_record.specs.Spelling.{varint, varint_within, present_bytes}
use Rattle.dt_short_bytes.specs.declared.short_pieces.Stop.{Stop}
use Rattle.dt_short_bytes.specs.declared.short_pieces.Stop.TheVariants.{Short, Bad}
use Rattle.dt_short_bytes.specs.ShortReading.{◌>>=◌, bad, groups_at, later_at, field_at}
use Rattle.dt_short_bytes.proofs.ShortGrammar.{IsBytes, Reads, Breaks, IsFree, IsInhabited, Behind, Reads-same, Reads-cons, Breaks-first, free-same}

-- a number that isn't 0, in at most so many bytes after the first
pub record Nonzero (more : ℕ) (text : List ℕ) (n : ℕ) : Type 0 where
  pub some : 0 < n
  pub below : n < 2 ^ (7 * more + 1)
  pub text_is : text ≡ varint_within more n

pub wider : (more : ℕ) → 2 ^ (7 * suc more + 1) ≡ 128 * 2 ^ (7 * more + 1)
wider more =
    let e : 7 * suc more + 1 ≡ 7 + (7 * more + 1) = omega arith in
    ap (λ (k : ℕ). 2 ^ k) e ∙ pow-add 2 7 (7 * more + 1)

small : (more n : ℕ) → n < 128 → n < 2 ^ (7 * suc more + 1)
small more n lt = omega (arith, wider more, pow_pos (7 * more + 1))

one_text : (more : ℕ) → Nonzero more (1 ∷ []) 1
one_text zero = record { some = omega arith; below = omega arith; text_is = refl }
one_text (suc more) = record { some = omega arith; below = small more 1 (omega arith); text_is = refl }

pub Nonzero-inhabited : (more : ℕ) → IsInhabited (Nonzero more)
Nonzero-inhabited more = record { text = 1 ∷ []; x = 1; piece = one_text more }

within_cases : ℕ → ℕ → Bool → List ℕ
within_cases more n test = cond test (n ∷ []) ((128 + n % 128) ∷ varint_within more (n / 128))

within_is : (more n : ℕ) → varint_within (suc more) n ≡ within_cases more n (ltb n 128)
unfolding within_cases
within_is more n = refl

within_one_cases : (more x y : ℕ) (p q : List ℕ) → ((p' q' : List ℕ) → varint_within more (x / 128) ++ p' ≡ varint_within more (y / 128) ++ q' → x / 128 ≡ y / 128)
    → (s t : Bool) → ltb x 128 ≡ s → ltb y 128 ≡ t → within_cases more x s ++ p ≡ within_cases more y t ++ q → x ≡ y
unfolding within_cases
within_one_cases more x y p q rest true true es et e = cc
within_one_cases more x y p q rest true false es et e =
    let head : x ≡ 128 + y % 128 = cc in
    let low : x < 128 = ltb-true x 128 es in
    absurd (omega arith)
within_one_cases more x y p q rest false true es et e =
    let head : 128 + x % 128 ≡ y = cc in
    let low : y < 128 = ltb-true y 128 et in
    absurd (omega arith)
within_one_cases more x y p q rest false false es et e =
    let head : 128 + x % 128 ≡ 128 + y % 128 = cc in
    let back : varint_within more (x / 128) ++ p ≡ varint_within more (y / 128) ++ q = cc in
    let high : x / 128 ≡ y / 128 = rest p q back in
    omega arith

-- no spelling begins another
pub within_one : (more x y : ℕ) (p q : List ℕ) → varint_within more x ++ p ≡ varint_within more y ++ q → x ≡ y
unfolding within_cases
within_one zero x y p q e = cc
within_one (suc more) x y p q e = within_one_cases more x y p q (within_one more (x / 128) (y / 128)) (ltb x 128) (ltb y 128) refl refl e

pub Nonzero-free : (more : ℕ) → IsFree (Nonzero more)
Nonzero-free more = record {
  one = λ a b p q x y ga gb e.
      let same : x ≡ y = within_one more x y p q (ap (λ (t : List ℕ). t ++ p) (sym ga.text_is) ∙ e ∙ ap (λ (t : List ℕ). t ++ q) gb.text_is) in
      (ga.text_is ∙ ap (varint_within more) same ∙ sym gb.text_is, same);
}

-- one group more in front
longer : (more b n : ℕ) (text : List ℕ) → 128 ≤ b → b < 256 → Nonzero more text n → Nonzero (suc more) (b ∷ text) (b - 128 + 128 * n)
longer more b n text from to piece =
    let some = piece.some in
    let below = piece.below in
    let m = b - 128 + 128 * n in
    let big : 128 ≤ m = omega arith in
    let low : 128 + m % 128 ≡ b = omega arith in
    let high : m / 128 ≡ n = omega arith in
    let test : ltb m 128 ≡ false = le-ltb m 128 big in
    let spelled : varint_within (suc more) m ≡ (128 + m % 128) ∷ varint_within more (m / 128) = ap (λ (t : Bool). cond t (m ∷ []) ((128 + m % 128) ∷ varint_within more (m / 128))) test in
    let parts : (128 + m % 128) ∷ varint_within more (m / 128) ≡ b ∷ varint_within more n = ap (λ (h : ℕ). h ∷ varint_within more (m / 128)) low ∙ ap (λ (h : ℕ). b ∷ varint_within more h) high in
    record {
      some = omega arith;
      below = omega (arith, wider more);
      text_is = ap (λ (t : List ℕ). b ∷ t) piece.text_is ∙ sym parts ∙ sym spelled;
    }

-- the groups behind the first
behind_cases : (more b y : ℕ) (tail rest : List ℕ) → 128 ≤ b → y < 2 ^ (7 * suc more + 1) → (t : Bool) → ltb y 128 ≡ t → within_cases more y t ++ tail ≡ b ∷ rest → Behind (Nonzero more) tail rest
unfolding within_cases
behind_cases more b y tail rest from below true et e =
    let head : y ≡ b = cc in
    let low : y < 128 = ltb-true y 128 et in
    absurd (omega arith)
behind_cases more b y tail rest from below false et e =
    let high : 128 ≤ y = ltb-false y 128 et in
    let back : varint_within more (y / 128) ++ tail ≡ rest = cc in
    record {
      text = varint_within more (y / 128);
      x = y / 128;
      piece = record { some = omega arith; below = omega (arith, wider more); text_is = refl };
      same = back;
    }

behind_first : (more b : ℕ) (text tail rest : List ℕ) (y : ℕ) → 128 ≤ b → Nonzero (suc more) text y → text ++ tail ≡ b ∷ rest → Behind (Nonzero more) tail rest
unfolding within_cases
behind_first more b text tail rest y from piece e =
    behind_cases more b y tail rest from piece.below (ltb y 128) refl (ap (λ (t : List ℕ). t ++ tail) (sym piece.text_is) ∙ e)

-- no spelling of a number that isn't 0 begins with 0
no_zero_cases : (more y : ℕ) (tail after : List ℕ) → 0 < y → (t : Bool) → ltb y 128 ≡ t → within_cases more y t ++ tail ≡ 0 ∷ after → ⊥
unfolding within_cases
no_zero_cases more y tail after some true et e =
    let head : y ≡ 0 = cc in
    omega arith
no_zero_cases more y tail after some false et e =
    let head : 128 + y % 128 ≡ 0 = cc in
    omega arith

no_zero : (more : ℕ) (text tail after : List ℕ) (y : ℕ) → Nonzero (suc more) text y → text ++ tail ≡ 0 ∷ after → ⊥
unfolding within_cases
no_zero more text tail after y piece e = no_zero_cases more y tail after piece.some (ltb y 128) refl (ap (λ (t : List ℕ). t ++ tail) (sym piece.text_is) ∙ e)

last_group : (b : ℕ) (after : List ℕ) (t : Bool) → eqb b 1 ≡ t → Reads (Nonzero zero) (b ∷ after) (cond t (Ok (1, after)) (bad after))
last_group b after true et =
    let one : b ≡ 1 = eqb-true b 1 et in
    record { text = 1 ∷ []; piece = one_text zero; parts = ap (λ (h : ℕ). h ∷ after) one }
last_group b after false et =
    let other : b ≡ 1 → ⊥ = eqb-false b 1 et in
    Breaks-first (Nonzero zero) b after (Nonzero-inhabited zero) (λ text tail after' y piece e.
    let some = piece.some in
    let below = piece.below in
    let whole : y ∷ tail ≡ b ∷ after' = ap (λ (t : List ℕ). t ++ tail) (sym piece.text_is) ∙ e in
    let head : y ≡ b = cc in
    other (omega arith))

first_group : (more b : ℕ) (after : List ℕ) → b < 256 → Reads (Nonzero more) after (groups_at more after)
    → (s t : Bool) → eqb b 0 ≡ s → ltb b 128 ≡ t
    → Reads (Nonzero (suc more)) (b ∷ after) (cond s (bad after) (cond t (Ok (b, after)) (groups_at more after >>= λ high. Ok (b - 128 + 128 * high.0, high.1))))
first_group more b after fits others true t es et =
    let nothing : b ≡ 0 = eqb-true b 0 es in
    Breaks-first (Nonzero (suc more)) b after (Nonzero-inhabited (suc more))
    (λ text tail after' y piece e. no_zero more text tail after' y piece (e ∙ ap (λ (h : ℕ). h ∷ after') nothing))
first_group more b after fits others false true es et =
    let some : b ≡ 0 → ⊥ = eqb-false b 0 es in
    let low : b < 128 = ltb-true b 128 et in
    record {
      text = b ∷ [];
      piece = record { some = omega arith; below = small more b low; text_is = sym (ap (λ (t : Bool). cond t (b ∷ []) ((128 + b % 128) ∷ varint_within more (b / 128))) et) };
      parts = refl;
    }
first_group more b after fits others false false es et =
    let high : 128 ≤ b = ltb-false b 128 et in
    Reads-cons (Nonzero more) (Nonzero (suc more)) b (λ n. b - 128 + 128 * n) (λ text n piece. longer more b n text high fits piece)
    (λ text tail rest y piece e. behind_first more b text tail rest y high piece e) after (groups_at more after) others

pub groups_reads : (more : ℕ) (bytes : List ℕ) → IsBytes bytes → Reads (Nonzero more) bytes (groups_at more bytes)
unfolding groups_at
groups_reads zero [] fits = record { next = 1; more = []; x = 1; piece = one_text zero }
groups_reads (suc more) [] fits = record { next = 1; more = []; x = 1; piece = one_text (suc more) }
groups_reads zero (b ∷ after) fits = last_group b after (eqb b 1) refl
groups_reads (suc more) (b ∷ after) fits = first_group more b after fits.0 (groups_reads more after fits.1) (eqb b 0) (ltb b 128) refl refl

-- a number below 2 ^ 64
pub record Later (text : List ℕ) (n : ℕ) : Type 0 where
  pub below : n < 2 ^ 64
  pub text_is : text ≡ varint n

pub Later-inhabited : IsInhabited Later
unfolding varint
Later-inhabited = record { text = 0 ∷ []; x = 0; piece = record { below = omega arith; text_is = refl } }

pub Later-free : IsFree Later
unfolding varint
Later-free = record {
  one = λ a b p q x y ga gb e.
      let same : x ≡ y = within_one 9 x y p q (ap (λ (t : List ℕ). t ++ p) (sym ga.text_is) ∙ e ∙ ap (λ (t : List ℕ). t ++ q) gb.text_is) in
      (ga.text_is ∙ ap varint same ∙ sym gb.text_is, same);
}

pub Later_from : (text : List ℕ) (n : ℕ) → Nonzero 9 text n → Later text n
unfolding varint
Later_from text n piece = record { below = piece.below; text_is = piece.text_is }

pub Nonzero_from : (text : List ℕ) (n : ℕ) → 0 < n → Later text n → Nonzero 9 text n
unfolding varint
Nonzero_from text n some piece = record { some = some; below = piece.below; text_is = piece.text_is }

not_first : (b : ℕ) (good after tail rest : List ℕ) (wrong : ℕ) → suc b ∷ after ≡ good ++ wrong ∷ rest → (more : List ℕ) → 0 ∷ tail ≡ good ++ wrong ∷ more → ⊥
not_first b [] after tail rest wrong e more f =
    let one : suc b ≡ wrong = cc in
    let two : 0 ≡ wrong = cc in
    omega arith
not_first b (g ∷ good) after tail rest wrong e more f =
    let one : suc b ≡ g = cc in
    let two : 0 ≡ g = cc in
    omega arith

never_later : (b left : ℕ) (after : List ℕ) (h : Breaks (Nonzero 9) (suc b ∷ after) left) (text tail after' : List ℕ) (y : ℕ) → Later text y → text ++ tail ≡ h.good ++ h.wrong ∷ after' → ⊥
unfolding varint
never_later b left after h text tail after' zero piece e = not_first b h.good after tail h.rest h.wrong h.parts after' (ap (λ (t : List ℕ). t ++ tail) (sym piece.text_is) ∙ e)
never_later b left after h text tail after' (suc y) piece e = h.never text tail after' (suc y) (Nonzero_from text (suc y) (omega arith) piece) e

later_cases : (b : ℕ) (after : List ℕ) (r : Result (ℕ × List ℕ) Stop) → Reads (Nonzero 9) (suc b ∷ after) r → Reads Later (suc b ∷ after) r
later_cases b after (Ok x) h = record { text = h.text; piece = Later_from h.text x.0 h.piece; parts = h.parts }
later_cases b after (Err Short) h = record { next = h.next; more = h.more; x = h.x; piece = Later_from (suc b ∷ after ++ h.next ∷ h.more) h.x h.piece }
later_cases b after (Err (Bad left)) h = record {
  good = h.good;
  wrong = h.wrong;
  rest = h.rest;
  parts = h.parts;
  left_is = h.left_is;
  more = h.more;
  x = h.x;
  piece = Later_from (h.good ++ h.more) h.x h.piece;
  never = λ text tail after' y piece e. never_later b left after h text tail after' y piece e;
}

pub later_reads : (bytes : List ℕ) → IsBytes bytes → Reads Later bytes (later_at bytes)
unfolding later_at groups_at varint
later_reads [] fits = record { next = 0; more = []; x = 0; piece = record { below = omega arith; text_is = refl } }
later_reads (zero ∷ after) fits = record { text = 0 ∷ []; piece = record { below = omega arith; text_is = refl }; parts = refl }
later_reads (suc b ∷ after) fits = later_cases b after (groups_at 9 (suc b ∷ after)) (groups_reads 9 (suc b ∷ after) fits)

-- one number field, and whether it is there
pub record FieldText (present : Bool) (text : List ℕ) (n : ℕ) : Type 0 where
  pub below : n < 2 ^ 64
  pub bit : not (eqb n 0) ≡ present
  pub text_is : text ≡ present_bytes n

Field_from : (text : List ℕ) (n : ℕ) → Nonzero 9 text n → FieldText true text n
unfolding varint
Field_from text n piece =
    let some = piece.some in
    let test : eqb n 0 ≡ false = ne_eqb n 0 (λ e. omega arith) in
    record { below = piece.below; bit = ap not test; text_is = piece.text_is ∙ sym (ap (λ (t : Bool). cond t [] (varint n)) test) }

from_Field_cases : (text : List ℕ) (n : ℕ) → n < 2 ^ 64 → (t : Bool) → eqb n 0 ≡ t → not t ≡ true → text ≡ cond t [] (varint n) → Nonzero 9 text n
unfolding varint
from_Field_cases text n below true et bit e = absurd cc
from_Field_cases text n below false et bit e =
    let some : n ≡ 0 → ⊥ = eqb-false n 0 et in
    record { some = omega arith; below = below; text_is = e }

from_Field : (text : List ℕ) (n : ℕ) → FieldText true text n → Nonzero 9 text n
from_Field text n piece = from_Field_cases text n piece.below (eqb n 0) refl piece.bit piece.text_is

no_Field_cases : (text : List ℕ) (n : ℕ) → (t : Bool) → eqb n 0 ≡ t → not t ≡ false → text ≡ cond t [] (varint n) → (n ≡ 0) × (text ≡ [])
no_Field_cases text n true et bit e = (eqb-true n 0 et, e)
no_Field_cases text n false et bit e = absurd cc

no_Field : (text : List ℕ) (n : ℕ) → FieldText false text n → (n ≡ 0) × (text ≡ [])
no_Field text n piece = no_Field_cases text n (eqb n 0) refl piece.bit piece.text_is

zero_Field : FieldText false [] 0
zero_Field = record { below = omega arith; bit = refl; text_is = refl }

pub Field-free : (present : Bool) → IsFree (FieldText present)
Field-free true = free-same (Nonzero 9) (FieldText true) from_Field (Nonzero-free 9)
Field-free false = record {
  one = λ a b p q x y ga gb e.
      let left = no_Field a x ga in
      let right = no_Field b y gb in
      (left.1 ∙ sym right.1, left.0 ∙ sym right.0);
}

pub Field-inhabited : (present : Bool) → IsInhabited (FieldText present)
Field-inhabited true = record { text = 1 ∷ []; x = 1; piece = Field_from (1 ∷ []) 1 (one_text 9) }
Field-inhabited false = record { text = []; x = 0; piece = zero_Field }

pub field_reads : (present : Bool) (bytes : List ℕ) → IsBytes bytes → Reads (FieldText present) bytes (field_at present bytes)
unfolding field_at
field_reads true bytes fits = Reads-same (Nonzero 9) (FieldText true) Field_from from_Field bytes (groups_at 9 bytes) (groups_reads 9 bytes fits)
field_reads false bytes fits = record { text = []; piece = zero_Field; parts = refl }

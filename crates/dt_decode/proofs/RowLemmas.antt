-- Rows that no word fits both, and what the first row that a word fits says.
use Rattle.std.proofs.Common.{◌≡◌, ℕ, zero, suc, Bool, true, false, cond, ◌&&◌, ◌||◌, ◌==◌, not, List, [], ◌∷◌, Some, IsTrue, slice_get, refl, ap, sym, ◌∙◌, arith}
use Rattle.std.proofs.lemmas.Bool.Decides.{nat_tests}
use Rattle.dt_decode.specs.Fields.{field}
use Rattle.dt_decode.specs.Forms.{Form}
use Rattle.dt_decode.specs.Rows.{Row, Fixed, has_field, fits, first_form}

-- the same field, with another value
abbrev pub differ : Fixed → Fixed → Bool
differ f g = (f.low == g.low) && ((f.width == g.width) && not (f.value == g.value))

abbrev pub differs_from_one : Fixed → List Fixed → Bool
differs_from_one f [] = false
differs_from_one f (g ∷ gs) = differ f g || differs_from_one f gs

-- some field is in both, with different values
abbrev pub clash : List Fixed → List Fixed → Bool
clash [] gs = false
clash (f ∷ fs) gs = differs_from_one f gs || clash fs gs

abbrev pub clashes_with_all : List Fixed → List Row → Bool
clashes_with_all fs [] = true
clashes_with_all fs (r ∷ rs) = clash fs r.fixed && clashes_with_all fs rs

abbrev pub are_apart : List Row → Bool
are_apart [] = true
are_apart (r ∷ rs) = clashes_with_all r.fixed rs && are_apart rs

same_field : (l w u l' w' u' bits : ℕ) → l ≡ l' → w ≡ w' → field l w bits ≡ u → field l' w' bits ≡ u' → u ≡ u'
same_field l w u l' w' u' bits p q h k = sym h ∙ (ap (λ x. field x w bits) p ∙ (ap (λ y. field l' y bits) q ∙ k))

not_both : (f g : Fixed) (bits : ℕ) → IsTrue (differ f g) → IsTrue (has_field bits f) → IsTrue (has_field bits g) → ⊥
not_both f g bits d h k = grind (arith, nat_tests, same_field)

not_one : (f : Fixed) (gs : List Fixed) (bits : ℕ) → IsTrue (differs_from_one f gs) → IsTrue (has_field bits f) → IsTrue (fits gs bits) → ⊥
not_one f [] bits d h k = cc
not_one f (g ∷ gs) bits d h k = grind (arith, not_both f g bits, not_one f gs bits)

not_both_rows : (fs gs : List Fixed) (bits : ℕ) → IsTrue (clash fs gs) → IsTrue (fits fs bits) → IsTrue (fits gs bits) → ⊥
not_both_rows [] gs bits d h k = cc
not_both_rows (f ∷ fs) gs bits d h k = grind (arith, not_one f gs bits, not_both_rows fs gs bits)

not_any : (fs : List Fixed) (rs : List Row) (bits i : ℕ) (r : Row) → IsTrue (clashes_with_all fs rs) → slice_get rs i ≡ Some r → IsTrue (fits fs bits) → IsTrue (fits r.fixed bits) → ⊥
not_any fs [] bits i r d e h k = cc
not_any fs (s ∷ rs) bits zero r d e h k = grind (arith, not_both_rows fs s.fixed bits)
not_any fs (s ∷ rs) bits (suc i) r d e h k = grind (arith, not_any fs rs bits i r)

pub one_row : (rows : List Row) (bits i j : ℕ) (r s : Row) → IsTrue (are_apart rows) → slice_get rows i ≡ Some r → slice_get rows j ≡ Some s → IsTrue (fits r.fixed bits) → IsTrue (fits s.fixed bits) → i ≡ j
one_row [] bits i j r s a p q h k = cc
one_row (t ∷ rows) bits zero zero r s a p q h k = refl
one_row (t ∷ rows) bits zero (suc j) r s a p q h k = absurd (grind (arith, not_any t.fixed rows bits j s))
one_row (t ∷ rows) bits (suc i) zero r s a p q h k = absurd (grind (arith, not_any t.fixed rows bits i r))
one_row (t ∷ rows) bits (suc i) (suc j) r s a p q h k = ap suc (one_row rows bits i j r s (grind arith) p q h k)

-- the place of the first row that fits
pub record IsFirst (rows : List Row) (bits : ℕ) (f : Form) : Type 0 where
  pub place : ℕ
  pub row : Row
  pub listed : slice_get rows place ≡ Some row
  pub fit : IsTrue (fits row.fixed bits)
  pub is : f ≡ row.form

later : (t : Row) (rows : List Row) (bits : ℕ) (f : Form) → IsFirst rows bits f → IsFirst (t ∷ rows) bits f
later t rows bits f h = record { place = suc h.place; row = h.row; listed = h.listed; fit = h.fit; is = h.is }

first_of_more : (t : Row) (rows : List Row) (bits : ℕ) (f : Form) (b : Bool) → fits t.fixed bits ≡ b → (first_form rows bits ≡ Some f → IsFirst rows bits f) → cond b (Some t.form) (first_form rows bits) ≡ Some f → IsFirst (t ∷ rows) bits f
first_of_more t rows bits f true h rest e = record { place = zero; row = t; listed = refl; fit = h; is = cc }
first_of_more t rows bits f false h rest e = later t rows bits f (rest e)

pub row_of_form : (rows : List Row) (bits : ℕ) (f : Form) → first_form rows bits ≡ Some f → IsFirst rows bits f
row_of_form [] bits f e = cc
row_of_form (t ∷ rows) bits f e = first_of_more t rows bits f (fits t.fixed bits) refl (row_of_form rows bits f) e

pub form_of_row : (rows : List Row) (bits i : ℕ) (r : Row) → IsTrue (are_apart rows) → slice_get rows i ≡ Some r → IsTrue (fits r.fixed bits) → first_form rows bits ≡ Some r.form
form_of_row [] bits i r a e h = cc
form_of_row (t ∷ rows) bits zero r a e h = grind arith
form_of_row (t ∷ rows) bits (suc i) r a e h = grind (arith, not_any t.fixed rows bits i r, form_of_row rows bits i r)

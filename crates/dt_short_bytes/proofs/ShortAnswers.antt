-- The answer of decode2 against the definitions of spellings and forms.
use Rattle.std.proofs.Common.{◌≡◌, ℕ, zero, suc, ◌-◌, ◌<◌, ◌≤◌, ◌⊎◌, List, [], ◌∷◌, ◌++◌, length, take, Option, Some, None, Result, Ok, Err, refl, sym, ap, subst, ◌∙◌, arith, inl, inr}
use Rattle.std.specs.Prelude.{◌↔◌}
use Rattle.std.proofs.lemmas.Bool.{cases_lt}
use Rattle.std.proofs.lemmas.List.{append_assoc, append-nil, length-append, take_at}
use Rattle.dt_record.specs.declared.records.Record.{Record}
use Rattle.dt_record.specs.Spelling.{short_bytes}
use Rattle.dt_record_bytes.specs.declared.decoded.Decoded.{Decoded}
use Rattle.dt_record_bytes.specs.declared.decoded.Decoded.TheVariants as answers
use Rattle.dt_short_bytes.specs.declared.short_pieces.Stop.{Stop}
use Rattle.dt_short_bytes.specs.declared.short_pieces.Stop.TheVariants as stops
use Rattle.dt_short_bytes.specs.ShortForms.{Form, form_bytes, FitsForm, IsForm, IsFormPrefix, IsUnfinished, StartsWithForm, IsLongest, StartsWith, IsGot, IsBad}
use Rattle.dt_short_bytes.specs.ShortReading.{Read, read_at, record_at, got_or_bad, decoded_with, decoded_at}
use Rattle.dt_short_bytes.proofs.ShortGrammar.{IsBytes, Reads, Takes, Lacks, Breaks, Reads-done, Reads-short}
use Rattle.dt_short_bytes.proofs.ShortChain.{ReadText, Read-free, read_reads, read_of_form, to_form, from_form}
use Rattle.dt_short_bytes.proofs.ShortRecords.{form_of, spelling_is, form_fits, record_again, record_takes}

-- what is read of a form is a form
is_form : (text : List ℕ) (read : Read) → ReadText text read → IsForm text
is_form text read piece =
    let r = to_form text read piece in
    (r.form, r.fits, r.text_is)

pub form_text : (f : Form) (text : List ℕ) → FitsForm f → text ≡ form_bytes f → ReadText text (read_of_form f)
form_text f text fits e = subst (λ (t : List ℕ). ReadText t (read_of_form f)) (sym e) (from_form f fits)

-- ---- Got

got_text : (last : ℕ) (bytes : List ℕ) (read : Read) (rest : List ℕ) (r : Record) (len : ℕ) → Takes ReadText bytes read rest → record_at last read ≡ Some r → length bytes - length rest ≡ len → IsGot last bytes r len
got_text last bytes read rest r len h said long =
    let piece = to_form h.text read h.piece in
    let is = record_takes last piece.form r piece.fits (ap (record_at last) (sym piece.read_is) ∙ said) in
    let spelled : h.text ≡ short_bytes last r = piece.text_is ∙ ap form_bytes is.form_is ∙ sym (spelling_is last r) in
    let whole : bytes ≡ short_bytes last r ++ rest = h.parts ∙ ap (λ (t : List ℕ). t ++ rest) spelled in
    let count : len ≡ length (short_bytes last r) = omega (arith, ap length whole, length-append (short_bytes last r) rest) in
    (count, rest, record { follows = is.follows; spelled = whole })

same_got : (r s : Record) (m n : ℕ) (P : Record → ℕ → Type 0) → answers.Got r m ≡ answers.Got s n → P r m → P s n
same_got r s m n P e h =
    let record_is : r ≡ s = cc in
    let len_is : m ≡ n = cc in
    subst (P s) len_is (subst (λ (x : Record). P x m) record_is h)

got_of : (last : ℕ) (bytes : List ℕ) (read : Read) (rest : List ℕ) (r : Record) (len : ℕ) → Takes ReadText bytes read rest → (o : Option Record) → record_at last read ≡ o
    → got_or_bad o (length bytes - length rest) ≡ answers.Got r len → IsGot last bytes r len
got_of last bytes read rest r len h (Some s) eo e = same_got s r (length bytes - length rest) len (IsGot last bytes) e (got_text last bytes read rest s (length bytes - length rest) h eo refl)
got_of last bytes read rest r len h None eo e = absurd cc

got_from : (last : ℕ) (bytes : List ℕ) (r : Record) (len : ℕ) (a : Result (Read × List ℕ) Stop) → Reads ReadText bytes a → decoded_with last (length bytes) a ≡ answers.Got r len → IsGot last bytes r len
got_from last bytes r len (Ok x) h e = got_of last bytes x.0 x.1 r len h (record_at last x.0) refl e
got_from last bytes r len (Err stops.Short) h e = absurd cc
got_from last bytes r len (Err (stops.Bad left)) h e = absurd cc

-- what is spelled is read
pub read_spelled : (last : ℕ) (bytes : List ℕ) (r : Record) (rest : List ℕ) → IsBytes bytes → StartsWith last bytes r rest → read_at bytes ≡ Ok (read_of_form (form_of last r), rest)
read_spelled last bytes r rest fits starts =
    let f = form_of last r in
    let piece = form_text f (short_bytes last r) (form_fits last r starts.follows) (spelling_is last r) in
    Reads-done ReadText Read-free bytes (short_bytes last r) rest (read_of_form f) piece starts.spelled (read_at bytes) (read_reads bytes fits)

pub got_back : (last : ℕ) (bytes : List ℕ) (r : Record) (rest : List ℕ) → IsBytes bytes → StartsWith last bytes r rest → decoded_at last bytes ≡ answers.Got r (length (short_bytes last r))
unfolding decoded_at
got_back last bytes r rest fits starts =
    let len : length bytes - length rest ≡ length (short_bytes last r) = omega (arith, ap length starts.spelled, length-append (short_bytes last r) rest) in
    ap (decoded_with last (length bytes)) (read_spelled last bytes r rest fits starts)
    ∙ ap (λ (o : Option Record). got_or_bad o (length bytes - length rest)) (record_again last r starts.follows)
    ∙ ap (λ (n : ℕ). answers.Got r n) len

pub got_law : (last : ℕ) (bytes : List ℕ) → IsBytes bytes → (r : Record) (len : ℕ) → (decoded_at last bytes ≡ answers.Got r len) ↔ IsGot last bytes r len
unfolding decoded_at
got_law last bytes fits r len = (
  λ e. got_from last bytes r len (read_at bytes) (read_reads bytes fits) e,
  λ is. got_back last bytes r is.1 fits is.2 ∙ ap (λ (n : ℕ). answers.Got r n) (sym is.0),
)

-- ---- Short

not_short : (o : Option Record) (len : ℕ) → got_or_bad o len ≡ answers.Short → ⊥
not_short (Some r) len e = absurd cc
not_short None len e = absurd cc

short_from : (last : ℕ) (bytes : List ℕ) (a : Result (Read × List ℕ) Stop) → Reads ReadText bytes a → decoded_with last (length bytes) a ≡ answers.Short → IsUnfinished bytes
short_from last bytes (Ok x) h e = absurd (not_short (record_at last x.0) (length bytes - length x.1) e)
short_from last bytes (Err stops.Short) h e = (h.next, h.more, is_form (bytes ++ h.next ∷ h.more) h.x h.piece)
short_from last bytes (Err (stops.Bad left)) h e = absurd cc

lacks : (bytes : List ℕ) → IsUnfinished bytes → Lacks ReadText bytes
lacks bytes is = record { next = is.0; more = is.1; x = read_of_form is.2.0; piece = form_text is.2.0 (bytes ++ is.0 ∷ is.1) is.2.1 is.2.2 }

short_back : (last : ℕ) (bytes : List ℕ) → IsBytes bytes → IsUnfinished bytes → decoded_at last bytes ≡ answers.Short
unfolding decoded_at
short_back last bytes fits is = ap (decoded_with last (length bytes)) (Reads-short ReadText Read-free bytes (lacks bytes is) (read_at bytes) (read_reads bytes fits))

pub short_law : (last : ℕ) (bytes : List ℕ) → IsBytes bytes → (decoded_at last bytes ≡ answers.Short) ↔ IsUnfinished bytes
unfolding decoded_at
short_law last bytes fits = (λ e. short_from last bytes (read_at bytes) (read_reads bytes fits) e, λ is. short_back last bytes fits is)

-- ---- Bad

take_past : (good rest : List ℕ) (wrong n : ℕ) → length good < n → take n (good ++ wrong ∷ rest) ≡ good ++ wrong ∷ take (n - suc (length good)) rest
take_past good rest wrong zero lt = absurd (omega arith)
take_past [] rest wrong (suc n) lt = ap (λ (k : ℕ). wrong ∷ take k rest) (let e : n ≡ suc n - 1 = omega arith in e)
take_past (g ∷ good) rest wrong (suc n) lt =
    let less : n - suc (length good) ≡ suc n - suc (suc (length good)) = omega arith in
    ap (λ (t : List ℕ). g ∷ t) (take_past good rest wrong n (omega arith)) ∙ ap (λ (k : ℕ). g ∷ good ++ wrong ∷ take k rest) less

not_longer : (bytes : List ℕ) (left n : ℕ) (h : Breaks ReadText bytes left) → IsFormPrefix (take n bytes) → length h.good < n → ⊥
not_longer bytes left n h prefix lt =
    let back = take (n - suc (length h.good)) h.rest in
    let cut : take n bytes ≡ h.good ++ h.wrong ∷ back = ap (take n) h.parts ∙ take_past h.good h.rest h.wrong n lt in
    let whole : (take n bytes ++ prefix.0) ++ [] ≡ h.good ++ h.wrong ∷ (back ++ prefix.0) =
    append-nil (take n bytes ++ prefix.0) ∙ ap (λ (t : List ℕ). t ++ prefix.0) cut ∙ append_assoc h.good (h.wrong ∷ back) prefix.0 in
    h.never (take n bytes ++ prefix.0) [] (back ++ prefix.0) (read_of_form prefix.1.0) (form_text prefix.1.0 (take n bytes ++ prefix.0) prefix.1.1 prefix.1.2) whole

no_form : (bytes : List ℕ) (left : ℕ) → Breaks ReadText bytes left → StartsWithForm bytes → ⊥
no_form bytes left h starts =
    h.never starts.0 starts.1 h.rest (read_of_form starts.2.0) (form_text starts.2.0 starts.0 starts.2.1 starts.2.2) (sym starts.3 ∙ h.parts)

good_long : (bytes : List ℕ) (left : ℕ) (h : Breaks ReadText bytes left) → length h.good ≡ length bytes - left
good_long bytes left h = omega (arith, ap length h.parts, length-append h.good (h.wrong ∷ h.rest), h.left_is)

longest : (bytes : List ℕ) (left : ℕ) → Breaks ReadText bytes left → IsLongest bytes (length bytes - left)
longest bytes left h =
    let long = good_long bytes left h in
    let cut : take (length bytes - left) bytes ≡ h.good = ap (take (length bytes - left)) h.parts ∙ take_at h.good (h.wrong ∷ h.rest) (length bytes - left) long in
    record {
      within = omega arith;
      is_prefix = (h.more, subst IsForm (ap (λ (t : List ℕ). t ++ h.more) (sym cut)) (is_form (h.good ++ h.more) h.x h.piece));
      longest = λ n le prefix.
          elim (cases_lt (length h.good) n) [
            | inl lt ↦ absurd (not_longer bytes left n h prefix lt)
            | inr small ↦ omega arith
          ];
    }

-- what a wrong answer says of the place
record IsPlace (bytes : List ℕ) (at : ℕ) : Type 0 where
  at_form : StartsWithForm bytes → at ≡ 0
  at_prefix : (StartsWithForm bytes → ⊥) → IsLongest bytes at
  known : StartsWithForm bytes ⊎ (StartsWithForm bytes → ⊥)

same_bad : (m n : ℕ) → answers.Bad m ≡ answers.Bad n → m ≡ n
same_bad m n e = cc

place_of : (bytes : List ℕ) (x : Read × List ℕ) (at : ℕ) → Takes ReadText bytes x.0 x.1 → (o : Option Record) → got_or_bad o (length bytes - length x.1) ≡ answers.Bad at → IsPlace bytes at
place_of bytes x at h (Some r) e = absurd cc
place_of bytes x at h None e =
    let first : at ≡ 0 = sym (same_bad 0 at e) in
    let starts : StartsWithForm bytes = (h.text, x.1, is_form h.text x.0 h.piece, h.parts) in
    record { at_form = λ s. first; at_prefix = λ none. absurd (none starts); known = inl starts }

place_from : (last : ℕ) (bytes : List ℕ) (at : ℕ) (a : Result (Read × List ℕ) Stop) → Reads ReadText bytes a → decoded_with last (length bytes) a ≡ answers.Bad at → IsPlace bytes at
place_from last bytes at (Ok x) h e = place_of bytes x at h (record_at last x.0) e
place_from last bytes at (Err stops.Short) h e = absurd cc
place_from last bytes at (Err (stops.Bad left)) h e =
    let place : length bytes - left ≡ at = same_bad (length bytes - left) at e in
    record {
      at_form = λ s. absurd (no_form bytes left h s);
      at_prefix = λ none. subst (IsLongest bytes) place (longest bytes left h);
      known = inr (no_form bytes left h);
    }

bad_forth : (last : ℕ) (bytes : List ℕ) → IsBytes bytes → (at : ℕ) → decoded_at last bytes ≡ answers.Bad at → IsBad last bytes at
unfolding decoded_at
bad_forth last bytes fits at e =
    let place = place_from last bytes at (read_at bytes) (read_reads bytes fits) e in
    record {
      no_record = λ r rest starts. let got = got_back last bytes r rest fits starts in absurd cc;
      not_unfinished = λ is. let short = short_back last bytes fits is in absurd cc;
      at_form = place.at_form;
      at_prefix = place.at_prefix;
    }

same_place : (last : ℕ) (bytes : List ℕ) (m n : ℕ) → StartsWithForm bytes ⊎ (StartsWithForm bytes → ⊥) → IsBad last bytes m → IsBad last bytes n → m ≡ n
same_place last bytes m n known a b =
    elim known [
      | inl starts ↦ a.at_form starts ∙ sym (b.at_form starts)
      | inr none ↦
          let x = a.at_prefix none in
          let y = b.at_prefix none in
          let le : m ≤ n = y.longest m x.within x.is_prefix in
          let ge : n ≤ m = x.longest n y.within y.is_prefix in
          omega arith
    ]

bad_cases : (last : ℕ) (bytes : List ℕ) → IsBytes bytes → (at : ℕ) → IsBad last bytes at → (d : Decoded) → decoded_at last bytes ≡ d → d ≡ answers.Bad at
unfolding decoded_at
bad_cases last bytes fits at is (answers.Got r len) e =
    let got = (got_law last bytes fits r len).0 e in
    absurd (is.no_record r got.1 got.2)
bad_cases last bytes fits at is answers.Short e = absurd (is.not_unfinished ((short_law last bytes fits).0 e))
bad_cases last bytes fits at is (answers.Bad found) e =
    let place = place_from last bytes found (read_at bytes) (read_reads bytes fits) e in
    ap (λ (n : ℕ). answers.Bad n) (same_place last bytes found at place.known (bad_forth last bytes fits found e) is)

pub bad_law : (last : ℕ) (bytes : List ℕ) → IsBytes bytes → (at : ℕ) → (decoded_at last bytes ≡ answers.Bad at) ↔ IsBad last bytes at
bad_law last bytes fits at = (λ e. bad_forth last bytes fits at e, λ is. bad_cases last bytes fits at is (decoded_at last bytes) refl)

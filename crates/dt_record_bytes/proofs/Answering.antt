-- What the answer to bytes is, and that it is one.
use Rattle.std.proofs.Common.{◌≡◌, ℕ, ◌<◌, ◌≤◌, ◌^◌, List, [], ◌∷◌, ◌++◌, length, drop, get_or, None, Some, refl, sym, ap, ◌∙◌, subst, append_assoc, inl, inr, arith}
use Rattle.std.proofs.lemmas.List.{length-append, drop_at}
use Rattle.dt_record.specs.declared.records.Record.{Record}
use Rattle.dt_record.specs.declared.records.Body.{Body}
use Rattle.dt_record.specs.Lawful.{FitsRecord, IsLawful}
use Rattle.dt_record.specs.Tags.{tag_number}
use Rattle.dt_record.specs.Spelling.{double, wide_bytes, end_bytes}
use Rattle.dt_record_bytes.specs.declared.decoded.Decoded.{Decoded}
use Rattle.dt_record_bytes.specs.declared.decoded.Decoded.TheVariants.{Got, Short, Bad}
use Rattle.dt_record_bytes.specs.WideAnswer.{IsSpelled, LacksRecord, wide_length, HasKind, IsCut, body_bytes_with, wide_bytes_with, HasFields, bounds_with, first_broken, HasNoKind, IsBroken, IsWideAnswer}
use Rattle.dt_record_bytes.proofs.SpellingLaws.{doubles_are_one}
use Rattle.dt_record_bytes.specs.WideReading.{Whole, whole}
use Rattle.dt_record_bytes.proofs.Apart.{fields_are_one}
use Rattle.dt_record_bytes.proofs.Bounds.{wrote_byte_of, wrote_byte_is, same_bytes, lawful_of_unbroken, unbroken_of_lawful, byte_of_unbroken}
use Rattle.dt_record_bytes.proofs.Lengths.{wide_length_is, usual_length}

-- the first two bytes, and the others
cells : (bytes : List ℕ) → 2 ≤ length bytes → bytes ≡ get_or bytes 0 0 ∷ get_or bytes 1 0 ∷ drop 2 bytes
cells [] long = absurd (omega arith)
cells (a ∷ []) long = absurd (omega arith)
cells (a ∷ b ∷ bytes) long = refl

-- the fields, taken one after the other
pub fields_in_order : (bytes later after rest : List ℕ) (stamp w : ℕ) (b : Body) → 2 ≤ length bytes → later ≡ drop 2 bytes → later ≡ double stamp ++ after → after ≡ body_bytes_with w b ++ rest → tag_number b ≡ get_or bytes 0 0 → bytes ≡ wide_bytes_with w (record { stamp = stamp; hart = get_or bytes 1 0; body = b }) ++ rest
unfolding wide_bytes_with
fields_in_order bytes later after rest stamp w b long drops spelled body kind =
    let all : drop 2 bytes ≡ (double stamp ++ body_bytes_with w b) ++ rest = sym drops ∙ spelled ∙ ap (λ (z : List ℕ). double stamp ++ z) body ∙ sym (append_assoc (double stamp) (body_bytes_with w b) rest) in
    cells bytes long ∙ ap (λ (z : List ℕ). get_or bytes 0 0 ∷ get_or bytes 1 0 ∷ z) all ∙ ap (λ (t : ℕ). t ∷ get_or bytes 1 0 ∷ ((double stamp ++ body_bytes_with w b) ++ rest)) (sym kind)

-- Fields and spellings.

fields_of_spelled : (bytes : List ℕ) (r : Record) (rest : List ℕ) → IsSpelled bytes r rest → HasFields bytes r (wrote_byte_of r.body) rest
fields_of_spelled bytes r rest s = record {
  fits = s.fits;
  wrote = wrote_byte_is r.body;
  spelled = s.spelled ∙ ap (λ (z : List ℕ). z ++ rest) (sym (same_bytes r));
}

spelled_of_fields : (bytes : List ℕ) (r : Record) (w : ℕ) (rest : List ℕ) → HasFields bytes r w rest → first_broken (bounds_with w r) ≡ None → IsSpelled bytes r rest
spelled_of_fields bytes r w rest h unbroken = record {
  fits = h.fits;
  lawful = lawful_of_unbroken r w unbroken;
  spelled = h.spelled ∙ ap (λ (n : ℕ). wide_bytes_with n r ++ rest) (byte_of_unbroken r w h.wrote unbroken) ∙ ap (λ (z : List ℕ). z ++ rest) (same_bytes r);
}

pub length_of_spelling : (r : Record) → FitsRecord r → wide_length (tag_number r.body) ≡ Some (length (wide_bytes r))
length_of_spelling r fits = wide_length_is r (wrote_byte_of r.body) fits ∙ ap (λ (z : List ℕ). Some (length z)) (same_bytes r)

pub some_is_one : (m n : ℕ) → Some m ≡ Some n → m ≡ n
some_is_one m n e = cc

pub answer_of_spelled : (bytes : List ℕ) (r : Record) (rest : List ℕ) → IsSpelled bytes r rest → IsWideAnswer bytes (Got r (length (wide_bytes r)))
answer_of_spelled bytes r rest s =
    let left : drop (length (wide_bytes r)) bytes ≡ rest = ap (drop (length (wide_bytes r))) s.spelled ∙ drop_at (wide_bytes r) rest (length (wide_bytes r)) refl in
    (subst (λ (z : List ℕ). IsSpelled bytes r z) (sym left) s, refl)

pub got_answer : (bytes : List ℕ) (r : Record) (w : ℕ) (rest : List ℕ) (len : ℕ) → HasFields bytes r w rest → wide_length (tag_number r.body) ≡ Some len → None ≡ first_broken (bounds_with w r) → IsWideAnswer bytes (Got r len)
got_answer bytes r w rest len h is unbroken =
    let s = spelled_of_fields bytes r w rest h (sym unbroken) in
    let same : length (wide_bytes r) ≡ len = some_is_one _ _ (sym (length_of_spelling r h.fits) ∙ is) in
    subst (λ (n : ℕ). IsWideAnswer bytes (Got r n)) same (answer_of_spelled bytes r rest s)

pub bad_answer : (bytes : List ℕ) (r : Record) (w : ℕ) (rest : List ℕ) (place : ℕ) → HasFields bytes r w rest → Some place ≡ first_broken (bounds_with w r) → IsWideAnswer bytes (Bad place)
bad_answer bytes r w rest place h broken = inr (record { fields = r; wrote_byte = w; rest = rest; has = h; broken = sym broken })

-- One answer.

kind_of_fields : (bytes : List ℕ) (r : Record) (w : ℕ) (rest : List ℕ) → HasFields bytes r w rest → HasKind bytes (length (wide_bytes_with w r))
unfolding wide_bytes_with
kind_of_fields bytes r w rest h = record {
  tag = tag_number r.body;
  after = r.hart ∷ (double r.stamp ++ body_bytes_with w r.body) ++ rest;
  begins = h.spelled;
  len_is = wide_length_is r w h.fits;
}

kinds_are_one : (bytes : List ℕ) (m n : ℕ) → HasKind bytes m → HasKind bytes n → m ≡ n
kinds_are_one bytes m n a b =
    let heads : a.tag ∷ a.after ≡ b.tag ∷ b.after = sym a.begins ∙ b.begins in
    let tags : a.tag ≡ b.tag = cc in
    some_is_one m n (sym a.len_is ∙ ap wide_length tags ∙ b.len_is)

kind_or_none : (bytes : List ℕ) (m : ℕ) → HasKind bytes m → HasNoKind bytes → ⊥
kind_or_none bytes m a b =
    let heads : a.tag ∷ a.after ≡ b.tag ∷ b.after = sym a.begins ∙ b.begins in
    let tags : a.tag ≡ b.tag = cc in
    let clash : Some m ≡ None = sym a.len_is ∙ ap wide_length tags ∙ b.unknown in
    cc

cut_or_fields : (bytes : List ℕ) (r : Record) (w : ℕ) (rest : List ℕ) → IsCut bytes → HasFields bytes r w rest → ⊥
cut_or_fields bytes r w rest (inl empty) h =
    let k = kind_of_fields bytes r w rest h in
    let clash : k.tag ∷ k.after ≡ [] = sym k.begins ∙ empty in
    cc
cut_or_fields bytes r w rest (inr (len, kind, few)) h =
    let same = kinds_are_one bytes len (length (wide_bytes_with w r)) kind (kind_of_fields bytes r w rest h) in
    omega (arith, same, few, ap length h.spelled, length-append (wide_bytes_with w r) rest)

cut_or_none : (bytes : List ℕ) → IsCut bytes → HasNoKind bytes → ⊥
cut_or_none bytes (inl empty) none =
    let clash : none.tag ∷ none.after ≡ [] = sym none.begins ∙ empty in
    cc
cut_or_none bytes (inr (len, kind, few)) none = kind_or_none bytes len kind none

same_fields : (bytes : List ℕ) (r q : Record) (w v : ℕ) (x y : List ℕ) → HasFields bytes r w x → HasFields bytes q v y → whole r w x ≡ whole q v y
same_fields bytes r q w v x y h k = fields_are_one r q w v x y h.fits k.fits h.wrote k.wrote (sym h.spelled ∙ k.spelled)

spelled_or_broken : (bytes : List ℕ) (r : Record) (rest : List ℕ) (place : ℕ) → IsSpelled bytes r rest → IsBroken bytes place → ⊥
spelled_or_broken bytes r rest place s b =
    let same = same_fields bytes r b.fields (wrote_byte_of r.body) b.wrote_byte rest b.rest (fields_of_spelled bytes r rest s) b.has in
    let clash : None ≡ Some place = sym (unbroken_of_lawful r s.lawful) ∙ ap (λ (p : Whole). first_broken (bounds_with p.1 p.0)) same ∙ b.broken in
    cc

broken_is_one : (bytes : List ℕ) (m n : ℕ) → IsBroken bytes m → IsBroken bytes n → m ≡ n
broken_is_one bytes m n a b =
    let same = same_fields bytes a.fields b.fields a.wrote_byte b.wrote_byte a.rest b.rest a.has b.has in
    some_is_one m n (sym a.broken ∙ ap (λ (p : Whole). first_broken (bounds_with p.1 p.0)) same ∙ b.broken)

fields_or_none : (bytes : List ℕ) (r : Record) (w : ℕ) (rest : List ℕ) → HasFields bytes r w rest → HasNoKind bytes → ⊥
fields_or_none bytes r w rest h none = kind_or_none bytes _ (kind_of_fields bytes r w rest h) none

pub spellings_are_one : (r q : Record) (x y : List ℕ) → FitsRecord r → FitsRecord q → wide_bytes r ++ x ≡ wide_bytes q ++ y → (r ≡ q) × (x ≡ y)
spellings_are_one r q x y f g same =
    let e = ap (λ (z : List ℕ). z ++ x) (same_bytes r) ∙ same ∙ ap (λ (z : List ℕ). z ++ y) (sym (same_bytes q)) in
    let one = fields_are_one r q (wrote_byte_of r.body) (wrote_byte_of q.body) x y f g (wrote_byte_is r.body) (wrote_byte_is q.body) e in
    (ap (λ (p : Whole). p.0) one, ap (λ (p : Whole). p.2) one)

spelled_or_bad : (bytes : List ℕ) (r : Record) (rest : List ℕ) (place : ℕ) → IsSpelled bytes r rest → IsWideAnswer bytes (Bad place) → ⊥
spelled_or_bad bytes r rest place s (inl none) = fields_or_none bytes r (wrote_byte_of r.body) rest (fields_of_spelled bytes r rest s) none.1
spelled_or_bad bytes r rest place s (inr broken) = spelled_or_broken bytes r rest place s broken

spelled_or_cut : (bytes : List ℕ) (r : Record) (rest : List ℕ) → IsSpelled bytes r rest → IsCut bytes → ⊥
spelled_or_cut bytes r rest s cut = cut_or_fields bytes r (wrote_byte_of r.body) rest cut (fields_of_spelled bytes r rest s)

cut_or_bad : (bytes : List ℕ) (place : ℕ) → IsCut bytes → IsWideAnswer bytes (Bad place) → ⊥
cut_or_bad bytes place cut (inl none) = cut_or_none bytes cut none.1
cut_or_bad bytes place cut (inr b) = cut_or_fields bytes b.fields b.wrote_byte b.rest cut b.has

bad_is_one : (bytes : List ℕ) (m n : ℕ) → IsWideAnswer bytes (Bad m) → IsWideAnswer bytes (Bad n) → m ≡ n
bad_is_one bytes m n (inl a) (inl b) = a.0 ∙ sym b.0
bad_is_one bytes m n (inl a) (inr b) = absurd (fields_or_none bytes b.fields b.wrote_byte b.rest b.has a.1)
bad_is_one bytes m n (inr a) (inl b) = absurd (fields_or_none bytes a.fields a.wrote_byte a.rest a.has b.1)
bad_is_one bytes m n (inr a) (inr b) = broken_is_one bytes m n a b

got_is_one : (bytes : List ℕ) (r q : Record) (m n : ℕ) → IsWideAnswer bytes (Got r m) → IsWideAnswer bytes (Got q n) → Got r m ≡ Got q n
got_is_one bytes r q m n a b =
    let same = (spellings_are_one r q _ _ a.0.fits b.0.fits (sym a.0.spelled ∙ b.0.spelled)).0 in
    let lens : m ≡ n = a.1 ∙ ap (λ (e : Record). length (wide_bytes e)) same ∙ sym b.1 in
    ap (λ (e : Record). Got e m) same ∙ ap (λ (k : ℕ). Got q k) lens

pub answer_is_one : (bytes : List ℕ) (x y : Decoded) → IsWideAnswer bytes x → IsWideAnswer bytes y → x ≡ y
answer_is_one bytes (Got r m) (Got q n) a b = got_is_one bytes r q m n a b
answer_is_one bytes (Got r m) Short a b = absurd (spelled_or_cut bytes r _ a.0 b)
answer_is_one bytes (Got r m) (Bad place) a b = absurd (spelled_or_bad bytes r _ place a.0 b)
answer_is_one bytes Short (Got r m) a b = absurd (spelled_or_cut bytes r _ b.0 a)
answer_is_one bytes Short Short a b = refl
answer_is_one bytes Short (Bad place) a b = absurd (cut_or_bad bytes place a b)
answer_is_one bytes (Bad place) (Got r m) a b = absurd (spelled_or_bad bytes r _ place b.0 a)
answer_is_one bytes (Bad place) Short a b = absurd (cut_or_bad bytes place b a)
answer_is_one bytes (Bad m) (Bad n) a b = ap (λ (k : ℕ). Bad k) (bad_is_one bytes m n a b)

-- What an answer tells of more bytes.

pub bad_stays : (bytes more : List ℕ) (place : ℕ) → IsWideAnswer bytes (Bad place) → IsWideAnswer (bytes ++ more) (Bad place)
bad_stays bytes more place (inl none) =
    inl (none.0, record { tag = none.1.tag; after = none.1.after ++ more; begins = ap (λ (z : List ℕ). z ++ more) none.1.begins; unknown = none.1.unknown })
bad_stays bytes more place (inr b) =
    let spelled : bytes ++ more ≡ wide_bytes_with b.wrote_byte b.fields ++ (b.rest ++ more) = ap (λ (z : List ℕ). z ++ more) b.has.spelled ∙ append_assoc (wide_bytes_with b.wrote_byte b.fields) b.rest more in
    inr (record { fields = b.fields; wrote_byte = b.wrote_byte; rest = b.rest ++ more; has = record { fits = b.has.fits; wrote = b.has.wrote; spelled = spelled }; broken = b.broken })

pub bad_lacks : (bytes more : List ℕ) (place : ℕ) → IsWideAnswer bytes (Bad place) → LacksRecord (bytes ++ more)
bad_lacks bytes more place bad r rest s = spelled_or_bad (bytes ++ more) r rest place s (bad_stays bytes more place bad)

pub cut_lacks : (bytes : List ℕ) → IsCut bytes → LacksRecord bytes
cut_lacks bytes cut r rest s = spelled_or_cut bytes r rest s cut

pub cut_is_below : (bytes : List ℕ) → IsCut bytes → length bytes < 266
cut_is_below bytes (inl empty) = omega (arith, ap length empty)
cut_is_below bytes (inr (len, kind, few)) =
    let usual = usual_length kind.tag len kind.len_is in
    omega (arith, usual.1, few)

pub got_is_usual : (bytes : List ℕ) (r : Record) (len : ℕ) → IsWideAnswer bytes (Got r len) → (10 ≤ len) × (len ≤ 266) × (len ≤ length bytes)
got_is_usual bytes r len a =
    let usual = usual_length (tag_number r.body) (length (wide_bytes r)) (length_of_spelling r a.0.fits) in
    (omega (arith, usual.0, a.1), omega (arith, usual.1, a.1), omega (arith, a.1, ap length a.0.spelled, length-append (wide_bytes r) (drop len bytes)))

pub at_short : (bytes : List ℕ) (x : Decoded) → IsWideAnswer bytes x → x ≡ Short → LacksRecord bytes × (length bytes < 266)
at_short bytes x is short =
    let cut = subst (λ (d : Decoded). IsWideAnswer bytes d) short is in
    (cut_lacks bytes cut, cut_is_below bytes cut)

pub at_bad : (bytes more : List ℕ) (place : ℕ) (x : Decoded) → IsWideAnswer bytes x → x ≡ Bad place → LacksRecord (bytes ++ more)
at_bad bytes more place x is bad = bad_lacks bytes more place (subst (λ (d : Decoded). IsWideAnswer bytes d) bad is)

pub at_got : (bytes : List ℕ) (r : Record) (len : ℕ) (x : Decoded) → IsWideAnswer bytes x → x ≡ Got r len → (10 ≤ len) × (len ≤ 266) × (len ≤ length bytes)
at_got bytes r len x is got = got_is_usual bytes r len (subst (λ (d : Decoded). IsWideAnswer bytes d) got is)

-- no spelling of a record is that of a file's end
pub spelling_is_no_end : (r : Record) (count : ℕ) (x y : List ℕ) → FitsRecord r → wide_bytes r ++ x ≡ end_bytes count ++ y → ⊥
unfolding wide_bytes end_bytes
spelling_is_no_end r count x y fits same =
    let tag : tag_number r.body ≡ 255 = cc in
    let clash : None ≡ Some (length (wide_bytes r)) = sym (ap wide_length tag) ∙ length_of_spelling r fits in
    cc

pub ends_are_one : (m n : ℕ) (x y : List ℕ) → m < 2 ^ 64 → n < 2 ^ 64 → end_bytes m ++ x ≡ end_bytes n ++ y → (m ≡ n) × (x ≡ y)
unfolding end_bytes
ends_are_one m n x y f g same =
    let numbers : double m ++ x ≡ double n ++ y = cc in
    doubles_are_one m n x y f g numbers

pub spelling_is_usual : (r : Record) → FitsRecord r → (10 ≤ length (wide_bytes r)) × (length (wide_bytes r) ≤ 266)
spelling_is_usual r fits = usual_length (tag_number r.body) (length (wide_bytes r)) (length_of_spelling r fits)

pub read_again : (r : Record) (rest : List ℕ) (x : Decoded) → FitsRecord r → IsLawful r → IsWideAnswer (wide_bytes r ++ rest) x → x ≡ Got r (length (wide_bytes r))
read_again r rest x fits lawful is =
    answer_is_one (wide_bytes r ++ rest) x (Got r (length (wide_bytes r))) is (answer_of_spelled (wide_bytes r ++ rest) r rest (record { fits = fits; lawful = lawful; spelled = refl }))

-- The answers that are computed of bytes are those of the grammar.
use Rattle.std.proofs.Common.{◌≡◌, ℕ, zero, suc, ◌+◌, ◌^◌, ◌<◌, ◌≤◌, inl, inr, Bool, true, false, ◌&&◌, IsTrue, List, [], ◌∷◌, ◌++◌, length, take, drop, Option, Some, None, refl, sym, ap, ◌∙◌, subst, arith}
use Rattle.std.specs.Prelude.{Decides, ◌==◌, if◌then◌else◌, nat_lt, nat_le}
use Rattle.std.specs.List.{AllByRecursion}
use Rattle.std.specs.Cmp.Lexicographic.{bytes_decides}
use Rattle.std.specs.Str.{bytes_eq}
use Rattle.std.proofs.lemmas.Bool.{both_ways, eqb-true, eq-eqb, leb-true, leb-false, le-leb, ltb-true, ltb-false}
use Rattle.std.proofs.lemmas.Bool.Decides.{Decides-and, Decides-like, Decides-ltb}
use Rattle.std.proofs.lemmas.List.{take_at, take-append-drop, append-nil, length-append}
use Rattle.dt_record.specs.declared.limits.TheConstants.{RECORD_LIMIT, WRITE_LIMIT}
use Rattle.dt_record.specs.declared.records.Record.{Record}
use Rattle.dt_record.specs.declared.records.Retire.{Retire}
use Rattle.dt_record.specs.declared.records.Body.{Body}
use Rattle.dt_record.specs.declared.records.Body.TheVariants.{Commit, Trap, Regs, Csrs, Load, Store, Atomic, Drain, Refill, Beat}
use Rattle.dt_record.specs.declared.writes.What.TheVariants.{Records, Writes}
use Rattle.dt_record.specs.declared.streams.Next.{Next}
use Rattle.dt_record.specs.declared.streams.Next.TheVariants.{Event, End, Malformed, Limit}
use Rattle.dt_record.specs.Lawful.{FitsRetire, FitsList, FitsBody, FitsRecord, is_lawful}
use Rattle.dt_record.specs.Spelling.{Version, One, Two, half, word, record_bytes, wide_bytes, short_bytes, end_bytes}
use Rattle.dt_record.specs.ProbeFile.{header_bytes}
use Rattle.dt_record.specs.Answers.{Reading, opened, header_fault, after_record, writes_with, spelled_next, GoesOn, AreAnswersAfter, AreAnswers}
use Rattle.dt_record_bytes.specs.WideReading.{Proposal}
use Rattle.dt_record_bytes.proofs.SpellingLaws.{length-double}
use Rattle.dt_probe_file.specs.Computing.{are_below, fit_list, fits_retire, fits_body, fits_record, front, goes_on, last_answers, record_answers, answers_within, answers_after, version_in, harts_in, wide_in, answers_by, answers_of}
use Rattle.dt_probe_file.specs.Fronts.{IsRead}
use Rattle.dt_probe_file.proofs.Proposed.{is_proposed, reads_are_one, read_of_next}
use Rattle.dt_probe_file.proofs.HeaderFields.{SameHeader, header_of}

-- What the tests decide.

three : {A B C : Type 0} (x y z : Bool) → Decides x A → Decides y B → Decides z C → Decides (x && (y && z)) (A × B × C)
three {A} {B} {C} x y z a b c =
    Decides-like (x && (y && z)) (λ (h : A × (B × C)). (h.0, h.1.0, h.1.1)) (λ (h : A × B × C). (h.0, (h.1, h.2)))
    (Decides-and x (y && z) a (Decides-and y z b c))

four : {A B C D : Type 0} (x y z w : Bool) → Decides x A → Decides y B → Decides z C → Decides w D → Decides (x && (y && (z && w))) (A × B × C × D)
four {A} {B} {C} {D} x y z w a b c d =
    Decides-like (x && (y && (z && w))) (λ (h : A × (B × C × D)). (h.0, h.1.0, h.1.1, h.1.2)) (λ (h : A × B × C × D). (h.0, (h.1, h.2, h.3)))
    (Decides-and x (y && (z && w)) a (three y z w b c d))

number : (n bound : ℕ) → Decides (nat_lt n bound) (n < bound)
number n bound = Decides-ltb n bound

at_most : (m n : ℕ) → Decides (nat_le m n) (m ≤ n)
at_most m n = (leb-true m n, le-leb m n)

same_number : (m n : ℕ) → Decides (m == n) (m ≡ n)
same_number m n = (eqb-true m n, eq-eqb m n)

each_below : (bound : ℕ) (xs : List ℕ) → Decides (are_below bound xs) (AllByRecursion (λ x. x < bound) xs)
each_below bound [] = (λ _. tt, λ _. refl)
each_below bound (x ∷ xs) = Decides-and (nat_lt x bound) (are_below bound xs) (number x bound) (each_below bound xs)

list_fits : (count bound : ℕ) (xs : List ℕ) → Decides (fit_list count bound xs) (FitsList count bound xs)
list_fits count bound xs =
    Decides-like (fit_list count bound xs) (λ (h : (length xs ≡ count) × AllByRecursion (λ x. x < bound) xs). record { count_is = h.0; each = h.1 })
    (λ (f : FitsList count bound xs). (f.count_is, f.each))
    (Decides-and (length xs == count) (are_below bound xs) (same_number (length xs) count) (each_below bound xs))

retire_fits : (r : Retire) → Decides (fits_retire r) (FitsRetire r)
retire_fits r =
    Decides-like (fits_retire r) (λ (h : (r.pc < 2 ^ 64) × (r.bits < 2 ^ 32) × (r.value < 2 ^ 64)). record { pc = h.0; bits = h.1; value = h.2 })
    (λ (f : FitsRetire r). (f.pc, f.bits, f.value)) (three _ _ _ (number r.pc (2 ^ 64)) (number r.bits (2 ^ 32)) (number r.value (2 ^ 64)))

body_fits : (b : Body) → Decides (fits_body b) (FitsBody b)
body_fits (Commit retire) = retire_fits retire
body_fits (Trap pc bits cause tval) = four _ _ _ _ (number pc (2 ^ 64)) (number bits (2 ^ 32)) (number cause (2 ^ 64)) (number tval (2 ^ 64))
body_fits (Regs pc x) = Decides-and _ _ (number pc (2 ^ 64)) (list_fits 31 (2 ^ 64) x)
body_fits (Csrs mode v) = Decides-and _ _ (number mode (2 ^ 8)) (list_fits 17 (2 ^ 64) v)
body_fits (Load retire at paddr) = three _ _ _ (retire_fits retire) (number at (2 ^ 64)) (number paddr (2 ^ 64))
body_fits (Store pc bits paddr value) = four _ _ _ _ (number pc (2 ^ 64)) (number bits (2 ^ 32)) (number paddr (2 ^ 64)) (number value (2 ^ 64))
body_fits (Atomic retire paddr width wrote new) = four _ _ _ _ (retire_fits retire) (number paddr (2 ^ 64)) (number width (2 ^ 8)) (number new (2 ^ 64))
body_fits (Drain line mask count bytes) = four _ _ _ _ (number line (2 ^ 64)) (number mask (2 ^ 64)) (number count (2 ^ 16)) (list_fits 64 (2 ^ 8) bytes)
body_fits (Refill line bytes) = Decides-and _ _ (number line (2 ^ 64)) (list_fits 64 (2 ^ 8) bytes)
body_fits Beat = (λ _. tt, λ _. refl)

record_fits : (r : Record) → Decides (fits_record r) (FitsRecord r)
record_fits r =
    Decides-like (fits_record r) (λ (h : (r.stamp < 2 ^ 64) × (r.hart < 2 ^ 8) × FitsBody r.body). record { stamp = h.0; hart = h.1; body = h.2 })
    (λ (f : FitsRecord r). (f.stamp, f.hart, f.body)) (three _ _ _ (number r.stamp (2 ^ 64)) (number r.hart (2 ^ 8)) (body_fits r.body))

-- What stands at the front of bytes.

pub next_of_read : (s : Reading) (bytes : List ℕ) (r : Record) (rest : List ℕ) → IsRead s.version s.last bytes r rest → r.hart < s.harts → s.last r.hart ≤ r.stamp → GoesOn s bytes r rest
next_of_read s bytes r rest is hart stamp = record {
  spelled = is.spelled;
  next = record { fits = is.fits; lawful = is.lawful; hart = hart; stamp = stamp };
}

-- a record that was read and may not stand there: none may
pub none_may : (s : Reading) (bytes : List ℕ) (r : Record) (rest : List ℕ) → IsRead s.version s.last bytes r rest → ((r.hart < s.harts) × (s.last r.hart ≤ r.stamp) → ⊥) → (q : Record) (more : List ℕ) → GoesOn s bytes q more → ⊥
none_may s bytes r rest is isnt q more goes =
    let one = (reads_are_one s.version s.last bytes q r more rest (read_of_next s bytes q more goes) is).0 in
    isnt (subst (λ (e : Record). (e.hart < s.harts) × (s.last e.hart ≤ e.stamp)) one (goes.next.hart, goes.next.stamp))

-- what has to hold where a record goes on: that it fits, is lawful, of a hart of the file and not before the last one, and spelled
abbrev Parts : Reading → List ℕ → Record → List ℕ → Type 0
Parts s bytes r rest = FitsRecord r × (IsTrue (is_lawful r) × (r.hart < s.harts) × (s.last r.hart ≤ r.stamp) × (bytes ≡ spelled_next s r ++ rest))

front_decides : (s : Reading) (bytes : List ℕ) (r : Record) (rest : List ℕ) → Decides (goes_on s bytes r rest) (GoesOn s bytes r rest)
unfolding goes_on
front_decides s bytes r rest =
    Decides-like (goes_on s bytes r rest)
    (λ (h : Parts s bytes r rest). record { spelled = h.1.3; next = record { fits = h.0; lawful = h.1.0; hart = h.1.1; stamp = h.1.2 } })
    (λ (g : GoesOn s bytes r rest). (g.next.fits, (g.next.lawful, g.next.hart, g.next.stamp, g.spelled)))
    (Decides-and _ _ (record_fits r)
    (four _ _ _ _ (λ (e : is_lawful r ≡ true). e, λ (e : IsTrue (is_lawful r)). e) (number r.hart s.harts) (at_most (s.last r.hart) r.stamp) (bytes_decides bytes (spelled_next s r ++ rest))))

abbrev LacksNext : Reading → List ℕ → Type 0
LacksNext s bytes = (r : Record) (rest : List ℕ) → GoesOn s bytes r rest → ⊥

none_goes : (s : Reading) (bytes : List ℕ) → goes_on s bytes (front s bytes).0 (front s bytes).1 ≡ false → LacksNext s bytes
none_goes s bytes isnt r rest goes =
    let same = is_proposed s.version s.last bytes r rest (read_of_next s bytes r rest goes) in
    let there : GoesOn s bytes (front s bytes).0 (front s bytes).1 = subst (λ (q : Proposal). GoesOn s bytes q.0 q.1) (sym same) goes in
    both_ways _ isnt ((front_decides s bytes (front s bytes).0 (front s bytes).1).1 there)

pub length-end : (count : ℕ) → length (end_bytes count) ≡ 9
unfolding end_bytes
length-end count = ap suc (length-double count)

pub spelled_is_long : (v : Version) (last : ℕ) (r : Record) → 0 < length (record_bytes v last r)
unfolding wide_bytes short_bytes
spelled_is_long One last r = omega arith
spelled_is_long Two last r = omega arith

rest_is_shorter : (s : Reading) (bytes : List ℕ) (r : Record) (rest : List ℕ) → GoesOn s bytes r rest → length rest < length bytes
rest_is_shorter s bytes r rest goes =
    omega (arith, spelled_is_long s.version (s.last r.hart) r, ap length goes.spelled, length-append (spelled_next s r) rest)

-- The answers.

-- bytes that begin with an end and are not the end alone go on behind it
goes_behind : (bytes ends rest : List ℕ) → bytes ≡ ends ++ rest → (bytes ≡ ends → ⊥) → (b : ℕ) × (more : List ℕ) × (bytes ≡ ends ++ b ∷ more)
goes_behind bytes ends [] is isnt = absurd (isnt (is ∙ append-nil ends))
goes_behind bytes ends (b ∷ more) is isnt = (b, more, is)

last_are : (s : Reading) (bytes : List ℕ) → LacksNext s bytes → AreAnswersAfter s bytes (last_answers s bytes)
unfolding last_answers
last_are s bytes none = by_end (bytes_eq bytes (end_bytes s.events)) refl
  where
    by_front : (t : Bool) → bytes_eq (take 9 bytes) (end_bytes s.events) ≡ t → (bytes ≡ end_bytes s.events → ⊥)
        → AreAnswersAfter s bytes (if t then Malformed (s.at + 9) ∷ [] else Malformed s.at ∷ [])
    by_front true e isnt =
        let begins : bytes ≡ end_bytes s.events ++ drop 9 bytes =
        sym (take-append-drop 9 bytes) ∙ ap (λ (z : List ℕ). z ++ drop 9 bytes) ((bytes_decides (take 9 bytes) (end_bytes s.events)).0 e) in
        let g = goes_behind bytes (end_bytes s.events) (drop 9 bytes) begins isnt in
        (refl, inr (refl, g.0, g.1, g.2))
    by_front false e isnt = (
      refl,
      inl (
        refl,
        record {
          no_record = none;
          no_end = λ rest is. both_ways _ e ((bytes_decides (take 9 bytes) (end_bytes s.events)).1 (ap (take 9) is ∙ take_at (end_bytes s.events) rest 9 (length-end s.events)));
        },
      ),
    )

    by_end : (t : Bool) → bytes_eq bytes (end_bytes s.events) ≡ t
        → AreAnswersAfter s bytes (if t then End s.events ∷ [] else (if bytes_eq (take 9 bytes) (end_bytes s.events) then Malformed (s.at + 9) ∷ [] else Malformed s.at ∷ []))
    by_end true e = (refl, refl, (bytes_decides bytes (end_bytes s.events)).0 e)
    by_end false e = by_front (bytes_eq (take 9 bytes) (end_bytes s.events)) refl (λ is. both_ways _ e ((bytes_decides bytes (end_bytes s.events)).1 is))

record_are : (s : Reading) (bytes : List ℕ) (r : Record) (rest : List ℕ) (later : List Next) → GoesOn s bytes r rest → AreAnswersAfter (after_record s r) rest later
    → AreAnswersAfter s bytes (record_answers s r later)
unfolding record_answers
record_are s bytes r rest later goes are = by_records (nat_le RECORD_LIMIT s.events) refl
  where
    by_writes : (t : Bool) → nat_lt WRITE_LIMIT (writes_with s r) ≡ t → s.events < RECORD_LIMIT
        → AreAnswersAfter s bytes (if t then Limit Writes (WRITE_LIMIT + 1) ∷ [] else Event r ∷ later)
    by_writes true e few = (refl, (r, rest, goes, (few, ltb-true WRITE_LIMIT (writes_with s r) e, refl)))
    by_writes false e few = (rest, goes, record { few_records = few; few_writes = ltb-false WRITE_LIMIT (writes_with s r) e }, are)

    by_records : (t : Bool) → nat_le RECORD_LIMIT s.events ≡ t
        → AreAnswersAfter s bytes (if t then Limit Records (RECORD_LIMIT + 1) ∷ [] else (if nat_lt WRITE_LIMIT (writes_with s r) then Limit Writes (WRITE_LIMIT + 1) ∷ [] else Event r ∷ later))
    by_records true e = (refl, (r, rest, goes, (leb-true RECORD_LIMIT s.events e, refl)))
    by_records false e = by_writes (nat_lt WRITE_LIMIT (writes_with s r)) refl (leb-false RECORD_LIMIT s.events e)

within_are : (most : ℕ) (s : Reading) (bytes : List ℕ) → length bytes ≤ suc most → ((t : Reading) (rest : List ℕ) → length rest ≤ most → AreAnswersAfter t rest (answers_within most t rest))
    → AreAnswersAfter s bytes (answers_within (suc most) s bytes)
unfolding answers_within
within_are most s bytes le others = by_front (goes_on s bytes (front s bytes).0 (front s bytes).1) refl
  where
    r : Record
    r = (front s bytes).0

    rest : List ℕ
    rest = (front s bytes).1

    by_front : (t : Bool) → goes_on s bytes r rest ≡ t
        → AreAnswersAfter s bytes (if t then record_answers s r (answers_within most (after_record s r) rest) else last_answers s bytes)
    by_front true e =
        let goes = (front_decides s bytes r rest).0 e in
        record_are s bytes r rest _ goes (others (after_record s r) rest (omega (arith, rest_is_shorter s bytes r rest goes, le)))
    by_front false e = last_are s bytes (none_goes s bytes e)

are_within : (most : ℕ) (s : Reading) (bytes : List ℕ) → length bytes ≤ most → AreAnswersAfter s bytes (answers_within most s bytes)
unfolding answers_within
are_within zero s bytes le = last_are s bytes (λ r rest goes. absurd (omega (arith, rest_is_shorter s bytes r rest goes, le)))
are_within (suc most) s bytes le = within_are most s bytes le (λ t rest few. are_within most t rest few)

-- the answers that are computed are those of the grammar
pub after_are : (s : Reading) (bytes : List ℕ) → AreAnswersAfter s bytes (answers_after s bytes)
unfolding answers_after
after_are s bytes = are_within (length bytes) s bytes (omega arith)

-- what is read of a header is what it was written of
header_read : (v : Version) (h : ℕ) (w : Bool) (rest bytes : List ℕ) → bytes ≡ header_bytes v h w ++ rest
    → SameHeader (version_in bytes) v (harts_in bytes) h (wide_in bytes) w (drop 16 bytes) rest
unfolding header_bytes half word
header_read One h true rest bytes e = record { version = ap (λ (z : List ℕ). version_in z) e; harts = ap (λ (z : List ℕ). harts_in z) e; wide = ap (λ (z : List ℕ). wide_in z) e; rest = ap (drop 16) e }
header_read One h false rest bytes e = record { version = ap (λ (z : List ℕ). version_in z) e; harts = ap (λ (z : List ℕ). harts_in z) e; wide = ap (λ (z : List ℕ). wide_in z) e; rest = ap (drop 16) e }
header_read Two h true rest bytes e = record { version = ap (λ (z : List ℕ). version_in z) e; harts = ap (λ (z : List ℕ). harts_in z) e; wide = ap (λ (z : List ℕ). wide_in z) e; rest = ap (drop 16) e }
header_read Two h false rest bytes e = record { version = ap (λ (z : List ℕ). version_in z) e; harts = ap (λ (z : List ℕ). harts_in z) e; wide = ap (λ (z : List ℕ). wide_in z) e; rest = ap (drop 16) e }

header_again : (v u : Version) (h k : ℕ) (w z : Bool) (x y : List ℕ) → SameHeader v u h k w z x y → header_bytes u k z ++ y ≡ header_bytes v h w ++ x
header_again v u h k w z x y same =
    ap (λ (a : Version). header_bytes a k z ++ y) (sym same.version) ∙ ap (λ (a : ℕ). header_bytes v a z ++ y) (sym same.harts)
    ∙ ap (λ (a : Bool). header_bytes v h a ++ y) (sym same.wide) ∙ ap (λ (a : List ℕ). header_bytes v h w ++ a) (sym same.rest)

by_are : (fault : Option ℕ) (bytes : List ℕ) → header_fault bytes ≡ fault → AreAnswers bytes (answers_by fault bytes)
by_are (Some offset) bytes e = (refl, e)
by_are None bytes e =
    let h = header_of bytes e in
    let same = header_read h.version h.harts h.wide h.rest bytes h.spelled in (
      version_in bytes,
      record {
        some_hart = subst (λ (n : ℕ). 1 ≤ n) (sym same.harts) h.some_hart;
        few_harts = subst (λ (n : ℕ). n ≤ 8) (sym same.harts) h.few_harts;
        rest = drop 16 bytes;
        spelled = h.spelled ∙ header_again _ _ _ _ _ _ _ _ same;
        after = after_are (opened (version_in bytes) (harts_in bytes)) (drop 16 bytes);
      },
    )

pub of_are : (bytes : List ℕ) → AreAnswers bytes (answers_of bytes)
unfolding answers_of
of_are bytes = by_are (header_fault bytes) bytes refl

-- What the answer to bytes as one record tells of the bytes behind a header or a record.
use Rattle.std.proofs.Common.{◌≡◌, ℕ, suc, ◌+◌, ◌^◌, ◌<◌, ◌≤◌, inl, inr, List, [], ◌∷◌, ◌++◌, length, take, drop, get_or, refl, sym, ap, ◌∙◌, subst, append_assoc, arith}
use Rattle.std.specs.Prelude.{true, ◌==◌}
use Rattle.std.specs.Int.{from_le_bytes, w64}
use Rattle.std.proofs.lemmas.Bool.{eqb-true}
use Rattle.std.proofs.lemmas.Bool.{cases_lt}
use Rattle.std.proofs.lemmas.List.{append-nil, length-append, length-drop, take_at, drop_at, take-append-drop}
use Rattle.std.proofs.Math.ListN.{get_or-append}
use Rattle.dt_record.specs.declared.records.Record.{Record}
use Rattle.dt_record.specs.Spelling.{Version, Two, record_bytes, short_bytes, double, end_bytes}
use Rattle.dt_record.specs.Answers.{Reading, GoesOn}
use Rattle.dt_record_bytes.specs.declared.decoded.Decoded.{Decoded}
use Rattle.dt_record_bytes.specs.declared.decoded.Decoded.TheVariants as answers
use Rattle.dt_short_bytes.specs.ShortForms.{StartsWith, IsGot, IsUnfinished}
use Rattle.dt_record_bytes.proofs.SpellingLaws.{length-double, double_at_front, doubles_are_one}
use Rattle.dt_probe_file.proofs.HeaderFields.{get_or_behind}
use Rattle.dt_probe_file.specs.declared.fronts.Front.{Front}
use Rattle.dt_probe_file.specs.declared.fronts.Front.TheVariants as fronts
use Rattle.dt_probe_file.specs.Begun.{HasTag}
use Rattle.dt_probe_file.specs.Fronts.{IsRead, LacksRecord, IsDecoded, IsFront, IsEndFront}
use Rattle.dt_probe_file.proofs.Proposed.{second_of, read_of_next}
use Rattle.dt_probe_file.proofs.OneAnswer.{record_has_no_end_tag}
use Rattle.dt_probe_file.proofs.Exists.{next_of_read, none_may, length-end, spelled_is_long}

-- Version 2, whose answer is for one last stamp.

starts_of : (last : ℕ → ℕ) (bytes : List ℕ) (r : Record) (rest : List ℕ) → IsRead Two last bytes r rest → StartsWith (last r.hart) bytes r rest
starts_of last bytes r rest is = record { follows = record { fits = is.fits; lawful = is.lawful; stamp = is.not_below }; spelled = is.spelled }

two_at_least : (last : ℕ) (bytes : List ℕ) (r : Record) (rest : List ℕ) → bytes ≡ short_bytes last r ++ rest → 2 ≤ length bytes
unfolding short_bytes
two_at_least last bytes r rest e = omega (arith, ap length e)

pub short_got : (last : ℕ → ℕ) (l : ℕ) (bytes : List ℕ) (r : Record) (len : ℕ) → (2 ≤ length bytes → l ≡ last (get_or bytes 1 0)) → IsGot l bytes r len → IsRead Two last bytes r (drop len bytes) × (len ≡ length (short_bytes (last r.hart) r))
short_got last l bytes r len is got =
    let h = got.2 in
    let same : l ≡ last r.hart = is (two_at_least l bytes r got.1 h.spelled) ∙ ap last (second_of l bytes r got.1 h.spelled) in
    let behind : got.1 ≡ drop len bytes = sym (ap (drop len) h.spelled ∙ drop_at (short_bytes l r) got.1 len (sym got.0)) in (
      record {
        fits = h.follows.fits;
        lawful = h.follows.lawful;
        not_below = subst (λ (n : ℕ). n ≤ r.stamp) same h.follows.stamp;
        spelled = h.spelled ∙ ap (λ (n : ℕ). short_bytes n r ++ got.1) same ∙ ap (λ (z : List ℕ). short_bytes (last r.hart) r ++ z) behind;
      },
      got.0 ∙ ap (λ (n : ℕ). length (short_bytes n r)) same,
    )

pub short_lacks : (last : ℕ → ℕ) (l : ℕ) (bytes : List ℕ) → (2 ≤ length bytes → l ≡ last (get_or bytes 1 0)) → ((r : Record) (rest : List ℕ) → StartsWith l bytes r rest → ⊥) → LacksRecord Two last bytes
short_lacks last l bytes is none r rest read =
    let same : l ≡ last r.hart = is (two_at_least (last r.hart) bytes r rest read.spelled) ∙ ap last (second_of (last r.hart) bytes r rest read.spelled) in
    none r rest (subst (λ (n : ℕ). StartsWith n bytes r rest) (sym same) (starts_of last bytes r rest read))

-- the first byte of a spelling doesn't depend on the last stamp
tail_of : (l : ℕ) (r : Record) → List ℕ
tail_of l r = drop 1 (short_bytes l r)

one_front : (bytes more : List ℕ) (l m : ℕ) (r : Record) (rest : List ℕ) → length bytes < 2 → bytes ++ more ≡ short_bytes m r ++ rest → (tail : List ℕ) × (bytes ++ tail ≡ short_bytes l r)
unfolding short_bytes
one_front [] more l m r rest few e = (short_bytes l r, refl)
one_front (b ∷ []) more l m r rest few e =
    let first : b ≡ get_or (short_bytes l r) 0 0 = ap (λ (z : List ℕ). get_or z 0 0) e in
    (drop 1 (short_bytes l r), ap (λ (n : ℕ). n ∷ drop 1 (short_bytes l r)) first)
one_front (b ∷ c ∷ bytes) more l m r rest few e = absurd (omega arith)

never_named : (last : ℕ → ℕ) (l : ℕ) (bytes : List ℕ) → (2 ≤ length bytes → l ≡ last (get_or bytes 1 0)) → 2 ≤ length bytes
    → ((more : List ℕ) (r : Record) (rest : List ℕ) → StartsWith l (bytes ++ more) r rest → ⊥) → (more : List ℕ) → LacksRecord Two last (bytes ++ more)
never_named last l bytes is two none more r rest read =
    let same_second : get_or (bytes ++ more) 1 0 ≡ get_or bytes 1 0 = get_or-append bytes more 0 1 (omega arith) in
    let same : l ≡ last r.hart = is two ∙ ap last (sym same_second ∙ second_of (last r.hart) (bytes ++ more) r rest read.spelled) in
    none more r rest (subst (λ (n : ℕ). StartsWith n (bytes ++ more) r rest) (sym same) (starts_of last (bytes ++ more) r rest read))

never_unnamed : (last : ℕ → ℕ) (l : ℕ) (bytes : List ℕ) → l ≡ 0 → length bytes < 2
    → ((more : List ℕ) (r : Record) (rest : List ℕ) → StartsWith l (bytes ++ more) r rest → ⊥) → (more : List ℕ) → LacksRecord Two last (bytes ++ more)
never_unnamed last l bytes nothing few none more r rest read =
    let front = one_front bytes more l (last r.hart) r rest few read.spelled in
    let starts : StartsWith l (bytes ++ front.0) r [] =
    record {
      follows = record { fits = read.fits; lawful = read.lawful; stamp = omega arith };
      spelled = front.1 ∙ sym (append-nil (short_bytes l r));
    } in
    none front.0 r [] starts

-- What stands at the front.

tag_at : (count : ℕ) (rest : List ℕ) → get_or (end_bytes count ++ rest) 0 0 ≡ 255
unfolding end_bytes
tag_at count rest = refl

-- bytes that are empty or begin with another tag begin no end
pub no_end_there : (bytes more : List ℕ) (count : ℕ) (rest : List ℕ) → 0 < length bytes → (get_or bytes 0 0 ≡ 255 → ⊥) → bytes ++ more ≡ end_bytes count ++ rest → ⊥
no_end_there [] more count rest some other e = omega arith
no_end_there (b ∷ bytes) more count rest some other e = other (ap (λ (z : List ℕ). get_or z 0 0) e ∙ tag_at count rest)

nothing_ends : (bytes : List ℕ) (count : ℕ) (rest : List ℕ) → length bytes < 9 → bytes ≡ end_bytes count ++ rest → ⊥
nothing_ends bytes count rest few e = omega (arith, ap length e, length-append (end_bytes count) rest, length-end count)

-- an end's tag begins no record
pub end_is_no_record : (s : Reading) (bytes : List ℕ) → HasTag 255 bytes → (more : List ℕ) (r : Record) (rest : List ℕ) → GoesOn s (bytes ++ more) r rest → ⊥
end_is_no_record s bytes tag more r rest goes =
    record_has_no_end_tag s.version (s.last r.hart) r rest (tag.0 ++ more) (sym goes.spelled ∙ ap (λ (z : List ℕ). z ++ more) tag.1)

pub front_of_end : (s : Reading) (bytes : List ℕ) → HasTag 255 bytes → (x : Front) → IsEndFront s.events bytes x → IsFront s bytes x
front_of_end s bytes tag (fronts.Event r len) is = absurd is
front_of_end s bytes tag fronts.End is = is
front_of_end s bytes tag fronts.Begun is = (
  record {
    no_record = λ r rest goes. end_is_no_record s bytes tag [] r rest (subst (λ (z : List ℕ). GoesOn s z r rest) (sym (append-nil bytes)) goes);
    no_end = λ rest e. nothing_ends bytes s.events rest is e;
  },
  omega (arith, is),
  inr (inl (tag, is)),
)
front_of_end s bytes tag fronts.Wrong is = λ more. record { no_record = λ r rest goes. end_is_no_record s bytes tag more r rest goes; no_end = λ rest e. is more rest e }

no_end_of : (bytes more : List ℕ) (count : ℕ) (rest : List ℕ) → (get_or bytes 0 0 ≡ 255 → ⊥) → 0 < length bytes → bytes ++ more ≡ end_bytes count ++ rest → ⊥
no_end_of bytes more count rest other some e = no_end_there bytes more count rest some other e

-- bytes without an end's tag, of which the answer is that they are a record
pub front_of_got : (s : Reading) (bytes : List ℕ) (r : Record) (len : ℕ) → IsDecoded s.version s.last bytes (answers.Got r len) → r.hart < s.harts → s.last r.hart ≤ r.stamp → IsFront s bytes (fronts.Event r len)
front_of_got s bytes r len is hart stamp = (next_of_read s bytes r (drop len bytes) is.0 hart stamp, is.1, is.2, is.3)

longer : (s : Reading) (bytes more : List ℕ) (r : Record) (rest : List ℕ) → IsRead s.version s.last bytes r rest → IsRead s.version s.last (bytes ++ more) r (rest ++ more)
longer s bytes more r rest is = record {
  fits = is.fits;
  lawful = is.lawful;
  not_below = is.not_below;
  spelled = ap (λ (z : List ℕ). z ++ more) is.spelled ∙ append_assoc (record_bytes s.version (s.last r.hart) r) rest more;
}

spelled_long : (v : Version) (last : ℕ) (r : Record) (bytes rest : List ℕ) → bytes ≡ record_bytes v last r ++ rest → 0 < length bytes
spelled_long v last r bytes rest e = omega (arith, spelled_is_long v last r, ap length e, length-append (record_bytes v last r) rest)

pub wrong_of_got : (s : Reading) (bytes : List ℕ) (r : Record) (len : ℕ) → (get_or bytes 0 0 ≡ 255 → ⊥) → IsDecoded s.version s.last bytes (answers.Got r len)
    → ((r.hart < s.harts) × (s.last r.hart ≤ r.stamp) → ⊥) → IsFront s bytes fronts.Wrong
wrong_of_got s bytes r len other is isnt more = record {
  no_record = none_may s (bytes ++ more) r (drop len bytes ++ more) (longer s bytes more r (drop len bytes) is.0) isnt;
  no_end = λ rest e. no_end_of bytes more s.events rest other (spelled_long s.version (s.last r.hart) r bytes (drop len bytes) is.0.spelled) e;
}

empty_is_no_end : (count : ℕ) (rest : List ℕ) → [] ≡ end_bytes count ++ rest → ⊥
empty_is_no_end count rest e = omega (arith, ap length e, length-append (end_bytes count) rest, length-end count)

other_is_no_end : (bytes : List ℕ) (count : ℕ) (rest : List ℕ) → (get_or bytes 0 0 ≡ 255 → ⊥) → bytes ≡ end_bytes count ++ rest → ⊥
other_is_no_end bytes count rest other e = other (ap (λ (z : List ℕ). get_or z 0 0) e ∙ tag_at count rest)

pub begun_of_short : (s : Reading) (bytes : List ℕ) → (get_or bytes 0 0 ≡ 255 → ⊥) → IsDecoded s.version s.last bytes answers.Short → IsFront s bytes fronts.Begun
begun_of_short s bytes other is = (
  record {
    no_record = λ r rest goes. is.0 r rest (read_of_next s bytes r rest goes);
    no_end = λ rest e. other_is_no_end bytes s.events rest other e;
  },
  is.1,
  inr (inr is.2),
)

pub wrong_of_bad : (s : Reading) (bytes : List ℕ) (at : ℕ) → (get_or bytes 0 0 ≡ 255 → ⊥) → 0 < length bytes → IsDecoded s.version s.last bytes (answers.Bad at) → IsFront s bytes fronts.Wrong
wrong_of_bad s bytes at other some is more = record {
  no_record = λ r rest goes. is more r rest (read_of_next s (bytes ++ more) r rest goes);
  no_end = λ rest e. no_end_of bytes more s.events rest other some e;
}

pub begun_of_nothing : (s : Reading) → IsFront s [] fronts.Begun
begun_of_nothing s = (
  record {
    no_record = λ r rest goes. (let long = spelled_long s.version (s.last r.hart) r [] rest goes.spelled in omega (arith, long));
    no_end = λ rest e. empty_is_no_end s.events rest e;
  },
  omega arith,
  inl refl,
)

-- the answer of version 2 for the last stamp of the hart that the bytes name
pub short_decoded : (last : ℕ → ℕ) (l : ℕ) (bytes : List ℕ) (x : Decoded) → (2 ≤ length bytes → l ≡ last (get_or bytes 1 0)) → (length bytes < 2 → l ≡ 0)
    → ((r : Record) (len : ℕ) → x ≡ answers.Got r len → IsGot l bytes r len)
    → ((r : Record) (len : ℕ) → x ≡ answers.Got r len → (len ≤ 1024) × (len ≤ length bytes))
    → (x ≡ answers.Short → length bytes < 1024)
    → (x ≡ answers.Short → IsUnfinished bytes)
    → (x ≡ answers.Short → (r : Record) (rest : List ℕ) → StartsWith l bytes r rest → ⊥)
    → ((at : ℕ) → x ≡ answers.Bad at → (more : List ℕ) (r : Record) (rest : List ℕ) → StartsWith l (bytes ++ more) r rest → ⊥)
    → IsDecoded Two last bytes x
short_decoded last l bytes (answers.Got r len) named unnamed got lens few cut not_yet for_good =
    let is = short_got last l bytes r len named (got r len refl) in
    let long = lens r len refl in
    (is.0, is.1, long.0, long.1)
short_decoded last l bytes answers.Short named unnamed got lens few cut not_yet for_good = (short_lacks last l bytes named (not_yet refl), few refl, cut refl)
short_decoded last l bytes (answers.Bad at) named unnamed got lens few cut not_yet for_good =
    elim (cases_lt (length bytes) 2) [
      | inl less ↦ never_unnamed last l bytes (unnamed less) less (for_good at refl)
      | inr two ↦ never_named last l bytes named two (for_good at refl)
    ]

pub begun_of_empty : (s : Reading) (bytes : List ℕ) → bytes ≡ [] → IsFront s bytes fronts.Begun
begun_of_empty s bytes empty = subst (λ (z : List ℕ). IsFront s z fronts.Begun) (sym empty) (begun_of_nothing s)

-- An end's count.

pub end_is : (bytes : List ℕ) (count : ℕ) → HasTag 255 bytes → 9 ≤ length bytes → double count ≡ take 8 (drop 1 bytes) → bytes ≡ end_bytes count ++ drop 9 bytes
unfolding end_bytes
end_is bytes count tag long is = tagged bytes tag.0 tag.1 count is
  where
    tagged : (bytes after : List ℕ) → bytes ≡ 255 ∷ after → (count : ℕ) → double count ≡ take 8 (drop 1 bytes) → bytes ≡ 255 ∷ double count ++ drop 9 bytes
    tagged [] after e count is = absurd cc
    tagged (b ∷ bytes) after e count is =
        let first : b ≡ 255 = cc in
        ap (λ (n : ℕ). n ∷ bytes) first ∙ ap (λ (z : List ℕ). 255 ∷ z) (sym (take-append-drop 8 bytes) ∙ ap (λ (z : List ℕ). z ++ drop 8 bytes) (sym is))

pub end_isnt : (bytes : List ℕ) (found count : ℕ) → 9 ≤ length bytes → double found ≡ take 8 (drop 1 bytes) → found < 2 ^ 64 → count < 2 ^ 64 → (found ≡ count → ⊥) → (more rest : List ℕ) → bytes ++ more ≡ end_bytes count ++ rest → ⊥
unfolding end_bytes
end_isnt [] found count long is fits few other more rest e = omega arith
end_isnt (b ∷ bytes) found count long is fits few other more rest e =
    let behind : bytes ++ more ≡ double count ++ rest = ap (drop 1) e in
    let spelled : bytes ≡ double found ++ drop 8 bytes = sym (take-append-drop 8 bytes) ∙ ap (λ (z : List ℕ). z ++ drop 8 bytes) (sym is) in
    let both : double found ++ (drop 8 bytes ++ more) ≡ double count ++ rest = sym (append_assoc (double found) (drop 8 bytes) more) ∙ ap (λ (z : List ℕ). z ++ more) (sym spelled) ∙ behind in
    other (doubles_are_one found count (drop 8 bytes ++ more) rest fits few both).0

pub empty_of : (bytes : List ℕ) → true ≡ (length bytes == 0) → bytes ≡ []
empty_of [] e = refl
empty_of (b ∷ bytes) e = absurd (let none : suc (length bytes) ≡ 0 = eqb-true (suc (length bytes)) 0 (sym e) in omega arith)

pub tag_of : (bytes : List ℕ) → get_or bytes 0 0 ≡ 255 → HasTag 255 bytes
tag_of [] e = absurd (omega (arith, e))
tag_of (b ∷ bytes) e = (bytes, ap (λ (n : ℕ). n ∷ bytes) e)

pub count_spelled : (bytes field : List ℕ) (n : ℕ) → 9 ≤ length bytes → ((i : ℕ) → get_or bytes i 0 < 256) → field ≡ take 8 (drop 1 bytes) → n ≡ from_le_bytes w64 field → double n ≡ take 8 (drop 1 bytes)
count_spelled bytes field n long each is number =
    let enough : 8 ≤ length (drop 1 bytes) = omega (arith, length-drop 1 bytes) in
    let spelled : drop 1 bytes ≡ double n ++ drop 8 (drop 1 bytes) =
    double_at_front (drop 1 bytes) n enough (λ i. subst (λ (b : ℕ). b < 256) (sym (get_or_behind bytes 1 i)) (each (1 + i))) (number ∙ ap (λ (z : List ℕ). from_le_bytes w64 z) is) in
    sym (ap (take 8) spelled ∙ take_at (double n) (drop 8 (drop 1 bytes)) 8 (length-double n))

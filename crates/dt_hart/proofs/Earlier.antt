use Rattle.std.proofs.Common.{ℕ, ◌≡◌, ◌+◌, ◌≤◌, ◌<◌, ◌⊎◌, ◌==◌, true, false, Some, None, ◌∷◌, ◌++◌, length, refl, sym, ap, ◌∙◌, subst, inl, inr, arith}
use Rattle.std.specs.List.{slice_get}
use Rattle.std.proofs.lemmas.Bool.{cases_lt, eqb-true}
use Rattle.std.proofs.lemmas.Bool.Decides.{nat_tests}
use Rattle.std.proofs.lemmas.Option.{same_Some}
use Rattle.dt_lists.proofs.Lists.{slice_get-append_left, slice_get-append_seam}
use Rattle.dt_record.specs.declared.keys.Key.{Key}
use Rattle.dt_record.specs.declared.records.Record.{Record}
use Rattle.dt_record.specs.declared.writes.Write.{Write}
use Rattle.dt_record.specs.Keys.{key_of, key_below, KeyBelow}
use Rattle.dt_record.specs.Writes.{write_of_record}
use Rattle.dt_sources.specs.Knowing.{WroteBefore}
use Rattle.dt_hart.specs.OwnWrites.{GoesOn}
use Rattle.dt_hart.specs.Settings.{Setting, key_in, next_key, last_stamp}
use Rattle.dt_hart.proofs.Members.{list_all-at}
use Rattle.dt_hart.proofs.OwnKeys.{own_record, write_key_is, rising_at, stamp_from_below, stamp_from_above}

-- Which of a hart's own writes stand before its next record, and before the one after that.

-- the least key that the record after this one may have
abbrev pub key_after : Setting → Record → Key
key_after s r = record { stamp = r.stamp; hart = s.hart; seq = length s.before + 1 }

pub is_its : (s : Setting) (r : Record) → GoesOn s r → r.hart ≡ s.hart
is_its s r g = eqb-true r.hart s.hart (list_all-at (λ q. q.hart == s.hart) (s.before ++ r ∷ g.more) (length s.before) r g.its (slice_get-append_seam s.before r g.more))

-- an own write that stands before a key, as that of a record at a place
pub record IsOwnAt (s : Setting) (r : Record) (g : GoesOn s r) (key : Key) (w : Write) : Type 0 where
  pub place : ℕ
  pub own : Record
  pub there : slice_get (s.before ++ r ∷ g.more) place ≡ Some own
  pub wrote : write_of_record place own ≡ Some w
  pub stamp : key.stamp ≡ own.stamp
  pub seq : key.seq ≡ place
  pub hart : key.hart ≡ s.hart

own_at : (s : Setting) (r : Record) (g : GoesOn s r) (next : Key) (byte : ℕ) (key : Key) (wrote : WroteBefore s.writes next byte key) → next.hart ≡ s.hart → IsOwnAt s r g key wrote.write
own_at s r g next byte key wrote hart =
    let of_hart : wrote.write.key.hart ≡ s.hart = ap (λ (k : Key). k.hart) wrote.is_its ∙ wrote.own ∙ hart in
    let found = own_record s r g wrote.write wrote.there of_hart in
    let is = sym wrote.is_its ∙ write_key_is (key_of (0 + found.place) found.own) found.own.body wrote.write found.wrote in
    record {
      place = found.place;
      own = found.own;
      there = found.there;
      wrote = ap (λ n. write_of_record n found.own) (omega arith) ∙ found.wrote;
      stamp = ap (λ (k : Key). k.stamp) is;
      seq = ap (λ (k : Key). k.seq) is ∙ omega arith;
      hart = wrote.own ∙ hart;
    }

-- records from the next one on have no earlier stamps
from_next : (s : Setting) (r : Record) (g : GoesOn s r) (place : ℕ) (own : Record) → slice_get (s.before ++ r ∷ g.more) place ≡ Some own → length s.before ≤ place → r.stamp ≤ own.stamp
from_next s r g place own there past = elim (cases_lt (length s.before) place) [
  | inl later ↦ rising_at (s.before ++ r ∷ g.more) (length s.before) place r own g.rising (slice_get-append_seam s.before r g.more) there later
  | inr here ↦
      let same : r ≡ own = same_Some r own (sym (slice_get-append_seam s.before r g.more) ∙ ap (λ n. slice_get (s.before ++ r ∷ g.more) n) (omega arith) ∙ there) in
      subst (λ (q : Record). r.stamp ≤ q.stamp) same (omega arith)
]

below_at : (key next : Key) → KeyBelow key next → key.hart ≡ next.hart → next.stamp ≤ key.stamp → key.seq < next.seq
below_at key next below hart rises = grind (arith, nat_tests)

-- an own write before a key in the next record's cycle is that of a record before the key's number
place_below : (s : Setting) (r : Record) (g : GoesOn s r) (next : Key) (byte : ℕ) (key : Key) (wrote : WroteBefore s.writes next byte key) (found : IsOwnAt s r g key wrote.write)
    → next.hart ≡ s.hart → next.stamp ≡ r.stamp → length s.before ≤ next.seq → found.place < next.seq
place_below s r g next byte key wrote found hart stamp late = elim (cases_lt found.place next.seq) [
  | inl within ↦ within
  | inr past ↦
      let rises = from_next s r g found.place found.own found.there (omega arith) in
      let under : next.stamp ≤ key.stamp = omega (arith, stamp, found.stamp, rises) in
      let below = below_at key next wrote.before (found.hart ∙ sym hart) under in
      absurd (omega (arith, below, found.seq))
]

key_below-from : (key next : Key) → key.hart ≡ next.hart → key.stamp ≤ next.stamp → key.seq < next.seq → KeyBelow key next
key_below-from key next hart stamp seq = grind (arith, nat_tests)

-- of a record before the next one, it stands before the least key that this may have
before_next : (s : Setting) (r : Record) (g : GoesOn s r) (key : Key) (w : Write) (found : IsOwnAt s r g key w) → found.place < length s.before → KeyBelow key (next_key s)
before_next s r g key w found within =
    let there : slice_get s.before found.place ≡ Some found.own = sym (slice_get-append_left s.before (r ∷ g.more) found.place within) ∙ found.there in
    let stamp = stamp_from_above 0 s.before r g.more found.place found.own g.rising there in
    key_below-from key (next_key s) found.hart (omega (arith, stamp, found.stamp)) (omega (arith, found.seq))

pub stamps_rise : (s : Setting) (r : Record) → GoesOn s r → last_stamp s.before ≤ r.stamp
stamps_rise s r g = stamp_from_below 0 s.before r g.more g.rising (omega arith)

not_below : (key next : Key) → key.hart ≡ next.hart → next.stamp ≤ key.stamp → next.seq ≤ key.seq → key_below key next ≡ false
not_below key next hart stamp seq = grind (arith, nat_tests)

-- the least key that the next record may have is at most its key
pub next_rises : (s : Setting) (r : Record) → GoesOn s r → key_below (key_in s r) (next_key s) ≡ false
next_rises s r g = not_below (key_in s r) (next_key s) (is_its s r g) (stamps_rise s r g) (omega arith)

-- an own write before the next record stands before that least key
pub earlier : (s : Setting) (r : Record) → GoesOn s r → (byte : ℕ) (key : Key) → WroteBefore s.writes (key_in s r) byte key → KeyBelow key (next_key s)
earlier s r g byte key wrote =
    let found = own_at s r g (key_in s r) byte key wrote (is_its s r g) in
    before_next s r g key wrote.write found (place_below s r g (key_in s r) byte key wrote found (is_its s r g) refl (omega arith))

pub after_rises : (s : Setting) (r : Record) → GoesOn s r → key_below (key_after s r) (key_in s r) ≡ false
after_rises s r g = not_below (key_after s r) (key_in s r) (sym (is_its s r g)) (omega arith) (omega arith)

pub next_below_after : (s : Setting) (r : Record) → GoesOn s r → KeyBelow (key_in s r) (key_after s r)
next_below_after s r g = key_below-from (key_in s r) (key_after s r) (is_its s r g) (omega arith) (omega arith)

-- an own write before the record after the next one is the next one's, or stands before that
pub next_or_earlier : (s : Setting) (r : Record) (g : GoesOn s r) (byte : ℕ) (key : Key) (wrote : WroteBefore s.writes (key_after s r) byte key)
    → (write_of_record (length s.before) r ≡ Some wrote.write) ⊎ KeyBelow key (key_in s r)
next_or_earlier s r g byte key wrote =
    let found = own_at s r g (key_after s r) byte key wrote refl in
    let within = place_below s r g (key_after s r) byte key wrote found refl refl (omega arith) in
    elim (cases_lt found.place (length s.before)) [
      | inl before ↦
          let there : slice_get s.before found.place ≡ Some found.own = sym (slice_get-append_left s.before (r ∷ g.more) found.place before) ∙ found.there in
          let below = stamp_from_above 0 s.before r g.more found.place found.own g.rising there in
          let stamp = stamps_rise s r g in
          inr (key_below-from key (key_in s r) (found.hart ∙ sym (is_its s r g)) (omega (arith, below, stamp, found.stamp)) (omega (arith, found.seq)))
      | inr past ↦
          let here : found.place ≡ length s.before = omega (arith, within) in
          let same : r ≡ found.own = same_Some r found.own (sym (slice_get-append_seam s.before r g.more) ∙ ap (λ n. slice_get (s.before ++ r ∷ g.more) n) (sym here) ∙ found.there) in
          inl (ap (λ n. write_of_record n r) (sym here) ∙ ap (write_of_record found.place) same ∙ found.wrote)
    ]

-- where the next record makes no write, it stands before that
pub only_earlier : (s : Setting) (r : Record) → GoesOn s r → write_of_record (length s.before) r ≡ None → (byte : ℕ) (key : Key) → WroteBefore s.writes (key_after s r) byte key → KeyBelow key (key_in s r)
only_earlier s r g none byte key wrote = elim (next_or_earlier s r g byte key wrote) [
  | inl makes ↦ absurd (let no : None ≡ Some wrote.write = sym none ∙ makes in cc no)
  | inr below ↦ below
]

-- and else it is that write
pub only_its : (s : Setting) (r : Record) (g : GoesOn s r) (w : Write) → write_of_record (length s.before) r ≡ Some w → (byte : ℕ) (key : Key) (wrote : WroteBefore s.writes (key_after s r) byte key)
    → key_below key (key_in s r) ≡ false → wrote.write ≡ w
only_its s r g w makes byte key wrote late = elim (next_or_earlier s r g byte key wrote) [
  | inl its ↦ sym (same_Some w wrote.write (sym makes ∙ its))
  | inr below ↦ absurd (let no : true ≡ false = sym below ∙ late in cc no)
]

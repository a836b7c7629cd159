use Rattle.std.proofs.Common.{ℕ, ◌≡◌, ◌+◌, ◌≤◌, ◌<◌, ◌==◌, Some, List, [], ◌∷◌, ◌++◌, length, zero, suc, refl, sym, ap, ◌∙◌, subst, inl, inr, IsTrue, arith}
use Rattle.std.specs.Prelude.{nat_le}
use Rattle.std.specs.List.{Contains, list_all, slice_get}
use Rattle.std.specs.Option.{option_to_list}
use Rattle.std.proofs.lemmas.Bool.{and_parts, leb-true, eq-eqb}
use Rattle.std.proofs.lemmas.List.Elements.{Contains-append_left, Contains-append_right, Contains-append_cases}
use Rattle.dt_lists.proofs.Lists.{slice_get-append_seam}
use Rattle.dt_record.specs.declared.keys.Key.{Key}
use Rattle.dt_record.specs.declared.records.Body.{Body}
use Rattle.dt_record.specs.declared.records.Body.TheVariants.{Atomic, Drain}
use Rattle.dt_record.specs.declared.records.Record.{Record}
use Rattle.dt_record.specs.declared.writes.Write.{Write}
use Rattle.dt_record.specs.Writes.{body_write, write_of_record}
use Rattle.dt_writes.specs.OwnWrites.{own_writes_from}
use Rattle.dt_hart.specs.OwnWrites.{are_rising, GoesOn}
use Rattle.dt_hart.specs.Settings.{Setting, stamp_from}
use Rattle.dt_hart.proofs.Members.{Contains-filter, Contains-from_filter, Contains-option, option_contains, list_all-at}

-- The keys of a hart's own writes.

-- a write has the key of its record
pub write_key_is : (key : Key) (body : Body) (w : Write) → body_write key body ≡ Some w → w.key ≡ key
write_key_is key (Drain line mask count bytes) w is = grind (arith)
write_key_is key (Atomic retire paddr width wrote new) w is = grind (arith)
write_key_is key body w is = absurd (cc)

-- a write is that of a record at a place
pub record IsWriteOf (seq : ℕ) (records : List Record) (w : Write) : Type 0 where
  pub place : ℕ
  pub own : Record
  pub there : slice_get records place ≡ Some own
  pub wrote : write_of_record (seq + place) own ≡ Some w

pub own_write : (seq : ℕ) (records : List Record) (w : Write) → Contains (own_writes_from seq records) w → IsWriteOf seq records w
own_write seq [] w there = absurd (omega arith)
own_write seq (r ∷ rs) w there =
    elim (Contains-append_cases (option_to_list (write_of_record seq r)) (own_writes_from (seq + 1) rs) w there) [
      | inl here ↦ record { place = 0; own = r; there = refl; wrote = ap (λ n. write_of_record n r) (omega arith) ∙ Contains-option (write_of_record seq r) w here }
      | inr later ↦
          let found = own_write (seq + 1) rs w later in
          record { place = suc found.place; own = found.own; there = found.there; wrote = ap (λ n. write_of_record n found.own) (omega arith) ∙ found.wrote }
    ]

pub write_of : (seq place : ℕ) (records : List Record) (own : Record) (w : Write) → slice_get records place ≡ Some own → write_of_record (seq + place) own ≡ Some w → Contains (own_writes_from seq records) w
write_of seq place [] own w there wrote = absurd (cc)
write_of seq zero (r ∷ rs) own w there wrote =
    let same : r ≡ own = cc in
    Contains-append_left (option_to_list (write_of_record seq r)) (own_writes_from (seq + 1) rs) w
    (option_contains (write_of_record seq r) w (ap (λ n. write_of_record n r) (omega arith) ∙ ap (write_of_record (seq + 0)) same ∙ wrote))
write_of seq (suc place) (r ∷ rs) own w there wrote =
    Contains-append_right (option_to_list (write_of_record seq r)) (own_writes_from (seq + 1) rs) w
    (write_of (seq + 1) place rs own w there (ap (λ n. write_of_record n own) (omega arith) ∙ wrote))

-- a hart's own write is that of one of its records
pub own_record : (s : Setting) (r : Record) (g : GoesOn s r) (w : Write) → Contains s.writes w → w.key.hart ≡ s.hart → IsWriteOf 0 (s.before ++ r ∷ g.more) w
own_record s r g w there own =
    own_write 0 (s.before ++ r ∷ g.more) w
    (subst (λ (ws : List Write). Contains ws w) g.own (Contains-filter (λ v. v.key.hart == s.hart) s.writes w there (eq-eqb w.key.hart s.hart own)))

-- and the write of each record is among all writes
pub write_is_there : (s : Setting) (r : Record) (g : GoesOn s r) (w : Write) → write_of_record (length s.before) r ≡ Some w → Contains s.writes w
write_is_there s r g w wrote =
    Contains-from_filter (λ v. v.key.hart == s.hart) s.writes w
    (subst (λ (ws : List Write). Contains ws w) (sym g.own)
    (write_of 0 (length s.before) (s.before ++ r ∷ g.more) r w (slice_get-append_seam s.before r g.more) (ap (λ n. write_of_record n r) (omega arith) ∙ wrote)))

-- stamps do not fall from place to place
pub rising_at : (records : List Record) (i j : ℕ) (p q : Record) → IsTrue (are_rising records) → slice_get records i ≡ Some p → slice_get records j ≡ Some q → i < j → p.stamp ≤ q.stamp
rising_at [] i j p q rising first second later = absurd (cc)
rising_at (x ∷ xs) i zero p q rising first second later = absurd (omega arith)
rising_at (x ∷ xs) zero (suc j) p q rising first second later =
    let same : x ≡ p = cc in
    let parts = and_parts (list_all (λ y. nat_le x.stamp y.stamp) xs) (are_rising xs) rising in
    let below : x.stamp ≤ q.stamp = leb-true x.stamp q.stamp (list_all-at (λ y. nat_le x.stamp y.stamp) xs j q parts.0 second) in
    subst (λ (y : Record). y.stamp ≤ q.stamp) same below
rising_at (x ∷ xs) (suc i) (suc j) p q rising first second later =
    rising_at xs i j p q (and_parts (list_all (λ y. nat_le x.stamp y.stamp) xs) (are_rising xs) rising).1 first second (omega arith)

-- the last stamp is at most a later record's
pub stamp_from_below : (stamp : ℕ) (records : List Record) (r : Record) (more : List Record) → IsTrue (are_rising (records ++ r ∷ more)) → stamp ≤ r.stamp → stamp_from stamp records ≤ r.stamp
stamp_from_below stamp [] r more rising below = below
stamp_from_below stamp (x ∷ xs) r more rising below =
    stamp_from_below x.stamp xs r more (and_parts (list_all (λ y. nat_le x.stamp y.stamp) (xs ++ r ∷ more)) (are_rising (xs ++ r ∷ more)) rising).1
    (rising_at (x ∷ xs ++ r ∷ more) 0 (suc (length xs)) x r rising refl (slice_get-append_seam xs r more) (omega arith))

-- and at least that of each record before
first_stamp : (x : Record) (records : List Record) (r : Record) (more : List Record) → IsTrue (are_rising ((x ∷ records) ++ r ∷ more)) → x.stamp ≤ stamp_from x.stamp records
first_stamp x [] r more rising = omega arith
first_stamp x (y ∷ ys) r more rising =
    let here : x.stamp ≤ y.stamp = rising_at ((x ∷ y ∷ ys) ++ r ∷ more) 0 1 x y rising refl refl (omega arith) in
    let later = first_stamp y ys r more (and_parts (list_all (λ z. nat_le x.stamp z.stamp) ((y ∷ ys) ++ r ∷ more)) (are_rising ((y ∷ ys) ++ r ∷ more)) rising).1 in
    omega arith

pub stamp_from_above : (stamp : ℕ) (records : List Record) (r : Record) (more : List Record) (i : ℕ) (p : Record)
    → IsTrue (are_rising (records ++ r ∷ more)) → slice_get records i ≡ Some p → p.stamp ≤ stamp_from stamp records
stamp_from_above stamp [] r more i p rising there = absurd (cc)
stamp_from_above stamp (x ∷ xs) r more zero p rising there =
    let same : x ≡ p = cc in
    subst (λ (y : Record). y.stamp ≤ stamp_from x.stamp xs) same (first_stamp x xs r more rising)
stamp_from_above stamp (x ∷ xs) r more (suc i) p rising there =
    stamp_from_above x.stamp xs r more i p (and_parts (list_all (λ y. nat_le x.stamp y.stamp) (xs ++ r ∷ more)) (are_rising (xs ++ r ∷ more)) rising).1 there

pub stamp_from-snoc : (stamp : ℕ) (records : List Record) (r : Record) → stamp_from stamp (records ++ r ∷ []) ≡ r.stamp
stamp_from-snoc stamp [] r = refl
stamp_from-snoc stamp (x ∷ xs) r = stamp_from-snoc x.stamp xs r

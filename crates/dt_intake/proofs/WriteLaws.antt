use Rattle.std.proofs.Common.{ℕ, ◌≡◌, ◌+◌, ◌≤◌, ◌<◌, ◌==◌, true, false, suc, Option, Some, None, List, [], ◌∷◌, ◌++◌, length, get_or, map, take, drop, nat_lt, nat_le, refl, sym, ap, ◌∙◌, arith, eq-eqb, eqb-true}
use Rattle.std.specs.Prelude.{option_to_list}
use Rattle.std.specs.List.{list_all}
use Rattle.std.proofs.lemmas.Bool.{and_parts, cond-true, leb-true, le-ltb}
use Rattle.std.proofs.lemmas.List.{append_assoc, append-nil, length-take-le, map-append, take_more, take-append-drop}
use mathlib.Core.List.{IsPrefix}
use Rattle.dt_writes.proofs.WritesOfRecords.{key-write_of_record, list_all-step}
use Rattle.dt_lists.proofs.Lists.{filter-dropped}
use Rattle.dt_record.specs.declared.keys.Key.{Key}
use Rattle.dt_record.specs.declared.records.Record.{Record}
use Rattle.dt_record.specs.declared.writes.Note.{Note}
use Rattle.dt_record.specs.declared.writes.Note.TheVariants.{Wrote}
use Rattle.dt_record.specs.declared.writes.Write.{Write}
use Rattle.dt_record.specs.Writes.{write_of_record, counted, writes_after}
use Rattle.dt_writes.specs.OwnWrites.{own_writes_from}
use Rattle.dt_core.specs.Notes.{writes_below}
use Rattle.dt_core.specs.Sound.{writes_by}

-- The writes of a hart's records.

pub own_writes_from-append : (seq : ℕ) (xs ys : List Record) → own_writes_from seq (xs ++ ys) ≡ own_writes_from seq xs ++ own_writes_from (seq + length xs) ys
own_writes_from-append seq [] ys = ap (λ (n : ℕ). own_writes_from n ys) (let plain : seq ≡ seq + 0 = omega arith in plain)
own_writes_from-append seq (x ∷ xs) ys =
    let first = option_to_list (write_of_record seq x) in
    let count : seq + 1 + length xs ≡ seq + suc (length xs) = omega arith in
    ap (λ (ws : List Write). first ++ ws) (own_writes_from-append (seq + 1) xs ys ∙ ap (λ (n : ℕ). own_writes_from (seq + 1) xs ++ own_writes_from n ys) count)
    ∙ sym (append_assoc first (own_writes_from (seq + 1) xs) (own_writes_from (seq + suc (length xs)) ys))

pub own_writes_from-first : (seq : ℕ) (xs ys : List Record) → IsPrefix (own_writes_from seq xs) (own_writes_from seq (xs ++ ys))
own_writes_from-first seq xs ys = (own_writes_from (seq + length xs) ys, sym (own_writes_from-append seq xs ys))

-- the writes of the first records, and of those behind them
pub own_writes_from-parts : (n : ℕ) (rs : List Record) → n ≤ length rs → own_writes_from 0 (take n rs) ++ own_writes_from n (drop n rs) ≡ own_writes_from 0 rs
own_writes_from-parts n rs within =
    let count : n ≡ 0 + length (take n rs) = let size = length-take-le n rs within in omega arith in
    ap (λ (k : ℕ). own_writes_from 0 (take n rs) ++ own_writes_from k (drop n rs)) count
    ∙ sym (own_writes_from-append 0 (take n rs) (drop n rs)) ∙ ap (own_writes_from 0) (take-append-drop n rs)

-- one more record
pub own_writes_from-more : (first : ℕ) (rs : List Record) (i : ℕ) (d : Record) → i < length rs
    → own_writes_from first (take (i + 1) rs) ≡ own_writes_from first (take i rs) ++ option_to_list (write_of_record (first + i) (get_or rs i d))
own_writes_from-more first rs i d within =
    let r = get_or rs i d in
    let count : first + length (take i rs) ≡ first + i = let size = length-take-le i rs (omega arith) in omega arith in
    ap (own_writes_from first) (take_more rs i d within)
    ∙ own_writes_from-append first (take i rs) (r ∷ [])
    ∙ ap (λ (ws : List Write). own_writes_from first (take i rs) ++ ws)
    (append-nil (option_to_list (write_of_record (first + length (take i rs)) r)) ∙ ap (λ (n : ℕ). option_to_list (write_of_record n r)) count)

-- a write has its record's key

-- the writes of a hart's records are the hart's
pub own-own_writes_from : (hart seq : ℕ) (rs : List Record) → list_all (λ (r : Record). r.hart == hart) rs ≡ true
    → list_all (λ (w : Write). w.key.hart == hart) (own_writes_from seq rs) ≡ true
own-own_writes_from hart seq [] own = refl
own-own_writes_from hart seq (r ∷ rs) own =
    let parts = and_parts (r.hart == hart) (list_all (λ (q : Record). q.hart == hart) rs) own in
    list_all-step (λ (w : Write). w.key.hart == hart) (write_of_record seq r) (own_writes_from (seq + 1) rs)
    (λ w is. ap (λ (k : Key). k.hart == hart) (key-write_of_record seq r w is) ∙ parts.0)
    (own-own_writes_from hart (seq + 1) rs parts.1)

-- records of no earlier cycle write nothing below it
pub below-own_writes_from : (stamp seq : ℕ) (rs : List Record) → list_all (λ (r : Record). nat_le stamp r.stamp) rs ≡ true
    → writes_below stamp (own_writes_from seq rs) ≡ []
below-own_writes_from stamp seq [] late = refl
below-own_writes_from stamp seq (r ∷ rs) late =
    let parts = and_parts (nat_le stamp r.stamp) (list_all (λ (q : Record). nat_le stamp q.stamp) rs) late in
    let high : nat_lt r.stamp stamp ≡ false = le-ltb r.stamp stamp (leb-true stamp r.stamp parts.0) in
    one (write_of_record seq r) (λ w is. ap (λ (k : Key). nat_lt k.stamp stamp) (key-write_of_record seq r w is) ∙ high)
    ∙ below-own_writes_from stamp (seq + 1) rs parts.1
  where
    one : (o : Option Write) → ((w : Write) → o ≡ Some w → nat_lt w.key.stamp stamp ≡ false)
        → writes_below stamp (option_to_list o ++ own_writes_from (seq + 1) rs) ≡ writes_below stamp (own_writes_from (seq + 1) rs)
    one None here = refl
    one (Some w) here = filter-dropped (λ (v : Write). nat_lt v.key.stamp stamp) w (own_writes_from (seq + 1) rs) (here w refl)

-- the writes of one hart's records, counted among the records of all harts

own-writes_after : (hart : ℕ) (seqs : ℕ → ℕ) (rs : List Record) → list_all (λ (r : Record). r.hart == hart) rs ≡ true
    → writes_after seqs rs ≡ own_writes_from (seqs hart) rs
own-writes_after hart seqs [] own = refl
own-writes_after hart seqs (r ∷ rs) own =
    let parts = and_parts (r.hart == hart) (list_all (λ (q : Record). q.hart == hart) rs) own in
    let same : r.hart ≡ hart = eqb-true r.hart hart parts.0 in
    let more : counted seqs r hart ≡ seqs hart + 1 = cond-true (hart == r.hart) (seqs hart + 1) (seqs hart) (eq-eqb hart r.hart (sym same)) in
    ap (λ (h : ℕ). option_to_list (write_of_record (seqs h) r) ++ writes_after (counted seqs r) rs) same
    ∙ ap (λ (ws : List Write). option_to_list (write_of_record (seqs hart) r) ++ ws)
    (own-writes_after hart (counted seqs r) rs parts.1 ∙ ap (λ (n : ℕ). own_writes_from n rs) more)

pub own-writes_by : (hart : ℕ) (rs : List Record) → list_all (λ (r : Record). r.hart == hart) rs ≡ true → writes_by rs ≡ own_writes_from 0 rs
own-writes_by hart rs own = own-writes_after hart (λ (h : ℕ). 0) rs own

-- the notes of one more write
pub told-more : (first : ℕ) (rs : List Record) (i : ℕ) (d : Record) (seq : ℕ) (before notes next : List Note) → i < length rs → seq ≡ first + i
    → notes ≡ before ++ map Wrote (own_writes_from first (take i rs))
    → next ≡ notes ++ map Wrote (option_to_list (write_of_record seq (get_or rs i d)))
    → next ≡ before ++ map Wrote (own_writes_from first (take (i + 1) rs))
told-more first rs i d seq before notes next within number was is =
    let told = own_writes_from first (take i rs) in
    let one = option_to_list (write_of_record (first + i) (get_or rs i d)) in
    is
    ∙ ap (λ (n : ℕ). notes ++ map Wrote (option_to_list (write_of_record n (get_or rs i d)))) number
    ∙ ap (λ (ns : List Note). ns ++ map Wrote one) was
    ∙ append_assoc before (map Wrote told) (map Wrote one)
    ∙ ap (λ (ns : List Note). before ++ ns) (sym (map-append Wrote told one))
    ∙ ap (λ (ws : List Write). before ++ map Wrote ws) (sym (own_writes_from-more first rs i d within))

-- The records of one hart among those of a file.
use Rattle.std.proofs.Common.{ℕ, ◌≡◌, ◌≤◌, ◌<◌, ◌+◌, ◌==◌, Bool, true, false, List, [], ◌∷◌, ◌++◌, length, get_or, take, drop, sym, ap, ◌∙◌, nat_le}
use Rattle.std.specs.List.{list_all}
use Rattle.std.proofs.lemmas.Bool.{and_parts, cond-true, cond-false, leb-true}
use Rattle.std.proofs.lemmas.List.{append-nil, drop_more, take-append-drop}
use Rattle.std.proofs.lemmas.List.Elements.{filter-append, filter_more}
use Rattle.dt_record.specs.declared.records.Record.{Record}
use Rattle.dt_record.specs.declared.records.Body.TheVariants.{Commit}
use Rattle.dt_record.specs.Keys.{records_of}
use Rattle.dt_hart.specs.OwnWrites.{are_rising}
use Rattle.dt_hart.specs.Settings.{stamp_from}

-- the record that stands for one past the end
abbrev pub any_record : Record
any_record = record { stamp = 0; hart = 0; body = Commit (record { pc = 0; bits = 0; value = 0 }) }

-- a hart's records before a place of the file, the record there and the hart's records after it
pub own_from : (hart : ℕ) (records : List Record) (i : ℕ) (d : Record) → i < length records → ((get_or records i d).hart == hart) ≡ true
    → records_of hart records ≡ records_of hart (take i records) ++ get_or records i d ∷ records_of hart (drop (i + 1) records)
own_from hart records i d within its =
    ap (records_of hart) (sym (take-append-drop i records))
    ∙ filter-append (λ (r : Record). r.hart == hart) (take i records) (drop i records)
    ∙ ap (λ rs. records_of hart (take i records) ++ records_of hart rs) (drop_more records i d within)
    ∙ ap (λ rs. records_of hart (take i records) ++ rs) (cond-true ((get_or records i d).hart == hart) _ _ its)

pub before_more : (hart : ℕ) (records : List Record) (i : ℕ) (d : Record) → i < length records → ((get_or records i d).hart == hart) ≡ true
    → records_of hart (take (i + 1) records) ≡ records_of hart (take i records) ++ get_or records i d ∷ []
before_more hart records i d within its =
    filter_more (λ (r : Record). r.hart == hart) records i d within ∙ ap (λ rs. records_of hart (take i records) ++ rs) (cond-true ((get_or records i d).hart == hart) _ _ its)

pub before_same : (hart : ℕ) (records : List Record) (i : ℕ) (d : Record) → i < length records → ((get_or records i d).hart == hart) ≡ false
    → records_of hart (take (i + 1) records) ≡ records_of hart (take i records)
before_same hart records i d within other =
    filter_more (λ (r : Record). r.hart == hart) records i d within
    ∙ ap (λ rs. records_of hart (take i records) ++ rs) (cond-false ((get_or records i d).hart == hart) _ _ other)
    ∙ append-nil (records_of hart (take i records))

-- some of the hart's records and the others
pub own_split : (hart : ℕ) (records : List Record) (i : ℕ) → records_of hart records ≡ records_of hart (take i records) ++ records_of hart (drop i records)
own_split hart records i = ap (records_of hart) (sym (take-append-drop i records)) ∙ filter-append (λ (r : Record). r.hart == hart) (take i records) (drop i records)

-- what holds of all holds of one
pub all_seam : (p : Record → Bool) (before : List Record) (r : Record) (more : List Record) → list_all p (before ++ r ∷ more) ≡ true → p r ≡ true
all_seam p [] r more all = (and_parts (p r) (list_all p more) all).0
all_seam p (q ∷ qs) r more all = all_seam p qs r more (and_parts (p q) (list_all p (qs ++ r ∷ more)) all).1

-- its stamp is not below the last one's
pub stamp_rises : (stamp : ℕ) (before : List Record) (r : Record) (more : List Record) → are_rising (before ++ r ∷ more) ≡ true → stamp ≤ r.stamp → stamp_from stamp before ≤ r.stamp
stamp_rises stamp [] r more rising below = below
stamp_rises stamp (q ∷ qs) r more rising below =
    let parts = and_parts (list_all (λ (x : Record). nat_le q.stamp x.stamp) (qs ++ r ∷ more)) (are_rising (qs ++ r ∷ more)) rising in
    stamp_rises q.stamp qs r more parts.1 (leb-true q.stamp r.stamp (all_seam (λ (x : Record). nat_le q.stamp x.stamp) qs r more parts.0))

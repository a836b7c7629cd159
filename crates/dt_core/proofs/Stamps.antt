use Rattle.std.proofs.Common.{ℕ, ◌≡◌, ◌-◌, ◌≤◌, ◌==◌, Bool, true, false, cond, Some, List, [], ◌∷◌, ◌++◌, length, nat_lt, nat_le, suc, refl, sym, ap, ◌∙◌, subst, inl, inr, arith, eq-eqb, eqb-true}
use Rattle.std.specs.Prelude.{option_to_list}
use Rattle.std.specs.List.{slice_get, list_all}
use Rattle.std.proofs.lemmas.Bool.{and_parts, and_from, cases_Bool, cond-true, cond-false, leb-true, le-leb, le-ltb}
use Rattle.std.proofs.lemmas.Bool.Decides.{nat_tests}
use Rattle.std.proofs.lemmas.List.Elements.{filter-append}
use Rattle.dt_lists.proofs.Lists.{filter-kept, filter-dropped}
use Rattle.dt_record.specs.declared.keys.Key.{Key}
use Rattle.dt_record.specs.declared.records.Record.{Record}
use Rattle.dt_record.specs.declared.records.Body.{Body}
use Rattle.dt_record.specs.declared.records.Body.TheVariants.{Commit, Trap, Regs, Csrs, Load, Store, Atomic, Drain, Refill, Beat}
use Rattle.dt_record.specs.declared.writes.Write.{Write}
use Rattle.dt_record.specs.Keys.{records_of}
use Rattle.dt_record.specs.ProbeFile.{AreRecords, stamped}
use Rattle.dt_record.specs.Writes.{body_write, write_of_record, counted, writes_after}
use Rattle.dt_core.specs.Notes.{writes_below}

-- The stamps of one hart's records do not fall, and a write has its record's stamp and hart.

abbrev pub Rises : ℕ → List Record → Type 0
Rises stamp [] = Unit {0}
Rises stamp (r ∷ rs) = (stamp ≤ r.stamp) × Rises r.stamp rs

pub Rises-records_of : (harts hart : ℕ) (last : ℕ → ℕ) (records : List Record) → AreRecords harts last records → Rises (last hart) (records_of hart records)
Rises-records_of harts hart last [] each = tt
Rises-records_of harts hart last (r ∷ rs) each = elim (cases_Bool (r.hart == hart)) [
  | inl own ↦
      let same = eqb-true r.hart hart own in
      let rest = Rises-records_of harts hart (stamped last r) rs each.1 in
      let here : stamped last r hart ≡ r.stamp = cond-true (hart == r.hart) r.stamp (last hart) (eq-eqb hart r.hart (sym same)) in
      let first : last hart ≤ r.stamp = subst (λ (h : ℕ). last h ≤ r.stamp) same each.0.stamp in
      subst (λ (xs : List Record). Rises (last hart) xs) (sym (filter-kept (λ (s : Record). s.hart == hart) r rs own))
      (first, subst (λ (n : ℕ). Rises n (records_of hart rs)) here rest)
  | inr other ↦
      let rest = Rises-records_of harts hart (stamped last r) rs each.1 in
      let here : stamped last r hart ≡ last hart = cond-false (hart == r.hart) r.stamp (last hart) (turned r.hart hart other) in
      subst (λ (xs : List Record). Rises (last hart) xs) (sym (filter-dropped (λ (s : Record). s.hart == hart) r rs other))
      (subst (λ (n : ℕ). Rises n (records_of hart rs)) here rest)
]
  where
    turned : (a b : ℕ) → (a == b) ≡ false → (b == a) ≡ false
    turned a b apart = grind (arith, nat_tests)

last_stamp : ℕ → List Record → ℕ
last_stamp stamp [] = stamp
last_stamp stamp (r ∷ rs) = last_stamp r.stamp rs

Rises-behind : (stamp : ℕ) (xs ys : List Record) → Rises stamp (xs ++ ys) → Rises (last_stamp stamp xs) ys
unfolding last_stamp
Rises-behind stamp [] ys rises = rises
Rises-behind stamp (x ∷ xs) ys rises = Rises-behind x.stamp xs ys rises.1

last_stamp-is : (stamp : ℕ) (xs : List Record) (r : Record) → slice_get xs (length xs - 1) ≡ Some r → last_stamp stamp xs ≡ r.stamp
unfolding last_stamp
last_stamp-is stamp [] r found = absurd (let never : ⊥ = cc in never)
last_stamp-is stamp (x ∷ []) r found = let same : x ≡ r = cc in ap (λ (s : Record). s.stamp) same
last_stamp-is stamp (x ∷ y ∷ ys) r found =
    let place : length (x ∷ y ∷ ys) - 1 ≡ suc (length (y ∷ ys) - 1) = omega arith in
    last_stamp-is x.stamp (y ∷ ys) r (sym (ap (slice_get (x ∷ y ∷ ys)) place) ∙ found)

Rises-all : (stamp low : ℕ) (xs : List Record) → low ≤ stamp → Rises stamp xs → list_all (λ r. nat_le low r.stamp) xs ≡ true
Rises-all stamp low [] under rises = refl
Rises-all stamp low (x ∷ xs) under rises =
    let first = rises.0 in
    and_from (nat_le low x.stamp) _ (le-leb low x.stamp (omega arith)) (Rises-all x.stamp low xs (omega arith) rises.1)

-- what stands behind the last of a hart's taken records is not of an earlier cycle
pub later_stamps : (stamp : ℕ) (xs ys : List Record) (r : Record) → Rises stamp (xs ++ ys) → slice_get xs (length xs - 1) ≡ Some r
    → list_all (λ s. nat_le r.stamp s.stamp) ys ≡ true
later_stamps stamp xs ys r rises last =
    let same = last_stamp-is stamp xs r last in
    Rises-all (last_stamp stamp xs) r.stamp ys (omega arith) (Rises-behind stamp xs ys rises)

cond-alike : {X : Type 0} (b : Bool) (x : X) → x ≡ cond b x x
cond-alike true x = refl
cond-alike false x = refl

body-below : (stamp : ℕ) (key : Key) (body : Body)
    → writes_below stamp (option_to_list (body_write key body)) ≡ cond (nat_lt key.stamp stamp) (option_to_list (body_write key body)) []
body-below stamp key (Drain line mask count bytes) = refl
body-below stamp key (Atomic retire paddr width true new) = refl
body-below stamp key (Atomic retire paddr width false new) = cond-alike (nat_lt key.stamp stamp) []
body-below stamp key (Commit retire) = cond-alike (nat_lt key.stamp stamp) []
body-below stamp key (Trap pc bits cause tval) = cond-alike (nat_lt key.stamp stamp) []
body-below stamp key (Regs pc x) = cond-alike (nat_lt key.stamp stamp) []
body-below stamp key (Csrs mode v) = cond-alike (nat_lt key.stamp stamp) []
body-below stamp key (Load retire at paddr) = cond-alike (nat_lt key.stamp stamp) []
body-below stamp key (Store pc bits paddr value) = cond-alike (nat_lt key.stamp stamp) []
body-below stamp key (Refill line bytes) = cond-alike (nat_lt key.stamp stamp) []
body-below stamp key Beat = cond-alike (nat_lt key.stamp stamp) []

-- records of later cycles write nothing below a stamp
none_below : (stamp : ℕ) (seqs : ℕ → ℕ) (rs : List Record) → list_all (λ r. nat_le stamp r.stamp) rs ≡ true → writes_below stamp (writes_after seqs rs) ≡ []
none_below stamp seqs [] late = refl
none_below stamp seqs (r ∷ rs) late =
    let parts = and_parts (nat_le stamp r.stamp) (list_all (λ s. nat_le stamp s.stamp) rs) late in
    let high : nat_lt r.stamp stamp ≡ false = le-ltb r.stamp stamp (leb-true stamp r.stamp parts.0) in
    let first = option_to_list (write_of_record (seqs r.hart) r) in
    let key : Key = record { stamp = r.stamp; hart = r.hart; seq = seqs r.hart } in
    filter-append (λ (w : Write). nat_lt w.key.stamp stamp) first (writes_after (counted seqs r) rs)
    ∙ ap (λ ws. ws ++ writes_below stamp (writes_after (counted seqs r) rs)) (body-below stamp key r.body ∙ cond-false (nat_lt r.stamp stamp) first [] high)
    ∙ none_below stamp (counted seqs r) rs parts.1

pub same_below : (stamp : ℕ) (seqs : ℕ → ℕ) (xs ys : List Record) → list_all (λ r. nat_le stamp r.stamp) ys ≡ true
    → writes_below stamp (writes_after seqs xs) ≡ writes_below stamp (writes_after seqs (xs ++ ys))
same_below stamp seqs [] ys late = sym (none_below stamp seqs ys late)
same_below stamp seqs (x ∷ xs) ys late =
    let first = option_to_list (write_of_record (seqs x.hart) x) in
    let under : Write → Bool = λ w. nat_lt w.key.stamp stamp in
    filter-append under first (writes_after (counted seqs x) xs)
    ∙ ap (λ ws. writes_below stamp first ++ ws) (same_below stamp (counted seqs x) xs ys late)
    ∙ sym (filter-append under first (writes_after (counted seqs x) (xs ++ ys)))

body-own : (hart : ℕ) (key : Key) (body : Body) → (key.hart == hart) ≡ true → list_all (λ (w : Write). w.key.hart == hart) (option_to_list (body_write key body)) ≡ true
body-own hart key (Drain line mask count bytes) own = and_from (key.hart == hart) true own refl
body-own hart key (Atomic retire paddr width true new) own = and_from (key.hart == hart) true own refl
body-own hart key (Atomic retire paddr width false new) own = refl
body-own hart key (Commit retire) own = refl
body-own hart key (Trap pc bits cause tval) own = refl
body-own hart key (Regs pc x) own = refl
body-own hart key (Csrs mode v) own = refl
body-own hart key (Load retire at paddr) own = refl
body-own hart key (Store pc bits paddr value) own = refl
body-own hart key (Refill line bytes) own = refl
body-own hart key Beat own = refl

all_append : {X : Type 0} (p : X → Bool) (xs ys : List X) → list_all p xs ≡ true → list_all p ys ≡ true → list_all p (xs ++ ys) ≡ true
all_append p [] ys first rest = rest
all_append p (x ∷ xs) ys first rest =
    let parts = and_parts (p x) (list_all p xs) first in
    and_from (p x) (list_all p (xs ++ ys)) parts.0 (all_append p xs ys parts.1 rest)

-- the writes of one hart's records are that hart's
pub own_writes : (hart : ℕ) (seqs : ℕ → ℕ) (rs : List Record) → list_all (λ (r : Record). r.hart == hart) rs ≡ true
    → list_all (λ (w : Write). w.key.hart == hart) (writes_after seqs rs) ≡ true
own_writes hart seqs [] own = refl
own_writes hart seqs (r ∷ rs) own =
    let parts = and_parts (r.hart == hart) (list_all (λ (s : Record). s.hart == hart) rs) own in
    let key : Key = record { stamp = r.stamp; hart = r.hart; seq = seqs r.hart } in
    all_append (λ (w : Write). w.key.hart == hart) (option_to_list (write_of_record (seqs r.hart) r)) (writes_after (counted seqs r) rs)
    (body-own hart key r.body parts.0) (own_writes hart (counted seqs r) rs parts.1)

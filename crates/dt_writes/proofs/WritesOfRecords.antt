use Rattle.std.proofs.Common.{◌≡◌, ℕ, zero, suc, ◌+◌, ◌-◌, ◌*◌, ◌/◌, ◌%◌, ◌<◌, ◌≤◌, Bool, true, false, not, ◌&&◌, ◌||◌, ◌==◌, List, [], ◌∷◌, ◌++◌, length, get_or, filter, refl, sym, ap, ◌∙◌, subst, inl, inr, Option, Some, None, nat_lt, nat_le, arith}
use Rattle.std.specs.Prelude.{option_to_list, is_some}
use Rattle.std.specs.List.{list_all}
use Rattle.std.proofs.lemmas.Bool.{and_parts, and_from, cases_Bool, cond-true, cond-false, not_from_false, or_left, or_right, le-leb, leb-true, lt-ltb, ltb-true, eq-eqb, eqb-true, eqb-false, ne_eqb}
use Rattle.std.proofs.lemmas.Bool.Decides.{nat_tests}
use Rattle.std.proofs.lemmas.List.Elements.{filter-append}
use Rattle.dt_lists.proofs.Lists.{filter-filter, list_all-weaker}
use Rattle.dt_record.specs.declared.keys.Key.{Key}
use Rattle.dt_record.specs.declared.writes.Write.{Write}
use Rattle.dt_record.specs.declared.records.Record.{Record}
use Rattle.dt_record.specs.declared.records.Body.{Body}
use Rattle.dt_record.specs.declared.records.Body.TheVariants.{Commit, Trap, Regs, Csrs, Load, Store, Atomic, Drain, Refill, Beat}
use Rattle.dt_record.specs.Keys.{key_below, key_of, records_of}
use Rattle.dt_record.proofs.KeyLaws.{key_below-cases}
use Rattle.dt_record.specs.Lawful.{Bound, body_bounds, is_atomic_place, is_in_ram, is_ram_line, IsLawful}
use Rattle.dt_record.specs.ProbeFile.{AreRecords, stamped, no_stamps}
use Rattle.dt_record.specs.Writes.{body_write, write_of_record, writes_memory, counted, no_records, writes_after, insert_write, by_key, writes_of}
use Rattle.dt_versions.specs.History.{are_in_order, history, IsKept}
use Rattle.dt_writes.specs.Apart.{keys_differ, are_apart}
use Rattle.dt_writes.specs.FileRecords.{AreFileRecords}
use Rattle.dt_writes.specs.KeyOrder.{under, keys_rise}
use Rattle.dt_writes.specs.OwnWrites.{own_writes_from}
use Rattle.dt_writes.proofs.KeyOrder.{same_from_ties, keys_rise-filter}
use Rattle.dt_writes.proofs.WriteOrder.{write_key, tie, list_all-by_key, in_order-by_key, rises_from_order, filter-by_key}

-- The writes that records make.

pub key-body_write : (key : Key) (b : Body) (w : Write) → body_write key b ≡ Some w → w.key ≡ key
key-body_write key (Drain line mask count bytes) w is = cc
key-body_write key (Atomic retire paddr width true new) w is = cc
key-body_write key (Atomic retire paddr width false new) w is = cc
key-body_write key (Commit retire) w is = cc
key-body_write key (Trap pc bits cause tval) w is = cc
key-body_write key (Regs pc x) w is = cc
key-body_write key (Csrs mode v) w is = cc
key-body_write key (Load retire at paddr) w is = cc
key-body_write key (Store pc bits paddr value) w is = cc
key-body_write key (Refill line bytes) w is = cc
key-body_write key Beat w is = cc

pub key-write_of_record : (seq : ℕ) (r : Record) (w : Write) → write_of_record seq r ≡ Some w → w.key ≡ key_of seq r
key-write_of_record seq r w is = key-body_write (key_of seq r) r.body w is

-- one record's write before those of later records
pub list_all-step : (p : Write → Bool) (o : Option Write) (rest : List Write) → ((w : Write) → o ≡ Some w → p w ≡ true)
    → list_all p rest ≡ true → list_all p (option_to_list o ++ rest) ≡ true
list_all-step p None rest here all = all
list_all-step p (Some w) rest here all = and_from (p w) (list_all p rest) (here w refl) all

-- whether a write's record is none of the first ones of its hart
abbrev is_later : (ℕ → ℕ) → Write → Bool
is_later seqs w = nat_le (seqs w.key.hart) w.key.seq

counted-le : (seqs : ℕ → ℕ) (r : Record) (hart : ℕ) → seqs hart ≤ counted seqs r hart
counted-le seqs r hart = elim (cases_Bool (hart == r.hart)) [
  | inl same ↦ let e = cond-true (hart == r.hart) (seqs hart + 1) (seqs hart) same in omega arith
  | inr other ↦ let e = cond-false (hart == r.hart) (seqs hart + 1) (seqs hart) other in omega arith
]

counted-own : (seqs : ℕ → ℕ) (r : Record) (hart : ℕ) → hart ≡ r.hart → counted seqs r hart ≡ seqs hart + 1
counted-own seqs r hart same = cond-true (hart == r.hart) _ _ (eq-eqb hart r.hart same)

later-writes_after : (seqs : ℕ → ℕ) (rs : List Record) → list_all (is_later seqs) (writes_after seqs rs) ≡ true
later-writes_after seqs [] = refl
later-writes_after seqs (r ∷ rs) =
    list_all-step (is_later seqs) (write_of_record (seqs r.hart) r) (writes_after (counted seqs r) rs)
    (λ w is.
    let key = key-write_of_record (seqs r.hart) r w is in
    le-leb (seqs w.key.hart) w.key.seq (subst (λ (k : Key). seqs k.hart ≤ k.seq) (sym key) (omega arith)))
    (list_all-weaker (is_later (counted seqs r)) (is_later seqs) (writes_after (counted seqs r) rs)
    (λ w later. let above = leb-true (counted seqs r w.key.hart) w.key.seq later in let less = counted-le seqs r w.key.hart in le-leb (seqs w.key.hart) w.key.seq (omega arith))
    (later-writes_after (counted seqs r) rs))

differ-later : (seqs : ℕ → ℕ) (r : Record) (w v : Write) → w.key ≡ key_of (seqs r.hart) r → is_later (counted seqs r) v ≡ true → keys_differ w.key v.key ≡ true
differ-later seqs r w v key later = elim (key_below-cases w.key v.key) [
  | inl below ↦ or_left _ _ below
  | inr (inl same) ↦
      let it : v.key ≡ key_of (seqs r.hart) r = sym same ∙ key in
      let above = leb-true (counted seqs r v.key.hart) v.key.seq later in
      let hart : v.key.hart ≡ r.hart = ap (λ (k : Key). k.hart) it in
      let seq : v.key.seq ≡ seqs r.hart = ap (λ (k : Key). k.seq) it in
      let more : counted seqs r v.key.hart ≡ seqs r.hart + 1 = counted-own seqs r v.key.hart hart ∙ ap (λ h. seqs h + 1) hart in
      absurd (omega arith)
  | inr (inr above) ↦ or_right _ _ above
]

apart-step : (o : Option Write) (rest : List Write) → ((w : Write) → o ≡ Some w → list_all (λ v. keys_differ w.key v.key) rest ≡ true)
    → are_apart rest ≡ true → are_apart (option_to_list o ++ rest) ≡ true
apart-step None rest here apart = apart
apart-step (Some w) rest here apart = and_from (list_all (λ v. keys_differ w.key v.key) rest) (are_apart rest) (here w refl) apart

-- no two records of a file have one key
pub apart-writes_after : (seqs : ℕ → ℕ) (rs : List Record) → are_apart (writes_after seqs rs) ≡ true
apart-writes_after seqs [] = refl
apart-writes_after seqs (r ∷ rs) =
    apart-step (write_of_record (seqs r.hart) r) (writes_after (counted seqs r) rs)
    (λ w is.
    let key = key-write_of_record (seqs r.hart) r w is in
    list_all-weaker (is_later (counted seqs r)) (λ v. keys_differ w.key v.key) (writes_after (counted seqs r) rs)
    (λ v later. differ-later seqs r w v key later) (later-writes_after (counted seqs r) rs))
    (apart-writes_after (counted seqs r) rs)

-- lines of lawful records are lines of RAM
line_of_place : (paddr width : ℕ) → is_atomic_place paddr width ≡ true → is_ram_line (paddr - paddr % 64) ≡ true
line_of_place paddr width place =
    let ram = and_parts (nat_le 0x8000_0000 paddr) (nat_lt paddr 0x8400_0000) (and_parts (paddr % width == 0) (is_in_ram paddr) (and_parts ((width == 4) || (width == 8)) ((paddr % width == 0) && is_in_ram paddr) place).1).1 in
    let low = leb-true 0x8000_0000 paddr ram.0 in
    let high = ltb-true paddr 0x8400_0000 ram.1 in
    let line = paddr - paddr % 64 in
    let whole : line ≡ 64 * (paddr / 64) = omega arith in
    let aligned : line % 64 ≡ 0 = ap (λ n. n % 64) whole ∙ omega arith in
    let above : 0x8000_0000 ≤ line = omega arith in
    let below : line < 0x8400_0000 = omega arith in
    and_from (line % 64 == 0) (is_in_ram line) (eq-eqb (line % 64) 0 aligned)
    (and_from (nat_le 0x8000_0000 line) (nat_lt line 0x8400_0000) (le-leb 0x8000_0000 line above) (lt-ltb line 0x8400_0000 below))

line-body_write : (key : Key) (stamp : ℕ) (b : Body) (w : Write) → list_all (λ (x : Bound). x.holds) (body_bounds stamp b) ≡ true
    → body_write key b ≡ Some w → is_ram_line w.line ≡ true
line-body_write key stamp (Drain line mask count bytes) w lawful is =
    let e : w.line ≡ line = cc in ap is_ram_line e ∙ (and_parts (is_ram_line line) _ lawful).0
line-body_write key stamp (Atomic retire paddr width true new) w lawful is =
    let e : w.line ≡ paddr - paddr % 64 = cc in
    ap is_ram_line e ∙ line_of_place paddr width (and_parts (is_atomic_place paddr width) _ (and_parts _ _ lawful).1).0
line-body_write key stamp (Atomic retire paddr width false new) w lawful is = cc
line-body_write key stamp (Commit retire) w lawful is = cc
line-body_write key stamp (Trap pc bits cause tval) w lawful is = cc
line-body_write key stamp (Regs pc x) w lawful is = cc
line-body_write key stamp (Csrs mode v) w lawful is = cc
line-body_write key stamp (Load retire at paddr) w lawful is = cc
line-body_write key stamp (Store pc bits paddr value) w lawful is = cc
line-body_write key stamp (Refill line bytes) w lawful is = cc
line-body_write key stamp Beat w lawful is = cc

-- a lawful record writes to a line of RAM
pub line-write_of_record : (seq : ℕ) (r : Record) (w : Write) → IsLawful r → write_of_record seq r ≡ Some w → is_ram_line w.line ≡ true
line-write_of_record seq r w lawful is = line-body_write (key_of seq r) r.stamp r.body w (and_parts (nat_lt r.hart 8) _ lawful).1 is

pub in_ram-writes_after : (harts : ℕ) (last seqs : ℕ → ℕ) (rs : List Record) → AreRecords harts last rs
    → list_all (λ (w : Write). is_ram_line w.line) (writes_after seqs rs) ≡ true
in_ram-writes_after harts last seqs [] are = refl
in_ram-writes_after harts last seqs (r ∷ rs) are =
    list_all-step (λ (w : Write). is_ram_line w.line) (write_of_record (seqs r.hart) r) (writes_after (counted seqs r) rs)
    (λ w is. line-write_of_record (seqs r.hart) r w are.0.lawful is)
    (in_ram-writes_after harts (stamped last r) (counted seqs r) rs are.1)

-- how many writes there are
writes-body : (key : Key) (stamp hart : ℕ) (b : Body) → is_some (body_write key b) ≡ writes_memory (record { stamp = stamp; hart = hart; body = b })
writes-body key stamp hart (Drain line mask count bytes) = refl
writes-body key stamp hart (Atomic retire paddr width true new) = refl
writes-body key stamp hart (Atomic retire paddr width false new) = refl
writes-body key stamp hart (Commit retire) = refl
writes-body key stamp hart (Trap pc bits cause tval) = refl
writes-body key stamp hart (Regs pc x) = refl
writes-body key stamp hart (Csrs mode v) = refl
writes-body key stamp hart (Load retire at paddr) = refl
writes-body key stamp hart (Store pc bits paddr value) = refl
writes-body key stamp hart (Refill line bytes) = refl
writes-body key stamp hart Beat = refl

length-step : (o : Option Write) (rest : List Write) (r : Record) (rs : List Record) → is_some o ≡ writes_memory r
    → length rest ≡ length (filter writes_memory rs) → length (option_to_list o ++ rest) ≡ length (filter writes_memory (r ∷ rs))
length-step None rest r rs is long = long ∙ ap length (sym (cond-false (writes_memory r) (r ∷ filter writes_memory rs) (filter writes_memory rs) (sym is)))
length-step (Some w) rest r rs is long =
    let one = ap length (cond-true (writes_memory r) (r ∷ filter writes_memory rs) (filter writes_memory rs) (sym is)) in
    ap suc long ∙ sym one

pub length-writes_after : (seqs : ℕ → ℕ) (rs : List Record) → length (writes_after seqs rs) ≡ length (filter writes_memory rs)
length-writes_after seqs [] = refl
length-writes_after seqs (r ∷ rs) =
    length-step (write_of_record (seqs r.hart) r) (writes_after (counted seqs r) rs) r rs
    (writes-body (key_of (seqs r.hart) r) r.stamp r.hart r.body) (length-writes_after (counted seqs r) rs)

length-insert : (w : Write) (vs : List Write) → length (insert_write w vs) ≡ suc (length vs)
length-insert w [] = refl
length-insert w (v ∷ vs) = elim (cases_Bool (key_below w.key v.key)) [
  | inl below ↦ ap length (cond-true (key_below w.key v.key) (w ∷ v ∷ vs) (v ∷ insert_write w vs) below)
  | inr above ↦ ap length (cond-false (key_below w.key v.key) (w ∷ v ∷ vs) (v ∷ insert_write w vs) above) ∙ ap suc (length-insert w vs)
]

pub length-by_key : (ws : List Write) → length (by_key ws) ≡ length ws
length-by_key [] = refl
length-by_key (w ∷ ws) = length-insert w (by_key ws) ∙ ap suc (length-by_key ws)

-- the writes of one hart
abbrev is_of : ℕ → Write → Bool
is_of hart w = w.key.hart == hart

filter-own : (hart : ℕ) (o : Option Write) → ((w : Write) → o ≡ Some w → is_of hart w ≡ true) → filter (is_of hart) (option_to_list o) ≡ option_to_list o
filter-own hart None here = refl
filter-own hart (Some w) here = cond-true (is_of hart w) (w ∷ []) [] (here w refl)

filter-foreign : (hart : ℕ) (o : Option Write) → ((w : Write) → o ≡ Some w → is_of hart w ≡ false) → filter (is_of hart) (option_to_list o) ≡ []
filter-foreign hart None here = refl
filter-foreign hart (Some w) here = cond-false (is_of hart w) (w ∷ []) [] (here w refl)

filter-writes_after : (hart : ℕ) (seqs : ℕ → ℕ) (rs : List Record)
    → filter (is_of hart) (writes_after seqs rs) ≡ own_writes_from (seqs hart) (records_of hart rs)
filter-writes_after hart seqs [] = refl
filter-writes_after hart seqs (r ∷ rs) =
    let o = write_of_record (seqs r.hart) r in
    let rest = writes_after (counted seqs r) rs in
    let split = filter-append (is_of hart) (option_to_list o) rest in
    let later = filter-writes_after hart (counted seqs r) rs in
    let key : (w : Write) → o ≡ Some w → w.key.hart ≡ r.hart = λ w is. ap (λ (k : Key). k.hart) (key-write_of_record (seqs r.hart) r w is) in
    elim (cases_Bool (r.hart == hart)) [
      | inl own ↦
          let same = eqb-true r.hart hart own in
          let here = filter-own hart o (λ w is. ap (λ h. h == hart) (key w is) ∙ own) in
          split ∙ ap (λ l. l ++ filter (is_of hart) rest) here ∙ ap (λ l. option_to_list o ++ l) later
          ∙ ap (λ n. option_to_list o ++ own_writes_from n (records_of hart rs)) (counted-own seqs r hart (sym same))
          ∙ ap (λ h. option_to_list (write_of_record (seqs h) r) ++ own_writes_from (seqs hart + 1) (records_of hart rs)) same
          ∙ sym (ap (own_writes_from (seqs hart)) (cond-true (r.hart == hart) (r ∷ records_of hart rs) (records_of hart rs) own))
      | inr foreign ↦
          let here = filter-foreign hart o (λ w is. ap (λ h. h == hart) (key w is) ∙ foreign) in
          let turned : (hart == r.hart) ≡ false = ne_eqb hart r.hart (λ e. eqb-false r.hart hart foreign (sym e)) in
          split ∙ ap (λ l. l ++ filter (is_of hart) rest) here ∙ later
          ∙ ap (λ n. own_writes_from n (records_of hart rs)) (cond-false (hart == r.hart) (seqs hart + 1) (seqs hart) turned)
          ∙ sym (ap (own_writes_from (seqs hart)) (cond-false (r.hart == hart) (r ∷ records_of hart rs) (records_of hart rs) foreign))
    ]

-- records of one hart with stamps that do not fall
abbrev AreOwn : ℕ → ℕ → List Record → Type 0
AreOwn hart last [] = Unit {0}
AreOwn hart last (r ∷ rs) = (r.hart ≡ hart) × (last ≤ r.stamp) × AreOwn hart r.stamp rs

-- a write of one of these records, or of one after so many with no lower stamp
abbrev is_after : ℕ → ℕ → ℕ → Write → Bool
is_after hart stamp seq w = (w.key.hart == hart) && (nat_le stamp w.key.stamp && nat_le seq w.key.seq)

after-key : (hart stamp seq : ℕ) (w : Write) (k : Key) → w.key ≡ k → k.hart ≡ hart → stamp ≤ k.stamp → seq ≤ k.seq → is_after hart stamp seq w ≡ true
after-key hart stamp seq w k is same later more =
    ap (λ (x : Key). (x.hart == hart) && (nat_le stamp x.stamp && nat_le seq x.seq)) is
    ∙ and_from (k.hart == hart) (nat_le stamp k.stamp && nat_le seq k.seq) (eq-eqb k.hart hart same)
    (and_from (nat_le stamp k.stamp) (nat_le seq k.seq) (le-leb stamp k.stamp later) (le-leb seq k.seq more))

after-weaker : (hart low high seq : ℕ) (w : Write) → low ≤ high → is_after hart high (seq + 1) w ≡ true → is_after hart low seq w ≡ true
after-weaker hart low high seq w less after =
    let parts = and_parts (w.key.hart == hart) (nat_le high w.key.stamp && nat_le (seq + 1) w.key.seq) after in
    let both = and_parts (nat_le high w.key.stamp) (nat_le (seq + 1) w.key.seq) parts.1 in
    let stamp = leb-true high w.key.stamp both.0 in
    let number = leb-true (seq + 1) w.key.seq both.1 in
    after-key hart low seq w w.key refl (eqb-true w.key.hart hart parts.0) (omega arith) (omega arith)

after-own : (hart last seq : ℕ) (rs : List Record) → AreOwn hart last rs → list_all (is_after hart last seq) (own_writes_from seq rs) ≡ true
after-own hart last seq [] own = refl
after-own hart last seq (r ∷ rs) own =
    list_all-step (is_after hart last seq) (write_of_record seq r) (own_writes_from (seq + 1) rs)
    (λ w is. after-key hart last seq w (key_of seq r) (key-write_of_record seq r w is) own.0 own.1 (omega arith))
    (list_all-weaker (is_after hart r.stamp (seq + 1)) (is_after hart last seq) (own_writes_from (seq + 1) rs)
    (λ w after. after-weaker hart last r.stamp seq w own.1 after) (after-own hart r.stamp (seq + 1) rs own.2))

-- a key of the same hart with no lower stamp and a greater number does not stand before
not_under : (a b : Key) → a.hart ≡ b.hart → b.stamp ≤ a.stamp → b.seq < a.seq → key_below a b ≡ false
not_under a b hart stamp seq = grind (arith, nat_tests)

rises-step : (o : Option Write) (rest : List Write) → ((w : Write) → o ≡ Some w → list_all (λ v. not (under write_key v w)) rest ≡ true)
    → keys_rise write_key rest ≡ true → keys_rise write_key (option_to_list o ++ rest) ≡ true
rises-step None rest here rise = rise
rises-step (Some w) rest here rise = and_from (list_all (λ v. not (under write_key v w)) rest) (keys_rise write_key rest) (here w refl) rise

rises-own : (hart last seq : ℕ) (rs : List Record) → AreOwn hart last rs → keys_rise write_key (own_writes_from seq rs) ≡ true
rises-own hart last seq [] own = refl
rises-own hart last seq (r ∷ rs) own =
    rises-step (write_of_record seq r) (own_writes_from (seq + 1) rs)
    (λ w is.
    list_all-weaker (is_after hart r.stamp (seq + 1)) (λ v. not (under write_key v w)) (own_writes_from (seq + 1) rs)
    (λ v after.
    let parts = and_parts (v.key.hart == hart) (nat_le r.stamp v.key.stamp && nat_le (seq + 1) v.key.seq) after in
    let both = and_parts (nat_le r.stamp v.key.stamp) (nat_le (seq + 1) v.key.seq) parts.1 in
    let stamp = leb-true r.stamp v.key.stamp both.0 in
    let number = leb-true (seq + 1) v.key.seq both.1 in
    let key = key-write_of_record seq r w is in
    let it = not_under v.key (key_of seq r) (eqb-true v.key.hart hart parts.0 ∙ sym own.0) stamp (omega arith) in
    not_from_false _ (ap (λ k. key_below v.key k) key ∙ it))
    (after-own hart r.stamp (seq + 1) rs own.2))
    (rises-own hart r.stamp (seq + 1) rs own.2)

-- a hart's records among those of a file
own-records_of : (harts : ℕ) (last : ℕ → ℕ) (hart : ℕ) (rs : List Record) → AreRecords harts last rs → AreOwn hart (last hart) (records_of hart rs)
own-records_of harts last hart [] are = tt
own-records_of harts last hart (r ∷ rs) are =
    let later = own-records_of harts (stamped last r) hart rs are.1 in
    elim (cases_Bool (r.hart == hart)) [
      | inl own ↦
          let same = eqb-true r.hart hart own in
          let now : stamped last r hart ≡ r.stamp = cond-true (hart == r.hart) r.stamp (last hart) (eq-eqb hart r.hart (sym same)) in
          let before : last hart ≤ r.stamp = subst (λ h. last h ≤ r.stamp) same are.0.stamp in
          subst (AreOwn hart (last hart)) (sym (cond-true (r.hart == hart) (r ∷ records_of hart rs) (records_of hart rs) own))
          (same, before, subst (λ n. AreOwn hart n (records_of hart rs)) now later)
      | inr foreign ↦
          let turned : (hart == r.hart) ≡ false = ne_eqb hart r.hart (λ e. eqb-false r.hart hart foreign (sym e)) in
          let still : stamped last r hart ≡ last hart = cond-false (hart == r.hart) r.stamp (last hart) turned in
          subst (AreOwn hart (last hart)) (sym (cond-false (r.hart == hart) (r ∷ records_of hart rs) (records_of hart rs) foreign))
          (subst (λ n. AreOwn hart n (records_of hart rs)) still later)
    ]

-- each record of a file is lawful
pub lawful-place : (harts : ℕ) (last : ℕ → ℕ) (rs : List Record) (i : ℕ) (d : Record) → AreRecords harts last rs → i < length rs → IsLawful (get_or rs i d)
lawful-place harts last [] i d are within = absurd (omega arith)
lawful-place harts last (r ∷ rs) zero d are within = are.0.lawful
lawful-place harts last (r ∷ rs) (suc i) d are within = lawful-place harts (stamped last r) rs i d are.1 (omega arith)

pub hart-place : (harts : ℕ) (last : ℕ → ℕ) (rs : List Record) (i : ℕ) (d : Record) → AreRecords harts last rs → i < length rs → (get_or rs i d).hart < 8
hart-place harts last rs i d are within =
    let r = get_or rs i d in
    ltb-true r.hart 8 (and_parts (nat_lt r.hart 8) (list_all (λ (x : Bound). x.holds) (body_bounds r.stamp r.body)) (lawful-place harts last rs i d are within)).0

pub in_order-writes_of : (rs : List Record) → are_in_order (writes_of rs) ≡ true
in_order-writes_of rs = in_order-by_key (writes_after no_records rs) (apart-writes_after no_records rs)

pub filter-writes_of : (harts : ℕ) (last : ℕ → ℕ) (hart : ℕ) (rs : List Record) → AreRecords harts last rs
    → filter (is_of hart) (writes_of rs) ≡ own_writes_from 0 (records_of hart rs)
filter-writes_of harts last hart rs are =
    let ws = writes_after no_records rs in
    let apart = apart-writes_after no_records rs in
    let own = filter-writes_after hart no_records rs in
    same_from_ties write_key (filter (is_of hart) (by_key ws)) (own_writes_from 0 (records_of hart rs))
    (keys_rise-filter write_key (is_of hart) (by_key ws) (rises_from_order (by_key ws) (in_order-by_key ws apart)))
    (rises-own hart (last hart) 0 (records_of hart rs) (own-records_of harts last hart rs are))
    (λ x.
    filter-filter (tie x) (is_of hart) (by_key ws)
    ∙ ap (filter (is_of hart)) (filter-by_key x ws apart)
    ∙ filter-filter (is_of hart) (tie x) ws
    ∙ ap (filter (tie x)) own)

-- the writes of a file can be kept
pub IsKept-writes_of : (image : List ℕ) (rs : List Record) → AreFileRecords rs → IsKept (history image (writes_of rs))
IsKept-writes_of image rs file =
    let ws = writes_after no_records rs in
    record {
      in_order = in_order-writes_of rs;
      in_ram = list_all-by_key (λ w. is_ram_line w.line) ws (in_ram-writes_after file.harts no_stamps no_records rs file.each);
      within_limit = omega (arith, file.few_writes, length-by_key ws, length-writes_after no_records rs);
    }

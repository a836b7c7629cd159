-- The fields of a spelling are read back from it. So no two records have one spelling.
use Rattle.std.proofs.Common.{◌≡◌, ℕ, suc, ◌<◌, ◌^◌, ◌==◌, Bool, not, List, [], ◌∷◌, ◌++◌, length, drop, refl, sym, ap, ◌∙◌, append_assoc}
use Rattle.std.specs.List.{flat_map, AllByRecursion}
use Rattle.std.proofs.lemmas.Nat.{from_le_bytes-to_le_bytes_2, from_le_bytes-to_le_bytes_4, from_le_bytes-to_le_bytes_8}
use Rattle.std.proofs.lemmas.List.{take_at, drop_at}
use Rattle.dt_record.specs.declared.records.Record.{Record}
use Rattle.dt_record.specs.declared.records.Retire.{Retire}
use Rattle.dt_record.specs.declared.records.Body.{Body}
use Rattle.dt_record.specs.declared.records.Body.TheVariants.{Commit, Trap, Regs, Csrs, Load, Store, Atomic, Drain, Refill, Beat}
use Rattle.dt_record.specs.Lawful.{FitsRetire, FitsList, FitsBody, FitsRecord}
use Rattle.dt_record.specs.Tags.{tag_number}
use Rattle.dt_record.specs.Spelling.{half, word, double, retire_bytes}
use Rattle.dt_record_bytes.specs.WideAnswer.{body_bytes_with, wide_bytes_with, IsWroteByte}
use Rattle.dt_record_bytes.specs.WideReading.{with_byte, with_half, with_word, with_double, with_doubles, with_line, with_retire, parts, read_trap, read_regs, read_csrs, read_load, read_store, read_atomic, read_drain, read_refill, read_body, whole, joined, read_fields}

byte_again : {A : Type 0} (x : ℕ) (xs : List ℕ) (next : ℕ → List ℕ → A) → with_byte (x ∷ xs) next ≡ next x xs
unfolding with_byte
byte_again x xs next = refl

half_again : {A : Type 0} (n : ℕ) (rest : List ℕ) (next : ℕ → List ℕ → A) → n < 2 ^ 16 → with_half (half n ++ rest) next ≡ next n rest
unfolding with_half half
half_again n rest next fits = ap (λ (m : ℕ). next m rest) (from_le_bytes-to_le_bytes_2 n fits)

word_again : {A : Type 0} (n : ℕ) (rest : List ℕ) (next : ℕ → List ℕ → A) → n < 2 ^ 32 → with_word (word n ++ rest) next ≡ next n rest
unfolding with_word word
word_again n rest next fits = ap (λ (m : ℕ). next m rest) (from_le_bytes-to_le_bytes_4 n fits)

double_again : {A : Type 0} (n : ℕ) (rest : List ℕ) (next : ℕ → List ℕ → A) → n < 2 ^ 64 → with_double (double n ++ rest) next ≡ next n rest
unfolding with_double double
double_again n rest next fits = ap (λ (m : ℕ). next m rest) (from_le_bytes-to_le_bytes_8 n fits)

doubles_again : {A : Type 0} (xs rest : List ℕ) (next : List ℕ → List ℕ → A) → AllByRecursion (λ x. x < 2 ^ 64) xs → with_doubles (length xs) (flat_map double xs ++ rest) next ≡ next xs rest
unfolding with_doubles
doubles_again [] rest next fits = refl
doubles_again (x ∷ xs) rest next fits =
    ap (λ (z : List ℕ). with_doubles (suc (length xs)) z next) (append_assoc (double x) (flat_map double xs) rest)
    ∙ double_again x (flat_map double xs ++ rest) (λ y more. with_doubles (length xs) more (λ ys left. next (y ∷ ys) left)) fits.0
    ∙ doubles_again xs rest (λ ys left. next (x ∷ ys) left) fits.1

counted_again : {A : Type 0} (n : ℕ) (xs rest : List ℕ) (next : List ℕ → List ℕ → A) → FitsList n (2 ^ 64) xs → with_doubles n (flat_map double xs ++ rest) next ≡ next xs rest
counted_again n xs rest next fits =
    ap (λ (k : ℕ). with_doubles k (flat_map double xs ++ rest) next) (sym fits.count_is) ∙ doubles_again xs rest next fits.each

line_again : {A : Type 0} (xs rest : List ℕ) (next : List ℕ → List ℕ → A) → FitsList 64 (2 ^ 8) xs → with_line (xs ++ rest) next ≡ next xs rest
unfolding with_line
line_again xs rest next fits =
    ap (λ (z : List ℕ). next z (drop 64 (xs ++ rest))) (take_at xs rest 64 fits.count_is) ∙ ap (λ (z : List ℕ). next xs z) (drop_at xs rest 64 fits.count_is)

retire_again : {A : Type 0} (r : Retire) (rest : List ℕ) (next : Retire → List ℕ → A) → FitsRetire r → with_retire (retire_bytes r ++ rest) next ≡ next r rest
unfolding with_retire
retire_again r rest next fits =
    let regrouped : retire_bytes r ++ rest ≡ double r.pc ++ (word r.bits ++ (double r.value ++ rest)) = simp append_assoc in
    ap (λ (z : List ℕ). with_retire z next) regrouped ∙ double_again r.pc _ _ fits.pc ∙ word_again r.bits _ _ fits.bits ∙ double_again r.value rest _ fits.value

trap_again : (pc bits cause tval : ℕ) (rest : List ℕ) → FitsBody (Trap pc bits cause tval) → read_trap (body_bytes_with 0 (Trap pc bits cause tval) ++ rest) ≡ parts (Trap pc bits cause tval) 0 rest
unfolding read_trap
trap_again pc bits cause tval rest fits =
    let regrouped : body_bytes_with 0 (Trap pc bits cause tval) ++ rest ≡ double pc ++ (word bits ++ (double cause ++ (double tval ++ rest))) = simp append_assoc in
    ap read_trap regrouped ∙ double_again pc _ _ fits.0 ∙ word_again bits _ _ fits.1 ∙ double_again cause _ _ fits.2 ∙ double_again tval rest _ fits.3

regs_again : (pc : ℕ) (x rest : List ℕ) → FitsBody (Regs pc x) → read_regs (body_bytes_with 0 (Regs pc x) ++ rest) ≡ parts (Regs pc x) 0 rest
unfolding read_regs
regs_again pc x rest fits =
    ap read_regs (append_assoc (double pc) (flat_map double x) rest) ∙ double_again pc _ _ fits.0 ∙ counted_again 31 x rest _ fits.1

csrs_again : (mode : ℕ) (v rest : List ℕ) → FitsBody (Csrs mode v) → read_csrs (body_bytes_with 0 (Csrs mode v) ++ rest) ≡ parts (Csrs mode v) 0 rest
unfolding read_csrs
csrs_again mode v rest fits = byte_again mode (flat_map double v ++ rest) _ ∙ counted_again 17 v rest _ fits.1

load_again : (r : Retire) (at paddr : ℕ) (rest : List ℕ) → FitsBody (Load r at paddr) → read_load (body_bytes_with 0 (Load r at paddr) ++ rest) ≡ parts (Load r at paddr) 0 rest
unfolding read_load
load_again r at paddr rest fits =
    let regrouped : body_bytes_with 0 (Load r at paddr) ++ rest ≡ retire_bytes r ++ (double at ++ (double paddr ++ rest)) = append_assoc (retire_bytes r ++ double at) (double paddr) rest ∙ append_assoc (retire_bytes r) (double at) (double paddr ++ rest) in
    ap read_load regrouped ∙ retire_again r _ _ fits.0 ∙ double_again at _ _ fits.1 ∙ double_again paddr rest _ fits.2

store_again : (pc bits paddr value : ℕ) (rest : List ℕ) → FitsBody (Store pc bits paddr value) → read_store (body_bytes_with 0 (Store pc bits paddr value) ++ rest) ≡ parts (Store pc bits paddr value) 0 rest
unfolding read_store
store_again pc bits paddr value rest fits =
    let regrouped : body_bytes_with 0 (Store pc bits paddr value) ++ rest ≡ double pc ++ (word bits ++ (double paddr ++ (double value ++ rest))) = simp append_assoc in
    ap read_store regrouped ∙ double_again pc _ _ fits.0 ∙ word_again bits _ _ fits.1 ∙ double_again paddr _ _ fits.2 ∙ double_again value rest _ fits.3

atomic_again : (r : Retire) (paddr width : ℕ) (wrote : Bool) (new w : ℕ) (rest : List ℕ) → FitsBody (Atomic r paddr width wrote new) → wrote ≡ not (w == 0) → read_atomic (body_bytes_with w (Atomic r paddr width wrote new) ++ rest) ≡ parts (Atomic r paddr width wrote new) w rest
unfolding read_atomic
atomic_again r paddr width wrote new w rest fits is =
    let regrouped : body_bytes_with w (Atomic r paddr width wrote new) ++ rest ≡ retire_bytes r ++ (double paddr ++ (width ∷ w ∷ (double new ++ rest))) = append_assoc (retire_bytes r ++ double paddr) (width ∷ w ∷ double new) rest ∙ append_assoc (retire_bytes r) (double paddr) (width ∷ w ∷ (double new ++ rest)) in
    ap read_atomic regrouped ∙ retire_again r _ _ fits.0 ∙ double_again paddr _ _ fits.1 ∙ byte_again width _ _ ∙ byte_again w _ _ ∙ double_again new rest _ fits.3
    ∙ ap (λ (b : Bool). parts (Atomic r paddr width b new) w rest) (sym is)

drain_again : (line mask count : ℕ) (xs rest : List ℕ) → FitsBody (Drain line mask count xs) → read_drain (body_bytes_with 0 (Drain line mask count xs) ++ rest) ≡ parts (Drain line mask count xs) 0 rest
unfolding read_drain
drain_again line mask count xs rest fits =
    let regrouped : body_bytes_with 0 (Drain line mask count xs) ++ rest ≡ double line ++ (double mask ++ (half count ++ (xs ++ rest))) = simp append_assoc in
    ap read_drain regrouped ∙ double_again line _ _ fits.0 ∙ double_again mask _ _ fits.1 ∙ half_again count _ _ fits.2 ∙ line_again xs rest _ fits.3

refill_again : (line : ℕ) (xs rest : List ℕ) → FitsBody (Refill line xs) → read_refill (body_bytes_with 0 (Refill line xs) ++ rest) ≡ parts (Refill line xs) 0 rest
unfolding read_refill
refill_again line xs rest fits =
    ap read_refill (append_assoc (double line) xs rest) ∙ double_again line _ _ fits.0 ∙ line_again xs rest _ fits.1

body_again : (b : Body) (w : ℕ) (rest : List ℕ) → FitsBody b → IsWroteByte w b → read_body (tag_number b) (body_bytes_with w b ++ rest) ≡ parts b w rest
unfolding read_body
body_again (Commit r) w rest fits is = retire_again r rest _ fits ∙ ap (λ (n : ℕ). parts (Commit r) n rest) (sym is)
body_again (Trap pc bits cause tval) w rest fits is = trap_again pc bits cause tval rest fits ∙ ap (λ (n : ℕ). parts (Trap pc bits cause tval) n rest) (sym is)
body_again (Regs pc x) w rest fits is = regs_again pc x rest fits ∙ ap (λ (n : ℕ). parts (Regs pc x) n rest) (sym is)
body_again (Csrs mode v) w rest fits is = csrs_again mode v rest fits ∙ ap (λ (n : ℕ). parts (Csrs mode v) n rest) (sym is)
body_again (Load r at paddr) w rest fits is = load_again r at paddr rest fits ∙ ap (λ (n : ℕ). parts (Load r at paddr) n rest) (sym is)
body_again (Store pc bits paddr value) w rest fits is = store_again pc bits paddr value rest fits ∙ ap (λ (n : ℕ). parts (Store pc bits paddr value) n rest) (sym is)
body_again (Atomic r paddr width wrote new) w rest fits is = atomic_again r paddr width wrote new w rest fits is
body_again (Drain line mask count xs) w rest fits is = drain_again line mask count xs rest fits ∙ ap (λ (n : ℕ). parts (Drain line mask count xs) n rest) (sym is)
body_again (Refill line xs) w rest fits is = refill_again line xs rest fits ∙ ap (λ (n : ℕ). parts (Refill line xs) n rest) (sym is)
body_again Beat w rest fits is = ap (λ (n : ℕ). parts Beat n rest) (sym is)

pub fields_again : (r : Record) (w : ℕ) (rest : List ℕ) → FitsRecord r → IsWroteByte w r.body → read_fields (wide_bytes_with w r ++ rest) ≡ whole r w rest
unfolding read_fields wide_bytes_with
fields_again r w rest fits is =
    let regrouped : wide_bytes_with w r ++ rest ≡ tag_number r.body ∷ r.hart ∷ (double r.stamp ++ (body_bytes_with w r.body ++ rest)) = ap (λ (z : List ℕ). tag_number r.body ∷ r.hart ∷ z) (append_assoc (double r.stamp) (body_bytes_with w r.body) rest) in
    ap read_fields regrouped ∙ byte_again (tag_number r.body) _ _ ∙ byte_again r.hart _ _ ∙ double_again r.stamp _ _ fits.stamp
    ∙ ap (joined r.stamp r.hart) (body_again r.body w rest fits.body is)

-- fields that stand at the front of the same bytes are the same
pub fields_are_one : (r q : Record) (w v : ℕ) (x y : List ℕ) → FitsRecord r → FitsRecord q → IsWroteByte w r.body → IsWroteByte v q.body → wide_bytes_with w r ++ x ≡ wide_bytes_with v q ++ y → whole r w x ≡ whole q v y
fields_are_one r q w v x y f g is was same =
    sym (fields_again r w x f is) ∙ ap read_fields same ∙ fields_again q v y g was

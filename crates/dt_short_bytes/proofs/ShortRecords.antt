-- The record that a form says, and the form of a record.
use Rattle.std.proofs.Common.{◌≡◌, ℕ, zero, suc, ◌+◌, ◌-◌, ◌^◌, ◌<◌, Bool, true, false, cond, eqb, ltb, not, List, [], ◌∷◌, ◌++◌, length, take, drop, get_or, replicate, Option, Some, None, refl, sym, ap, subst, ◌∙◌, arith}
use Rattle.std.specs.Option.{option_and_then}
use Rattle.std.specs.List.{flat_map}
use Rattle.std.specs.Prelude.{count_ones, ◌&&◌}
use Rattle.std.proofs.lemmas.Bool.{ltb-true, lt-ltb, le-ltb, eqb-true, and_parts}
use Rattle.std.proofs.lemmas.List.{take_at, take_all}
use Rattle.dt_record.specs.declared.records.Record.{Record}
use Rattle.dt_record.specs.declared.records.Retire.{Retire}
use Rattle.dt_record.specs.declared.records.Body.{Body}
use Rattle.dt_record.specs.declared.records.Body.TheVariants.{Commit, Trap, Regs, Csrs, Load, Store, Atomic, Drain, Refill, Beat}
use Rattle.dt_record.specs.Lawful.{FitsRetire, FitsList, FitsBody, is_lawful, is_masked, is_ram_line}
use Rattle.dt_record.specs.Spelling.{flag, varint, presence_bytes, present_bytes, number_fields, line_bytes, masked_bytes, short_bytes}
use Rattle.dt_record.specs.Tags.{tag_number}
use Rattle.dt_record.specs.declared.kinds.Kind.{Kind}
use Rattle.dt_record.specs.declared.kinds.Kind.TheVariants as kinds
use Rattle.dt_record.specs.Kinds.{kind_number, kind_of}
use Rattle.dt_short_bytes.specs.ShortForms.{field_count, line_count, Form, form_bytes, FitsForm, MayFollow}
use Rattle.dt_short_bytes.specs.ShortReading.{padded, below, flag_at, whole_line, spread, retire_at, body_at, if_lawful, record_at}
use Rattle.dt_short_bytes.proofs.ShortSpread.{masked_count, masked_each, spread_length, spread_each, spread_back, masked_back}
use Rattle.dt_short_bytes.proofs.ShortChain.{read_of_form}

abbrev pub form_of : ℕ → Record → Form
form_of last r = record { kind = kind_of r.body; hart = r.hart; later = r.stamp - last; numbers = number_fields r.body; line = line_bytes r.body }

tag_is : (b : Body) → tag_number b ≡ kind_number (kind_of b)
tag_is (Commit retire) = refl
tag_is (Trap pc bits cause tval) = refl
tag_is (Regs pc x) = refl
tag_is (Csrs mode v) = refl
tag_is (Load retire at paddr) = refl
tag_is (Store pc bits paddr value) = refl
tag_is (Atomic retire paddr width wrote new) = refl
tag_is (Drain line mask count bytes) = refl
tag_is (Refill line bytes) = refl
tag_is Beat = refl

-- a spelling is the bytes of a form
pub spelling_is : (last : ℕ) (r : Record) → short_bytes last r ≡ form_bytes (form_of last r)
unfolding short_bytes
spelling_is last r =
    ap (λ (n : ℕ). n ∷ r.hart ∷ varint (r.stamp - last) ++ presence_bytes (number_fields r.body) ++ flat_map present_bytes (number_fields r.body) ++ line_bytes r.body) (tag_is r.body)

flag_below : (b : Bool) → flag b < 2 ^ 64
flag_below true = omega arith
flag_below false = omega arith

numbers_fit : (b : Body) → FitsBody b → FitsList (field_count (kind_of b)) (2 ^ 64) (number_fields b)
numbers_fit (Commit retire) fits = record { count_is = refl; each = (fits.pc, (let h = fits.bits in omega arith, (fits.value, tt))) }
numbers_fit (Trap pc bits cause tval) fits = record { count_is = refl; each = (fits.0, (let h = fits.1 in omega arith, (fits.2, (fits.3, tt)))) }
numbers_fit (Regs pc x) fits = record { count_is = ap suc fits.1.count_is; each = (fits.0, fits.1.each) }
numbers_fit (Csrs mode v) fits = record { count_is = ap suc fits.1.count_is; each = (let h = fits.0 in omega arith, fits.1.each) }
numbers_fit (Load retire at paddr) fits = record { count_is = refl; each = (fits.0.pc, (let h = fits.0.bits in omega arith, (fits.0.value, (fits.1, (fits.2, tt))))) }
numbers_fit (Store pc bits paddr value) fits = record { count_is = refl; each = (fits.0, (let h = fits.1 in omega arith, (fits.2, (fits.3, tt)))) }
numbers_fit (Atomic retire paddr width wrote new) fits =
    record { count_is = refl; each = (fits.0.pc, (let h = fits.0.bits in omega arith, (fits.0.value, (fits.1, (let h = fits.2 in omega arith, (flag_below wrote, (fits.3, tt))))))) }
numbers_fit (Drain line mask count bytes) fits = record { count_is = refl; each = (fits.0, (fits.1, (let h = fits.2 in omega arith, tt))) }
numbers_fit (Refill line bytes) fits = record { count_is = refl; each = (fits.0, tt) }
numbers_fit Beat fits = record { count_is = refl; each = tt }

line_fits : (b : Body) → FitsBody b → FitsList (line_count (kind_of b) (number_fields b)) (2 ^ 8) (line_bytes b)
line_fits (Commit retire) fits = record { count_is = refl; each = tt }
line_fits (Trap pc bits cause tval) fits = record { count_is = refl; each = tt }
line_fits (Regs pc x) fits = record { count_is = refl; each = tt }
line_fits (Csrs mode v) fits = record { count_is = refl; each = tt }
line_fits (Load retire at paddr) fits = record { count_is = refl; each = tt }
line_fits (Store pc bits paddr value) fits = record { count_is = refl; each = tt }
line_fits (Atomic retire paddr width wrote new) fits = record { count_is = refl; each = tt }
line_fits (Drain line mask count bytes) fits = record { count_is = masked_count 64 mask bytes fits.3.count_is fits.1; each = masked_each mask bytes fits.3.each }
line_fits (Refill line bytes) fits = fits.1
line_fits Beat fits = record { count_is = refl; each = tt }

pub form_fits : (last : ℕ) (r : Record) → MayFollow last r → FitsForm (form_of last r)
form_fits last r follows =
    let stamp = follows.fits.stamp in
    record { hart = follows.fits.hart; later = omega arith; numbers = numbers_fit r.body follows.fits.body; line = line_fits r.body follows.fits.body }

-- ---- what is spelled is read again

below_is : (bound n : ℕ) → n < bound → below bound n ≡ Some n
below_is bound n lt = ap (λ (t : Bool). cond {A = Option ℕ} t (Some n) None) (lt-ltb n bound lt)

flag_again : (b : Bool) → flag_at (flag b) ≡ Some b
flag_again true = refl
flag_again false = refl

-- each byte without its mask bit is 0
abbrev pub IsClear : Body → Type 0
IsClear (Drain line mask count bytes) = is_masked mask bytes ≡ true
IsClear _ = Unit {0}

retire_again : (retire : Retire) (others : List ℕ) → FitsRetire retire → retire_at (retire.pc ∷ retire.bits ∷ retire.value ∷ others) ≡ Some retire
retire_again retire others fits =
    ap (option_and_then (λ (bits : ℕ). Some (record { pc = retire.pc; bits = bits; value = retire.value }))) (below_is (2 ^ 32) retire.bits fits.bits)

body_again : (b : Body) → FitsBody b → IsClear b → body_at (kind_of b) (padded (number_fields b)) (line_bytes b) ≡ Some b
body_again (Commit retire) fits clear = ap (option_and_then (λ (r : Retire). Some (Commit r))) (retire_again retire (replicate 29 0) fits)
body_again (Trap pc bits cause tval) fits clear = ap (option_and_then (λ (b : ℕ). Some (Trap pc b cause tval))) (below_is (2 ^ 32) bits fits.1)
body_again (Regs pc x) fits clear = ap (λ (xs : List ℕ). Some (Regs pc xs)) (take_at x (replicate (32 - suc (length x)) 0) 31 fits.1.count_is)
body_again (Csrs mode v) fits clear =
    ap (option_and_then (λ (m : ℕ). Some (Csrs m (take 17 (v ++ replicate (32 - suc (length v)) 0))))) (below_is (2 ^ 8) mode fits.0)
    ∙ ap (λ (xs : List ℕ). Some (Csrs mode xs)) (take_at v (replicate (32 - suc (length v)) 0) 17 fits.1.count_is)
body_again (Load retire at paddr) fits clear = ap (option_and_then (λ (r : Retire). Some (Load r at paddr))) (retire_again retire (at ∷ paddr ∷ replicate 27 0) fits.0)
body_again (Store pc bits paddr value) fits clear = ap (option_and_then (λ (b : ℕ). Some (Store pc b paddr value))) (below_is (2 ^ 32) bits fits.1)
body_again (Atomic retire paddr width wrote new) fits clear =
    ap (option_and_then (λ (r : Retire). option_and_then (λ (w : ℕ). option_and_then (λ (f : Bool). Some (Atomic r paddr w f new)) (flag_at (flag wrote))) (below (2 ^ 8) width)))
    (retire_again retire (paddr ∷ width ∷ flag wrote ∷ new ∷ replicate 25 0) fits.0)
    ∙ ap (option_and_then (λ (w : ℕ). option_and_then (λ (f : Bool). Some (Atomic retire paddr w f new)) (flag_at (flag wrote)))) (below_is (2 ^ 8) width fits.2)
    ∙ ap (option_and_then (λ (f : Bool). Some (Atomic retire paddr width f new))) (flag_again wrote)
body_again (Drain line mask count bytes) fits clear =
    ap (option_and_then (λ (n : ℕ). Some (Drain line mask n (spread 64 mask (masked_bytes mask bytes))))) (below_is (2 ^ 16) count fits.2)
    ∙ ap (λ (xs : List ℕ). Some (Drain line mask count xs)) (ap (λ (n : ℕ). spread n mask (masked_bytes mask bytes)) (sym fits.3.count_is) ∙ masked_back mask bytes clear)
body_again (Refill line bytes) fits clear =
    let long = fits.1.count_is in
    ap (λ (t : Bool). option_and_then (λ (xs : List ℕ). Some (Refill line xs)) (cond {A = Option (List ℕ)} t None (Some (take 64 bytes)))) (le-ltb (length bytes) 64 (omega arith))
    ∙ ap (λ (xs : List ℕ). Some (Refill line xs)) (take_all 64 bytes (omega arith))
body_again Beat fits clear = refl

clear_last : (a b c d e : Bool) → (a && (b && (c && (d && (e && true))))) ≡ true → e ≡ true
clear_last a b c d e all =
    let behind_a = (and_parts a (b && (c && (d && (e && true)))) all).1 in
    let behind_b = (and_parts b (c && (d && (e && true))) behind_a).1 in
    let behind_c = (and_parts c (d && (e && true)) behind_b).1 in
    let behind_d = (and_parts d (e && true) behind_c).1 in
    (and_parts e true behind_d).0

clear_body : (stamp hart : ℕ) (b : Body) → is_lawful (record { stamp = stamp; hart = hart; body = b }) ≡ true → IsClear b
clear_body stamp hart (Commit retire) lawful = tt
clear_body stamp hart (Trap pc bits cause tval) lawful = tt
clear_body stamp hart (Regs pc x) lawful = tt
clear_body stamp hart (Csrs mode v) lawful = tt
clear_body stamp hart (Load retire at paddr) lawful = tt
clear_body stamp hart (Store pc bits paddr value) lawful = tt
clear_body stamp hart (Atomic retire paddr width wrote new) lawful = tt
clear_body stamp hart (Drain line mask count bytes) lawful =
    clear_last (ltb hart 8) (is_ram_line line) (not (eqb mask 0)) (not (eqb count 0)) (is_masked mask bytes) lawful
clear_body stamp hart (Refill line bytes) lawful = tt
clear_body stamp hart Beat lawful = tt

pub record_again : (last : ℕ) (r : Record) → MayFollow last r → record_at last (read_of_form (form_of last r)) ≡ Some r
unfolding record_at
record_again last r follows =
    let least = follows.stamp in
    let fits = follows.fits.stamp in
    let sum : last + (r.stamp - last) ≡ r.stamp = omega arith in
    let clear = clear_body r.stamp r.hart r.body follows.lawful in
    ap (λ (n : ℕ). option_and_then (λ (stamp : ℕ). option_and_then (λ (b : Body). if_lawful (record { stamp = stamp; hart = r.hart; body = b }))
    (body_at (kind_of r.body) (padded (number_fields r.body)) (line_bytes r.body))) (below (2 ^ 64) n)) sum
    ∙ ap (option_and_then (λ (stamp : ℕ). option_and_then (λ (b : Body). if_lawful (record { stamp = stamp; hart = r.hart; body = b }))
    (body_at (kind_of r.body) (padded (number_fields r.body)) (line_bytes r.body)))) (below_is (2 ^ 64) r.stamp fits)
    ∙ ap (option_and_then (λ (b : Body). if_lawful (record { stamp = r.stamp; hart = r.hart; body = b }))) (body_again r.body follows.fits.body clear)
    ∙ ap (λ (t : Bool). cond {A = Option Record} t (Some r) None) follows.lawful

-- ---- what is read is spelled so

pub record Says (b : Body) (kind : Kind) (numbers line : List ℕ) : Type 0 where
  pub kind_is : kind_of b ≡ kind
  pub fits : FitsBody b
  pub numbers_are : number_fields b ≡ numbers
  pub line_is : line_bytes b ≡ line

-- the first numbers of a list
abbrev firsts : ℕ → List ℕ → List ℕ
firsts zero ns = []
firsts (suc n) ns = get_or ns 0 0 ∷ firsts n (drop 1 ns)

listed : (n : ℕ) (ns : List ℕ) → length ns ≡ n → ns ≡ firsts n ns
listed zero [] long = refl
listed zero (m ∷ ns) long = absurd (omega arith)
listed (suc n) [] long = absurd (omega arith)
listed (suc n) (m ∷ ns) long = ap (λ (t : List ℕ). m ∷ t) (listed n ns (omega arith))

no_line : (line : List ℕ) → length line ≡ 0 → [] ≡ line
no_line [] long = refl
no_line (b ∷ line) long = absurd (omega arith)

some_body : {A : Type 0} (x y : A) (P : A → Type 0) → Some x ≡ Some y → P x → P y
some_body x y P e h = subst P (let f : x ≡ y = cc in f) h

-- the numbers and the line of a kind say a body
abbrev Taken : Kind → List ℕ → List ℕ → Body → Type 0
Taken kind line numbers b = FitsList (field_count kind) (2 ^ 64) numbers → FitsList (line_count kind numbers) (2 ^ 8) line → body_at kind (padded numbers) line ≡ Some b → Says b kind numbers line

commit_cases : (a n c : ℕ) (line : List ℕ) (b : Body) → a < 2 ^ 64 → c < 2 ^ 64 → [] ≡ line → (t : Bool) → ltb n (2 ^ 32) ≡ t
    → option_and_then (λ (r : Retire). Some (Commit r)) (option_and_then (λ (bits : ℕ). Some (record { pc = a; bits = bits; value = c })) (cond {A = Option ℕ} t (Some n) None)) ≡ Some b
    → Says b kinds.Commit (a ∷ n ∷ c ∷ []) line
commit_cases a n c line b fa fc none true et e =
    some_body (Commit (record { pc = a; bits = n; value = c })) b (λ (b : Body). Says b kinds.Commit (a ∷ n ∷ c ∷ []) line) e
    (record { kind_is = refl; fits = record { pc = fa; bits = ltb-true n (2 ^ 32) et; value = fc }; numbers_are = refl; line_is = none })
commit_cases a n c line b fa fc none false et e = absurd cc

commit_taken : (a n c : ℕ) (line : List ℕ) (b : Body) → Taken kinds.Commit line (a ∷ n ∷ c ∷ []) b
commit_taken a n c line b fits lines e = commit_cases a n c line b fits.each.0 fits.each.1.1.0 (no_line line lines.count_is) (ltb n (2 ^ 32)) refl e

trap_cases : (a n c d : ℕ) (line : List ℕ) (b : Body) → a < 2 ^ 64 → c < 2 ^ 64 → d < 2 ^ 64 → [] ≡ line → (t : Bool) → ltb n (2 ^ 32) ≡ t
    → option_and_then (λ (bits : ℕ). Some (Trap a bits c d)) (cond {A = Option ℕ} t (Some n) None) ≡ Some b → Says b kinds.Trap (a ∷ n ∷ c ∷ d ∷ []) line
trap_cases a n c d line b fa fc fd none true et e =
    some_body (Trap a n c d) b (λ (b : Body). Says b kinds.Trap (a ∷ n ∷ c ∷ d ∷ []) line) e
    (record { kind_is = refl; fits = (fa, ltb-true n (2 ^ 32) et, fc, fd); numbers_are = refl; line_is = none })
trap_cases a n c d line b fa fc fd none false et e = absurd cc

trap_taken : (a n c d : ℕ) (line : List ℕ) (b : Body) → Taken kinds.Trap line (a ∷ n ∷ c ∷ d ∷ []) b
trap_taken a n c d line b fits lines e =
    trap_cases a n c d line b fits.each.0 fits.each.1.1.0 fits.each.1.1.1.0 (no_line line lines.count_is) (ltb n (2 ^ 32)) refl e

regs_taken : (pc : ℕ) (x line : List ℕ) (b : Body) → Taken kinds.Regs line (pc ∷ x) b
regs_taken pc x line b fits lines e =
    let count = fits.count_is in
    let long : length x ≡ 31 = omega arith in
    let same : take 31 (x ++ replicate (32 - suc (length x)) 0) ≡ x = take_at x (replicate (32 - suc (length x)) 0) 31 long in
    some_body (Regs pc x) b (λ (b : Body). Says b kinds.Regs (pc ∷ x) line) (ap (λ (xs : List ℕ). Some (Regs pc xs)) (sym same) ∙ e)
    (record { kind_is = refl; fits = (fits.each.0, record { count_is = long; each = fits.each.1 }); numbers_are = refl; line_is = no_line line lines.count_is })

csrs_cases : (mode : ℕ) (v line : List ℕ) (b : Body) → FitsList 17 (2 ^ 64) v → [] ≡ line → (t : Bool) → ltb mode (2 ^ 8) ≡ t
    → option_and_then (λ (m : ℕ). Some (Csrs m v)) (cond {A = Option ℕ} t (Some mode) None) ≡ Some b → Says b kinds.Csrs (mode ∷ v) line
csrs_cases mode v line b fits none true et e =
    some_body (Csrs mode v) b (λ (b : Body). Says b kinds.Csrs (mode ∷ v) line) e (record { kind_is = refl; fits = (ltb-true mode (2 ^ 8) et, fits); numbers_are = refl; line_is = none })
csrs_cases mode v line b fits none false et e = absurd cc

csrs_taken : (mode : ℕ) (v line : List ℕ) (b : Body) → Taken kinds.Csrs line (mode ∷ v) b
csrs_taken mode v line b fits lines e =
    let count = fits.count_is in
    let long : length v ≡ 17 = omega arith in
    let same : take 17 (v ++ replicate (32 - suc (length v)) 0) ≡ v = take_at v (replicate (32 - suc (length v)) 0) 17 long in
    csrs_cases mode v line b (record { count_is = long; each = fits.each.1 }) (no_line line lines.count_is) (ltb mode (2 ^ 8)) refl
    (ap (λ (xs : List ℕ). option_and_then (λ (m : ℕ). Some (Csrs m xs)) (below (2 ^ 8) mode)) (sym same) ∙ e)

load_cases : (a n c d f : ℕ) (line : List ℕ) (b : Body) → a < 2 ^ 64 → c < 2 ^ 64 → d < 2 ^ 64 → f < 2 ^ 64 → [] ≡ line → (t : Bool) → ltb n (2 ^ 32) ≡ t
    → option_and_then (λ (r : Retire). Some (Load r d f)) (option_and_then (λ (bits : ℕ). Some (record { pc = a; bits = bits; value = c })) (cond {A = Option ℕ} t (Some n) None)) ≡ Some b
    → Says b kinds.Load (a ∷ n ∷ c ∷ d ∷ f ∷ []) line
load_cases a n c d f line b fa fc fd ff none true et e =
    some_body (Load (record { pc = a; bits = n; value = c }) d f) b (λ (b : Body). Says b kinds.Load (a ∷ n ∷ c ∷ d ∷ f ∷ []) line) e
    (record { kind_is = refl; fits = (record { pc = fa; bits = ltb-true n (2 ^ 32) et; value = fc }, fd, ff); numbers_are = refl; line_is = none })
load_cases a n c d f line b fa fc fd ff none false et e = absurd cc

load_taken : (a n c d f : ℕ) (line : List ℕ) (b : Body) → Taken kinds.Load line (a ∷ n ∷ c ∷ d ∷ f ∷ []) b
load_taken a n c d f line b fits lines e =
    load_cases a n c d f line b fits.each.0 fits.each.1.1.0 fits.each.1.1.1.0 fits.each.1.1.1.1.0 (no_line line lines.count_is) (ltb n (2 ^ 32)) refl e

store_cases : (a n c d : ℕ) (line : List ℕ) (b : Body) → a < 2 ^ 64 → c < 2 ^ 64 → d < 2 ^ 64 → [] ≡ line → (t : Bool) → ltb n (2 ^ 32) ≡ t
    → option_and_then (λ (bits : ℕ). Some (Store a bits c d)) (cond {A = Option ℕ} t (Some n) None) ≡ Some b → Says b kinds.Store (a ∷ n ∷ c ∷ d ∷ []) line
store_cases a n c d line b fa fc fd none true et e =
    some_body (Store a n c d) b (λ (b : Body). Says b kinds.Store (a ∷ n ∷ c ∷ d ∷ []) line) e
    (record { kind_is = refl; fits = (fa, ltb-true n (2 ^ 32) et, fc, fd); numbers_are = refl; line_is = none })
store_cases a n c d line b fa fc fd none false et e = absurd cc

store_taken : (a n c d : ℕ) (line : List ℕ) (b : Body) → Taken kinds.Store line (a ∷ n ∷ c ∷ d ∷ []) b
store_taken a n c d line b fits lines e =
    store_cases a n c d line b fits.each.0 fits.each.1.1.0 fits.each.1.1.1.0 (no_line line lines.count_is) (ltb n (2 ^ 32)) refl e

-- a number that is 0 or 1 is a yes or no
flag_cases : (n : ℕ) (wrote : Bool) → (s t : Bool) → eqb n 0 ≡ s → eqb n 1 ≡ t → cond {A = Option Bool} s (Some false) (cond t (Some true) None) ≡ Some wrote → flag wrote ≡ n
flag_cases n true true t es et e = absurd cc
flag_cases n false true t es et e = sym (eqb-true n 0 es)
flag_cases n true false true es et e = sym (eqb-true n 1 et)
flag_cases n false false true es et e = absurd cc
flag_cases n wrote false false es et e = absurd cc

flag_is : (n : ℕ) (wrote : Bool) → flag_at n ≡ Some wrote → flag wrote ≡ n
flag_is n wrote e = flag_cases n wrote (eqb n 0) (eqb n 1) refl refl e

wrote_cases : (a n c d width m new : ℕ) (line : List ℕ) (b : Body) → FitsRetire (record { pc = a; bits = n; value = c }) → d < 2 ^ 64 → width < 2 ^ 8 → new < 2 ^ 64 → [] ≡ line
    → (o : Option Bool) → flag_at m ≡ o → option_and_then (λ (wrote : Bool). Some (Atomic (record { pc = a; bits = n; value = c }) d width wrote new)) o ≡ Some b
    → Says b kinds.Atomic (a ∷ n ∷ c ∷ d ∷ width ∷ m ∷ new ∷ []) line
wrote_cases a n c d width m new line b fits fd fw fn none (Some wrote) eo e =
    some_body (Atomic (record { pc = a; bits = n; value = c }) d width wrote new) b (λ (b : Body). Says b kinds.Atomic (a ∷ n ∷ c ∷ d ∷ width ∷ m ∷ new ∷ []) line) e
    (record { kind_is = refl; fits = (fits, fd, fw, fn); numbers_are = ap (λ (k : ℕ). a ∷ n ∷ c ∷ d ∷ width ∷ k ∷ new ∷ []) (flag_is m wrote eo); line_is = none })
wrote_cases a n c d width m new line b fits fd fw fn none None eo e = absurd cc

atomic_cases : (a n c d width m new : ℕ) (line : List ℕ) (b : Body) → a < 2 ^ 64 → c < 2 ^ 64 → d < 2 ^ 64 → new < 2 ^ 64 → [] ≡ line
    → (s t : Bool) → ltb n (2 ^ 32) ≡ s → ltb width (2 ^ 8) ≡ t
    → option_and_then (λ (r : Retire). option_and_then (λ (w : ℕ). option_and_then (λ (wrote : Bool). Some (Atomic r d w wrote new)) (flag_at m)) (cond {A = Option ℕ} t (Some width) None))
    (option_and_then (λ (bits : ℕ). Some (record { pc = a; bits = bits; value = c })) (cond {A = Option ℕ} s (Some n) None)) ≡ Some b
    → Says b kinds.Atomic (a ∷ n ∷ c ∷ d ∷ width ∷ m ∷ new ∷ []) line
atomic_cases a n c d width m new line b fa fc fd fn none true true es et e =
    wrote_cases a n c d width m new line b (record { pc = fa; bits = ltb-true n (2 ^ 32) es; value = fc }) fd (ltb-true width (2 ^ 8) et) fn none (flag_at m) refl e
atomic_cases a n c d width m new line b fa fc fd fn none true false es et e = absurd cc
atomic_cases a n c d width m new line b fa fc fd fn none false t es et e = absurd cc

atomic_taken : (a n c d width m new : ℕ) (line : List ℕ) (b : Body) → Taken kinds.Atomic line (a ∷ n ∷ c ∷ d ∷ width ∷ m ∷ new ∷ []) b
atomic_taken a n c d width m new line b fits lines e =
    atomic_cases a n c d width m new line b fits.each.0 fits.each.1.1.0 fits.each.1.1.1.0 fits.each.1.1.1.1.1.1.0 (no_line line lines.count_is) (ltb n (2 ^ 32)) (ltb width (2 ^ 8)) refl refl e

drain_cases : (a mask n : ℕ) (line : List ℕ) (b : Body) → a < 2 ^ 64 → mask < 2 ^ 64 → FitsList (count_ones mask) (2 ^ 8) line → (t : Bool) → ltb n (2 ^ 16) ≡ t
    → option_and_then (λ (count : ℕ). Some (Drain a mask count (spread 64 mask line))) (cond {A = Option ℕ} t (Some n) None) ≡ Some b → Says b kinds.Drain (a ∷ mask ∷ n ∷ []) line
drain_cases a mask n line b fa fm fits true et e =
    some_body (Drain a mask n (spread 64 mask line)) b (λ (b : Body). Says b kinds.Drain (a ∷ mask ∷ n ∷ []) line) e
    (record {
      kind_is = refl;
      fits = (fa, fm, ltb-true n (2 ^ 16) et, record { count_is = spread_length 64 mask line; each = spread_each 64 mask line fits.each });
      numbers_are = refl;
      line_is = spread_back 64 mask line fits.count_is fm;
    })
drain_cases a mask n line b fa fm fits false et e = absurd cc

drain_taken : (a mask n : ℕ) (line : List ℕ) (b : Body) → Taken kinds.Drain line (a ∷ mask ∷ n ∷ []) b
drain_taken a mask n line b fits lines e = drain_cases a mask n line b fits.each.0 fits.each.1.0 lines (ltb n (2 ^ 16)) refl e

refill_taken : (a : ℕ) (line : List ℕ) (b : Body) → Taken kinds.Refill line (a ∷ []) b
refill_taken a line b fits lines e =
    let long = lines.count_is in
    let whole : whole_line line ≡ Some line =
    ap (λ (t : Bool). cond {A = Option (List ℕ)} t None (Some (take 64 line))) (le-ltb (length line) 64 (omega arith)) ∙ ap (λ (t : List ℕ). Some t) (take_all 64 line (omega arith)) in
    some_body (Refill a line) b (λ (b : Body). Says b kinds.Refill (a ∷ []) line) (ap (option_and_then (λ (xs : List ℕ). Some (Refill a xs))) (sym whole) ∙ e)
    (record { kind_is = refl; fits = (fits.each.0, lines); numbers_are = refl; line_is = refl })

beat_taken : (line : List ℕ) (b : Body) → Taken kinds.Beat line [] b
beat_taken line b fits lines e =
    some_body Beat b (λ (b : Body). Says b kinds.Beat [] line) e (record { kind_is = refl; fits = tt; numbers_are = refl; line_is = no_line line lines.count_is })

pub body_takes : (kind : Kind) (numbers line : List ℕ) (b : Body) → FitsList (field_count kind) (2 ^ 64) numbers → FitsList (line_count kind numbers) (2 ^ 8) line
    → body_at kind (padded numbers) line ≡ Some b → Says b kind numbers line
body_takes kinds.Commit numbers line b fits =
    subst (λ (ns : List ℕ). Taken kinds.Commit line ns b) (sym (listed 3 numbers fits.count_is)) (commit_taken _ _ _ line b) fits
body_takes kinds.Trap numbers line b fits =
    subst (λ (ns : List ℕ). Taken kinds.Trap line ns b) (sym (listed 4 numbers fits.count_is)) (trap_taken _ _ _ _ line b) fits
body_takes kinds.Regs [] line b fits = absurd (let h : 0 ≡ 32 = fits.count_is in omega arith)
body_takes kinds.Regs (pc ∷ x) line b fits = regs_taken pc x line b fits
body_takes kinds.Csrs [] line b fits = absurd (let h : 0 ≡ 18 = fits.count_is in omega arith)
body_takes kinds.Csrs (mode ∷ v) line b fits = csrs_taken mode v line b fits
body_takes kinds.Load numbers line b fits =
    subst (λ (ns : List ℕ). Taken kinds.Load line ns b) (sym (listed 5 numbers fits.count_is)) (load_taken _ _ _ _ _ line b) fits
body_takes kinds.Store numbers line b fits =
    subst (λ (ns : List ℕ). Taken kinds.Store line ns b) (sym (listed 4 numbers fits.count_is)) (store_taken _ _ _ _ line b) fits
body_takes kinds.Atomic numbers line b fits =
    subst (λ (ns : List ℕ). Taken kinds.Atomic line ns b) (sym (listed 7 numbers fits.count_is)) (atomic_taken _ _ _ _ _ _ _ line b) fits
body_takes kinds.Drain numbers line b fits =
    subst (λ (ns : List ℕ). Taken kinds.Drain line ns b) (sym (listed 3 numbers fits.count_is)) (drain_taken _ _ _ line b) fits
body_takes kinds.Refill numbers line b fits =
    subst (λ (ns : List ℕ). Taken kinds.Refill line ns b) (sym (listed 1 numbers fits.count_is)) (refill_taken _ line b) fits
body_takes kinds.Beat numbers line b fits =
    subst (λ (ns : List ℕ). Taken kinds.Beat line ns b) (sym (listed 0 numbers fits.count_is)) (beat_taken line b) fits

pub record IsSaid (last : ℕ) (f : Form) (r : Record) : Type 0 where
  pub follows : MayFollow last r
  pub form_is : f ≡ form_of last r

lawful_cases : (last : ℕ) (f : Form) (b : Body) (r : Record) → FitsForm f → Says b f.kind f.numbers f.line → last + f.later < 2 ^ 64 → (t : Bool)
    → is_lawful (record { stamp = last + f.later; hart = f.hart; body = b }) ≡ t
    → cond {A = Option Record} t (Some (record { stamp = last + f.later; hart = f.hart; body = b })) None ≡ Some r → IsSaid last f r
lawful_cases last f b r fits says below true et e =
    let made : Record = record { stamp = last + f.later; hart = f.hart; body = b } in
    let back : f.later ≡ last + f.later - last = omega arith in
    let form_is : f ≡ form_of last made =
    ap (λ (k : Kind). record { kind = k; hart = f.hart; later = f.later; numbers = f.numbers; line = f.line }) (sym says.kind_is)
    ∙ ap (λ (n : ℕ). record { kind = kind_of b; hart = f.hart; later = n; numbers = f.numbers; line = f.line }) back
    ∙ ap (λ (ns : List ℕ). record { kind = kind_of b; hart = f.hart; later = last + f.later - last; numbers = ns; line = f.line }) (sym says.numbers_are)
    ∙ ap (λ (bs : List ℕ). record { kind = kind_of b; hart = f.hart; later = last + f.later - last; numbers = number_fields b; line = bs }) (sym says.line_is) in
    some_body made r (IsSaid last f) e
    (record { follows = record { fits = record { stamp = below; hart = fits.hart; body = says.fits }; lawful = et; stamp = omega arith }; form_is = form_is })
lawful_cases last f b r fits says below false et e = absurd cc

body_cases : (last : ℕ) (f : Form) (r : Record) → FitsForm f → last + f.later < 2 ^ 64 → (o : Option Body) → body_at f.kind (padded f.numbers) f.line ≡ o
    → option_and_then (λ (b : Body). if_lawful (record { stamp = last + f.later; hart = f.hart; body = b })) o ≡ Some r → IsSaid last f r
body_cases last f r fits below (Some b) eo e =
    lawful_cases last f b r fits (body_takes f.kind f.numbers f.line b fits.numbers fits.line eo) below (is_lawful (record { stamp = last + f.later; hart = f.hart; body = b })) refl e
body_cases last f r fits below None eo e = absurd cc

stamp_cases : (last : ℕ) (f : Form) (r : Record) → FitsForm f → (t : Bool) → ltb (last + f.later) (2 ^ 64) ≡ t
    → option_and_then (λ (stamp : ℕ). option_and_then (λ (b : Body). if_lawful (record { stamp = stamp; hart = f.hart; body = b })) (body_at f.kind (padded f.numbers) f.line))
    (cond {A = Option ℕ} t (Some (last + f.later)) None) ≡ Some r → IsSaid last f r
stamp_cases last f r fits true et e = body_cases last f r fits (ltb-true (last + f.later) (2 ^ 64) et) (body_at f.kind (padded f.numbers) f.line) refl e
stamp_cases last f r fits false et e = absurd cc

pub record_takes : (last : ℕ) (f : Form) (r : Record) → FitsForm f → record_at last (read_of_form f) ≡ Some r → IsSaid last f r
unfolding record_at
record_takes last f r fits e = stamp_cases last f r fits (ltb (last + f.later) (2 ^ 64)) refl e

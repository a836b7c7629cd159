-- How long forms are, and what that and the other laws say of decode2's answer.
use Rattle.std.proofs.Common.{◌≡◌, ℕ, zero, suc, ◌+◌, ◌*◌, ◌/◌, ◌%◌, ◌^◌, ◌<◌, ◌≤◌, ◌⊎◌, Bool, true, false, cond, eqb, ltb, List, [], ◌∷◌, ◌++◌, length, get_or, Some, refl, sym, ap, ◌∙◌, arith, inl, inr}
use Rattle.std.specs.List.{flat_map, AllByRecursion}
use Rattle.std.proofs.lemmas.Nat.{ones-le}
use Rattle.std.proofs.lemmas.List.{length-append, append_cancel_left}
use Rattle.std.proofs.lemmas.List.Concat.{flat_map-cons}
use Rattle.dt_record.specs.declared.records.Record.{Record}
use Rattle.dt_record.specs.Spelling.{varint, varint_within, present_bytes, presence, presence_bytes, short_bytes}
use Rattle.dt_record_bytes.specs.declared.decoded.Decoded.TheVariants as answers
use Rattle.dt_record.specs.declared.kinds.Kind.{Kind}
use Rattle.dt_record.specs.declared.kinds.Kind.TheVariants as kinds
use Rattle.dt_short_bytes.specs.ShortForms.{field_count, line_count, Form, form_bytes, FitsForm, IsUnfinished, MayFollow, StartsWith, IsGot, IsBad}
use Rattle.dt_short_bytes.specs.ShortReading.{record_at, decoded_at}
use Rattle.dt_short_bytes.proofs.ShortGrammar.{IsBytes}
use Rattle.dt_short_bytes.proofs.ShortTexts.{low_bytes}
use Rattle.dt_short_bytes.proofs.ShortChain.{Read-free, read_of_form, groups, presence_spelled}
use Rattle.dt_short_bytes.proofs.ShortRecords.{form_of, spelling_is, form_fits, record_again}
use Rattle.dt_short_bytes.proofs.ShortAnswers.{got_back, form_text}

within_cases_long : (more n : ℕ) (others : List ℕ) → 1 ≤ length others → length others ≤ suc more → (t : Bool) → (1 ≤ length (cond t (n ∷ []) ((128 + n % 128) ∷ others))) × (length (cond t (n ∷ []) ((128 + n % 128) ∷ others)) ≤ suc (suc more))
within_cases_long more n others some few true = (omega arith, omega arith)
within_cases_long more n others some few false = (omega arith, omega arith)

within_long : (more n : ℕ) → (1 ≤ length (varint_within more n)) × (length (varint_within more n) ≤ suc more)
within_long zero n = (omega arith, omega arith)
within_long (suc more) n =
    let others = within_long more (n / 128) in
    within_cases_long more n (varint_within more (n / 128)) others.0 others.1 (ltb n 128)

varint_long : (n : ℕ) → (1 ≤ length (varint n)) × (length (varint n) ≤ 10)
unfolding varint
varint_long n = within_long 9 n

present_cases_long : (n : ℕ) (t : Bool) → length (cond t [] (varint n)) ≤ 10
present_cases_long n true = omega arith
present_cases_long n false = (varint_long n).1

fields_long : (numbers : List ℕ) → length (flat_map present_bytes numbers) ≤ 10 * length numbers
fields_long [] = omega arith
fields_long (n ∷ numbers) =
    let first : length (present_bytes n) ≤ 10 = present_cases_long n (eqb n 0) in
    let others = fields_long numbers in
    omega (arith, ap length (flat_map-cons present_bytes n numbers), length-append (present_bytes n) (flat_map present_bytes numbers))

low_long : (m n : ℕ) → length (low_bytes m n) ≡ m
low_long zero n = refl
low_long (suc m) n = ap suc (low_long m (n / 256))

second_below : (numbers : List ℕ) → AllByRecursion (λ x. x < 2 ^ 64) numbers → get_or numbers 1 0 < 2 ^ 64
second_below [] each = omega arith
second_below (n ∷ []) each = omega arith
second_below (n ∷ m ∷ numbers) each = each.1.0

-- the presence bytes, the fields and the line of a kind have at most so many bytes
room : (kind : Kind) (numbers : List ℕ) → AllByRecursion (λ x. x < 2 ^ 64) numbers → groups kind + 10 * field_count kind + line_count kind numbers ≤ 324
room kinds.Commit numbers each = omega arith
room kinds.Trap numbers each = omega arith
room kinds.Regs numbers each = omega arith
room kinds.Csrs numbers each = omega arith
room kinds.Load numbers each = omega arith
room kinds.Store numbers each = omega arith
room kinds.Atomic numbers each = omega arith
room kinds.Drain numbers each = omega (arith, ones-le 64 (get_or numbers 1 0) (second_below numbers each))
room kinds.Refill numbers each = omega arith
room kinds.Beat numbers each = omega arith

parts_long : (k h : ℕ) (v p n l : List ℕ) → length (k ∷ h ∷ v ++ p ++ n ++ l) ≡ 2 + length v + length p + length n + length l
parts_long k h v p n l = omega (arith, length-append (v ++ p ++ n) l, length-append (v ++ p) n, length-append v p)

pub form_long : (f : Form) → FitsForm f → (3 ≤ length (form_bytes f)) × (length (form_bytes f) ≤ 336)
form_long f fits =
    let v = varint_long f.later in
    let low = v.0 in
    let high = v.1 in
    let p : length (presence_bytes f.numbers) ≡ groups f.kind = ap length (presence_spelled f.kind f.numbers fits.numbers.count_is) ∙ low_long (groups f.kind) (presence f.numbers) in
    let n = fields_long f.numbers in
    let count = fits.numbers.count_is in
    let l = fits.line.count_is in
    let most = room f.kind f.numbers fits.numbers.each in
    let all = parts_long 0 0 (varint f.later) (presence_bytes f.numbers) (flat_map present_bytes f.numbers) f.line in
    (omega (arith, all, low), omega (arith, all, high, p, n, count, l, most))

-- ---- what decode2's caller learns besides

pub got_long : (last : ℕ) (bytes : List ℕ) (r : Record) (len : ℕ) → IsGot last bytes r len → (3 ≤ len) × (len ≤ length bytes) × (len ≤ 336)
got_long last bytes r len got =
    let starts = got.2 in
    let long = form_long (form_of last r) (form_fits last r starts.follows) in
    let low = long.0 in
    let high = long.1 in
    let same = got.0 ∙ ap length (spelling_is last r) in
    (omega (arith, low, same), omega (arith, got.0, ap length starts.spelled, length-append (short_bytes last r) got.1), omega (arith, high, same))

pub short_long : (bytes : List ℕ) → IsUnfinished bytes → length bytes < 336
short_long bytes is =
    let high = (form_long is.2.0 is.2.1).1 in
    omega (arith, high, ap length is.2.2, length-append bytes (is.0 ∷ is.1))

pub not_yet : (last : ℕ) (bytes : List ℕ) → IsBytes bytes → decoded_at last bytes ≡ answers.Short → (r : Record) (rest : List ℕ) → StartsWith last bytes r rest → ⊥
not_yet last bytes fits short r rest starts = let got = got_back last bytes r rest fits starts in absurd cc

-- of two texts with the same bytes behind each other one begins the other
parted : (a b c d : List ℕ) → a ++ b ≡ c ++ d → ((k : List ℕ) × (a ≡ c ++ k)) ⊎ ((n : ℕ) × (k : List ℕ) × (a ++ n ∷ k ≡ c))
parted a b [] d e = inl (a, refl)
parted [] b (n ∷ c) d e = inr (n, c, refl)
parted (m ∷ a) b (n ∷ c) d e =
    let head : m ≡ n = cc in
    let back : a ++ b ≡ c ++ d = cc in
    elim (parted a b c d back) [
      | inl x ↦ inl (x.0, ap (λ (h : ℕ). h ∷ a) head ∙ ap (λ (t : List ℕ). n ∷ t) x.1)
      | inr y ↦ inr (y.0, y.1, ap (λ (h : ℕ). h ∷ a ++ y.0 ∷ y.1) head ∙ ap (λ (t : List ℕ). n ∷ t) y.2)
    ]

pub for_good : (last : ℕ) (bytes : List ℕ) (at : ℕ) → IsBad last bytes at → (more : List ℕ) (r : Record) (rest : List ℕ) → StartsWith last (bytes ++ more) r rest → ⊥
for_good last bytes at is more r rest starts =
    elim (parted bytes more (short_bytes last r) rest starts.spelled) [
      | inl x ↦ is.no_record r x.0 (record { follows = starts.follows; spelled = x.1 })
      | inr y ↦ is.not_unfinished (y.0, y.1, (form_of last r, form_fits last r starts.follows, y.2 ∙ spelling_is last r))
    ]

-- no spelling begins another
pub one_spelling : (last : ℕ) (r s : Record) (p q : List ℕ) → MayFollow last r → MayFollow last s → short_bytes last r ++ p ≡ short_bytes last s ++ q → (r ≡ s) × (p ≡ q)
one_spelling last r s p q fr fs e =
    let tr = form_text (form_of last r) (short_bytes last r) (form_fits last r fr) (spelling_is last r) in
    let ts = form_text (form_of last s) (short_bytes last s) (form_fits last s fs) (spelling_is last s) in
    let same = Read-free.one (short_bytes last r) (short_bytes last s) p q (read_of_form (form_of last r)) (read_of_form (form_of last s)) tr ts e in
    let said : Some r ≡ Some s = sym (record_again last r fr) ∙ ap (record_at last) same.1 ∙ record_again last s fs in
    let record_is : r ≡ s = cc in
    (record_is, append_cancel_left (short_bytes last s) p q (ap (λ (t : List ℕ). t ++ p) (sym same.0) ∙ e))

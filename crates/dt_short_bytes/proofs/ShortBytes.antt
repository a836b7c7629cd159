-- The bytes of a spelling are below 256.
use Rattle.std.proofs.Common.{◌≡◌, ℕ, zero, suc, ◌+◌, ◌*◌, ◌/◌, ◌%◌, ◌^◌, ◌<◌, Bool, true, false, cond, eqb, ltb, List, [], ◌∷◌, ◌++◌, refl, sym, subst, arith}
use Rattle.std.specs.List.{AllByRecursion, flat_map}
use Rattle.std.proofs.lemmas.List.Concat.{flat_map-cons}
use Rattle.std.proofs.lemmas.Bool.{ltb-true}
use Rattle.dt_record.specs.declared.records.Record.{Record}
use Rattle.dt_record.specs.Spelling.{short_bytes, varint, varint_within, present_bytes, presence, presence_bytes}
use Rattle.dt_record.specs.declared.kinds.Kind.{Kind}
use Rattle.dt_record.specs.declared.kinds.Kind.TheVariants as kinds
use Rattle.dt_record.specs.Kinds.{kind_number}
use Rattle.dt_short_bytes.specs.ShortForms.{Form, form_bytes, FitsForm, MayFollow}
use Rattle.dt_short_bytes.proofs.ShortGrammar.{IsBytes}
use Rattle.dt_short_bytes.proofs.ShortVarint.{wider}
use Rattle.dt_short_bytes.proofs.ShortTexts.{low_bytes}
use Rattle.dt_short_bytes.proofs.ShortChain.{groups, presence_spelled}
use Rattle.dt_short_bytes.proofs.ShortRecords.{form_of, spelling_is, form_fits}

both_bytes : (xs ys : List ℕ) → IsBytes xs → IsBytes ys → IsBytes (xs ++ ys)
both_bytes [] ys a b = b
both_bytes (x ∷ xs) ys a b = (a.0, both_bytes xs ys a.1 b)

kind_is_byte : (kind : Kind) → kind_number kind < 256
kind_is_byte kinds.Commit = omega arith
kind_is_byte kinds.Trap = omega arith
kind_is_byte kinds.Regs = omega arith
kind_is_byte kinds.Csrs = omega arith
kind_is_byte kinds.Load = omega arith
kind_is_byte kinds.Store = omega arith
kind_is_byte kinds.Atomic = omega arith
kind_is_byte kinds.Drain = omega arith
kind_is_byte kinds.Refill = omega arith
kind_is_byte kinds.Beat = omega arith

narrower : (more n : ℕ) → n < 2 ^ (7 * suc more + 1) → n / 128 < 2 ^ (7 * more + 1)
narrower more n lt =
    let bound : n < 128 * 2 ^ (7 * more + 1) = subst (λ (m : ℕ). n < m) (wider more) lt in
    omega (arith, bound)

group_cases : (n : ℕ) (others : List ℕ) (t : Bool) → ltb n 128 ≡ t → IsBytes others → IsBytes (cond t (n ∷ []) ((128 + n % 128) ∷ others))
group_cases n others true e fits = (let lt : n < 128 = ltb-true n 128 e in omega (arith, lt), tt)
group_cases n others false e fits = (omega arith, fits)

within_bytes : (more n : ℕ) → n < 2 ^ (7 * more + 1) → IsBytes (varint_within more n)
within_bytes zero n lt = (omega (arith, lt), tt)
within_bytes (suc more) n lt = group_cases n (varint_within more (n / 128)) (ltb n 128) refl (within_bytes more (n / 128) (narrower more n lt))

varint_bytes : (n : ℕ) → n < 2 ^ 64 → IsBytes (varint n)
unfolding varint
varint_bytes n lt = within_bytes 9 n lt

low_is_bytes : (m n : ℕ) → IsBytes (low_bytes m n)
low_is_bytes zero n = tt
low_is_bytes (suc m) n = (omega arith, low_is_bytes m (n / 256))

present_cases : (n : ℕ) (t : Bool) → n < 2 ^ 64 → IsBytes (cond t [] (varint n))
present_cases n true lt = tt
present_cases n false lt = varint_bytes n lt

fields_bytes : (numbers : List ℕ) → AllByRecursion (λ x. x < 2 ^ 64) numbers → IsBytes (flat_map present_bytes numbers)
fields_bytes [] each = tt
fields_bytes (n ∷ numbers) each =
    subst IsBytes (sym (flat_map-cons present_bytes n numbers))
    (both_bytes (present_bytes n) (flat_map present_bytes numbers) (present_cases n (eqb n 0) each.0) (fields_bytes numbers each.1))

form_is_bytes : (f : Form) → FitsForm f → IsBytes (form_bytes f)
form_is_bytes f fits =
    let front : IsBytes (kind_number f.kind ∷ f.hart ∷ varint f.later) = (kind_is_byte f.kind, (fits.hart, varint_bytes f.later fits.later)) in
    let presences : IsBytes (presence_bytes f.numbers) =
    subst IsBytes (sym (presence_spelled f.kind f.numbers fits.numbers.count_is)) (low_is_bytes (groups f.kind) (presence f.numbers)) in
    both_bytes (kind_number f.kind ∷ f.hart ∷ varint f.later ++ presence_bytes f.numbers ++ flat_map present_bytes f.numbers) f.line
    (both_bytes (kind_number f.kind ∷ f.hart ∷ varint f.later ++ presence_bytes f.numbers) (flat_map present_bytes f.numbers)
    (both_bytes (kind_number f.kind ∷ f.hart ∷ varint f.later) (presence_bytes f.numbers) front presences)
    (fields_bytes f.numbers fits.numbers.each))
    fits.line.each

pub short_is_bytes : (last : ℕ) (r : Record) → MayFollow last r → IsBytes (short_bytes last r)
short_is_bytes last r follows = subst IsBytes (sym (spelling_is last r)) (form_is_bytes (form_of last r) (form_fits last r follows))

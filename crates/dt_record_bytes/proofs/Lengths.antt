-- How long spellings are.
use Rattle.std.proofs.Common.{◌≡◌, ℕ, ◌+◌, ◌≤◌, ◌==◌, Bool, true, false, if◌then◌else◌, ◌∷◌, ◌++◌, length, Option, None, Some, refl, sym, ap, ◌∙◌, arith}
use Rattle.std.specs.List.{flat_map}
use Rattle.std.specs.Prelude.{IsSomeAnd}
use Rattle.std.proofs.lemmas.List.{length-append}
use Rattle.dt_record.specs.declared.records.Record.{Record}
use Rattle.dt_record.specs.declared.records.Body.{Body}
use Rattle.dt_record.specs.declared.records.Body.TheVariants.{Commit, Trap, Regs, Csrs, Load, Store, Atomic, Drain, Refill, Beat}
use Rattle.dt_record.specs.Lawful.{FitsBody, FitsRecord}
use Rattle.dt_record.specs.Tags.{tag_number}
use Rattle.dt_record.specs.Spelling.{half, word, double}
use Rattle.dt_record_bytes.specs.WideAnswer.{wide_length, body_bytes_with, wide_bytes_with}
use Rattle.dt_record_bytes.proofs.SpellingLaws.{length-double}
use Rattle.dt_record_bytes.proofs.Fields.{length-half, length-doubles}

abbrev of_length : ℕ → Option ℕ
of_length n = Some (n + 10)

body_length : (b : Body) (w : ℕ) → FitsBody b → wide_length (tag_number b) ≡ of_length (length (body_bytes_with w b))
unfolding word double
body_length (Commit r) w fits = refl
body_length (Trap pc bits cause tval) w fits = refl
body_length (Regs pc x) w fits =
    let e : length (double pc ++ flat_map double x) ≡ 256 = length-append (double pc) (flat_map double x) ∙ omega (arith, length-double pc, length-doubles x, fits.1.count_is) in
    ap of_length (sym e)
body_length (Csrs mode v) w fits =
    let e : length (mode ∷ flat_map double v) ≡ 137 = omega (arith, length-doubles v, fits.1.count_is) in
    ap of_length (sym e)
body_length (Load r at paddr) w fits = refl
body_length (Store pc bits paddr value) w fits = refl
body_length (Atomic r paddr width wrote new) w fits = refl
body_length (Drain line mask count xs) w fits =
    let e : length (double line ++ double mask ++ half count ++ xs) ≡ 82 = length-append (double line ++ double mask ++ half count) xs ∙ omega (arith, length-append (double line ++ double mask) (half count), length-append (double line) (double mask), length-double line, length-double mask, length-half count, fits.3.count_is) in
    ap of_length (sym e)
body_length (Refill line xs) w fits =
    let e : length (double line ++ xs) ≡ 72 = length-append (double line) xs ∙ omega (arith, length-double line, fits.1.count_is) in
    ap of_length (sym e)
body_length Beat w fits = refl

record_length : (r : Record) (w : ℕ) → length (wide_bytes_with w r) ≡ length (body_bytes_with w r.body) + 10
unfolding wide_bytes_with
record_length r w =
    let e : length (double r.stamp ++ body_bytes_with w r.body) ≡ length (body_bytes_with w r.body) + 8 = length-append (double r.stamp) (body_bytes_with w r.body) ∙ omega (arith, length-double r.stamp) in
    omega (arith, e)

pub wide_length_is : (r : Record) (w : ℕ) → FitsRecord r → wide_length (tag_number r.body) ≡ Some (length (wide_bytes_with w r))
wide_length_is r w fits = body_length r.body w fits.body ∙ ap (λ (n : ℕ). Some n) (sym (record_length r w))

-- the shortest spelling has 10 bytes, and the longest 266
abbrev pub IsUsual : ℕ → Type 0
IsUsual len = (10 ≤ len) × (len ≤ 266)

one_length : (b : Bool) (k : ℕ) (later : Option ℕ) (len : ℕ) → IsUsual k → (later ≡ Some len → IsUsual len) → (if b then Some k else later) ≡ Some len → IsUsual len
one_length true k later len usual else_usual e = let same : k ≡ len = cc in (omega (arith, usual.0), omega (arith, usual.1))
one_length false k later len usual else_usual e = else_usual e

no_length : (len : ℕ) → None ≡ Some len → IsUsual len
no_length len e = absurd cc

pub usual_length : (tag len : ℕ) → wide_length tag ≡ Some len → IsUsual len
usual_length tag len e =
    one_length (tag == 1) 30 _ len (omega arith, omega arith) (one_length (tag == 2) 38 _ len (omega arith, omega arith)
    (one_length (tag == 3) 266 _ len (omega arith, omega arith) (one_length (tag == 4) 147 _ len (omega arith, omega arith)
    (one_length (tag == 5) 46 _ len (omega arith, omega arith) (one_length (tag == 6) 38 _ len (omega arith, omega arith)
    (one_length (tag == 7) 48 _ len (omega arith, omega arith) (one_length (tag == 8) 92 _ len (omega arith, omega arith)
    (one_length (tag == 9) 82 _ len (omega arith, omega arith) (one_length (tag == 10) 10 _ len (omega arith, omega arith)
    (no_length len)))))))))) e

-- bytes that are as many as their kind has are 10 or more
enough : (n tag : ℕ) (o : Option ℕ) → wide_length tag ≡ o → IsSomeAnd o (λ len. len ≤ n) → 10 ≤ n
enough n tag None e long = absurd long
enough n tag (Some len) e long = omega (arith, (usual_length tag len e).0, long)

pub whole_is_long : (n tag : ℕ) → IsSomeAnd (wide_length tag) (λ len. len ≤ n) → 10 ≤ n
whole_is_long n tag long = enough n tag (wide_length tag) refl long

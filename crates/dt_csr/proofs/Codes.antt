-- the bits of a mask of interrupt codes
use Rattle.std.proofs.Common.{◌≡◌, ℕ, suc, zero, ◌+◌, ◌-◌, ◌*◌, ◌^◌, ◌<◌, ◌≤◌, ◌↔◌, refl, sym, ◌∙◌, ap, arith, min, max, Bool, true, false, cond, ◌&&◌, nat_eq, bit_and, bit_or, IsTrue, ⊎_elim, subst}
use Rattle.std.specs.Int.{w64, bit_at, bit_not}
use Rattle.std.proofs.Math.Nat.{pow-suc}
use Rattle.std.proofs.lemmas.Bool.{cases_lt, both_ways, and_parts}
use Rattle.std.proofs.lemmas.Bool.Decides.{nat_tests}
use Rattle.std.proofs.lemmas.Nat.{or_lt, and_le_l}
use Rattle.std.proofs.lemmas.Nat.Bits.{bit_at_and, bit_at_or, bit_at_not, bit_at-lt, bit_at_above, bit_at-zero, same_from_bits_below, bit_at_cat_low, bit_at_cat_high}
use Rattle.dt_csr.specs.Traps.{bits_where}

-- no code from 64 on has a bit
pub no_code : (codes code : ℕ) → codes < 2 ^ 64 → 64 ≤ code → nat_eq (bit_at codes code) 1 ≡ false
no_code codes code small high = ap (λ n. nat_eq n 1) (bit_at_above codes 64 code small high)

-- one bit more keeps a number small
one_more : (low p : ℕ) (b : Bool) → low < p → low + cond b p 0 < p * 2
one_more low p true h = omega arith
one_more low p false h = omega arith

-- one bit more leaves the bits below it
bit_below : (low n i : ℕ) (b : Bool) → low < 2 ^ n → i < n → bit_at (low + cond b (2 ^ n) 0) i ≡ bit_at low i
bit_below low n i true small below =
    let turned : low + 2 ^ n ≡ 1 * 2 ^ n + low = omega arith in
    ap (λ m. bit_at m i) turned ∙ bit_at_cat_low 1 n low i below
bit_below low n i false small below = let same : low + 0 ≡ low = omega arith in ap (λ m. bit_at m i) same

bit_here : (low n : ℕ) (b : Bool) → low < 2 ^ n → bit_at (low + cond b (2 ^ n) 0) n ≡ cond b 1 0
bit_here low n true small =
    let turned : low + 2 ^ n ≡ 1 * 2 ^ n + low = omega arith in
    let first : n - n ≡ 0 = omega arith in
    ap (λ m. bit_at m n) turned ∙ bit_at_cat_high 1 n low n small (omega arith) ∙ ap (λ m. bit_at 1 m) first
bit_here low n false small =
    let same : low + 0 ≡ low = omega arith in ap (λ m. bit_at m n) same ∙ bit_at_above low n n small (omega arith)

pub bits_where-lt : (test : ℕ → Bool) (n : ℕ) → bits_where test n < 2 ^ n
unfolding bits_where
bits_where-lt test zero = omega arith
bits_where-lt test (suc n) = rw (pow-suc 2 n) (one_more (bits_where test n) (2 ^ n) (test n) (bits_where-lt test n))

-- the bits of a mask are what the test says
pub bit_at_where : (test : ℕ → Bool) (n i : ℕ) → i < n → bit_at (bits_where test n) i ≡ cond (test i) 1 0
unfolding bits_where
bit_at_where test zero i below = absurd (omega arith)
bit_at_where test (suc n) i below =
    ⊎_elim
    (λ (h : i < n). bit_below (bits_where test n) n i (test n) (bits_where-lt test n) h ∙ bit_at_where test n i h)
    (λ (h : n ≤ i).
    let same : i ≡ n = omega arith in
    let P : ℕ → Type 0 = λ m. bit_at (bits_where test n + cond (test n) (2 ^ n) 0) m ≡ cond (test m) 1 0 in
    subst P (sym same) (bit_here (bits_where test n) n (test n) (bits_where-lt test n)))
    (cases_lt i n)

-- the bit of a code that goes to S or to M, as numbers
one_enabled : (m d : ℕ) (machine supervisor : Bool) → m < 2 → d < 2 → max (cond machine (min m (1 - d)) 0) (cond supervisor (min m d) 0) ≡ cond (nat_eq m 1 && cond (nat_eq d 1) supervisor machine) 1 0
one_enabled m d true true p q = grind (arith, nat_tests)
one_enabled m d true false p q = grind (arith, nat_tests)
one_enabled m d false true p q = grind (arith, nat_tests)
one_enabled m d false false p q = grind (arith, nat_tests)

bit_at_cond : (b : Bool) (n i : ℕ) → bit_at (cond b n 0) i ≡ cond b (bit_at n i) 0
bit_at_cond true n i = refl
bit_at_cond false n i = bit_at-zero i

-- the codes that go to M and those that go to S, each where they are taken
abbrev pub taken : ℕ → ℕ → Bool → Bool → ℕ
taken mie mideleg machine supervisor = bit_or (cond machine (bit_and mie (bit_not w64 mideleg)) 0) (cond supervisor (bit_and mie mideleg) 0)

-- is a code among them
abbrev pub is_taken : ℕ → ℕ → Bool → Bool → ℕ → Bool
is_taken mie mideleg machine supervisor i = nat_eq (bit_at mie i) 1 && cond (nat_eq (bit_at mideleg i) 1) supervisor machine

bit_at_taken : (mie mideleg : ℕ) (machine supervisor : Bool) (i : ℕ) → mideleg < 2 ^ 64 → i < 64 → bit_at (taken mie mideleg machine supervisor) i ≡ cond (is_taken mie mideleg machine supervisor i) 1 0
bit_at_taken mie mideleg machine supervisor i small below =
    bit_at_or (cond machine (bit_and mie (bit_not w64 mideleg)) 0) (cond supervisor (bit_and mie mideleg) 0) i
    ∙ ap (λ n. max n (bit_at (cond supervisor (bit_and mie mideleg) 0) i)) (bit_at_cond machine (bit_and mie (bit_not w64 mideleg)) i)
    ∙ ap (λ n. max (cond machine (bit_at (bit_and mie (bit_not w64 mideleg)) i) 0) n) (bit_at_cond supervisor (bit_and mie mideleg) i)
    ∙ ap (λ n. max (cond machine n 0) (cond supervisor (bit_at (bit_and mie mideleg) i) 0)) (bit_at_and mie (bit_not w64 mideleg) i)
    ∙ ap (λ n. max (cond machine (min (bit_at mie i) (bit_at (bit_not w64 mideleg) i)) 0) (cond supervisor n 0)) (bit_at_and mie mideleg i)
    ∙ ap (λ n. max (cond machine (min (bit_at mie i) n) 0) (cond supervisor (min (bit_at mie i) (bit_at mideleg i)) 0)) (bit_at_not w64 mideleg i small below)
    ∙ one_enabled (bit_at mie i) (bit_at mideleg i) machine supervisor (bit_at-lt mie i) (bit_at-lt mideleg i)

choice_fits : (b : Bool) (n : ℕ) → n < 2 ^ 64 → cond b n 0 < 2 ^ 64
choice_fits true n h = h
choice_fits false n h = omega arith

taken_fits : (mie mideleg : ℕ) (machine supervisor : Bool) → mie < 2 ^ 64 → taken mie mideleg machine supervisor < 2 ^ 64
taken_fits mie mideleg machine supervisor h =
    or_lt 64 _ _
    (choice_fits machine (bit_and mie (bit_not w64 mideleg)) (omega (arith, and_le_l mie (bit_not w64 mideleg))))
    (choice_fits supervisor (bit_and mie mideleg) (omega (arith, and_le_l mie mideleg)))

-- the mask of the codes that are taken is that of the test
pub taken_where : (mie mideleg : ℕ) (machine supervisor : Bool) → mie < 2 ^ 64 → mideleg < 2 ^ 64 → taken mie mideleg machine supervisor ≡ bits_where (is_taken mie mideleg machine supervisor) 64
taken_where mie mideleg machine supervisor h small =
    same_from_bits_below 64 _ _ (taken_fits mie mideleg machine supervisor h) (bits_where-lt (is_taken mie mideleg machine supervisor) 64) (λ i below.
    bit_at_taken mie mideleg machine supervisor i small below ∙ sym (bit_at_where (is_taken mie mideleg machine supervisor) 64 i below))

one_if : (b : Bool) (n : ℕ) → n ≡ cond b 1 0 → (n ≡ 1) ↔ IsTrue b
one_if true n e = ((λ _. refl), (λ _. e))
one_if false n e = ((λ h. absurd (omega arith)), (λ h. absurd (cc)))

-- a code has a bit in the mask exactly where it is taken
pub taken_codes : (mie mideleg : ℕ) (machine supervisor : Bool) → mie < 2 ^ 64 → mideleg < 2 ^ 64 → (code : ℕ) → (bit_at (taken mie mideleg machine supervisor) code ≡ 1) ↔ IsTrue (is_taken mie mideleg machine supervisor code)
taken_codes mie mideleg machine supervisor h small code =
    ⊎_elim
    (λ (below : code < 64). one_if (is_taken mie mideleg machine supervisor code) (bit_at (taken mie mideleg machine supervisor) code) (bit_at_taken mie mideleg machine supervisor code small below))
    (λ (above : 64 ≤ code). (
      (λ e. absurd (omega (arith, e, bit_at_above (taken mie mideleg machine supervisor) 64 code (taken_fits mie mideleg machine supervisor h) above))),
      (λ e. absurd (both_ways (nat_eq (bit_at mie code) 1) (no_code mie code h above) (and_parts (nat_eq (bit_at mie code) 1) (cond (nat_eq (bit_at mideleg code) 1) supervisor machine) e).0)),
    ))
    (cases_lt code 64)

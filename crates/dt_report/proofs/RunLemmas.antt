-- Runs, one after another.
use Rattle.std.proofs.Common.{◌≡◌, ℕ, suc, ◌+◌, ◌<◌, Bool, true, false, cond, List, [], ◌∷◌, ◌++◌, length, get_or, drop, refl, sym, ap, ◌∙◌, append_assoc, arith}
use Rattle.std.specs.List.{flat_map, prefix_len}
use Rattle.std.proofs.lemmas.List.{append-nil, drop_more, drop-drop}
use Rattle.std.proofs.lemmas.Bool.Decides.{nat_tests}
use Rattle.dt_record.specs.declared.keys.Key.{Key}
use Rattle.dt_record.specs.declared.origins.Origin.{Origin}
use Rattle.dt_record.specs.declared.origins.Origin.TheVariants.{Image, Write, Store}
use Rattle.dt_report.specs.Runs.{Run, run, same_key, same_origin, with_byte, runs_from, run_text, runs_text}

same_key-true : (a b : Key) → same_key a b ≡ true → a ≡ b
same_key-true a b same = grind (arith, nat_tests)

pub same_origin-true : (a b : Origin) → same_origin a b ≡ true → a ≡ b
same_origin-true Image Image same = refl
same_origin-true Image (Write key) same = cc
same_origin-true Image (Store seq) same = cc
same_origin-true (Write a) Image same = cc
same_origin-true (Write a) (Write b) same = ap Write (same_key-true a b same)
same_origin-true (Write a) (Store seq) same = cc
same_origin-true (Store a) Image same = cc
same_origin-true (Store a) (Write key) same = cc
same_origin-true (Store a) (Store b) same = grind (arith, nat_tests)

-- the runs of one more byte in front, where those behind are known
in_front : (n m k : ℕ) (o p : Origin) (ps : List Origin) (b : Bool) → same_origin o p ≡ b
    → k ≡ cond b (1 + prefix_len (same_origin o) ps) 0 → m ≡ n + k
    → ((j : ℕ) → j ≡ n + 1 + prefix_len (same_origin p) ps → runs_from (n + 1) (p ∷ ps) ≡ run (n + 1) j p ∷ runs_from (j + 1) (drop (prefix_len (same_origin p) ps) ps))
    → with_byte n o (runs_from (n + 1) (p ∷ ps)) ≡ run n m o ∷ runs_from (m + 1) (drop k (p ∷ ps))
in_front n m k o p ps true same len last behind =
    let j = prefix_len (same_origin p) ps in
    let as_long : prefix_len (same_origin o) ps ≡ j = ap (λ (x : Origin). prefix_len (same_origin x) ps) (same_origin-true o p same) in
    let one_more : k ≡ suc j = omega arith in
    let at_last : m ≡ n + 1 + j = omega arith in
    ap (with_byte n o) (behind m at_last) ∙ rw (same, one_more) refl
in_front n m k o p ps false same len last behind =
    let j = n + 1 + prefix_len (same_origin p) ps in
    let alone : m ≡ n = omega arith in
    ap (with_byte n o) (behind j refl) ∙ rw (same, ← behind j refl, alone, len) refl

-- the first run of some bytes, and the runs behind it
pub runs_from-cons : (n m k : ℕ) (o : Origin) (os : List Origin) → k ≡ prefix_len (same_origin o) os → m ≡ n + k → runs_from n (o ∷ os) ≡ run n m o ∷ runs_from (m + 1) (drop k os)
runs_from-cons n m k o [] len last = let alone : m ≡ n = omega arith in rw (len, alone) refl
runs_from-cons n m k o (p ∷ ps) len last =
    in_front n m k o p ps (same_origin o p) refl len last (λ j at. runs_from-cons (n + 1) j (prefix_len (same_origin p) ps) p ps refl at)

-- the first run, and each of the others behind a comma
pub runs_text-cons : (r : Run) (rs : List Run) → runs_text (r ∷ rs) ≡ run_text r ++ flat_map (λ (q : Run). 44 ∷ run_text q) rs
runs_text-cons r [] = sym (append-nil (run_text r))
runs_text-cons r (q ∷ rs) = ap (λ (t : List ℕ). run_text r ++ (44 ∷ t)) (runs_text-cons q rs)

-- the run that begins at a byte, and the runs behind it
pub runs_from-at : (bytes : List Origin) (first last len : ℕ) (o : Origin) → first < length bytes → o ≡ get_or bytes first o
    → len ≡ prefix_len (same_origin o) (drop (first + 1) bytes) → last ≡ first + len
    → runs_from first (drop first bytes) ≡ run first last o ∷ runs_from (last + 1) (drop (last + 1) bytes)
runs_from-at bytes first last len o within is as_long at_last =
    let behind : first + 1 + len ≡ last + 1 = omega arith in
    ap (runs_from first) (drop_more bytes first o within ∙ ap (λ (x : Origin). x ∷ drop (first + 1) bytes) (sym is))
    ∙ runs_from-cons first last len o (drop (first + 1) bytes) as_long at_last
    ∙ ap (λ (t : List Origin). run first last o ∷ runs_from (last + 1) t) (drop-drop len (first + 1) bytes ∙ ap (λ (k : ℕ). drop k bytes) behind)

-- a run is written, which is the first of those from its first byte on
pub written_at : (bytes : List Origin) (first len : ℕ) (o : Origin) (before after : List ℕ) → first < length bytes → o ≡ get_or bytes first o
    → len ≡ prefix_len (same_origin o) (drop (first + 1) bytes) → after ≡ before ++ run_text (run first (first + len) o)
    → (r : Run) × (runs_from first (drop first bytes) ≡ r ∷ runs_from (first + len + 1) (drop (first + len + 1) bytes)) × (after ≡ before ++ run_text r)
written_at bytes first len o before after within is as_long written =
    (run first (first + len) o, runs_from-at bytes first (first + len) len o within is as_long refl, written)

-- the first run is written, and those behind it follow behind commas
pub written_first : (bytes : List Origin) (next : ℕ) (before after : List ℕ)
    → (r : Run) × (runs_from 0 (drop 0 bytes) ≡ r ∷ runs_from next (drop next bytes)) × (after ≡ before ++ run_text r)
    → after ++ flat_map (λ (q : Run). 44 ∷ run_text q) (runs_from next (drop next bytes)) ≡ before ++ runs_text (runs_from 0 bytes)
written_first bytes next before after first =
    let others = flat_map (λ (q : Run). 44 ∷ run_text q) (runs_from next (drop next bytes)) in
    ap (λ (t : List ℕ). t ++ others) first.2
    ∙ append_assoc before (run_text first.0) others
    ∙ ap (λ (t : List ℕ). before ++ t) (sym (ap runs_text first.1 ∙ runs_text-cons first.0 (runs_from next (drop next bytes))))

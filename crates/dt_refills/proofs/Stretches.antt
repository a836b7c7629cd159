-- A line over a stretch in which its words are steady.
use Rattle.std.proofs.Common.{ℕ, ◌≡◌, ◌+◌, ◌*◌, ◌/◌, ◌%◌, ◌<◌, ◌≤◌, ◌==◌, zero, suc, IsTrue, List, ◌∷◌, map, refl, ap, ◌∙◌, arith}
use Rattle.std.specs.List.{range_with_len}
use Rattle.std.proofs.lemmas.Bool.{and_parts, eqb-true}
use Rattle.dt_versions.proofs.Steady.{IsSteady-later}
use Rattle.dt_record.specs.declared.writes.Write.{Write}
use Rattle.dt_record.specs.Lawful.{is_ram_line}
use Rattle.dt_record.specs.Memory.{memory_at}
use Rattle.dt_versions.specs.Words.{IsSteady, SteadyBytesStay}
use Rattle.dt_refills.specs.Refilling.{line_at}

map_range-same : (f g : ℕ → ℕ) (a n : ℕ) → ((i : ℕ) → a ≤ i → i < a + n → f i ≡ g i) → map f (range_with_len a n) ≡ map g (range_with_len a n)
map_range-same f g a zero same = refl
map_range-same f g a (suc n) same =
    ap (λ x. x ∷ map f (range_with_len (a + 1) n)) (same a (omega arith) (omega arith))
    ∙ ap (λ xs. g a ∷ xs) (map_range-same f g (a + 1) n (λ i from to. same i (omega arith) (omega arith)))

pub line_at-steady : SteadyBytesStay → (image : List ℕ) (writes : List Write) (line from j k : ℕ) → IsTrue (is_ram_line line)
    → ((i : ℕ) → i < 8 → IsSteady writes (line + 8 * i) from k) → from ≤ j → j ≤ k → line_at image writes k line ≡ line_at image writes j line
unfolding line_at
line_at-steady bytes image writes line from j k is_line steady after before =
    let begins = eqb-true (line % 64) 0 (and_parts (line % 64 == 0) _ is_line).0 in
    map_range-same (λ i. memory_at image writes k (line + i)) (λ i. memory_at image writes j (line + i)) 0 64 (λ i _ to.
    let word : i / 8 < 8 = omega arith in
    bytes image writes (line + 8 * (i / 8)) (line + i) j k (IsSteady-later writes (line + 8 * (i / 8)) from j k after (steady (i / 8) word)) before (omega arith))

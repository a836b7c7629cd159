-- Entries and halfwords over stretches in which their words are steady.
use Rattle.std.proofs.Common.{◌≡◌, ℕ, ◌+◌, ◌*◌, ◌%◌, ◌^◌, ◌<◌, ◌≤◌, ◌==◌, Bool, IsTrue, List, refl, sym, ap, ◌∙◌, inl, inr, arith}
use Rattle.std.proofs.lemmas.Bool.{cases_lt}
use Rattle.dt_versions.proofs.Steady.{IsSteady-later}
use Rattle.dt_access.specs.Reaching.{reached}
use Rattle.dt_record.specs.declared.writes.Write.{Write}
use Rattle.dt_record.specs.Memory.{memory_at}
use Rattle.dt_versions.specs.Words.{IsSteady, SteadyBytesStay, SteadyWordsStay, double_at}
use Rattle.dt_versions.specs.declared.moments.Span.{Span}
use Rattle.dt_walk.specs.declared.arguments.WalkArgs.{WalkArgs}
use Rattle.dt_walk.specs.declared.arguments.WalkAnswer.{WalkAnswer}
use Rattle.dt_walk.specs.Walk.{walk_of}
use Rattle.dt_translate.specs.Newest.{IsWithin}
use Rattle.dt_translate.specs.Outcomes.{entry_at, half_at, outcome_at}

-- an entry is the number of 64 bits that stands there
pub entry_at-double : (image : List ℕ) (writes : List Write) (k addr : ℕ) → double_at image writes k addr ≡ entry_at image writes k addr
unfolding double_at entry_at half_at
entry_at-double image writes k addr =
    let memory = memory_at image writes k in
    let third : memory (addr + 2 + 1) ≡ memory (addr + 3) = ap memory (omega arith) in
    let fifth : memory (addr + 4 + 1) ≡ memory (addr + 5) = ap memory (omega arith) in
    let sixth : memory (addr + 4 + 2) ≡ memory (addr + 6) = ap memory (omega arith) in
    let seventh : memory (addr + 4 + 2 + 1) ≡ memory (addr + 7) = ap memory (omega arith) in
    omega (arith, third, fifth, sixth, seventh)

-- it stays over a stretch in which its word is steady
pub entry_at-steady : SteadyWordsStay → (image : List ℕ) (writes : List Write) (addr from j k : ℕ) → IsSteady writes addr from k → from ≤ j → j ≤ k → addr % 8 ≡ 0
    → entry_at image writes k addr ≡ entry_at image writes j addr
entry_at-steady words image writes addr from j k steady after before aligned =
    sym (entry_at-double image writes k addr) ∙ words image writes addr j k (IsSteady-later writes addr from j k after steady) before aligned ∙ entry_at-double image writes j addr

-- and so does a halfword
pub half_at-steady : SteadyBytesStay → (image : List ℕ) (writes : List Write) (addr from j k : ℕ) → IsSteady writes addr from k → from ≤ j → j ≤ k → addr % 2 ≡ 0
    → half_at image writes k addr ≡ half_at image writes j addr
unfolding half_at
half_at-steady bytes image writes addr from j k steady after before even =
    let same = IsSteady-later writes addr from j k after steady in
    ap (λ b. b + 2 ^ 8 * memory_at image writes k (addr + 1)) (bytes image writes addr addr j k same before refl)
    ∙ ap (λ b. memory_at image writes j addr + 2 ^ 8 * b) (bytes image writes addr (addr + 1) j k same before (omega arith))

-- where the walk is the same, so is the outcome
pub outcome_at-same : (image : List ℕ) (writes : List Write) (a : WalkArgs) (ram_only : Bool) (j k : ℕ) → walk_of (entry_at image writes j) a ≡ walk_of (entry_at image writes k) a
    → outcome_at image writes j a ram_only ≡ outcome_at image writes k a ram_only
unfolding outcome_at
outcome_at-same image writes a ram_only j k same = ap (reached ram_only) same

-- where no moment above one passes, and a test is the same down to another as it is there, none passes down to that
pub none_down : (P : ℕ → Type 0) (span : Span) (from k : ℕ) → ((j : ℕ) → IsWithin span j → k < j → ¬ (P j)) → ((j : ℕ) → from ≤ j → j ≤ k → P j → P k) → ¬ (P k)
    → (j : ℕ) → IsWithin span j → from ≤ j → ¬ (P j)
none_down P span from k above same fails j inside after = elim (cases_lt k j) [
  | inl later ↦ above j inside later
  | inr here ↦ λ passes. fails (same j after here passes)
]

module _ (image : List ℕ) (writes : List Write) (from k : ℕ) where
  -- no moment gives an outcome, down to the first of a stretch in which the walk is the same
  pub no_outcome-down : (a : WalkArgs) (ram_only : Bool) (wanted : WalkAnswer) (window : Span)
      → ((j : ℕ) → IsWithin window j → k < j → ¬ (outcome_at image writes j a ram_only ≡ wanted))
      → ((j : ℕ) → from ≤ j → j ≤ k → walk_of (entry_at image writes j) a ≡ walk_of (entry_at image writes k) a)
      → ¬ (outcome_at image writes k a ram_only ≡ wanted)
      → (j : ℕ) → IsWithin window j → from ≤ j → ¬ (outcome_at image writes j a ram_only ≡ wanted)
  no_outcome-down a ram_only wanted window tried steady fails =
      none_down (λ j. outcome_at image writes j a ram_only ≡ wanted) window from k tried
      (λ j after before is. sym (outcome_at-same image writes a ram_only j k (steady j after before)) ∙ is) fails

  -- none has a halfword, down to the first of a stretch in which its word is steady
  pub no_half-down : SteadyBytesStay → (addr wanted : ℕ) (span : Span)
      → ((j : ℕ) → IsWithin span j → k < j → ¬ (IsTrue (half_at image writes j addr == wanted)))
      → IsSteady writes addr from k → addr % 2 ≡ 0 → ¬ (IsTrue (half_at image writes k addr == wanted))
      → (j : ℕ) → IsWithin span j → from ≤ j → ¬ (IsTrue (half_at image writes j addr == wanted))
  no_half-down bytes addr wanted span tried steady even fails =
      none_down (λ j. IsTrue (half_at image writes j addr == wanted)) span from k tried
      (λ j after before is. ap (λ found. found == wanted) (half_at-steady bytes image writes addr from j k steady after before even) ∙ is) fails

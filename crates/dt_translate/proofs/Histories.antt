-- Lists of writes that begin alike.
use Rattle.std.proofs.Common.{◌≡◌, ℕ, ◌+◌, ◌*◌, ◌^◌, ◌%◌, ◌≤◌, ◌==◌, Bool, true, List, Option, Some, None, take, reverse, option_map, option_and_then, is_some, refl, sym, ap, ◌∙◌}
use Rattle.std.specs.Prelude.{slice_index, find}
use Rattle.std.specs.Option.{option_map_or}
use Rattle.std.proofs.lemmas.List.{take-take}
use Rattle.dt_access.specs.Reaching.{reached}
use Rattle.dt_record.specs.declared.writes.Write.{Write}
use Rattle.dt_record.specs.Image.{image_byte}
use Rattle.dt_record.specs.Memory.{covers, memory_at}
use Rattle.dt_versions.specs.declared.moments.Span.{Span}
use Rattle.dt_walk.specs.declared.arguments.WalkArgs.{WalkArgs}
use Rattle.dt_walk.specs.declared.arguments.WalkAnswer.{WalkAnswer}
use Rattle.dt_walk.specs.declared.arguments.WalkAnswer.TheVariants.{Page, PageFault, AccessFault}
use Rattle.dt_walk.specs.Walk.{walk_of}
use Rattle.dt_translate.specs.Fetches.{fetch_moments, held_moment, stands_at}
use Rattle.dt_translate.specs.Laws.{AreAlikeAt, SameFirstWrites, SameWindows}
use Rattle.dt_translate.specs.Newest.{IsWithin, newest}
use Rattle.dt_translate.specs.Outcomes.{allowed_moment, entry_at, half_at, is_answer, outcome_at}
use Rattle.dt_translate.proofs.Newests.{newest-same, newest-within}

-- a halfword and an entry by the bytes of a memory
abbrev half_over : (ℕ → ℕ) → ℕ → ℕ
half_over memory addr = memory addr + 2 ^ 8 * memory (addr + 1)

abbrev entry_over : (ℕ → ℕ) → ℕ → ℕ
entry_over memory addr =
    half_over memory addr + 2 ^ 16 * half_over memory (addr + 2) + 2 ^ 32 * (half_over memory (addr + 4) + 2 ^ 16 * half_over memory (addr + 4 + 2))

and_then-same : {X : Type 0} (o : Option ℕ) (f g : ℕ → Option X) → ((k : ℕ) → o ≡ Some k → f k ≡ g k) → option_and_then f o ≡ option_and_then g o
and_then-same None f g same = refl
and_then-same (Some k) f g same = same k refl

module _ (image : List ℕ) (ws vs : List Write) where
  same_memory : (k : ℕ) → take k ws ≡ take k vs → memory_at image ws k ≡ memory_at image vs k
  same_memory k same =
      ap (λ front addr. option_map_or (λ w. slice_index w.bytes (addr % 64)) (find (covers addr) (reverse front)) (image_byte image addr)) same

  alike_at : (k : ℕ) → take k ws ≡ take k vs → AreAlikeAt image ws vs k
  unfolding entry_at half_at outcome_at
  alike_at k same = record {
    outcomes = λ a ram_only. ap (λ memory. reached ram_only (walk_of (entry_over memory) a)) (same_memory k same);
    halves = λ addr. ap (λ memory. half_over memory addr) (same_memory k same);
  }

  shorter : (last k : ℕ) → take last ws ≡ take last vs → k ≤ last → take k ws ≡ take k vs
  shorter last k same within = sym (take-take k last ws within) ∙ ap (take k) same ∙ take-take k last vs within

  within_span : (span : Span) (k : ℕ) → take span.last ws ≡ take span.last vs → IsWithin span k → AreAlikeAt image ws vs k
  within_span span k same inside = alike_at k (shorter span.last k same inside.to)

  standing : (k half : ℕ) (answer : WalkAnswer) → AreAlikeAt image ws vs k → stands_at image ws k half answer ≡ stands_at image vs k half answer
  standing k half (Page addr) alike = ap (λ found. found == half) (alike.halves addr)
  standing k half PageFault alike = refl
  standing k half AccessFault alike = refl

  module _ (window since : Span) (a : WalkArgs) (same : take window.last ws ≡ take window.last vs) (same_since : take since.last ws ≡ take since.last vs) where
    allowed-alike : (ram_only : Bool) (wanted : WalkAnswer) → allowed_moment image ws window a ram_only wanted ≡ allowed_moment image vs window a ram_only wanted
    unfolding allowed_moment
    allowed-alike ram_only wanted = newest-same _ _ window (λ k inside. ap (is_answer wanted) ((within_span window k same inside).outcomes a ram_only))

    held-alike : (half k1 : ℕ) → IsWithin window k1 → held_moment image ws since a half k1 ≡ held_moment image vs since a half k1
    held-alike half k1 inside = newest-same _ _ since (λ k2 held_inside.
        standing k2 half (outcome_at image ws k1 a true) (within_span since k2 same_since held_inside)
        ∙ ap (stands_at image vs k2 half) ((within_span window k1 same inside).outcomes a true))

    fetched-alike : (half : ℕ) → fetch_moments image ws window since a half ≡ fetch_moments image vs window since a half
    unfolding fetch_moments
    fetched-alike half =
        let held = held_moment image ws since a half in
        let pairs : (ℕ → Option ℕ) → ℕ → Option (ℕ × ℕ) = λ (h : ℕ → Option ℕ) k1. option_map (λ k2. (k1, k2)) (h k1) in
        and_then-same (newest (λ k1. is_some (held k1)) window) (pairs held) (pairs (held_moment image vs since a half))
        (λ k1 is. ap (option_map (λ k2. (k1, k2))) (held-alike half k1 (newest-within _ window k1 is)))
        ∙ ap (option_and_then (pairs (held_moment image vs since a half))) (newest-same _ _ window (λ k1 inside. ap is_some (held-alike half k1 inside)))

pub same_first_writes : SameFirstWrites
same_first_writes image ws vs last k same within = alike_at image ws vs k (shorter image ws vs last k same within)

pub same_windows : SameWindows
same_windows image ws vs window since a same same_since = record {
  allowed = allowed-alike image ws vs window since a same same_since;
  fetched = fetched-alike image ws vs window since a same same_since;
}

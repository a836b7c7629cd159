use Rattle.std.proofs.Common.{ℕ, ◌≡◌, ◌+◌, ◌-◌, ◌≤◌, ◌==◌, true, false, List, [], ◌∷◌, map, length, take, reverse, Result, Ok, refl, sym, ap, ◌∙◌, inl, inr, arith, if◌then◌else◌}
use Rattle.std.specs.Prelude.{slice_index, find, ◌%◌}
use Rattle.std.specs.List.{range_with_len}
use Rattle.std.specs.Option.{option_map_or}
use Rattle.std.specs.Result.{is_ok}
use Rattle.std.specs.Str.{bytes_eq}
use Rattle.std.proofs.lemmas.Bool.{cases_Bool}
use Rattle.std.proofs.lemmas.List.{take-take}
use Rattle.std.proofs.lemmas.List.FromFn.{length-map-range_with_len}
use Rattle.dt_record.specs.declared.writes.Write.{Write}
use Rattle.dt_record.specs.Image.{image_byte}
use Rattle.dt_record.specs.Memory.{covers, memory_at}
use Rattle.dt_record.specs.declared.reasons.Reason.{Reason}
use Rattle.dt_record.specs.declared.reasons.Reason.TheVariants.{Refill as NotRefilled}
use Rattle.dt_rules.specs.declared.misfits.Misfit.{Misfit}
use Rattle.dt_rules.specs.Checks.{first_difference}
use Rattle.dt_versions.specs.declared.moments.Span.{Span}
use Rattle.dt_refills.specs.Laws.{SameRefills}
use Rattle.dt_refills.specs.Refilling.{has_line, line_at, refill_check}
use Rattle.dt_refills.proofs.Spans.{none_passes, pass_alike, some_passes}

-- What a line holds.

-- bytes that are as many as are due differ nowhere where they are equal
pub equal_is_ok : (reason : Reason) (due found : List ℕ) → length due ≡ length found → bytes_eq due found ≡ is_ok (first_difference reason due found)
equal_is_ok reason [] [] same = refl
equal_is_ok reason [] (y ∷ ys) same = absurd (omega arith)
equal_is_ok reason (x ∷ xs) [] same = absurd (omega arith)
equal_is_ok reason (x ∷ xs) (y ∷ ys) same = elim (cases_Bool (x == y)) [
  | inl here ↦ rw here (equal_is_ok reason xs ys (omega arith))
  | inr differs ↦ rw differs refl
]

pub line_has_bytes : (image : List ℕ) (writes : List Write) (k line : ℕ) → length (line_at image writes k line) ≡ 64
unfolding line_at
line_has_bytes image writes k line = length-map-range_with_len (λ i. memory_at image writes k (line + i)) 0 64

-- some moment of the span has the line
pub found_in : (image : List ℕ) (writes : List Write) (seen : Span) (line : ℕ) (bytes : List ℕ) (k : ℕ) → seen.first ≤ k → k ≤ seen.last
    → bytes_eq (line_at image writes k line) bytes ≡ true → Ok tt ≡ refill_check image writes seen line bytes
found_in image writes seen line bytes k from to same =
    let found : has_line image writes seen line bytes ≡ true =
    some_passes (λ j. bytes_eq (line_at image writes j line) bytes) seen.first (seen.last + 1 - seen.first) k from (omega arith) same in
    rw found refl

-- none has it
pub found_nowhere : (image : List ℕ) (writes : List Write) (seen : Span) (line : ℕ) (bytes : List ℕ) (r : Result (Unit {0}) Misfit)
    → ((k : ℕ) → seen.first ≤ k → k ≤ seen.last → bytes_eq (line_at image writes k line) bytes ≡ false)
    → r ≡ first_difference NotRefilled (line_at image writes seen.last line) bytes → r ≡ refill_check image writes seen line bytes
found_nowhere image writes seen line bytes r none is =
    let lost : has_line image writes seen line bytes ≡ false =
    none_passes (λ j. bytes_eq (line_at image writes j line) bytes) seen.first (seen.last + 1 - seen.first) (λ k from to. none k from (omega arith)) in
    rw lost is

same_memory : (image : List ℕ) (ws vs : List Write) (k : ℕ) → take k ws ≡ take k vs → memory_at image ws k ≡ memory_at image vs k
same_memory image ws vs k same =
    ap (λ front addr. option_map_or (λ w. slice_index w.bytes (addr % 64)) (find (covers addr) (reverse front)) (image_byte image addr)) same

same_line : (image : List ℕ) (ws vs : List Write) (k line : ℕ) → take k ws ≡ take k vs → line_at image ws k line ≡ line_at image vs k line
unfolding line_at
same_line image ws vs k line same = ap (λ (memory : ℕ → ℕ). map (λ i. memory (line + i)) (range_with_len 0 64)) (same_memory image ws vs k same)

shorter : (ws vs : List Write) (last k : ℕ) → take last ws ≡ take last vs → k ≤ last → take k ws ≡ take k vs
shorter ws vs last k same within = sym (take-take k last ws within) ∙ ap (take k) same ∙ take-take k last vs within

pub same_refills : SameRefills
same_refills image ws vs seen line bytes same =
    ap (λ b. if b then Ok tt else first_difference NotRefilled (line_at image ws seen.last line) bytes)
    (pass_alike (λ k. bytes_eq (line_at image ws k line) bytes) (λ k. bytes_eq (line_at image vs k line) bytes) seen.first (seen.last + 1 - seen.first)
    (λ k from to. ap (λ due. bytes_eq due bytes) (same_line image ws vs k line (shorter ws vs seen.last k same (omega arith)))))
    ∙ ap (λ due. if has_line image vs seen line bytes then Ok tt else first_difference NotRefilled due bytes) (same_line image ws vs seen.last line same)

-- What has passed stays passed.
use Rattle.std.proofs.Common.{◌≡◌, ℕ, ◌<◌, ◌-◌, true, List, [], ◌∷◌, ◌++◌, length, get_or, Contains, inl, inr, ◌∙◌, arith}
use Rattle.std.proofs.lemmas.Bool.{or_left}
use Rattle.std.proofs.lemmas.List.Elements.{filter_map-append, Contains-append_left, Contains-get_or}
use Rattle.std.proofs.lemmas.List.Folds.{list_any-append}
use Rattle.dt_record.specs.declared.writes.Note.{Note}
use Rattle.dt_record.specs.Marks.{stamp_in, ends, marks_of, has_ended, HasMarkAbove, PassedGoesOn, JudgedIsPassed}

ended-goes_on : (hart : ℕ) (notes more : List Note) → has_ended hart notes ≡ true → has_ended hart (notes ++ more) ≡ true
ended-goes_on hart notes more h = list_any-append (ends hart) notes more ∙ or_left (has_ended hart notes) (has_ended hart more) h

mark-goes_on : (hart stamp : ℕ) (notes more : List Note) → HasMarkAbove hart notes stamp → HasMarkAbove hart (notes ++ more) stamp
mark-goes_on hart stamp notes more (mark, held, above) =
    (mark, rw (filter_map-append (stamp_in hart) notes more) (Contains-append_left (marks_of hart notes) (marks_of hart more) mark held), above)

pub passed-goes_on : PassedGoesOn
passed-goes_on harts stamp notes more passed hart below =
    elim (passed hart below) [ inl ended ↦ inl (ended-goes_on hart notes more ended) | inr above ↦ inr (mark-goes_on hart stamp notes more above) ]

-- the last mark is one of the marks
last-above : (marks : List ℕ) (stamp : ℕ) → stamp < get_or marks (length marks - 1) 0 → (mark : ℕ) × Contains marks mark × (stamp < mark)
last-above [] stamp above = absurd (omega (arith, above))
last-above (m ∷ ms) stamp above =
    let held = Contains-get_or (m ∷ ms) (length (m ∷ ms) - 1) 0 (omega arith) in
    (get_or (m ∷ ms) (length (m ∷ ms) - 1) 0, held, above)

pub judged-is_passed : JudgedIsPassed
judged-is_passed harts stamp front more judged =
    passed-goes_on harts stamp front more (λ hart below.
    elim (judged hart below) [ inl ended ↦ inl ended | inr above ↦ inr (last-above (marks_of hart front) stamp above) ])

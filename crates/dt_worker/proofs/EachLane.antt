use Rattle.std.proofs.Common.{ℕ, ◌≡◌, ◌<◌, ◌≤◌, ◌+◌, List, length, get_or, set, sym, ◌∙◌, subst, inl, inr, arith}
use Rattle.std.proofs.lemmas.Bool.{cases_eq, cases_lt}
use Rattle.std.proofs.lemmas.List.{get_or-set_same, get_or-set_other, length-set}
use Rattle.dt_lane.specs.Lanes.{LaneView}
use Rattle.dt_worker.specs.Steps.{EachGoes}

-- Lanes that go on one after another.

module _ (R : LaneView → LaneView → Type 0) (stays : (u : LaneView) → R u u)
    (old cur : List LaneView) (i : ℕ) (y : LaneView) (size : length cur ≡ length old) (in-cur : i < length cur)
    (more : (k : ℕ) (d : LaneView) → k < i → R (get_or old k d) (get_or cur k d))
    (others : (k : ℕ) (d : LaneView) → i ≤ k → get_or cur k d ≡ get_or old k d)
    (one : (d : LaneView) → R (get_or cur i d) y) where
  pub set-more : (k : ℕ) (d : LaneView) → k < i + 1 → R (get_or old k d) (get_or (set cur i y) k d)
  set-more k d h = elim (cases_eq k i) [
    | inl same ↦
        subst (λ (j : ℕ). R (get_or old j d) (get_or (set cur i y) j d)) (sym same)
        (subst (λ (v : LaneView). R (get_or old i d) v) (sym (get_or-set_same cur i y d in-cur))
        (subst (λ (u : LaneView). R u y) (others i d (omega arith)) (one d)))
    | inr other ↦
        subst (λ (v : LaneView). R (get_or old k d) v) (sym (get_or-set_other cur i k y d other))
        (more k d (elim (cases_lt k i) [
          | inl below ↦ below
          | inr above ↦ absurd (other (omega arith))
        ]))
  ]

  pub set-others : (k : ℕ) (d : LaneView) → i + 1 ≤ k → get_or (set cur i y) k d ≡ get_or old k d
  set-others k d h = get_or-set_other cur i k y d (λ e. absurd (omega arith)) ∙ others k d (omega arith)

  pub set-size : length (set cur i y) ≡ length old
  set-size = length-set cur i y ∙ size

  pub set-all : EachGoes R old (set cur i y)
  set-all = record {
    size = set-size;
    each = λ k d h. elim (cases_lt i k) [
      | inl behind ↦ subst (λ (v : LaneView). R (get_or old k d) v) (sym (set-others k d (omega arith))) (stays (get_or old k d))
      | inr before ↦ set-more k d (omega arith)
    ];
  }

use Rattle.std.proofs.Common.{ℕ, ◌≡◌, ◌+◌, ◌≤◌, Bool, not, List, [], ◌∷◌, take, suc, refl, IsTrue, inl, inr, arith}
use Rattle.std.specs.List.{list_all, prefix_len}
use Rattle.std.proofs.lemmas.Bool.{cases_Bool}
use Rattle.std.proofs.lemmas.List.Sums.{prefix_len-le-length}
use Rattle.dt_lists.proofs.Lists.{list_all-later, within_prefix}
use Rattle.dt_record.specs.declared.keys.Key.{Key}
use Rattle.dt_record.specs.declared.writes.Write.{Write}
use Rattle.dt_record.specs.Visible.{IsVisible, must_see, cannot_see}
use Rattle.dt_versions.specs.Spans.{AreVisible, last_visible}

-- The greatest visible moment.

prefix_passes : {X : Type 0} (p : X → Bool) (xs : List X) → IsTrue (list_all p (take (prefix_len p xs) xs))
prefix_passes p [] = refl
prefix_passes p (x ∷ xs) = elim (cases_Bool (p x)) [
  | inl passes ↦ (let next : 1 + prefix_len p xs ≡ suc (prefix_len p xs) = omega arith in rw passes (rw next (rw passes (prefix_passes p xs))))
  | inr stops ↦ rw stops refl
]

pub end_is_last : (writes : List Write) (key : Key) (at first last : ℕ) → AreVisible writes key at first last → last ≡ last_visible writes key at
end_is_last writes key at first last visible =
    let seen : IsVisible writes key at last = (visible.exact last).1 (visible.never_empty, omega arith) in
    let below : last ≤ last_visible writes key at = within_prefix (λ w. not (cannot_see key at w)) last writes seen.within seen.seen in
    let top : IsVisible writes key at (last_visible writes key at) = record {
      within = prefix_len-le-length (λ w. not (cannot_see key at w)) writes;
      seen = prefix_passes (λ w. not (cannot_see key at w)) writes;
      unseen = list_all-later (λ w. not (must_see key at w)) last (last_visible writes key at) writes below seen.unseen;
    } in
    let above : last_visible writes key at ≤ last = ((visible.exact (last_visible writes key at)).0 top).1 in
    omega arith

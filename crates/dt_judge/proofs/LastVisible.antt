use Rattle.std.proofs.Common.{◌≡◌, ◌+◌, Bool, List, [], ◌∷◌, take, suc, refl, IsTrue, inl, inr, arith}
use Rattle.std.specs.List.{list_all, prefix_len}
use Rattle.std.proofs.lemmas.Bool.{cases_Bool}

-- The greatest visible moment.

prefix_passes : {X : Type 0} (p : X → Bool) (xs : List X) → IsTrue (list_all p (take (prefix_len p xs) xs))
prefix_passes p [] = refl
prefix_passes p (x ∷ xs) = elim (cases_Bool (p x)) [
  | inl passes ↦ (let next : 1 + prefix_len p xs ≡ suc (prefix_len p xs) = omega arith in rw passes (rw next (rw passes (prefix_passes p xs))))
  | inr stops ↦ rw stops refl
]

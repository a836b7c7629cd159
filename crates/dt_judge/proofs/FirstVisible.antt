use Rattle.std.proofs.Common.{ℕ, ◌≡◌, ◌-◌, ◌<◌, ◌≤◌, Bool, true, false, not, List, [], ◌∷◌, length, take, drop, get_or, zero, suc, refl, subst, IsTrue, inl, inr, arith, drop-cons}
use Rattle.std.specs.List.{list_all, suffix_len}
use Rattle.std.proofs.lemmas.Bool.{and_parts, cases_Bool}
use Rattle.std.proofs.lemmas.List.Sums.{suffix_len_is}
use Rattle.dt_record.specs.declared.keys.Key.{Key}
use Rattle.dt_record.specs.declared.writes.Write.{Write}
use Rattle.dt_record.specs.Visible.{IsVisible, must_see, cannot_see}
use Rattle.dt_versions.specs.Spans.{AreVisible, first_visible}

-- The least visible moment.

front_passes : {X : Type 0} (p : X → Bool) (j k : ℕ) (xs : List X) → j ≤ k → IsTrue (list_all p (take k xs)) → IsTrue (list_all p (take j xs))
front_passes p zero k xs rises all = refl
front_passes p (suc j) zero xs rises all = absurd (omega arith)
front_passes p (suc j) (suc k) [] rises all = refl
front_passes p (suc j) (suc k) (x ∷ xs) rises all =
    let parts = and_parts (p x) (list_all p (take k xs)) all in
    let first : p x ≡ true = parts.0 in
    rw first (front_passes p j k xs (omega arith) parts.1)

rest_passes : {X : Type 0} (p : X → Bool) (j k : ℕ) (xs : List X) (d : X) → j ≤ k → k < length xs → IsTrue (list_all p (drop j xs)) → p (get_or xs k d) ≡ true
rest_passes p j k [] d from within all = absurd (omega arith)
rest_passes p zero zero (x ∷ xs) d from within all = (and_parts (p x) (list_all p xs) all).0
rest_passes p zero (suc k) (x ∷ xs) d from within all = rest_passes p zero k xs d (omega arith) (omega arith) (and_parts (p x) (list_all p xs) all).1
rest_passes p (suc j) zero (x ∷ xs) d from within all = absurd (omega arith)
rest_passes p (suc j) (suc k) (x ∷ xs) d from within all = rest_passes p j k xs d (omega arith) (omega arith) all

any_write : Write
any_write = record { key = record { stamp = 0; hart = 0; seq = 0 }; line = 0; mask = 0; bytes = [] }

-- the last write before the least visible moment has to be seen
last_hidden : (writes : List Write) (key : Key) (at n last : ℕ) → AreVisible writes key at (suc n) last → not (must_see key at (get_or writes n any_write)) ≡ false
last_hidden writes key at n last visible =
    let least : IsVisible writes key at (suc n) = (visible.exact (suc n)).1 (omega arith, visible.never_empty) in
    elim (cases_Bool (not (must_see key at (get_or writes n any_write)))) [
      | inl passes ↦
          let within : n < length writes = omega (arith, least.within) in
          let unseen : IsTrue (list_all (λ w. not (must_see key at w)) (drop n writes)) = rw (drop-cons writes n any_write, passes) least.unseen in
          let earlier : IsVisible writes key at n = record {
            within = omega arith;
            seen = front_passes (λ w. not (cannot_see key at w)) n (suc n) writes (omega arith) least.seen;
            unseen = unseen;
          } in
          let above = ((visible.exact n).0 earlier).0 in
          absurd (omega arith)
      | inr stops ↦ stops
    ]

pub begin_is_first : (writes : List Write) (key : Key) (at first last : ℕ) → AreVisible writes key at first last → first ≡ first_visible writes key at
begin_is_first writes key at first last visible =
    let least : IsVisible writes key at first = (visible.exact first).1 (omega arith, visible.never_empty) in
    let test : Write → Bool = λ w. not (must_see key at w) in
    let stops : 0 < first → test (get_or writes (first - 1) any_write) ≡ false =
    λ some. let is : first ≡ suc (first - 1) = omega arith in last_hidden writes key at (first - 1) last (subst (λ f. AreVisible writes key at f last) is visible) in
    let length_of : suffix_len test writes ≡ length writes - first =
    suffix_len_is test writes first any_write least.within (λ k from within. rest_passes test first k writes any_write from within least.unseen) stops in
    omega (arith, least.within)

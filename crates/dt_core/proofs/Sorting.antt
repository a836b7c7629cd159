use Rattle.std.proofs.Common.{ℕ, ◌≡◌, ◌==◌, List, [], ◌∷◌, refl, sym, ap, ◌∙◌, inl, inr, eq-eqb, eqb-true}
use Rattle.std.proofs.lemmas.Bool.{cases_Bool, both_ways}
use Rattle.dt_lists.proofs.Lists.{filter-kept, filter-dropped}
use Rattle.dt_record.specs.declared.writes.Write.{Write}
use Rattle.dt_record.specs.Writes.{insert_write, by_key}
use Rattle.dt_core.specs.Notes.{hart_writes}
use Rattle.dt_core.proofs.Selection.{filter-behind, filter-ahead, filter-swap}
use Rattle.dt_core.proofs.Insertion.{insert-harts}

-- Writes that are alike hart by hart are alike in the order of their keys.

-- the first write of its hart may stand before all others
record IsFirst (w : Write) (ws : List Write) : Type 0 where
  rest : List Write
  sorted : by_key ws ≡ insert_write w (by_key rest)
  same : (hart : ℕ) → hart_writes hart ws ≡ hart_writes hart (w ∷ rest)

IsFirst-from : (w : Write) (more ws : List Write) → hart_writes w.key.hart ws ≡ w ∷ more → IsFirst w ws
IsFirst-from w more [] is = absurd (let never : ⊥ = cc in never)
IsFirst-from w more (v ∷ vs) is = elim (cases_Bool (v.key.hart == w.key.hart)) [
  | inl own ↦
      let front : v ∷ hart_writes w.key.hart vs ≡ w ∷ more = sym (filter-kept (λ (u : Write). u.key.hart == w.key.hart) v vs own) ∙ is in
      let one : v ≡ w = cc in
      record {
        rest = vs;
        sorted = ap (λ u. insert_write u (by_key vs)) one;
        same = λ hart. ap (λ u. hart_writes hart (u ∷ vs)) one;
      }
  | inr other ↦
      let later = IsFirst-from w more vs (sym (filter-dropped (λ (u : Write). u.key.hart == w.key.hart) v vs other) ∙ is) in
      record {
        rest = v ∷ later.rest;
        sorted = ap (insert_write v) later.sorted ∙ insert-harts v w (by_key later.rest) other;
        same = λ hart.
            filter-behind (λ (u : Write). u.key.hart == hart) v vs (w ∷ later.rest) (later.same hart)
            ∙ filter-swap (λ (u : Write). u.key.hart == hart) v w later.rest
            (λ mine yours. both_ways (v.key.hart == w.key.hart) other
            (eq-eqb v.key.hart w.key.hart (eqb-true v.key.hart hart mine ∙ sym (eqb-true w.key.hart hart yours))));
      }
]

pub by_key-harts : (ws vs : List Write) → ((hart : ℕ) → hart_writes hart ws ≡ hart_writes hart vs) → by_key ws ≡ by_key vs
by_key-harts [] [] same = refl
by_key-harts [] (v ∷ vs) same =
    let here : [] ≡ v ∷ hart_writes v.key.hart vs = same v.key.hart ∙ filter-kept (λ (u : Write). u.key.hart == v.key.hart) v vs (eq-eqb v.key.hart v.key.hart refl) in
    absurd (let never : ⊥ = cc in never)
by_key-harts (w ∷ ws) vs same =
    let here = filter-kept (λ (u : Write). u.key.hart == w.key.hart) w ws (eq-eqb w.key.hart w.key.hart refl) in
    let first = IsFirst-from w (hart_writes w.key.hart ws) vs (sym (same w.key.hart) ∙ here) in
    ap (insert_write w) (by_key-harts ws first.rest (λ hart. filter-ahead (λ (u : Write). u.key.hart == hart) w ws first.rest (same hart ∙ first.same hart)))
    ∙ sym first.sorted

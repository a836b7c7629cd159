use Rattle.std.proofs.Common.{ℕ, ◌≡◌, ◌+◌, ◌*◌, ◌/◌, ◌%◌, ◌≤◌, List, Vec, Global, length, sym, ap, ◌∙◌, inl, inr, arith}
use Rattle.std.proofs.lemmas.Bool.{cases_lt}
use Rattle.dt_versions.specs.Chains.{chain_of, line_place, newest_until, number_at}
use Rattle.dt_versions.proofs.WordChanges.{IsChange-among, IsSteady-bound, number-within}
use Rattle.dt_versions.proofs.moments.Moments.steady_from.Goals as goal

number_is : (c : goal.After-newest_in_word) (i : ℕ) → number_at c.deref-2.result.now c.newest_at-newest.result (c.word_place.result + i)
    ≡ number_at c.self.inside.rows.items (newest_until (chain_of c.self.inside.lines.items (line_place c.args.addr)) c.args.k) (c.args.addr % 64 / 8 * 8 + i)
number_is c i =
    let rows = c.self.inside.rows.items in
    let newest : c.newest_at-newest.result ≡ newest_until (chain_of c.self.inside.lines.items (line_place c.args.addr)) c.args.k =
    c.newest_at-newest.ensures
    ∙ ap (λ (ls : List (Vec ℕ Global)). newest_until (chain_of ls c.line_place.result) c.args.k) c.deref.ensures.value
    ∙ ap (λ p. newest_until (chain_of c.self.inside.lines.items p) c.args.k) c.line_place.ensures in
    ap (λ (rs : List (List ℕ)). number_at rs c.newest_at-newest.result (c.word_place.result + i)) c.deref-2.ensures.value
    ∙ ap (λ n. number_at rows n (c.word_place.result + i)) newest
    ∙ ap (λ s. number_at rows (newest_until (chain_of c.self.inside.lines.items (line_place c.args.addr)) c.args.k) (s + i)) c.word_place.ensures.place

within : (c : goal.After-newest_in_word) → c.args.k ≤ length c.self.inside.writes.items
within c = rw (← c.self.view_is) at c.requires.within

pub returns-clause-within : goal.returns-clause-within
returns-clause-within c = elim (cases_lt 0 c.newest_in_word.result) [
  | inl some ↦
      let byte = c.newest_in_word.ensures.among some in
      let below = number-within c.self.inside.writes.items c.self.inside.rows.items (chain_of c.self.inside.lines.items) c.self.invariant.1 c.args.addr c.requires.in_ram c.args.k byte.0 (within c) byte.1 in
      omega (arith, byte.2, number_is c byte.0, below)
  | inr none ↦ omega arith
]

pub returns-clause-steady : goal.returns-clause-steady
returns-clause-steady c =
    rw (← c.self.view_is) (IsSteady-bound c.self.inside.writes.items c.self.inside.rows.items (chain_of c.self.inside.lines.items) c.self.invariant.1 c.args.addr c.requires.in_ram c.args.k c.newest_in_word.result (within c)
    (λ i small. omega (arith, number_is c i, c.newest_in_word.ensures.bound i small)))

pub returns-clause-least : goal.returns-clause-least
returns-clause-least c = λ some.
    let byte = c.newest_in_word.ensures.among some in
    rw (← c.self.view_is) (IsChange-among c.self.inside.writes.items c.self.inside.rows.items (chain_of c.self.inside.lines.items) c.self.invariant.1 c.args.addr c.requires.in_ram c.args.k c.newest_in_word.result byte.0
    (within c) some byte.1 (sym (number_is c byte.0) ∙ byte.2))

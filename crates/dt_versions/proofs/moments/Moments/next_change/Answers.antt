use Rattle.std.proofs.Common.{ℕ, ◌≡◌, ◌+◌, ◌*◌, ◌/◌, ◌%◌, ◌<◌, ◌≤◌, List, Vec, Global, length, true, false, ap, ◌∙◌, inl, inr, arith}
use Rattle.std.specs.Prelude.{slice_get}
use Rattle.std.specs.List.Sorted.{IsPartitionPoint}
use Rattle.std.proofs.lemmas.Bool.{cases_lt}
use Rattle.dt_versions.specs.Chains.{chain_of, is_unchanged, line_place, newest_until, number_at}
use Rattle.dt_versions.proofs.Lookups.{IfNone-slice_get, IfSome-slice_get}
use Rattle.dt_versions.proofs.WordChanges.{change-above, change-within, change-steady, change-is, number-within, unchanged-to_end, parted, unchanged-until}
use Rattle.dt_versions.proofs.moments.Moments.next_change.Goals as goal

pub unchanged_until-next-requires-clause-parted : goal.unchanged_until-next-requires-clause-parted
unchanged_until-next-requires-clause-parted c =
    let chain =
    c.chain_at-chain.ensures ∙ ap (λ (ls : List (Vec ℕ Global)). chain_of ls c.line_place.result) c.deref.ensures.value
    ∙ ap (chain_of c.self.inside.lines.items) c.line_place.ensures in
    rw (chain, c.deref-3.ensures.value, c.word_place-start.ensures.place)
    (parted c.self.inside.writes.items c.self.inside.rows.items (chain_of c.self.inside.lines.items) c.self.invariant.1 c.args.addr c.requires.in_ram c.newest_in_word-limit.result)

chain_is : (c : goal.After-moment_in) → c.chain_at-chain.result.now ≡ chain_of c.self.inside.lines.items (line_place c.args.addr)
chain_is c =
    c.chain_at-chain.ensures ∙ ap (λ (ls : List (Vec ℕ Global)). chain_of ls c.line_place.result) c.deref.ensures.value
    ∙ ap (chain_of c.self.inside.lines.items) c.line_place.ensures

within : (c : goal.After-moment_in) → c.args.k ≤ length c.self.inside.writes.items
within c = rw (← c.self.view_is) at c.requires.within

number_is : (c : goal.After-moment_in) (i : ℕ) → number_at c.deref-2.result.now c.newest_until-newest.result (c.word_place-start.result + i)
    ≡ number_at c.self.inside.rows.items (newest_until (chain_of c.self.inside.lines.items (line_place c.args.addr)) c.args.k) (c.args.addr % 64 / 8 * 8 + i)
number_is c i =
    ap (λ (rs : List (List ℕ)). number_at rs c.newest_until-newest.result (c.word_place-start.result + i)) c.deref-2.ensures.value
    ∙ ap (λ n. number_at c.self.inside.rows.items n (c.word_place-start.result + i)) (c.newest_until-newest.ensures ∙ ap (λ (chain : List ℕ). newest_until chain c.args.k) (chain_is c))
    ∙ ap (λ s. number_at c.self.inside.rows.items (newest_until (chain_of c.self.inside.lines.items (line_place c.args.addr)) c.args.k) (s + i)) c.word_place-start.ensures.place

-- up to moment k no byte of the word comes from a later write than the limit, which is one of them
bound : (c : goal.After-moment_in) (i : ℕ) → i < 8
    → number_at c.self.inside.rows.items (newest_until (chain_of c.self.inside.lines.items (line_place c.args.addr)) c.args.k) (c.args.addr % 64 / 8 * 8 + i) ≤ c.newest_in_word-limit.result
bound c i small = omega (arith, number_is c i, c.newest_in_word-limit.ensures.bound i small)

early : (c : goal.After-moment_in) → c.newest_in_word-limit.result ≤ c.args.k
early c = elim (cases_lt 0 c.newest_in_word-limit.result) [
  | inl some ↦
      let byte = c.newest_in_word-limit.ensures.among some in
      let below = number-within c.self.inside.writes.items c.self.inside.rows.items (chain_of c.self.inside.lines.items) c.self.invariant.1 c.args.addr c.requires.in_ram c.args.k byte.0 (within c) byte.1 in
      omega (arith, byte.2, number_is c byte.0, below)
  | inr none ↦ omega arith
]

-- what is found, and where
found : (c : goal.After-moment_in) → c.moment_in.result ≡ slice_get (chain_of c.self.inside.lines.items (line_place c.args.addr)) c.unchanged_until-next.result
found c = c.moment_in.ensures ∙ ap (λ (chain : List ℕ). slice_get chain c.unchanged_until-next.result) (chain_is c)

inside : (c : goal.After-moment_in) → c.unchanged_until-next.result ≤ length (chain_of c.self.inside.lines.items (line_place c.args.addr))
inside c = omega (arith, ap length (chain_is c), c.unchanged_until-next.ensures.within)

parts : (c : goal.After-moment_in) → IsPartitionPoint (λ m. is_unchanged c.self.inside.rows.items (c.args.addr % 64 / 8 * 8) c.newest_in_word-limit.result m ≡ true)
    (λ m. is_unchanged c.self.inside.rows.items (c.args.addr % 64 / 8 * 8) c.newest_in_word-limit.result m ≡ false)
    (chain_of c.self.inside.lines.items (line_place c.args.addr)) c.unchanged_until-next.result
parts c =
    let chain = chain_of c.self.inside.lines.items (line_place c.args.addr) in
    let held = rw (chain_is c) at c.until_len-from.ensures.parts in
    let passed = rw (chain_is c, c.deref-3.ensures.value, c.word_place-start.ensures.place) at c.unchanged_until-next.ensures.passed in (
      λ i d from to. elim (cases_lt i c.until_len-from.result) [
        | inl early ↦
            unchanged-until c.self.inside.writes.items c.self.inside.rows.items (chain_of c.self.inside.lines.items) c.self.invariant.1 c.args.addr c.requires.in_ram c.newest_in_word-limit.result
            c.args.k (within c) (bound c) i d (omega (arith, inside c)) (held.0 i 0 (omega arith) early)
        | inr later ↦ passed i d later to
      ],
      rw (chain_is c, c.deref-3.ensures.value, c.word_place-start.ensures.place) at c.unchanged_until-next.ensures.end,
    )

pub returns-clause-above : goal.returns-clause-above
returns-clause-above c =
    let chains = chain_of c.self.inside.lines.items in
    rw (found c) (IfSome-slice_get _ (chains (line_place c.args.addr)) c.unchanged_until-next.result
    (change-above c.self.inside.writes.items c.self.inside.rows.items chains c.self.invariant.1 c.args.addr c.requires.in_ram c.newest_in_word-limit.result
    c.args.k c.unchanged_until-next.result (within c) (early c) (inside c) (bound c) (parts c)))

pub returns-clause-reached : goal.returns-clause-reached
returns-clause-reached c =
    let chains = chain_of c.self.inside.lines.items in
    rw (found c, ← c.self.view_is) (IfSome-slice_get _ (chains (line_place c.args.addr)) c.unchanged_until-next.result
    (change-within c.self.inside.writes.items c.self.inside.rows.items chains c.self.invariant.1 c.args.addr c.requires.in_ram c.newest_in_word-limit.result
    c.args.k c.unchanged_until-next.result (within c) (early c) (inside c) (bound c) (parts c)))

pub returns-clause-steady : goal.returns-clause-steady
returns-clause-steady c =
    let chains = chain_of c.self.inside.lines.items in
    rw (found c, ← c.self.view_is) (IfSome-slice_get _ (chains (line_place c.args.addr)) c.unchanged_until-next.result
    (change-steady c.self.inside.writes.items c.self.inside.rows.items chains c.self.invariant.1 c.args.addr c.requires.in_ram c.newest_in_word-limit.result
    c.args.k c.unchanged_until-next.result (within c) (early c) (inside c) (bound c) (parts c)))

pub returns-clause-change : goal.returns-clause-change
returns-clause-change c =
    let chains = chain_of c.self.inside.lines.items in
    rw (found c, ← c.self.view_is) (IfSome-slice_get _ (chains (line_place c.args.addr)) c.unchanged_until-next.result
    (change-is c.self.inside.writes.items c.self.inside.rows.items chains c.self.invariant.1 c.args.addr c.requires.in_ram c.newest_in_word-limit.result
    c.args.k c.unchanged_until-next.result (within c) (early c) (inside c) (bound c) (parts c)))

pub returns-clause-none : goal.returns-clause-none
returns-clause-none c =
    let chains = chain_of c.self.inside.lines.items in
    rw (found c, ← c.self.view_is) (IfNone-slice_get _ (chains (line_place c.args.addr)) c.unchanged_until-next.result
    (λ past. unchanged-to_end c.self.inside.writes.items c.self.inside.rows.items chains c.self.invariant.1 c.args.addr c.requires.in_ram c.newest_in_word-limit.result
    c.args.k c.unchanged_until-next.result (within c) (early c) (inside c) (bound c) (parts c) (omega (arith, inside c))))

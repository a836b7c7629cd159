use Rattle.std.proofs.Common.{ℕ, ◌≡◌, ◌==◌, ◌+◌, if◌then◌else◌, List, [], ◌∷◌, ◌++◌, length, arith, refl, ap, ◌∙◌, length-append, Vec, Global}
use Rattle.std.specs.Int.{bit_at}
use Rattle.std.proofs.lemmas.Bool.{and_from}
use Rattle.std.proofs.lemmas.List.Folds.{list_all-append}
use Rattle.dt_record.specs.Lawful.{is_ram_line}
use Rattle.dt_versions.specs.Chains.{IsChained, chain_of, line_place, newest_until, number_at}
use Rattle.dt_versions.specs.History.{IsKept, history}
use Rattle.dt_versions.proofs.Chained.{IsChained-push}
use Rattle.dt_versions.proofs.Orders.{in_order-push}
use Rattle.dt_versions.proofs.moments.Moments.add.Goals as goal

-- a number at the end of one chain, where the place, the number and the chains are known by other names
same_push : (place home count number : ℕ) (old new : ℕ → List ℕ) → place ≡ home → count ≡ number → ((other : ℕ) → new other ≡ old other) → (p : ℕ)
    → (if p == place then new place ++ count ∷ [] else new p) ≡ (if p == home then old home ++ number ∷ [] else old p)
same_push place home count number old new at counted same p =
    ap (λ q. if p == q then new q ++ count ∷ [] else new p) at
    ∙ ap (λ n. if p == home then new home ++ n ∷ [] else new p) counted
    ∙ ap (λ (chain : List ℕ). if p == home then chain ++ number ∷ [] else new p) (same home)
    ∙ ap (λ (chain : List ℕ). if p == home then old home ++ number ∷ [] else chain) (same p)

counted : (c : goal.After-push_into_room-2) → c.len-count.result ≡ length c.self.inside.writes.items
counted c = omega (arith, ap length c.reserve.ensures.items)

place_is : (c : goal.After-push_into_room-2) → c.line_place-place.result ≡ line_place c.args.w.line
place_is c = c.line_place-place.ensures

newest_is : (c : goal.After-push_into_room-2)
    → c.newest_at-newest.result ≡ newest_until (chain_of c.self.inside.lines.items (line_place c.args.w.line)) (length c.self.inside.writes.items)
newest_is c =
    let lines : ℕ → List ℕ = chain_of c.self.inside.lines.items in
    c.newest_at-newest.ensures
    ∙ ap (λ (ls : List (Vec ℕ Global)). newest_until (chain_of ls c.line_place-place.result) c.len-count.result) c.deref.ensures.value
    ∙ ap (λ (chain : List ℕ). newest_until chain c.len-count.result) (c.make_room.ensures.same c.line_place-place.result)
    ∙ ap (λ p. newest_until (lines p) c.len-count.result) (place_is c)
    ∙ ap (newest_until (lines (line_place c.args.w.line))) (counted c)

chained : (c : goal.After-push_into_room-2)
    → IsChained (c.self.inside.writes.items ++ c.args.w ∷ []) (c.self.inside.rows.items ++ c.row_after-row.result ∷ []) (chain_of c.push_moment.new.lines.items)
chained c =
    let writes = c.self.inside.writes.items in
    let rows = c.self.inside.rows.items in
    let chains = chain_of c.self.inside.lines.items in
    IsChained-push writes rows chains (chain_of c.push_moment.new.lines.items) c.args.w c.row_after-row.result c.self.invariant.1 c.requires.in_ram
    (λ p. c.push_moment.ensures p ∙ same_push _ _ _ _ chains (chain_of c.make_room.new.lines.items) (place_is c) (ap (λ n. n + 1) (counted c)) c.make_room.ensures.same p)
    (λ i within.
    c.row_after-row.ensures i within
    ∙ ap (λ n. if bit_at c.args.w.mask i == 1 then n + 1 else number_at c.deref-2.result.now c.newest_at-newest.result i) (counted c)
    ∙ ap (λ (rs : List (List ℕ)). if bit_at c.args.w.mask i == 1 then length writes + 1 else number_at rs c.newest_at-newest.result i) (c.deref-2.ensures.value ∙ c.reserve-2.ensures.items)
    ∙ ap (λ n. if bit_at c.args.w.mask i == 1 then length writes + 1 else number_at rows n i) (newest_is c))

kept : (c : goal.After-push_into_room-2) → IsKept (history c.self.inside.base (c.self.inside.writes.items ++ c.args.w ∷ []))
kept c =
    let ws = c.self.inside.writes.items in
    let w = c.args.w in
    record {
      in_order = in_order-push ws w c.self.invariant.0.in_order (rw (← c.self.view_is) at c.requires.above_all);
      in_ram = list_all-append (λ v. is_ram_line v.line) ws (w ∷ []) ∙ and_from _ _ c.self.invariant.0.in_ram (and_from _ _ c.requires.in_ram refl);
      within_limit = (let room = rw (← c.self.view_is) at c.requires.has_room in omega (arith, length-append ws (w ∷ [])));
    }

pub invariant_of-self-2 : goal.invariant_of-self-2
invariant_of-self-2 c =
    rw (c.push_into_room-2.ensures, c.push_into_room.ensures, c.reserve.ensures.items, c.reserve-2.ensures.items) (kept c, chained c)

use Rattle.std.proofs.Common.{◌≡◌, ℕ, List, ap, ◌∙◌, sym, refl, arith, length, take, get_or, ◌-◌}
use Rattle.dt_stores.specs.Past.{without_last}
use Rattle.dt_stores.proofs.RamLines.{set_places, there_places, same_taken, no_places, no_line, past_line}
use Rattle.dt_stores.proofs.lines.drop_place.Goals as goal
use Rattle.dt_stores.proofs.lines.drop_place.Goals.{else-is_ram_line-via-then-is_ram_line+else-place_of-lines, else-is_ram_line-via-else-is_ram_line}

pub returns-then-place_of-lines-clause-places : goal.returns-then-place_of-lines-clause-places
returns-then-place_of-lines-clause-places c = λ other.
    let before = get_or c.args.lines.now c.place_of-then-place_of-lines.result c.index-lines-place_of.result in
    let counted = before.places.ok.0 in
    let long : before.places.len ≡ length before.places.items = omega (arith, counted) in
    let ram = sym c.is_ram_line.ensures ∙ c.if-is_ram_line.true in
    set_places c.args.lines.now c.args.line other c.place_of-then-place_of-lines.result _ _ ram c.place_of-then-place_of-lines.ensures (omega arith)
    (c.pop.ensures.rest ∙ ap (λ n. take (n - 1) before.places.items) long
    ∙ ap (λ (l : List ℕ). without_last l) (there_places c.args.lines.now c.args.line c.place_of-then-place_of-lines.result c.index-lines-place_of.result ram c.place_of-then-place_of-lines.ensures (omega arith)))

pub returns-then-place_of-lines-clause-taken : goal.returns-then-place_of-lines-clause-taken
returns-then-place_of-lines-clause-taken c = λ other.
    same_taken c.args.lines.now c.args.line other c.place_of-then-place_of-lines.result _ c.index-lines-place_of.result (sym c.is_ram_line.ensures ∙ c.if-is_ram_line.true)
    c.place_of-then-place_of-lines.ensures (omega arith) refl

pub returns-else-is_ram_line-clause-places : goal.returns-else-is_ram_line-clause-places
returns-else-is_ram_line-clause-places c = λ other.
    elim c.else-is_ram_line.branch [
      | else-is_ram_line-via-then-is_ram_line+else-place_of-lines w ↦ no_places c.args.lines.now c.args.line other (past_line c.args.lines.now c.args.line (omega arith))
      | else-is_ram_line-via-else-is_ram_line w ↦ no_places c.args.lines.now c.args.line other (no_line c.args.lines.now c.args.line (sym c.is_ram_line.ensures ∙ w.if-is_ram_line.false))
    ]

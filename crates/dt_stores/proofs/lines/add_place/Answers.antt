use Rattle.std.proofs.Common.{refl, ◌∙◌, sym, arith}
use Rattle.dt_stores.proofs.RamLines.{more_places, same_taken, no_line, past_line, no_room}
use Rattle.dt_stores.proofs.lines.add_place.Goals as goal
use Rattle.dt_stores.proofs.lines.add_place.Goals.{else-is_ram_line-via-then-is_ram_line+else-place_of-lines, else-is_ram_line-via-else-is_ram_line}

pub returns-then-place_of-lines-clause-places : goal.returns-then-place_of-lines-clause-places
returns-then-place_of-lines-clause-places c = λ other.
    more_places c.args.lines.now c.args.line other c.place_of-then-place_of-lines.result c.args.place _ c.index-lines-place_of.result (sym c.is_ram_line.ensures ∙ c.if-is_ram_line.true)
    c.place_of-then-place_of-lines.ensures (omega arith) c.push_into_room.ensures

pub returns-then-place_of-lines-clause-taken : goal.returns-then-place_of-lines-clause-taken
returns-then-place_of-lines-clause-taken c = λ other.
    same_taken c.args.lines.now c.args.line other c.place_of-then-place_of-lines.result _ c.index-lines-place_of.result (sym c.is_ram_line.ensures ∙ c.if-is_ram_line.true)
    c.place_of-then-place_of-lines.ensures (omega arith) refl

pub returns-else-is_ram_line-clause-places : goal.returns-else-is_ram_line-clause-places
returns-else-is_ram_line-clause-places c =
    elim c.else-is_ram_line.branch [
      | else-is_ram_line-via-then-is_ram_line+else-place_of-lines w ↦ no_room c.args.lines.now c.args.line (past_line c.args.lines.now c.args.line (omega arith)) c.requires
      | else-is_ram_line-via-else-is_ram_line w ↦ no_room c.args.lines.now c.args.line (no_line c.args.lines.now c.args.line (sym c.is_ram_line.ensures ∙ w.if-is_ram_line.false)) c.requires
    ]

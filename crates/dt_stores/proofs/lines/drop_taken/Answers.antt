use Rattle.std.proofs.Common.{◌∙◌, sym, arith}
use Rattle.dt_stores.proofs.RamLines.{set_taken, there_taken, no_taken, no_line, past_line}
use Rattle.dt_stores.proofs.lines.drop_taken.Goals as goal
use Rattle.dt_stores.proofs.lines.drop_taken.Goals.{else-is_ram_line-via-then-is_ram_line+else-place_of-lines, else-is_ram_line-via-else-is_ram_line}

pub returns-then-place_of-lines-clause-taken : goal.returns-then-place_of-lines-clause-taken
returns-then-place_of-lines-clause-taken c = λ other.
    let ram = sym c.is_ram_line.ensures ∙ c.if-is_ram_line.true in
    let was = there_taken c.args.lines.now c.args.line c.place_of-then-place_of-lines.result c.index-lines-place_of.result ram c.place_of-then-place_of-lines.ensures (omega arith) in
    set_taken c.args.lines.now c.args.line other c.place_of-then-place_of-lines.result _ _ ram c.place_of-then-place_of-lines.ensures (omega arith)
    (omega (arith, was, c.from.ensures, c.saturating_sub-l.ensures))

pub returns-else-is_ram_line-clause-taken : goal.returns-else-is_ram_line-clause-taken
returns-else-is_ram_line-clause-taken c = λ other.
    elim c.else-is_ram_line.branch [
      | else-is_ram_line-via-then-is_ram_line+else-place_of-lines w ↦ no_taken c.args.lines.now c.args.line other c.args.count (past_line c.args.lines.now c.args.line (omega arith))
      | else-is_ram_line-via-else-is_ram_line w ↦ no_taken c.args.lines.now c.args.line other c.args.count (no_line c.args.lines.now c.args.line (sym c.is_ram_line.ensures ∙ w.if-is_ram_line.false))
    ]

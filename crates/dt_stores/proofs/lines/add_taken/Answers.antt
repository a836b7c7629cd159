use Rattle.std.proofs.Common.{◌+◌, get_or, ap, ◌∙◌, sym, arith}
use Rattle.dt_stores.proofs.RamLines.{more_taken, none_taken, no_line, past_line}
use Rattle.dt_stores.proofs.lines.add_taken.Goals as goal
use Rattle.dt_stores.proofs.lines.add_taken.Goals.{else-is_ram_line-via-then-is_ram_line+else-place_of-lines, else-is_ram_line-via-else-is_ram_line}

pub returns-then-place_of-lines-clause-taken : goal.returns-then-place_of-lines-clause-taken
returns-then-place_of-lines-clause-taken c = λ other.
    more_taken c.args.lines.now c.args.line other c.place_of-then-place_of-lines.result c.args.count _ c.index-lines-place_of.result (sym c.is_ram_line.ensures ∙ c.if-is_ram_line.true)
    c.place_of-then-place_of-lines.ensures (omega arith)
    (ap (λ n. (get_or c.args.lines.now c.place_of-then-place_of-lines.result c.index-lines-place_of.result).taken + n) c.from.ensures)

pub returns-else-is_ram_line-clause-taken : goal.returns-else-is_ram_line-clause-taken
returns-else-is_ram_line-clause-taken c = λ other.
    elim c.else-is_ram_line.branch [
      | else-is_ram_line-via-then-is_ram_line+else-place_of-lines w ↦ none_taken c.args.lines.now c.args.line other c.args.count (past_line c.args.lines.now c.args.line (omega arith)) c.requires
      | else-is_ram_line-via-else-is_ram_line w ↦ none_taken c.args.lines.now c.args.line other c.args.count (no_line c.args.lines.now c.args.line (sym c.is_ram_line.ensures ∙ w.if-is_ram_line.false)) c.requires
    ]

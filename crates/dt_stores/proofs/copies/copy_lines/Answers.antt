use Rattle.std.proofs.Common.{ap, map, ◌∙◌, arith}
use Rattle.std.proofs.lemmas.List.{take_all}
use Rattle.dt_stores.proofs.RamLines.{parts, places-copied, taken-copied}
use Rattle.dt_stores.proofs.copies.copy_lines.Goals as goal

pub returns-clause-places : goal.returns-clause-places
returns-clause-places c = λ line.
    places-copied c.loop-l.copies.items c.args.lines.now line (c.loop-l.invariant ∙ ap (map parts) (take_all c.loop-l.l-index c.args.lines.now (omega arith)))

pub returns-clause-taken : goal.returns-clause-taken
returns-clause-taken c = λ line.
    taken-copied c.loop-l.copies.items c.args.lines.now line (c.loop-l.invariant ∙ ap (map parts) (take_all c.loop-l.l-index c.args.lines.now (omega arith)))

use Rattle.std.proofs.Common.{ap, map, take, get_or, arith}
use Rattle.std.proofs.lemmas.List.{map_more}
use Rattle.dt_record.specs.declared.states.PageMark.{PageMark}
use Rattle.dt_hart.specs.HartData.{kept_values, page_pair}
use Rattle.dt_hart.specs.Replaying.{numbered_key}
use Rattle.dt_hart.proofs.KeptValues.{kept_snoc}
use Rattle.dt_hart.proofs.pages.own_fences.Goals as goal

abbrev none : PageMark
none = record { page = 0; seq = 0 }

pub loop-mark-preserved : goal.loop-mark-preserved
loop-mark-preserved c =
    let marks = c.args.marks.now in
    let i = c.loop-mark.mark-index in
    let split = ap (kept_values (numbered_key c.args.before.now)) (map_more page_pair marks i none c.loop-mark-test.true) in
    let more = kept_snoc (numbered_key c.args.before.now) (map page_pair (take i marks)) (page_pair (get_or marks i none)) in
    let pushed = c.in_ok-push_page.ensures in
    grind (arith, split, more, pushed, c.loop-mark.invariant, c.numbered_key.ensures)

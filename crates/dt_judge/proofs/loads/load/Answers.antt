use Rattle.std.proofs.Common.{sym}
use Rattle.dt_judge.specs.Keeping.{grounds_kept}
use Rattle.dt_judge.specs.Kinds.{LoadsBy, started}
use Rattle.dt_judge.proofs.Leading.{leads_ok}
use Rattle.dt_judge.proofs.Readings.{reads_in}
use Rattle.dt_judge.proofs.loads.load.Goals as goal

pub returns-clause-read : goal.returns-clause-read
returns-clause-read c =
    reads_in c.args.sight.now.hart.now c.args.sight.now.moments.now c.loaded.result c.args.key c.args.sight.now.hart.now.arch c.args.retire c.args.at c.args.paddr c.in_ok-st.st.plan c.in_ok-st.ensures.retired
    c.loaded.ensures.read

pub returns-clause-finds : goal.returns-clause-finds
returns-clause-finds c = λ actions moments known.
    let g = grounds_kept c.args.sight.now.hart.now c.args.sight.now.moments.now c.args.sight.now.last actions moments in
    leads_ok (started g c.args.retire.pc c.args.retire.bits 5) c.in_ok-st.st (λ st found. LoadsBy g c.args.key st.stale st.plan c.args.retire.value c.args.at c.args.paddr found) c.loaded.result
    (sym c.in_ok-st.ensures.value) (c.loaded.ensures.finds actions moments known)

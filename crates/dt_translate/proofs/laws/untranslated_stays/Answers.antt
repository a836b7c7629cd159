use Rattle.std.proofs.Common.{ap, if◌then◌else◌}
use Rattle.dt_access.specs.Reaching.{reached}
use Rattle.dt_walk.specs.declared.arguments.WalkAnswer.TheVariants.{Page, PageFault}
use Rattle.dt_walk.specs.Walk.{is_canonical, walk_from, walk_of}
use Rattle.dt_translate.specs.Outcomes.{entry_at, outcome_at}
use Rattle.dt_translate.proofs.laws.untranslated_stays.Goals as goal

pub returns : goal.returns
unfolding outcome_at walk_of
returns c = λ image writes k a ram_only off.
    let entry = entry_at image writes k in
    ap (λ on. reached ram_only (if on then (if is_canonical a.levels a.va then walk_from entry a a.levels a.root else PageFault) else Page a.va)) off

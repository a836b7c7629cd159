use Rattle.std.proofs.Common.{rules, ◌≡◌, ◌++◌, List, take, subst}
use Rattle.std.proofs.lemmas.List.{take_all}
use Rattle.dt_shared.specs.declared.entries.Entry.{Entry}
use Rattle.dt_shared.specs.Entries.{notes_in}
use Rattle.dt_shared.specs.Replicas.{Follows}
use Rattle.dt_shared.proofs.Progresses.{follows_more}
use Rattle.dt_shared.proofs.progress.follow_all.Goals as goal

pub loop-entry-preserved : goal.loop-entry-preserved
loop-entry-preserved c = let i = c.loop-entry.invariant in
    (search rules, λ notes f. follows_more _ _ notes c.args.entries.now c.loop-entry.entry-index _ c.loop-entry-test.true (i.1 notes f) c.follow.ensures.value c.follow.ensures.named)

pub returns : goal.returns
returns c = λ notes f. let whole : take c.loop-entry.entry-index c.args.entries.now ≡ c.args.entries.now = take_all c.loop-entry.entry-index c.args.entries.now c.loop-entry-test.false in
    subst (λ (es : List Entry). Follows c.loop-entry.progress (notes ++ notes_in es)) whole (c.loop-entry.invariant.1 notes f)

use Rattle.std.proofs.Common.{◌≡◌, ◌++◌, take}
use Rattle.std.specs.List.{flat_map}
use Rattle.dt_worker.specs.Telling.{news_in}
use Rattle.dt_worker.proofs.telling.collect_news.Given as goal

-- the news of the lanes so far stand behind the notes
abbrev pub invariant-loop-lane : goal.invariant-loop-lane
invariant-loop-lane l = l.notes.items ≡ l.initial.notes.items ++ flat_map news_in (take l.lane-index l.lanes)

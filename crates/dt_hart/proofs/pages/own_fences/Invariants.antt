use Rattle.std.proofs.Common.{◌≡◌, map, take}
use Rattle.dt_hart.specs.HartData.{kept_values, page_pair}
use Rattle.dt_hart.specs.Replaying.{numbered_key}
use Rattle.dt_hart.proofs.pages.own_fences.Given as goal

abbrev pub invariant-loop-mark : goal.invariant-loop-mark
invariant-loop-mark l = l.pages.items ≡ kept_values (numbered_key l.before) (map page_pair (take l.mark-index l.marks))

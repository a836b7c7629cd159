use Rattle.std.proofs.Common.{◌≡◌, map, take}
use Rattle.dt_hart.specs.HartData.{kept_values, own_number, page_pair}
use Rattle.dt_hart.proofs.pages.marks_of.Given as goal

abbrev pub invariant-loop-page : goal.invariant-loop-page
invariant-loop-page l = map page_pair l.marks.items ≡ kept_values (own_number l.count l.all) (take l.page-index l.pages)

use Rattle.std.proofs.Common.{not, nat_lt}
use Rattle.dt_lists.proofs.Lists.{list_all-weaker}
use Rattle.dt_record.specs.declared.writes.Write.{Write}
use Rattle.dt_core.specs.Marks.{is_below}
use Rattle.dt_settled.proofs.Orders.{later-than}
use Rattle.dt_settled.proofs.laws.early_writes_have_settled.Goals as goal

pub returns : goal.returns
returns c = λ settled all least stamp continues early. (
  continues.later,
  continues.are,
  list_all-weaker (λ (w : Write). not (is_below least w.key.stamp)) (λ (w : Write). nat_lt stamp w.key.stamp) continues.later
      (λ w late. later-than least stamp w.key.stamp early late) continues.after,
)

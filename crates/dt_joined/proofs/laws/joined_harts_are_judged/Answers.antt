use Rattle.dt_joined.proofs.JoinedHarts.{judged_harts}
use Rattle.dt_joined.proofs.laws.joined_harts_are_judged.Goals as goal

pub returns : goal.returns
returns c =
    judged_harts c.file_records_are_own.ensures c.file_records_are_usable.ensures c.joined_writes_may_be_all.ensures
    c.one_teller_is_enough.ensures c.untold_is_not_there.ensures

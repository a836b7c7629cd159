use Rattle.dt_intake.proofs.Counting.{IsCounted-more}
use Rattle.dt_intake.proofs.intakes.Intake.take.Goals as goal

pub invariant_of-self-else-is_feed_end : goal.invariant_of-self-else-is_feed_end
invariant_of-self-else-is_feed_end c =
    IsCounted-more c.self.inside.hart c.self.inside.taken.items c.deref.result.now c.push_reserved.new.self.items c.args.event c.self.inside.usable_len
    c.usable_len_with-self-inside.result c.self.inside.told c.self.invariant c.deref.ensures.value c.push_reserved.ensures.items
    c.usable_len_with-self-inside.ensures

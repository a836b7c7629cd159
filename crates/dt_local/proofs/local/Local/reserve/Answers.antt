use Rattle.std.proofs.Common.{refl, arith}
use Rattle.dt_local.proofs.Soundness.{IsSound-widened, IsSound-reserved}
use Rattle.dt_local.proofs.local.Local.reserve.Goals as goal

pub invariant_of-self : goal.invariant_of-self
invariant_of-self c =
    IsSound-widened c.self.inside.slots c.make_room.new.slots c.self.inside.steps c.self.inside.steps _ c.self.invariant c.make_room.ensures.widened c.make_room.ensures.words
    (record { keeps = refl; from = refl; kept = refl; len = refl; capacity = omega arith })

pub invariant_of-self-in_err-reserve_steps : goal.invariant_of-self-in_err-reserve_steps
invariant_of-self-in_err-reserve_steps c =
    let same = c.reserve_steps.ensures in
    IsSound-widened c.self.inside.slots c.make_room.new.slots c.self.inside.steps c.reserve_steps.new.steps _ c.self.invariant c.make_room.ensures.widened c.make_room.ensures.words
    (record { keeps = same.keeps; from = same.from; kept = same.kept; len = same.len; capacity = same.capacity })

pub invariant_of-self-2 : goal.invariant_of-self-2
invariant_of-self-2 c =
    let same = c.reserve_steps.ensures in
    IsSound-reserved c.make_room.new.slots c.reserve_steps.new.steps _ c.args.line c.args.mask
    (IsSound-widened c.self.inside.slots c.make_room.new.slots c.self.inside.steps c.reserve_steps.new.steps _ c.self.invariant c.make_room.ensures.widened c.make_room.ensures.words
    (record { keeps = same.keeps; from = same.from; kept = same.kept; len = same.len; capacity = same.capacity }))
    c.requires c.in_ok-make_room.ensures.room c.in_ok-reserve_steps.ensures.spare

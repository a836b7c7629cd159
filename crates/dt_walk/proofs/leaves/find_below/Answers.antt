use Rattle.std.proofs.Common.{◌≡◌, suc, ◌-◌, true, false, arith}
use Rattle.dt_walk.specs.Entry.{is_broken, is_leaf}
use Rattle.dt_walk.specs.Leaf.{entry_place}
use Rattle.dt_walk.specs.Walk.{is_in_ram}
use Rattle.dt_walk.proofs.LeafSteps.{leaf_from-none, leaf_from-outside, leaf_from-broken, leaf_from-leaf, leaf_from-pointer}
use Rattle.dt_walk.proofs.leaves.find_below.Goals as goal

pub returns-then-not-is_in_ram : goal.returns-then-not-is_in_ram
returns-then-not-is_in_ram g c =
    let above : c.loop-level.level ≡ suc (c.loop-level.level - 1) = omega arith in
    let outside : is_in_ram (entry_place c.args.page (c.loop-level.level - 1) c.loop-level.table) ≡ false = cc in
    let step = leaf_from-outside (g.R.PteReader.entry c.args.reader.now) c.args.page (c.loop-level.level - 1) c.loop-level.table outside in
    cc

pub returns-then-is_broken : goal.returns-then-is_broken
returns-then-is_broken g c =
    let level = c.loop-level.level - 1 in
    let entry = g.R.PteReader.entry c.args.reader.now in
    let address = entry_place c.args.page level c.loop-level.table in
    let above : c.loop-level.level ≡ suc level = omega arith in
    let inside : is_in_ram address ≡ true = cc in
    let broken : is_broken level (entry address) ≡ true = cc in
    let step = leaf_from-broken entry c.args.page level c.loop-level.table inside broken in
    cc

pub returns-then-is_leaf : goal.returns-then-is_leaf
returns-then-is_leaf g c =
    let level = c.loop-level.level - 1 in
    let entry = g.R.PteReader.entry c.args.reader.now in
    let address = entry_place c.args.page level c.loop-level.table in
    let above : c.loop-level.level ≡ suc level = omega arith in
    let inside : is_in_ram address ≡ true = cc in
    let sound : is_broken level (entry address) ≡ false = cc in
    let leaf : is_leaf (entry address) ≡ true = cc in
    let step = leaf_from-leaf entry c.args.page level c.loop-level.table inside sound leaf in
    cc

pub loop-level-preserved : goal.loop-level-preserved
loop-level-preserved g c =
    let level = c.loop-level.level - 1 in
    let entry = g.R.PteReader.entry c.args.reader.now in
    let address = entry_place c.args.page level c.loop-level.table in
    let above : c.loop-level.level ≡ suc level = omega arith in
    let inside : is_in_ram address ≡ true = cc in
    let sound : is_broken level (entry address) ≡ false = cc in
    let pointer : is_leaf (entry address) ≡ false = cc in
    let step = leaf_from-pointer entry c.args.page level c.loop-level.table inside sound pointer in
    record { answer = cc; table = omega arith }

pub returns : goal.returns
returns g c =
    let none : c.loop-level.level ≡ 0 = omega arith in
    let step = leaf_from-none (g.R.PteReader.entry c.args.reader.now) c.args.page c.loop-level.table in
    cc

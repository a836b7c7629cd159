use Rattle.std.proofs.Common.{◌≡◌, suc, ◌-◌, ◌∷◌, [], true, false, append-nil, append_assoc, ap, length, arith}
use Rattle.std.proofs.lemmas.List.{length_push}
use Rattle.dt_walk.specs.Entry.{is_faulty, is_leaf, table_of}
use Rattle.dt_walk.specs.Walk.{entry_address, is_in_ram, reads_from}
use Rattle.dt_walk.proofs.Dependence.{reads_from-none, reads_from-outside, reads_from-faulty, reads_from-leaf, reads_from-pointer}
use Rattle.dt_walk.proofs.reads.reads_of_tables.Goals as goal

pub returns-then-not-is_in_ram : goal.returns-then-not-is_in_ram
returns-then-not-is_in_ram g c =
    let above : c.loop-level.level ≡ suc (c.loop-level.level - 1) = omega arith in
    let outside : is_in_ram (entry_address c.args.args.now.va (c.loop-level.level - 1) c.loop-level.table) ≡ false = cc in
    let step = reads_from-outside (g.R.PteReader.entry c.args.reader.now) c.args.args.now (c.loop-level.level - 1) c.loop-level.table outside in
    let whole = append-nil c.loop-level.found in
    cc

pub returns-then-is_faulty : goal.returns-then-is_faulty
returns-then-is_faulty g c =
    let level = c.loop-level.level - 1 in
    let entry = g.R.PteReader.entry c.args.reader.now in
    let address = entry_address c.args.args.now.va level c.loop-level.table in
    let above : c.loop-level.level ≡ suc level = omega arith in
    let inside : is_in_ram address ≡ true = cc in
    let faulty : is_faulty c.args.args.now level (entry address) ≡ true = cc in
    let step = reads_from-faulty entry c.args.args.now level c.loop-level.table inside faulty in
    cc

pub returns-then-is_leaf : goal.returns-then-is_leaf
returns-then-is_leaf g c =
    let level = c.loop-level.level - 1 in
    let entry = g.R.PteReader.entry c.args.reader.now in
    let address = entry_address c.args.args.now.va level c.loop-level.table in
    let above : c.loop-level.level ≡ suc level = omega arith in
    let inside : is_in_ram address ≡ true = cc in
    let sound : is_faulty c.args.args.now level (entry address) ≡ false = cc in
    let leaf : is_leaf (entry address) ≡ true = cc in
    let step = reads_from-leaf entry c.args.args.now level c.loop-level.table inside sound leaf in
    cc

pub loop-level-preserved : goal.loop-level-preserved
loop-level-preserved g c =
    let level = c.loop-level.level - 1 in
    let entry = g.R.PteReader.entry c.args.reader.now in
    let address = entry_address c.args.args.now.va level c.loop-level.table in
    let above : c.loop-level.level ≡ suc level = omega arith in
    let inside : is_in_ram address ≡ true = cc in
    let sound : is_faulty c.args.args.now level (entry address) ≡ false = cc in
    let pointer : is_leaf (entry address) ≡ false = cc in
    let step = reads_from-pointer entry c.args.args.now level c.loop-level.table inside sound pointer in
    let regroup = append_assoc c.loop-level.found (address ∷ []) (reads_from entry c.args.args.now level (table_of (entry address))) in
    record { rest = cc; few = omega (arith, length_push c.loop-level.found c.entry_address-address.result, ap length c.push.ensures); table = omega arith }

pub returns : goal.returns
returns g c =
    let none : c.loop-level.level ≡ 0 = omega arith in
    let step = reads_from-none (g.R.PteReader.entry c.args.reader.now) c.args.args.now c.loop-level.table in
    let whole = append-nil c.loop-level.found in
    cc

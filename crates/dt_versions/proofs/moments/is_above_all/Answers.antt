use Rattle.std.proofs.Common.{◌≡◌, ◌∙◌, rules}
use Rattle.dt_record.specs.Keys.{key_below}
use Rattle.dt_versions.proofs.Orders.{key_below-last}
use Rattle.dt_versions.proofs.moments.is_above_all.Goals as goal

pub returns-in-Some : goal.returns-in-Some
returns-in-Some c =
    let last = key_below-last c.args.writes.now c.in-Some.w.now c.args.key c.requires (search rules) in
    let below : c.lt.result ≡ key_below c.in-Some.w.now.key c.args.key = search rules in
    below ∙ last

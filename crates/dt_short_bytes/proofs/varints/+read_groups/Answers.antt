use Rattle.std.proofs.Common.{◌≡◌, ◌-◌, ◌+◌, ◌*◌, ◌≤◌, true, false, Ok, Err, arith}
use Rattle.std.proofs.lemmas.Result.{err_from_is_err_and}
use Rattle.dt_short_bytes.specs.ShortReading.{is_wrong_group}
use Rattle.dt_short_bytes.proofs.ShortSteps.{groups_none, groups_wrong, groups_small, groups_high, small_below, some_more, high_below, within_64}
use Rattle.dt_short_bytes.proofs.varints.+read_groups.Goals as goal

pub returns-in-empty-clause-gives : goal.returns-in-empty-clause-gives
returns-in-empty-clause-gives t c = groups_none c.args.more c.args.b.now (omega arith)

pub returns-then-is_wrong-clause-gives : goal.returns-then-is_wrong-clause-gives
returns-then-is_wrong-clause-gives t c =
    let wrong : is_wrong_group c.args.more c.from-group.result ≡ true = cc in
    groups_wrong c.args.more c.from-group.result c.args.b.now (omega arith) (omega arith) wrong

pub returns-then-group-lt128-clause-gives : goal.returns-then-group-lt128-clause-gives
returns-then-group-lt128-clause-gives t c =
    let right : is_wrong_group c.args.more c.from-group.result ≡ false = cc in
    groups_small c.args.more c.from-group.result c.args.b.now (omega arith) (omega arith) right (omega arith)

pub returns-then-group-lt128-clause-bound : goal.returns-then-group-lt128-clause-bound
returns-then-group-lt128-clause-bound t c =
    let right : is_wrong_group c.args.more c.from-group.result ≡ false = cc in
    small_below c.args.more c.from-group.result right (omega arith)

pub returns-in_err-high-in-len1-up-clause-gives : goal.returns-in_err-high-in-len1-up-clause-gives
returns-in_err-high-in-len1-up-clause-gives t c =
    let right : is_wrong_group c.args.more c.from-group.result ≡ false = cc in
    let p = err_from_is_err_and c.from_residual.result c.from_residual.ensures.1 in
    rw (p.1, p.2) (groups_high c.args.more c.from-group.result c.args.b.now (Err c.in_err-high-in-len1-up.field-0.0) (omega arith) (omega arith) right (omega arith) c.in_err-high-in-len1-up.ensures.gives)

pub returns-in_ok-high-in-len1-up-clause-gives : goal.returns-in_ok-high-in-len1-up-clause-gives
returns-in_ok-high-in-len1-up-clause-gives t c =
    let right : is_wrong_group c.args.more c.from-group.result ≡ false = cc in
    groups_high c.args.more c.from-group.result c.args.b.now (Ok (c.in_ok-high-in-len1-up.high, c.in_ok-high-in-len1-up.rest.now)) (omega arith) (omega arith) right (omega arith) c.in_ok-high-in-len1-up.ensures.gives

pub returns-in_ok-high-in-len1-up-clause-bound : goal.returns-in_ok-high-in-len1-up-clause-bound
returns-in_ok-high-in-len1-up-clause-bound t c =
    let right : is_wrong_group c.args.more c.from-group.result ≡ false = cc in
    let large : 128 ≤ c.from-group.result = omega arith in
    high_below c.args.more c.from-group.result c.in_ok-high-in-len1-up.high (some_more c.args.more c.from-group.result right large) (omega (arith, c.type_inv.b 0)) c.in_ok-high-in-len1-up.ensures.bound

pub overflow_mul-result : goal.overflow_mul-result
overflow_mul-result t c =
    let right : is_wrong_group c.args.more c.from-group.result ≡ false = cc in
    let large : 128 ≤ c.from-group.result = omega arith in
    let below = high_below c.args.more c.from-group.result c.in_ok-high-in-len1-up.high (some_more c.args.more c.from-group.result right large) (omega (arith, c.type_inv.b 0)) c.in_ok-high-in-len1-up.ensures.bound in
    let fits = within_64 c.args.more (c.from-group.result - 128 + 128 * c.in_ok-high-in-len1-up.high) (omega arith) below in
    omega arith

pub overflow_add-result : goal.overflow_add-result
overflow_add-result t c =
    let right : is_wrong_group c.args.more c.from-group.result ≡ false = cc in
    let large : 128 ≤ c.from-group.result = omega arith in
    let below = high_below c.args.more c.from-group.result c.in_ok-high-in-len1-up.high (some_more c.args.more c.from-group.result right large) (omega (arith, c.type_inv.b 0)) c.in_ok-high-in-len1-up.ensures.bound in
    let fits = within_64 c.args.more (c.from-group.result - 128 + 128 * c.in_ok-high-in-len1-up.high) (omega arith) below in
    omega arith

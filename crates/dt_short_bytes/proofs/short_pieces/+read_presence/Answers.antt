use Rattle.std.proofs.Common.{◌≡◌, ◌-◌, Ok, Err, arith}
use Rattle.std.proofs.lemmas.Result.{err_from_is_err_and}
use Rattle.std.proofs.lemmas.Nat.{one_shl}
use Rattle.dt_short_bytes.proofs.ShortSteps.{presence_none, presence_short, presence_past, presence_on, bits_below}
use Rattle.dt_short_bytes.proofs.short_pieces.+read_presence.Goals as goal

pub returns-then-bytes-eq0-clause-gives : goal.returns-then-bytes-eq0-clause-gives
returns-then-bytes-eq0-clause-gives t c = presence_none c.args.bytes c.args.fields c.args.b.now (omega arith)

pub returns-in-empty-clause-gives : goal.returns-in-empty-clause-gives
returns-in-empty-clause-gives t c = presence_short c.args.bytes c.args.fields c.args.b.now (λ e. omega arith) (omega arith)

pub returns-then-from-fields-clause-gives : goal.returns-then-from-fields-clause-gives
returns-then-from-fields-clause-gives t c =
    let shifted = one_shl c.args.fields 64 (omega arith) in
    presence_past c.args.bytes c.args.fields c.from.result c.args.b.now (λ e. omega arith) (omega arith) (omega arith) (omega arith)

pub returns-in_err-high-in-len1-up-clause-gives : goal.returns-in_err-high-in-len1-up-clause-gives
returns-in_err-high-in-len1-up-clause-gives t c =
    let shifted = one_shl c.args.fields 64 (omega arith) in
    let fields : c.saturating_sub.result ≡ c.args.fields - 8 = omega arith in
    let p = err_from_is_err_and c.from_residual.result c.from_residual.ensures.1 in
    rw (p.1, p.2) (presence_on c.args.bytes c.args.fields c.from.result c.args.b.now (Err c.in_err-high-in-len1-up.field-0.0) (λ e. omega arith) (omega arith) (omega arith) (omega arith)
    (rw (← fields) c.in_err-high-in-len1-up.ensures.gives))

pub returns-in_ok-high-in-len1-up-clause-gives : goal.returns-in_ok-high-in-len1-up-clause-gives
returns-in_ok-high-in-len1-up-clause-gives t c =
    let shifted = one_shl c.args.fields 64 (omega arith) in
    let fields : c.saturating_sub.result ≡ c.args.fields - 8 = omega arith in
    let same : c.from-in-len1-up.result ≡ c.from.result = omega arith in
    rw same (presence_on c.args.bytes c.args.fields c.from.result c.args.b.now (Ok (c.in_ok-high-in-len1-up.high, c.in_ok-high-in-len1-up.rest.now)) (λ e. omega arith) (omega arith) (omega arith) (omega arith)
    (rw (← fields) c.in_ok-high-in-len1-up.ensures.gives))

pub returns-in_ok-high-in-len1-up-clause-bound : goal.returns-in_ok-high-in-len1-up-clause-bound
returns-in_ok-high-in-len1-up-clause-bound t c =
    bits_below c.args.bytes c.from-in-len1-up.result c.in_ok-high-in-len1-up.high (λ e. omega arith) (omega (arith, c.type_inv.b 0)) c.in_ok-high-in-len1-up.ensures.bound

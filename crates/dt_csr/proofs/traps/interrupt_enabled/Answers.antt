use Rattle.std.proofs.Common.{◌≡◌, ℕ, ◌↔◌, ◌∙◌, sym, subst, arith, bit_or, IsTrue}
use Rattle.std.specs.Int.{bit_at}
use Rattle.dt_csr.specs.Traps.{takes_for_m, takes_for_s, is_enabled}
use Rattle.dt_csr.proofs.Codes.{taken, taken_where, taken_codes}
use Rattle.dt_csr.proofs.traps.interrupt_enabled.Goals as goal

joined : (c : goal.After-only_if-delegated) → bit_or c.only_if-not_delegated.result c.only_if-delegated.result ≡ taken c.args.c.now.mie c.args.c.now.mideleg (takes_for_m c.args.c.now c.args.mode) (takes_for_s c.args.c.now c.args.mode)
joined c = cc

pub returns-clause-mask : goal.returns-clause-mask
returns-clause-mask c =
    joined c ∙ taken_where c.args.c.now.mie c.args.c.now.mideleg (takes_for_m c.args.c.now c.args.mode) (takes_for_s c.args.c.now c.args.mode) (omega arith) (omega arith)

pub returns-clause-codes : goal.returns-clause-codes
returns-clause-codes c = λ code.
    let P : ℕ → Type 0 = λ n. (bit_at n code ≡ 1) ↔ IsTrue (is_enabled c.args.c.now c.args.mode code) in
    subst P (sym (joined c)) (taken_codes c.args.c.now.mie c.args.c.now.mideleg (takes_for_m c.args.c.now c.args.mode) (takes_for_s c.args.c.now c.args.mode) (omega arith) (omega arith) code)

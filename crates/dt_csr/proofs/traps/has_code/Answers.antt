use Rattle.std.proofs.Common.{arith}
use Rattle.std.proofs.lemmas.Bool.Decides.{nat_tests}
use Rattle.dt_csr.proofs.Codes.{no_code}
use Rattle.dt_csr.proofs.traps.has_code.Goals as goal

pub returns-else-code-lt64 : goal.returns-else-code-lt64
returns-else-code-lt64 c =
    let none = no_code c.args.codes c.args.code c.ranges.codes.fits c.if-code-lt64.false in
    grind (arith, nat_tests)

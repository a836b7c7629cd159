use Rattle.std.proofs.Common.{sym, arith}
use Rattle.dt_versions.proofs.Newest.{newest_until-none, newest_until-some}
use Rattle.dt_versions.proofs.chains.newest_until.Goals as goal

pub returns-then-count-eq0 : goal.returns-then-count-eq0
returns-then-count-eq0 c =
    sym (newest_until-none c.args.chain.now c.args.k c.until_len-count.result c.until_len-count.ensures.within c.until_len-count.ensures.parts c.if-count-eq0.true)

pub returns-else-count-eq0 : goal.returns-else-count-eq0
returns-else-count-eq0 c =
    sym (newest_until-some c.args.chain.now c.args.k c.until_len-count.result c.until_len-count.ensures.within c.until_len-count.ensures.parts (omega arith))

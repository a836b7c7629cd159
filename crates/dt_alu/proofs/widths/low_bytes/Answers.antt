use Rattle.std.proofs.Common.{◌≡◌}
use Rattle.std.proofs.lemmas.Nat.{and_mask}
use Rattle.dt_alu.proofs.widths.low_bytes.Goals as goal

pub returns-in-1-clause-value : goal.returns-in-1-clause-value
returns-in-1-clause-value c = let e : c.args.width ≡ 1 = c.in-1.is in rw e (and_mask c.args.raw 8)

pub returns-in-2-clause-value : goal.returns-in-2-clause-value
returns-in-2-clause-value c = let e : c.args.width ≡ 2 = c.in-2.is in rw e (and_mask c.args.raw 16)

pub returns-in-4-clause-value : goal.returns-in-4-clause-value
returns-in-4-clause-value c = let e : c.args.width ≡ 4 = c.in-4.is in rw e (and_mask c.args.raw 32)

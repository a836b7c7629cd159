use Rattle.std.proofs.Common.{sym, ◌∙◌, arith}
use Rattle.dt_short_bytes.proofs.ShortGrammar.{bytes_from}
use Rattle.dt_short_bytes.proofs.ShortAnswers.{got_law, short_law, bad_law}
use Rattle.dt_short_bytes.proofs.ShortLengths.{got_long, short_long, not_yet, for_good}
use Rattle.dt_short_bytes.proofs.short.decode2.Goals as goal

pub returns-clause-got : goal.returns-clause-got
returns-clause-got c =
    let fits = bytes_from c.args.b.now (λ i. omega (arith, c.type_inv.b i)) in
    λ event len. rw c.decoded.ensures (got_law c.args.last c.args.b.now fits event len)

pub returns-clause-short : goal.returns-clause-short
returns-clause-short c =
    let fits = bytes_from c.args.b.now (λ i. omega (arith, c.type_inv.b i)) in
    rw c.decoded.ensures (short_law c.args.last c.args.b.now fits)

pub returns-clause-bad : goal.returns-clause-bad
returns-clause-bad c =
    let fits = bytes_from c.args.b.now (λ i. omega (arith, c.type_inv.b i)) in
    λ at. rw c.decoded.ensures (bad_law c.args.last c.args.b.now fits at)

pub returns-clause-got_len : goal.returns-clause-got_len
returns-clause-got_len c =
    let fits = bytes_from c.args.b.now (λ i. omega (arith, c.type_inv.b i)) in
    λ event len e. got_long c.args.last c.args.b.now event len ((got_law c.args.last c.args.b.now fits event len).0 (sym c.decoded.ensures ∙ e))

pub returns-clause-short_len : goal.returns-clause-short_len
returns-clause-short_len c =
    let fits = bytes_from c.args.b.now (λ i. omega (arith, c.type_inv.b i)) in
    λ e. short_long c.args.b.now ((short_law c.args.last c.args.b.now fits).0 (sym c.decoded.ensures ∙ e))

pub returns-clause-not_yet : goal.returns-clause-not_yet
returns-clause-not_yet c =
    let fits = bytes_from c.args.b.now (λ i. omega (arith, c.type_inv.b i)) in
    λ e. not_yet c.args.last c.args.b.now fits (sym c.decoded.ensures ∙ e)

pub returns-clause-for_good : goal.returns-clause-for_good
returns-clause-for_good c =
    let fits = bytes_from c.args.b.now (λ i. omega (arith, c.type_inv.b i)) in
    λ at e. for_good c.args.last c.args.b.now at ((bad_law c.args.last c.args.b.now fits at).0 (sym c.decoded.ensures ∙ e))

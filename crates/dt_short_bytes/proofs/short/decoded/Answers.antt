use Rattle.std.proofs.Common.{Err, ap, ◌∙◌, arith}
use Rattle.dt_short_bytes.proofs.ShortChain.{rest_within, left_within}
use Rattle.dt_short_bytes.proofs.ShortGrammar.{bytes_from}
use Rattle.dt_short_bytes.specs.ShortPieces.{read_of}
use Rattle.dt_short_bytes.proofs.short.decoded.Goals as goal

pub overflow_sub-result : goal.overflow_sub-result
overflow_sub-result c =
    rest_within c.args.b.now (read_of c.in-Ok.pieces) c.in-Ok.rest.now (bytes_from c.args.b.now (λ i. omega (arith, c.type_inv.b i))) c.in-Ok.ensures

pub overflow_sub-result-in-Err-Bad : goal.overflow_sub-result-in-Err-Bad
overflow_sub-result-in-Err-Bad c =
    left_within c.args.b.now c.in-Err-Bad.left (bytes_from c.args.b.now (λ i. omega (arith, c.type_inv.b i))) (c.in-Err-Bad.ensures ∙ ap Err c.in-Err-Bad.field-0-is)

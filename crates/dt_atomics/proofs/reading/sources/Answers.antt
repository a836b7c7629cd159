use Rattle.std.proofs.Common.{ℕ, ◌≡◌, ◌+◌, ◌-◌, ◌<◌, slice_set, ap, ◌∙◌, arith}
use Rattle.dt_record.specs.declared.origins.Origin.{Origin}
use Rattle.dt_record.specs.declared.origins.Origin.TheVariants as origin
use Rattle.dt_atomics.specs.Reading.{source_of}
use Rattle.dt_atomics.proofs.FilledSources.{filled, fill_place}
use Rattle.dt_atomics.proofs.Places.{lies_in_ram}
use Rattle.dt_atomics.proofs.reading.sources.Goals as goal

pub loop-i-preserved : goal.loop-i-preserved
loop-i-preserved c =
    let lies = lies_in_ram c.args.x.paddr c.args.x.width c.requires.place in
    let of : ℕ → Origin = source_of c.args.m.now.writes c.args.k in
    let i = c.loop-i.i in
    let start = c.args.x.paddr in
    let within : i < 8 = omega (arith, lies.few) in
    let source : c.source.result ≡ of (start + i) = c.source.ensures ∙ ap (λ n. of (start + n)) c.from.ensures in
    ap (λ xs. slice_set xs c.from-in-loop-i.result c.source.result) c.loop-i.invariant
    ∙ ap (λ n. slice_set (filled of origin.Image start i (8 - i)) n c.source.result) c.from-in-loop-i.ensures
    ∙ ap (slice_set (filled of origin.Image start i (8 - i)) i) source
    ∙ fill_place of origin.Image start i 8 within

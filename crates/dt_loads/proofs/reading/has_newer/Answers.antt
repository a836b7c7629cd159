use Rattle.std.proofs.Common.{◌+◌, below_more, sym, ap, ◌∙◌, arith}
use Rattle.std.proofs.lemmas.Bool.{false≢true}
use Rattle.std.proofs.lemmas.Option.{get_or_from_slice_get}
use Rattle.dt_record.specs.declared.origins.Origin.TheVariants as origin
use Rattle.dt_local.specs.LocalMemory.{newest_of}
use Rattle.dt_loads.specs.Newer.{is_newer_than}
use Rattle.dt_loads.proofs.reading.has_newer.Goals as goal

pub loop-i-preserved : goal.loop-i-preserved
loop-i-preserved c = below_more _ _ c.loop-i.invariant cc

pub returns : goal.returns
returns c = (
  λ never. absurd (false≢true never),
  λ has.
      let none = c.loop-i.invariant has.place (omega (arith, has.within)) in
      let from = get_or_from_slice_get c.args.sources.from has.place has.source origin.Image has.there in
      absurd (false≢true (sym none ∙ ap (is_newer_than (newest_of c.args.l.now (c.args.ask.addr + has.place))) from ∙ has.newer)),
)

use Rattle.std.proofs.Common.{◌≡◌, ◌+◌, ◌-◌, ◌<◌, ap, ◌∙◌, arith}
use Rattle.dt_record.specs.LoadSources.{found_byte}
use Rattle.dt_loads.proofs.FoundValues.{found_more, one_more_fits, seven_fit}
use Rattle.dt_loads.proofs.Lines.{lies_in_line}
use Rattle.dt_loads.proofs.reading.found_at.Goals as goal

pub overflow_mul-found : goal.overflow_mul-found
overflow_mul-found c =
    let lies = lies_in_line c.args.ask c.requires.place in
    let few = seven_fit c.loop-i.found c.loop-i.i c.loop-i.invariant.fits (omega (arith, lies.few)) in
    omega arith

pub overflow_add-found : goal.overflow_add-found
overflow_add-found c =
    let lies = lies_in_line c.args.ask c.requires.place in
    let few = seven_fit c.loop-i.found c.loop-i.i c.loop-i.invariant.fits (omega (arith, lies.few)) in
    let byte : c.byte_at.result < 256 = c.byte_at.type_inv in
    omega arith

pub loop-i-preserved : goal.loop-i-preserved
loop-i-preserved c =
    let byte : c.byte_at.result < 256 = c.byte_at.type_inv in
    let m = c.args.m.now in
    let before = c.args.ask.addr + (c.args.ask.width - (c.loop-i.i + 1)) in
    let place : c.args.ask.addr + c.from.result ≡ before = omega arith in
    record {
      value = λ actions stands. found_more m.image m.writes actions c.args.ask c.args.k c.loop-i.i c.loop-i.found c.from-in-loop-i.result before (c.args.ask.addr + (c.args.ask.width - c.loop-i.i))
          (c.loop-i.invariant.value actions stands) (c.from-in-loop-i.ensures ∙ c.byte_at.ensures actions stands ∙ ap (found_byte m.image m.writes actions c.args.ask c.args.k) place) (omega arith);
      fits = one_more_fits c.loop-i.found c.from-in-loop-i.result c.loop-i.i c.loop-i.invariant.fits (omega arith);
    }

use Rattle.std.proofs.Common.{◌≡◌, ◌+◌, ◌-◌, ◌<◌, ap, ◌∙◌, arith}
use Rattle.dt_record.specs.Memory.{memory_at}
use Rattle.dt_atomics.proofs.OldNumbers.{number_more, one_more_fits, seven_fit}
use Rattle.dt_atomics.proofs.Places.{lies_in_ram}
use Rattle.dt_atomics.proofs.reading.number_at.Goals as goal

pub overflow_mul-number : goal.overflow_mul-number
overflow_mul-number c =
    let lies = lies_in_ram c.args.x.paddr c.args.x.width c.requires.place in
    let few = seven_fit c.loop-i.number c.loop-i.i c.loop-i.invariant.fits (omega (arith, lies.few)) in
    omega arith

pub overflow_add-number : goal.overflow_add-number
overflow_add-number c =
    let lies = lies_in_ram c.args.x.paddr c.args.x.width c.requires.place in
    let few = seven_fit c.loop-i.number c.loop-i.i c.loop-i.invariant.fits (omega (arith, lies.few)) in
    let byte : c.byte.result < 256 = c.byte.type_inv in
    omega arith

pub loop-i-preserved : goal.loop-i-preserved
loop-i-preserved c =
    let byte : c.byte.result < 256 = c.byte.type_inv in
    let m = c.args.m.now in
    let before = c.args.x.paddr + (c.args.x.width - (c.loop-i.i + 1)) in
    let place : c.args.x.paddr + c.from.result ≡ before = omega arith in
    record {
      value = number_more m.image m.writes c.args.k c.loop-i.i c.loop-i.number c.from-in-loop-i.result before (c.args.x.paddr + (c.args.x.width - c.loop-i.i))
          c.loop-i.invariant.value (c.from-in-loop-i.ensures ∙ c.byte.ensures ∙ ap (memory_at m.image m.writes c.args.k) place) (omega arith);
      fits = one_more_fits c.loop-i.number c.from-in-loop-i.result c.loop-i.i c.loop-i.invariant.fits (omega arith);
    }

use Rattle.std.proofs.Common.{◌+◌, ◌-◌, ◌/◌, ◌%◌, eqb, ◌<◌, [], ◌∷◌, ◌++◌, length, take, List, ℕ, ap, ◌∙◌, arith}
use Rattle.std.proofs.lemmas.List.{take_more_set, length-set}
use Rattle.dt_short_bytes.specs.ShortReading.{spread, next_byte}
use Rattle.dt_short_bytes.proofs.ShortSpread.{goes_on, is_done}
use Rattle.dt_short_bytes.proofs.short_bodies.spread_of.Goals as goal

pub loop-i-preserved : goal.loop-i-preserved
loop-i-preserved c =
    let l = c.loop-i in
    let byte = c.next_of-byte.result.0 in
    let after = c.next_of-byte.result.1.now in
    let left = 64 - (l.i + 1) in
    let within : l.i < length l.bytes = omega (arith, l.invariant.places) in
    record {
      places = length-set l.bytes l.i byte ∙ l.invariant.places;
      so_far =
          ap (λ (t : List ℕ). t ++ spread left (l.bits / 2) after) (take_more_set l.bytes l.i byte within)
          ∙ ap (λ (b : ℕ). (take l.i l.bytes ++ b ∷ []) ++ spread left (l.bits / 2) after) c.next_of-byte.ensures.byte
          ∙ ap (λ (t : List ℕ). (take l.i l.bytes ++ next_byte (eqb (l.bits % 2) 1) l.rest.now ∷ []) ++ spread left (l.bits / 2) t) c.next_of-byte.ensures.after
          ∙ goes_on (take l.i l.bytes) l.i l.bits l.rest.now (spread 64 c.args.mask c.args.line.now) (omega arith) l.invariant.so_far;
    }

pub returns : goal.returns
returns c =
    let l = c.loop-i in
    is_done l.bytes l.i l.bits l.rest.now (spread 64 c.args.mask c.args.line.now) (omega (arith, l.invariant.places)) (omega arith) l.invariant.so_far

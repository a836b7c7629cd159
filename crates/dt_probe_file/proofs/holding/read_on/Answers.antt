use Rattle.std.proofs.Common.{◌≡◌, ℕ, ◌+◌, ◌++◌, true, false, not, List, take, drop, Ok, ap, ◌∙◌, arith}
use Rattle.std.specs.Prelude.{◌==◌}
use Rattle.dt_probe_file.specs.Parts.{part, whole}
use Rattle.dt_probe_file.proofs.HeldParts.{part_stays, part_grows, whole_grows, some_more, no_more, part_same, reads_stay, stay_on_err}
use Rattle.dt_probe_file.proofs.holding.read_on.Goals as goal

pub returns-in_err-count-clause-whole : goal.returns-in_err-count-clause-whole
returns-in_err-count-clause-whole g c =
    ap (λ (z : List ℕ). whole z (g.S.Source.left c.read_behind.new.source))
    (part_stays c.make_room-first.new.bytes c.read_behind.new.buf c.make_room-first.result.0 c.make_room-first.result.1 c.make_room-first.ensures.order c.read_behind.ensures.front_stays ∙ c.make_room-first.ensures.same)
    ∙ ap (whole (part c.args.start.now c.args.end.now c.args.bytes.now)) c.in_err-count.ensures.failed_takes_nothing

pub returns-in_err-count-clause-reads : goal.returns-in_err-count-clause-reads
returns-in_err-count-clause-reads g c =
    reads_stay _ _ _ _
    (part_stays c.make_room-first.new.bytes c.read_behind.new.buf c.make_room-first.result.0 c.make_room-first.result.1 c.make_room-first.ensures.order c.read_behind.ensures.front_stays ∙ c.make_room-first.ensures.same)
    c.in_err-count.ensures.failed_takes_nothing

pub returns-in_err-count-clause-failed_stays : goal.returns-in_err-count-clause-failed_stays
returns-in_err-count-clause-failed_stays g c =
    stay_on_err c.from_residual.result _ _ _ _
    (part_stays c.make_room-first.new.bytes c.read_behind.new.buf c.make_room-first.result.0 c.make_room-first.result.1 c.make_room-first.ensures.order c.read_behind.ensures.front_stays ∙ c.make_room-first.ensures.same)
    c.in_err-count.ensures.failed_takes_nothing

pub returns-clause-reads : goal.returns-clause-reads
returns-clause-reads g c =
    let more = take c.in_ok-count.count (drop c.make_room-first.result.1 c.read_behind.new.buf) in (
      more,
      part_grows c.make_room-first.new.bytes c.read_behind.new.buf c.make_room-first.result.0 c.make_room-first.result.1 c.in_ok-count.count c.make_room-first.ensures.order c.read_behind.ensures.front_stays
          ∙ ap (λ (z : List ℕ). z ++ more) c.make_room-first.ensures.same,
      c.in_ok-count.ensures.takes,
    )

pub returns-clause-whole : goal.returns-clause-whole
returns-clause-whole g c =
    whole_grows (g.S.Source.left c.args.source.now) (g.S.Source.left c.read_behind.new.source) (part c.make_room-first.result.0 c.make_room-first.result.1 c.make_room-first.new.bytes)
    (part c.make_room-first.result.0 (c.make_room-first.result.1 + c.in_ok-count.count) c.read_behind.new.buf) (take c.in_ok-count.count (drop c.make_room-first.result.1 c.read_behind.new.buf))
    (part_grows c.make_room-first.new.bytes c.read_behind.new.buf c.make_room-first.result.0 c.make_room-first.result.1 c.in_ok-count.count c.make_room-first.ensures.order c.read_behind.ensures.front_stays)
    c.in_ok-count.ensures.takes
    ∙ ap (λ (z : List ℕ). whole z (g.S.Source.left c.args.source.now)) c.make_room-first.ensures.same

pub returns-clause-more : goal.returns-clause-more
returns-clause-more g c e =
    let some : not (c.in_ok-count.count == 0) ≡ true = cc in
    let above = some_more c.in_ok-count.count some in
    omega (arith, above, c.make_room-first.ensures.size, c.make_room-first.ensures.order)

pub returns-clause-end : goal.returns-clause-end
returns-clause-end g c e =
    let none : not (c.in_ok-count.count == 0) ≡ false = cc in
    let zero = no_more c.in_ok-count.count none in (
      part_same c.make_room-first.result.0 c.make_room-first.result.1 c.in_ok-count.count c.read_behind.new.buf zero
          ∙ part_stays c.make_room-first.new.bytes c.read_behind.new.buf c.make_room-first.result.0 c.make_room-first.result.1 c.make_room-first.ensures.order c.read_behind.ensures.front_stays
          ∙ c.make_room-first.ensures.same,
      c.read_behind.ensures.end (c.in_ok-count.was ∙ ap (λ (n : ℕ). Ok n) zero),
    )

use Rattle.std.proofs.Common.{◌≡◌, ℕ, List, [], sym, ap, ◌∙◌, subst, length, if◌then◌else◌, Some, None, arith}
use Rattle.dt_permissions.specs.declared.events.PermEvent.{PermEvent}
use Rattle.dt_permissions.specs.Files.{part, event_start, event_of, may_stand, first_events}
use Rattle.dt_permissions.proofs.Counting.{IsReadSoFar, nothing_read, one_more, all_read, stopped}
use Rattle.dt_permissions.proofs.files.read_events.Goals as goal

pub loop-events-init : goal.loop-events-init
loop-events-init c =
    subst (λ (es : List PermEvent). IsReadSoFar c.args.bytes.now c.byte_at-harts.result 0 es) (sym c.new-events.ensures.items)
    (subst (λ (h : ℕ). IsReadSoFar c.args.bytes.now h 0 []) (sym c.byte_at-harts.ensures) (nothing_read c.args.bytes.now))

pub loop-events-preserved : goal.loop-events-preserved
loop-events-preserved c =
    let items = c.loop-events.events.items in
    let same : c.len-in-loop-events.result ≡ length items = omega (arith, c.len-in-loop-events.ensures) in
    let start = c.event_start.ensures ∙ ap event_start same in
    let piece = c.part-here.ensures ∙ ap (λ (a : ℕ). part a 18 c.args.bytes.now) start in
    let there = sym (ap (λ (b : List ℕ). if may_stand c.byte_at-harts.result c.loop-events.least b then Some (event_of b) else None) piece)
    ∙ sym c.next_event.ensures ∙ c.in-Some.is in
    subst (λ (es : List PermEvent). IsReadSoFar c.args.bytes.now c.byte_at-harts.result c.in-Some.event.stamp es) (sym c.in_ok-push.ensures.items)
    (one_more c.args.bytes.now c.byte_at-harts.result c.loop-events.least items c.in-Some.event c.loop-events.invariant
    (omega (arith, c.loop-events-test.true, c.len.ensures, same)) there)

pub returns-clause-count : goal.returns-clause-count
returns-clause-count c =
    all_read c.args.bytes.now c.byte_at-harts.result c.loop-events.least c.loop-events.events.items c.loop-events.invariant
    (λ lt. absurd (omega (arith, lt, c.len.ensures, c.loop-events-test.false)))

pub returns-clause-events : goal.returns-clause-events
returns-clause-events c =
    let count = all_read c.args.bytes.now c.byte_at-harts.result c.loop-events.least c.loop-events.events.items c.loop-events.invariant
    (λ lt. absurd (omega (arith, lt, c.len.ensures, c.loop-events-test.false))) in
    c.loop-events.invariant.are ∙ ap (first_events c.args.bytes.now) count

pub returns-in_default-clause-count : goal.returns-in_default-clause-count
returns-in_default-clause-count c =
    let items = c.loop-events.events.items in
    let same : c.len-in-loop-events.result ≡ length items = omega (arith, c.len-in-loop-events.ensures) in
    let piece = c.part-here.ensures ∙ ap (λ (a : ℕ). part a 18 c.args.bytes.now) (c.event_start.ensures ∙ ap event_start same) in
    let there = sym (ap (λ (b : List ℕ). if may_stand c.byte_at-harts.result c.loop-events.least b then Some (event_of b) else None) piece)
    ∙ sym c.next_event.ensures ∙ c.in_default.is in
    stopped c.args.bytes.now c.byte_at-harts.result c.loop-events.least items c.loop-events.invariant there

pub returns-in_default-clause-events : goal.returns-in_default-clause-events
returns-in_default-clause-events c =
    let items = c.loop-events.events.items in
    let same : c.len-in-loop-events.result ≡ length items = omega (arith, c.len-in-loop-events.ensures) in
    let piece = c.part-here.ensures ∙ ap (λ (a : ℕ). part a 18 c.args.bytes.now) (c.event_start.ensures ∙ ap event_start same) in
    let there = sym (ap (λ (b : List ℕ). if may_stand c.byte_at-harts.result c.loop-events.least b then Some (event_of b) else None) piece)
    ∙ sym c.next_event.ensures ∙ c.in_default.is in
    c.loop-events.invariant.are ∙ ap (first_events c.args.bytes.now) (stopped c.args.bytes.now c.byte_at-harts.result c.loop-events.least items c.loop-events.invariant there)

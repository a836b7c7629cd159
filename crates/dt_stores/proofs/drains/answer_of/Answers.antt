use Rattle.std.proofs.Common.{◌≡◌, List, take, filter, find, length, option_map, ap, ◌∙◌, sym, arith, subst, IsTrue}
use Rattle.std.proofs.lemmas.List.{take_rest}
use Rattle.dt_record.specs.Actions.{Held}
use Rattle.dt_stores.specs.Draining.{is_waiting_on, is_barring, greatest_barrier, took}
use Rattle.dt_stores.specs.Indexed.{rises}
use Rattle.dt_stores.proofs.Firsts.{rises-behind, taken-rises}
use Rattle.dt_stores.proofs.Merging.{taken_on_line}
use Rattle.dt_stores.proofs.PlacesOn.{at-take, at-length}
use Rattle.dt_stores.proofs.PlanLaws.{bars, takes}
use Rattle.dt_stores.proofs.drains.answer_of.Goals as goal

pub barring-requires : goal.barring-requires
barring-requires c =
    let behind = rises-behind (λ h. h.barrier) c.args.first 0 c.requires.barriers.0 c.args.entries.now c.requires.barriers.1 in
    (behind.0, c.requires.barriers.0, subst (λ (l : List Held). IsTrue (rises (λ h. h.barrier) behind.0 c.requires.barriers.0 l)) (sym (take_rest c.args.entries.now c.args.first)) behind.1)

pub returns-in-Some : goal.returns-in-Some
returns-in-Some c =
    let long : length c.args.waiting.now ≡ length (filter (is_waiting_on c.args.line) c.args.entries.now) = at-length c.args.entries.now (filter (is_waiting_on c.args.line) c.args.entries.now) c.args.waiting.now c.requires.waiting in
    let at = at-take c.args.entries.now (filter (is_waiting_on c.args.line) c.args.entries.now) c.args.waiting.now c.from-2.result c.requires.waiting in
    let rise = taken-rises c.args.line c.from-2.result c.requires.barriers.0 c.args.entries.now c.requires.barriers.1 in
    bars c.args.line c.args.count c.args.first c.youngest_barrier.result c.in-Some.seq c.args.entries.now (omega arith) (omega arith)
    (c.youngest_barrier.ensures (take c.from-2.result (filter (is_waiting_on c.args.line) c.args.entries.now)) c.requires.barriers.0 at rise
    ∙ ap (λ n. greatest_barrier (take n (filter (is_waiting_on c.args.line) c.args.entries.now))) c.from-2.ensures)
    (c.in-Some.ensures ∙ ap (λ (l : List Held). option_map (λ h. h.store.seq) (find (is_barring c.args.line c.youngest_barrier.result) l)) (take_rest c.args.entries.now c.args.first))

pub returns-in-None : goal.returns-in-None
returns-in-None c =
    let long : length c.args.waiting.now ≡ length (filter (is_waiting_on c.args.line) c.args.entries.now) = at-length c.args.entries.now (filter (is_waiting_on c.args.line) c.args.entries.now) c.args.waiting.now c.requires.waiting in
    let at = at-take c.args.entries.now (filter (is_waiting_on c.args.line) c.args.entries.now) c.args.waiting.now c.from-2.result c.requires.waiting in
    let rise = taken-rises c.args.line c.from-2.result c.requires.barriers.0 c.args.entries.now c.requires.barriers.1 in
    c.merged.ensures c.args.line (take c.from-2.result (filter (is_waiting_on c.args.line) c.args.entries.now)) at
    (taken_on_line c.args.line c.from-2.result c.args.entries.now c.requires.placed)
    ∙ ap (λ n. took c.args.line (take n (filter (is_waiting_on c.args.line) c.args.entries.now))) c.from-2.ensures
    ∙ takes c.args.line c.args.count c.args.first c.youngest_barrier.result c.args.entries.now (omega arith) (omega arith)
    (c.youngest_barrier.ensures (take c.from-2.result (filter (is_waiting_on c.args.line) c.args.entries.now)) c.requires.barriers.0 at rise
    ∙ ap (λ n. greatest_barrier (take n (filter (is_waiting_on c.args.line) c.args.entries.now))) c.from-2.ensures)
    (c.in-None.ensures ∙ ap (λ (l : List Held). option_map (λ h. h.store.seq) (find (is_barring c.args.line c.youngest_barrier.result) l)) (take_rest c.args.entries.now c.args.first))

use Rattle.std.proofs.Common.{rules, ◌++◌, ℕ, ap, sym, ◌∙◌}
use Rattle.std.proofs.lemmas.Result.{err_from_is_err_and}
use Rattle.dt_shared.specs.Entries.{entries_of}
use Rattle.dt_shared.proofs.Steps.{publishes_for}
use Rattle.dt_shared.proofs.Told.{appends, slot_of, lent_items, with_list}
use Rattle.dt_shared.proofs.turns.append_in_turn.Goals as goal

pub slot_mut-list-requires : goal.slot_mut-list-requires
slot_mut-list-requires c = let u = c.requires.turn in (c.requires.table.0, slot_of _ u.0 u.1 u.2 u.3 u.5)

pub returns-in_err-add_entries-clause-turn : goal.returns-in_err-add_entries-clause-turn
returns-in_err-add_entries-clause-turn c = let p = err_from_is_err_and c.from_residual.result c.from_residual.ensures.1 in
    λ k made t history number turn. let me = c.args.seat.now.me in let list = c.add_entries.new.list in
    rw p.1 (list, c.in_err-add_entries.ensures.err ∙ lent_items me k made t history c.slot_mut-list.result.now turn c.slot_mut-list.ensures.value, with_list me k made t history list turn)

pub fetch_add-requires : goal.fetch_add-requires
fetch_add-requires c = let u = c.requires.turn in let me = c.args.seat.now.me in let list = c.add_entries.new.list in
    let added = c.in_ok-add_entries.ensures.ok ∙ (ap (λ l. l ++ entries_of c.args.pass c.args.notes.now) (lent_items me u.0 u.1 u.2 u.3 c.slot_mut-list.result.now u.5 c.slot_mut-list.ensures.value)
    ∙ ap (λ (n : ℕ). u.3 ++ entries_of n c.args.notes.now) (sym u.4)) in
    (search rules, search rules, publishes_for _ _ _ _ u.0 u.1 u.2 u.3 list c.args.notes.now _ (with_list me u.0 u.1 u.2 u.3 list u.5) added (search rules))

pub returns-clause-turn : goal.returns-clause-turn
returns-clause-turn c = λ k made t history number turn. let me = c.args.seat.now.me in let list = c.add_entries.new.list in
    let added = c.in_ok-add_entries.ensures.ok ∙ (ap (λ l. l ++ entries_of c.args.pass c.args.notes.now) (lent_items me k made t history c.slot_mut-list.result.now turn c.slot_mut-list.ensures.value)
    ∙ ap (λ (n : ℕ). history ++ entries_of n c.args.notes.now) (sym number)) in
    appends _ _ k made t history list c.args.notes.now added (with_list me k made t history list turn) c.fetch_add.ensures.2

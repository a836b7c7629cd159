use Rattle.std.proofs.Common.{rules}
use Rattle.std.proofs.lemmas.List.Sorted.{answers_always}
use Rattle.std.proofs.lemmas.Result.{on_ok_weaker}
use Rattle.dt_tallies.specs.Naming.{notes_by_key}
use Rattle.dt_tallies.proofs.NoteOrder.{note_key, rises-notes_by_key, filter-notes_by_key}
use Rattle.dt_tallies.proofs.naming.sort.Goals as goal

pub returns : goal.returns
returns c =
    let keys = answers_always _ _ _ (λ f a r next called. search rules) in
    let before = c.args.notes.now.items in
    let after = c.sort_by_key.new.self.items in
    let stable = c.sort_by_key.ensures.stable note_key keys in
    on_ok_weaker c.sort_by_key.result
    (λ sorted. c.stable_sorts_are_one.ensures note_key before after (notes_by_key before) (sorted note_key keys) stable
    (rises-notes_by_key before) (λ x. filter-notes_by_key x before))
    c.sort_by_key.ensures.sorted

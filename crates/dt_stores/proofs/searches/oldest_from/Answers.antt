use Rattle.std.proofs.Common.{option_map, slice_get, Some, ap, ◌∙◌, sym}
use Rattle.std.proofs.lemmas.List.Folds.{find_at}
use Rattle.dt_record.specs.Actions.{Held, is_undrained}
use Rattle.dt_stores.proofs.searches.oldest_from.Goals as goal

pub returns-in-None : goal.returns-in-None
returns-in-None c = λ hs n at split.
    ap (option_map (λ (h : Held). h.store.seq)) (c.in-None.ensures hs at ∙ ap (slice_get hs) (c.first_undrained.ensures hs n at split) ∙ sym (find_at (is_undrained c.args.at) hs))

pub returns-in-Some : goal.returns-in-Some
returns-in-Some c = λ hs n at split.
    ap Some c.seq.ensures ∙ ap (option_map (λ (h : Held). h.store.seq)) (c.in-Some.ensures hs at ∙ ap (slice_get hs) (c.first_undrained.ensures hs n at split) ∙ sym (find_at (is_undrained c.args.at) hs))

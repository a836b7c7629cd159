use Rattle.std.proofs.Common.{◌≡◌, ◌++◌, List, sym, ap, ◌∙◌, subst}
use Rattle.std.specs.List.{flat_map}
use Rattle.dt_record.specs.declared.writes.Note.{Note}
use Rattle.dt_worker.specs.Telling.{news_in}
use Rattle.dt_worker.specs.Steps.{IsInStep}
use Rattle.dt_worker.proofs.AllTold.{all_in_step}
use Rattle.dt_worker.proofs.telling.announce.Goals as goal

-- the notes between the two loops are the news of all lanes, which tell each lane
pub returns-clause-in_step : goal.returns-clause-in_step
returns-clause-in_step g c before =
    let lanes = c.args.lanes.now.items in
    let own = c.args.pass.now.own in
    let news = flat_map news_in lanes in
    let gathered : c.collect_news.new.notes.items ≡ news = c.in_ok-collect_news.ensures
    ∙ ap (λ (ns : List Note). ns ++ flat_map news_in c.deref.result.now) c.clear.ensures.items ∙ ap (flat_map news_in) c.deref.ensures.value in
    let appended : c.append_some.new.pass.own ≡ own ++ news = c.in_ok-some.ensures.own ∙ ap (λ (ns : List Note). own ++ ns) gathered in
    let later = c.note_all_told.new.lanes.items in
    subst (λ (notes : List Note). IsInStep later notes) (sym appended)
    (all_in_step c.telling_goes_on.ensures c.own_notes_decide.ensures c.news_is_of_one_hart.ensures lanes later own c.note_all_told.ensures before)

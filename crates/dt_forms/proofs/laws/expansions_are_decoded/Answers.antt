use Rattle.dt_forms.proofs.FormLemmas.{pattern_means, pattern_row}
use Rattle.dt_forms.proofs.laws.expansions_are_decoded.Goals as goal

pub returns-clause-row : goal.returns-clause-row
returns-clause-row c = pattern_row c.meaning_is_of_a_row.ensures

pub returns-clause-meaning : goal.returns-clause-meaning
returns-clause-meaning c = pattern_means c.meaning_is_of_a_row.ensures

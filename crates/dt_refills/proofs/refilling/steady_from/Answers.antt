use Rattle.dt_refills.proofs.Stretches.{line_at-steady}
use Rattle.dt_refills.proofs.refilling.steady_from.Goals as goal

pub returns-clause-steady : goal.returns-clause-steady
returns-clause-steady c = λ j after before.
    line_at-steady c.steady_words_stay.ensures.bytes c.args.m.now.image c.args.m.now.writes c.args.line c.steady_words.result j c.args.k c.requires.line
    c.steady_words.ensures.steady after before

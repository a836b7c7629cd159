use Rattle.std.proofs.Common.{rules}
use Rattle.std.proofs.lemmas.Grind.{same_number_lists}
use Rattle.dt_record.specs.LentBodies.{words_of}
use Rattle.dt_record.proofs.lent.put_words.Goals as goal

pub returns : goal.returns
returns c = same_number_lists c.loop-place.numbers (words_of c.args.words.now) c.loop-place.invariant.0 (search rules)

use Rattle.std.proofs.Common.{ap, ◌∙◌, List, arith}
use Rattle.std.proofs.lemmas.List.{length-set, take_all}
use Rattle.dt_record.specs.declared.origins.Origin.{Origin}
use Rattle.dt_hart.specs.Following.{read_key}
use Rattle.dt_hart.proofs.ReadKeys.{keys_more}
use Rattle.dt_hart.proofs.notes.keys_of.Goals as goal

pub loop-i-preserved : goal.loop-i-preserved
loop-i-preserved c = record {
  long = length-set c.loop-i.keys _ _ ∙ c.loop-i.invariant.long;
  done = λ at key read. keys_more c.args.place c.loop-i.i at c.args.from.now c.loop-i.keys c.key_of.result key c.requires (omega arith) c.loop-i.invariant.long c.loop-i.invariant.done c.key_of.ensures read;
}

pub returns : goal.returns
returns c = λ at key read.
    c.loop-i.invariant.done at key (ap (λ (xs : List Origin). read_key c.args.place xs at) (take_all c.loop-i.i c.args.from.now (omega arith)) ∙ read)

use Rattle.std.proofs.Common.{◌<◌, ◌/◌, length, rules, sym, ◌∙◌, arith}
use Rattle.dt_record.proofs.Words.{front_words-length, front_words-at}
use Rattle.dt_record.proofs.lent.word_in.Goals as goal

pub overflow_mul-place : goal.overflow_mul-place
overflow_mul-place c = search rules

pub prove-unreachable-requires : goal.prove-unreachable-requires
prove-unreachable-requires c =
    let bytes = c.args.bytes.now in
    omega (arith, c.requires, front_words-length (length bytes / 8) bytes)

pub double_at-requires : goal.double_at-requires
double_at-requires c =
    let bytes = c.args.bytes.now in
    let below : c.args.place < length bytes / 8 = omega (arith, c.requires, front_words-length (length bytes / 8) bytes) in
    omega arith

pub returns : goal.returns
returns c =
    let bytes = c.args.bytes.now in
    let below : c.args.place < length bytes / 8 = omega (arith, c.requires, front_words-length (length bytes / 8) bytes) in
    c.double_at.ensures ∙ sym (front_words-at (length bytes / 8) c.args.place bytes below)

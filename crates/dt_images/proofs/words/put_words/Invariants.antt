use Rattle.std.proofs.Common.{◌≡◌, ◌+◌, ◌*◌, ◌++◌, length, take}
use Rattle.std.specs.List.{flat_map}
use Rattle.dt_record.specs.Spelling.{word}
use Rattle.dt_images.proofs.words.put_words.Given as goal

abbrev pub invariant-loop-number : goal.invariant-loop-number
invariant-loop-number l = record {
  bytes : l.out.items ≡ l.fn.out.items ++ flat_map word (take l.number-index l.numbers);
  long : length l.out.items ≡ length l.fn.out.items + 4 * l.number-index;
}

use Rattle.std.proofs.Common.{◌≡◌, ◌+◌, ◌*◌, ◌++◌, length}
use Rattle.std.specs.List.{flat_map}
use Rattle.dt_random.specs.Draws.{draw_after}
use Rattle.dt_record.specs.Spelling.{word}
use Rattle.dt_images.specs.RandomImage.{drawn_words}
use Rattle.dt_images.proofs.random.put_drawn.Given as goal

abbrev pub invariant-loop : goal.invariant-loop
invariant-loop l = record {
  draws : l.draws ≡ draw_after l.seed l.counter;
  bytes : l.out.items ≡ l.fn.out.items ++ flat_map word (drawn_words l.seed l.counter);
  long : length l.out.items ≡ length l.fn.out.items + 4 * l.counter;
}

use Rattle.std.proofs.Common.{◌≡◌, ◌+◌, ◌++◌, [], ◌∷◌, arith, ap, sym, ◌∙◌}
use Rattle.std.proofs.lemmas.Grind.{common_steps}
use Rattle.std.proofs.lemmas.List.{flat_map_more}
use Rattle.std.specs.List.{flat_map}
use Rattle.dt_random.specs.Draws.{draw_after, next_draw}
use Rattle.dt_record.specs.Spelling.{word}
use Rattle.dt_images.specs.RandomImage.{drawn_words}
use Rattle.dt_images.specs.RandomWord.{random_word}
use Rattle.dt_images.proofs.Drawn.{draw_after_zero, draw_after_next, drawn_words_zero, drawn_words_next}
use Rattle.dt_images.proofs.random.put_drawn.Goals as goal

pub loop-init : goal.loop-init
loop-init c = record {
  draws = c.of-draws.ensures ∙ sym (draw_after_zero c.args.seed);
  bytes = rw (drawn_words_zero c.args.seed) (grind (arith, common_steps));
  long = omega arith;
}

pub loop-preserved : goal.loop-preserved
loop-preserved c =
    let seed = c.args.seed in
    let n = c.loop.counter in
    let out = c.args.out.now.items in
    let drawn = drawn_words seed n in
    let draws : c.draw-draw.new.self ≡ draw_after seed (n + 1) =
    c.draw-draw.ensures.next ∙ ap next_draw c.loop.invariant.draws ∙ sym (draw_after_next seed n) in
    let word_is : c.random_word.result ≡ random_word (draw_after seed (n + 1)) =
    c.random_word.ensures ∙ ap random_word (c.draw-draw.ensures.draw ∙ draws) in
    let words_are : drawn ++ c.random_word.result ∷ [] ≡ drawn_words seed (n + 1) =
    ap (λ w. drawn ++ w ∷ []) word_is ∙ sym (drawn_words_next seed n) in
    record {
      draws = draws;
      bytes = c.in_ok-put_word.ensures.bytes ∙ ap (λ b. b ++ word c.random_word.result) c.loop.invariant.bytes
          ∙ flat_map_more word out drawn c.random_word.result ∙ ap (λ ws. out ++ flat_map word ws) words_are;
      long = c.in_ok-put_word.ensures.length ∙ (omega (arith, c.loop.invariant.long));
    }

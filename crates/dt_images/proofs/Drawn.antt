-- How the draws of a seed and their words go on.
use Rattle.std.proofs.Common.{◌≡◌, ℕ, ◌+◌, [], ◌∷◌, ◌++◌, refl, add-one}
use Rattle.dt_random.specs.Draws.{draw_after, first_state, next_draw}
use Rattle.dt_images.specs.RandomImage.{drawn_words}
use Rattle.dt_images.specs.RandomWord.{random_word}

pub draw_after_zero : (seed : ℕ) → draw_after seed 0 ≡ first_state seed
unfolding draw_after
draw_after_zero seed = refl

pub draw_after_next : (seed n : ℕ) → draw_after seed (n + 1) ≡ next_draw (draw_after seed n)
unfolding draw_after
draw_after_next seed n = rw add-one

pub drawn_words_zero : (seed : ℕ) → drawn_words seed 0 ≡ []
unfolding drawn_words
drawn_words_zero seed = refl

pub drawn_words_next : (seed n : ℕ) → drawn_words seed (n + 1) ≡ drawn_words seed n ++ random_word (draw_after seed (n + 1)) ∷ []
unfolding drawn_words
drawn_words_next seed n = rw add-one

use Rattle.std.specs.Prelude.{ℕ, zero, suc, List, [], ◌∷◌, ◌++◌}
use Rattle.std.specs.List.{flat_map}
use Rattle.dt_random.specs.Draws.{draw_after}
use Rattle.dt_record.specs.Spelling.{word}
use Rattle.dt_images.specs.Formats.{auipc, below_zero, jal}
use Rattle.dt_images.specs.RandomWord.{random_word}

-- The image of random instructions that a seed gives (this project's own).

-- the words of the seed's first draws
unfoldable pub drawn_words : ℕ → ℕ → List ℕ
drawn_words seed zero = []
drawn_words seed (suc n) = drawn_words seed n ++ random_word (draw_after seed (suc n)) ∷ []

-- 1024 words: x30 is set to 64 KiB behind the first, 1022 are drawn, and the last jumps to the second
abbrev pub random_words : ℕ → List ℕ
random_words seed = auipc 30 0x10 ∷ drawn_words seed 1022 ++ jal 0 (below_zero 21 4088) ∷ []

abbrev pub random_bytes : ℕ → List ℕ
random_bytes seed = flat_map word (random_words seed)

-- Rows as a mask and a match, the form in which tables of opcodes are often written.
use Rattle.std.specs.Prelude.{ℕ, ◌+◌, ◌-◌, ◌*◌, ◌^◌, List, [], ◌∷◌}
use Rattle.dt_decode.specs.Rows.{Fixed}

-- ones in the bits that the fields fix
abbrev pub mask_of : List Fixed → ℕ
mask_of [] = 0
mask_of (f ∷ fs) = (2 ^ f.width - 1) * 2 ^ f.low + mask_of fs

-- what those bits are, and zeros elsewhere
abbrev pub match_of : List Fixed → ℕ
match_of [] = 0
match_of (f ∷ fs) = f.value * 2 ^ f.low + match_of fs

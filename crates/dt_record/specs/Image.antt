use Rattle.std.specs.Prelude.{ℕ, ◌-◌, List, slice_index}
use Rattle.dt_record.specs.declared.limits.TheConstants.{RAM_START}

-- the byte at an address of RAM before any write: the image from the start of RAM on, then zeros
abbrev pub image_byte : List ℕ → ℕ → ℕ
image_byte image addr = slice_index image (addr - RAM_START)

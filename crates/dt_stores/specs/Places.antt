use Rattle.std.specs.Prelude.{ℕ, ◌%◌, ◌==◌, ◌&&◌, ◌||◌, Bool}
use Rattle.dt_record.specs.declared.accesses.OwnStore.{OwnStore}
use Rattle.dt_record.specs.Lawful.{is_in_ram}

-- the widths of stores: a byte, a halfword, a word and a doubleword (Volume I, section 2.6 and RV64I)
abbrev pub is_store_width : ℕ → Bool
is_store_width width = (width == 1) || ((width == 2) || ((width == 4) || (width == 8)))

-- a store to RAM whose address is a multiple of its width
abbrev pub is_store_place : OwnStore → Bool
is_store_place s = is_store_width s.width && ((s.addr % s.width == 0) && is_in_ram s.addr)

use Rattle.std.specs.Prelude.{◌≡◌, ℕ, ◌==◌, true, false, [], ◌∷◌, if◌then◌else◌, refl}
use Rattle.dt_walk.specs.declared.arguments.Access.TheVariants.{Load}
use Rattle.dt_walk.specs.declared.arguments.WalkArgs.{WalkArgs}
use Rattle.dt_walk.specs.declared.arguments.WalkAnswer.TheVariants.{Page, PageFault, AccessFault}
use Rattle.dt_walk.specs.Walk.{walk_of, walk_from, reads_of, reads_from}

-- Walks that the definition computes: four levels, by S, of a table at 80002000.

-- the entry of that table for the low addresses; the entry in the table at 80001000 that maps the
-- gigapage at 80000000; no others
abbrev entries : ℕ → ℕ → ℕ
entries first address =
    if address == 0x8000_2000 then first else (if address == 0x8000_1010 then 0x2000_00cf else 0)

abbrev load_of : ℕ → WalkArgs
load_of va = record {
  va = va;
  root = 0x8000_2000;
  on = true;
  levels = 4;
  access = Load;
  mode = 1;
  sum = false;
  mxr = false;
}

pub gigapage : walk_of (entries 0x2000_0401) (load_of 0x8000_3000) ≡ Page 0x8000_3000
unfolding walk_of walk_from
gigapage = refl

pub gigapage_reads : reads_of (entries 0x2000_0401) (load_of 0x8000_3000) ≡ 0x8000_2000 ∷ 0x8000_1010 ∷ []
unfolding reads_of reads_from
gigapage_reads = refl

pub largest_page : walk_of (entries 0xcf) (load_of 0x8000_3000) ≡ Page 0x8000_3000
unfolding walk_of walk_from
largest_page = refl

pub misaligned_page : walk_of (entries 0x4cf) (load_of 0x8000_3000) ≡ PageFault
unfolding walk_of walk_from
misaligned_page = refl

pub not_canonical : walk_of (entries 0x2000_0401) (load_of 0x0000_8000_0000_0000) ≡ PageFault
unfolding walk_of walk_from
not_canonical = refl

pub not_canonical_reads : reads_of (entries 0x2000_0401) (load_of 0x0000_8000_0000_0000) ≡ []
unfolding reads_of reads_from
not_canonical_reads = refl

pub table_outside_ram : walk_of (entries 0x2100_0001) (load_of 0x8000_3000) ≡ AccessFault
unfolding walk_of walk_from
table_outside_ram = refl

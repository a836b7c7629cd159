-- What one level of the walk answers, by its entry.
use Rattle.std.proofs.Common.{◌≡◌, ℕ, suc, true, false, refl}
use Rattle.dt_walk.specs.declared.arguments.WalkArgs.{WalkArgs}
use Rattle.dt_walk.specs.declared.arguments.WalkAnswer.TheVariants.{Page, PageFault, AccessFault}
use Rattle.dt_walk.specs.Entry.{is_faulty, is_leaf, table_of}
use Rattle.dt_walk.specs.Walk.{entry_address, is_in_ram, page_address, walk_from}

pub walk_from-none : (entry : ℕ → ℕ) (a : WalkArgs) (table : ℕ) → walk_from entry a 0 table ≡ PageFault
unfolding walk_from
walk_from-none entry a table = refl

module _ (entry : ℕ → ℕ) (a : WalkArgs) (level table : ℕ) where
  pub walk_from-outside : is_in_ram (entry_address a.va level table) ≡ false → walk_from entry a (suc level) table ≡ AccessFault
  unfolding walk_from
  walk_from-outside outside = rw outside

  module _ (inside : is_in_ram (entry_address a.va level table) ≡ true) where
    pub walk_from-faulty : is_faulty a level (entry (entry_address a.va level table)) ≡ true → walk_from entry a (suc level) table ≡ PageFault
    unfolding walk_from
    walk_from-faulty faulty = rw (inside, faulty)

    module _ (sound : is_faulty a level (entry (entry_address a.va level table)) ≡ false) where
      pub walk_from-leaf : is_leaf (entry (entry_address a.va level table)) ≡ true → walk_from entry a (suc level) table ≡ Page (page_address a.va level (entry (entry_address a.va level table)))
      unfolding walk_from
      walk_from-leaf leaf = rw (inside, sound, leaf)

      pub walk_from-pointer : is_leaf (entry (entry_address a.va level table)) ≡ false → walk_from entry a (suc level) table ≡ walk_from entry a level (table_of (entry (entry_address a.va level table)))
      unfolding walk_from
      walk_from-pointer pointer = rw (inside, sound, pointer)

-- What one level of the search for a leaf finds, by its entry.
use Rattle.std.proofs.Common.{◌≡◌, ℕ, suc, true, false, refl}
use Rattle.dt_walk.specs.declared.leaves.LeafAnswer.TheVariants.{Leaf, PageFault, AccessFault}
use Rattle.dt_walk.specs.Entry.{is_broken, is_leaf, leaf_bits, table_of}
use Rattle.dt_walk.specs.Leaf.{entry_place, leaf_from, physical_page}
use Rattle.dt_walk.specs.Walk.{is_in_ram}

pub leaf_from-none : (entry : ℕ → ℕ) (page table : ℕ) → leaf_from entry page 0 table ≡ PageFault
unfolding leaf_from
leaf_from-none entry page table = refl

module _ (entry : ℕ → ℕ) (page level table : ℕ) where
  pub leaf_from-outside : is_in_ram (entry_place page level table) ≡ false → leaf_from entry page (suc level) table ≡ AccessFault
  unfolding leaf_from
  leaf_from-outside outside = rw outside

  module _ (inside : is_in_ram (entry_place page level table) ≡ true) where
    pub leaf_from-broken : is_broken level (entry (entry_place page level table)) ≡ true → leaf_from entry page (suc level) table ≡ PageFault
    unfolding leaf_from
    leaf_from-broken broken = rw (inside, broken)

    module _ (sound : is_broken level (entry (entry_place page level table)) ≡ false) where
      pub leaf_from-leaf : is_leaf (entry (entry_place page level table)) ≡ true → leaf_from entry page (suc level) table ≡ Leaf (physical_page page level (entry (entry_place page level table))) (leaf_bits (entry (entry_place page level table)))
      unfolding leaf_from
      leaf_from-leaf leaf = rw (inside, sound, leaf)

      pub leaf_from-pointer : is_leaf (entry (entry_place page level table)) ≡ false → leaf_from entry page (suc level) table ≡ leaf_from entry page level (table_of (entry (entry_place page level table)))
      unfolding leaf_from
      leaf_from-pointer pointer = rw (inside, sound, pointer)

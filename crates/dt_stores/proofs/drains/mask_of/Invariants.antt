use Rattle.std.proofs.Common.{◌≡◌, drop}
use Rattle.dt_stores.proofs.Merging.{merged_mask}
use Rattle.dt_stores.proofs.PlacesOn.{stores_at}
use Rattle.dt_stores.proofs.drains.mask_of.Given as goal

-- the stores that are left decide
abbrev pub invariant-loop-place : goal.invariant-loop-place
invariant-loop-place l = merged_mask l.mask (stores_at l.entries (drop l.place-index l.places)) ≡ merged_mask 0 (stores_at l.entries l.places)

use Rattle.std.proofs.Common.{◌≡◌, drop, replicate}
use Rattle.dt_stores.proofs.Merging.{merged_bytes}
use Rattle.dt_stores.proofs.PlacesOn.{stores_at}
use Rattle.dt_stores.proofs.drains.bytes_of.Given as goal

-- the stores that are left decide
abbrev pub invariant-loop-place : goal.invariant-loop-place
invariant-loop-place l = merged_bytes l.bytes (stores_at l.entries (drop l.place-index l.places)) ≡ merged_bytes (replicate 64 0) (stores_at l.entries l.places)

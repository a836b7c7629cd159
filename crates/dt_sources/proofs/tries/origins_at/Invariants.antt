use Rattle.std.proofs.Common.{ℕ, ◌≡◌, ◌+◌, ◌<◌, ◌≤◌, length, get_or}
use Rattle.dt_record.specs.declared.origins.Origin.{Origin}
use Rattle.dt_record.specs.declared.origins.Origin.TheVariants as origin
use Rattle.dt_sources.specs.declared.tries.LoadByte.{LoadByte}
use Rattle.dt_sources.specs.Tries.{tried_origin}
use Rattle.dt_sources.proofs.tries.origins_at.Given as goal

-- the sources so far stand in their places
abbrev pub invariant-loop-i : goal.invariant-loop-i
invariant-loop-i l = record {
  long : length l.from ≡ 8;
  done : (j : ℕ) (b : LoadByte) (o : Origin) → j < l.i → get_or l.from j o ≡ tried_origin l.m l.k (l.addr + j) (get_or l.bytes j b);
  still_image : (j : ℕ) (o : Origin) → l.i ≤ j → j < 8 → get_or l.from j o ≡ origin.Image;
}

use Rattle.std.proofs.Common.{◌≡◌, false, Option, Some, None, List, refl}
use Rattle.dt_record.proofs.KeyChains.{key_not_below-chain}
use Rattle.dt_record.specs.declared.keys.Key.{Key}
use Rattle.dt_record.proofs.KeyLaws.{key_below-itself}
use Rattle.dt_record.specs.Actions.{Action}
use Rattle.dt_record.specs.LoadSources.{Rank, Lowest, At, Highest, rank, rank_below, origin_of_key}
use Rattle.dt_versions.specs.Laws.{source_rank}

-- The order of ranks.

pub rank_below-itself : (a : Rank) → rank_below a a ≡ false
rank_below-itself Lowest = refl
rank_below-itself (At key) = key_below-itself key
rank_below-itself Highest = refl

pub not_below_image : (a : Rank) → rank_below a Lowest ≡ false
not_below_image Lowest = refl
not_below_image (At key) = refl
not_below_image Highest = refl

-- what does not stand below one that does not stand below a third does not stand below that
pub not_below-chain : (a b c : Rank) → rank_below a b ≡ false → rank_below b c ≡ false → rank_below a c ≡ false
not_below-chain a b Lowest first second = not_below_image a
not_below-chain a Lowest (At key) first second = cc
not_below-chain Lowest (At j) (At key) first second = cc
not_below-chain (At i) (At j) (At key) first second = key_not_below-chain i j key first second
not_below-chain Highest (At j) (At key) first second = refl
not_below-chain Lowest Highest (At key) first second = cc
not_below-chain (At i) Highest (At key) first second = cc
not_below-chain Highest Highest (At key) first second = refl
not_below-chain a Lowest Highest first second = cc
not_below-chain a (At j) Highest first second = cc
not_below-chain Lowest Highest Highest first second = cc
not_below-chain (At i) Highest Highest first second = cc
not_below-chain Highest Highest Highest first second = refl

pub rank-origin_of_key : (now : List Action) (source : Option Key) → rank now (origin_of_key source) ≡ source_rank source
rank-origin_of_key now None = refl
rank-origin_of_key now (Some key) = refl

use Rattle.dt_versions.proofs.OwnMoments.{IsVisible-own, LiesSince-later, held-earlier}
use Rattle.dt_versions.proofs.laws.own_moments_are_visible.Goals as goal

pub returns : goal.returns
returns c = record { visible = IsVisible-own; since = LiesSince-later; held = held-earlier }

use Rattle.dt_sources.proofs.KeyMoments.{Fits-at_keys}
use Rattle.dt_sources.proofs.laws.reads_at_keys_fit.Goals as goal

pub returns : goal.returns
returns c = Fits-at_keys (record {
  rises = c.sources_rise.ensures;
  visible = c.own_moments_are_visible.ensures.visible;
  since = c.own_moments_are_visible.ensures.since;
  held = c.own_moments_are_visible.ensures.held;
})

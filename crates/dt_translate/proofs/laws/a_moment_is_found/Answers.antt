use Rattle.dt_translate.proofs.Moments.{allowed_moment-found, allowed_moment-newest, fetch_moments-chosen, fetch_moments-found}
use Rattle.dt_translate.proofs.laws.a_moment_is_found.Goals as goal

pub returns : goal.returns
returns c = record { allowed = allowed_moment-found; fetched = fetch_moments-found; newest = allowed_moment-newest; newest_pair = fetch_moments-chosen }

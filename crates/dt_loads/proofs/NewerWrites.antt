use Rattle.std.proofs.Common.{ℕ, ◌≡◌, ◌+◌, ◌↔◌, Option, Some, None, List, IsTrue, refl, sym, ap, subst, ◌∙◌}
use Rattle.std.proofs.lemmas.Bool.{false≢true}
use Rattle.dt_record.proofs.KeyChains.{below-chain}
use Rattle.dt_record.specs.declared.keys.Key.{Key}
use Rattle.dt_record.specs.declared.writes.Write.{Write}
use Rattle.dt_record.specs.declared.accesses.LoadAsk.{LoadAsk}
use Rattle.dt_record.specs.declared.origins.Origin.{Origin}
use Rattle.dt_record.specs.declared.origins.Origin.TheVariants as origin
use Rattle.dt_record.specs.declared.origins.Sources.{Sources}
use Rattle.dt_record.specs.Keys.{KeyBelow}
use Rattle.dt_record.specs.Actions.{Action}
use Rattle.dt_record.specs.LoadSources.{origin_of}
use Rattle.dt_local.specs.LocalMemory.{LocalMemory, newest_of}
use Rattle.dt_sources.specs.Finding.{AreSourcesAt}
use Rattle.dt_sources.specs.Knowing.{IsKnownKey, IsGreatest, Knows}
use Rattle.dt_loads.specs.Newer.{HasNewerByte, is_newer_than}
use Rattle.dt_loads.specs.Reading.{HasNewer}

-- Comparing with the newest key that is known decides whether a write is newer than all.

above_all : (Is : Key → Type 0) (newest : Option Key) (key : Key) → IsGreatest Is newest → IsTrue (is_newer_than newest (origin.Write key)) → (known : Key) → Is known → KeyBelow known key
above_all Is None key greatest newer known is = absurd (false≢true (sym (greatest.bound known is)))
above_all Is (Some n) key greatest newer known is = below-chain known n key (greatest.bound known is) newer

above_newest : (Is : Key → Type 0) (newest : Option Key) (key : Key) → IsGreatest Is newest → ((known : Key) → Is known → KeyBelow known key) → IsTrue (is_newer_than newest (origin.Write key))
above_newest Is None key greatest above = refl
above_newest Is (Some n) key greatest above = above n greatest.one_of_them

-- only a write is newer
only_writes : (newest : Option Key) (source : Origin) → IsTrue (is_newer_than newest source) → (key : Key) × (source ≡ origin.Write key)
only_writes None (origin.Write key) newer = (key, refl)
only_writes (Some n) (origin.Write key) newer = (key, refl)
only_writes None origin.Image newer = absurd (false≢true newer)
only_writes (Some n) origin.Image newer = absurd (false≢true newer)
only_writes None (origin.Store seq) newer = absurd (false≢true newer)
only_writes (Some n) (origin.Store seq) newer = absurd (false≢true newer)

found_newer : (local : LocalMemory) (writes : List Write) (actions : List Action) (moments : ℕ → ℕ) (ask : LoadAsk) (k : ℕ) (sources : Sources)
    → Knows local writes actions moments ask.key → AreSourcesAt writes actions ask k sources → HasNewerByte local ask sources → HasNewer writes actions moments ask k
found_newer local writes actions moments ask k sources knows at has =
    let written = only_writes (newest_of local (ask.addr + has.place)) has.source has.newer in
    let from : Some has.source ≡ Some (origin_of writes actions ask k (ask.addr + has.place)) = sym has.there ∙ at.from has.place has.within in
    let is : origin_of writes actions ask k (ask.addr + has.place) ≡ has.source = cc in
    let newer : IsTrue (is_newer_than (newest_of local (ask.addr + has.place)) (origin.Write written.0)) =
    subst (λ o. IsTrue (is_newer_than (newest_of local (ask.addr + has.place)) o)) written.1 has.newer in (
      has.place,
      record {
        within = has.within;
        key = written.0;
        from = is ∙ written.1;
        above = above_all (IsKnownKey writes actions moments ask.key (ask.addr + has.place)) (newest_of local (ask.addr + has.place)) written.0 (knows (ask.addr + has.place)) newer;
      },
    )

newer_found : (local : LocalMemory) (writes : List Write) (actions : List Action) (moments : ℕ → ℕ) (ask : LoadAsk) (k : ℕ) (sources : Sources)
    → Knows local writes actions moments ask.key → AreSourcesAt writes actions ask k sources → HasNewer writes actions moments ask k → HasNewerByte local ask sources
newer_found local writes actions moments ask k sources knows at has =
    let place = has.0 in
    let is = has.1 in record {
      place = place;
      source = origin.Write is.key;
      within = is.within;
      there = at.from place is.within ∙ ap (λ o. Some o) is.from;
      newer = above_newest (IsKnownKey writes actions moments ask.key (ask.addr + place)) (newest_of local (ask.addr + place)) is.key (knows (ask.addr + place)) is.above;
    }

pub newer_by_newest : (local : LocalMemory) (writes : List Write) (actions : List Action) (moments : ℕ → ℕ) (ask : LoadAsk) (k : ℕ) (sources : Sources)
    → Knows local writes actions moments ask.key → AreSourcesAt writes actions ask k sources → HasNewerByte local ask sources ↔ HasNewer writes actions moments ask k
newer_by_newest local writes actions moments ask k sources knows at =
    (found_newer local writes actions moments ask k sources knows at, newer_found local writes actions moments ask k sources knows at)

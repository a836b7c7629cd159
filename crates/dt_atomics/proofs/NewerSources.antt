use Rattle.std.proofs.Common.{ℕ, ◌≡◌, ◌+◌, ◌↔◌, Option, Some, None, IsTrue, refl, sym, subst}
use Rattle.std.proofs.lemmas.Bool.{false≢true}
use Rattle.dt_record.proofs.KeyChains.{below-chain}
use Rattle.dt_local.specs.LocalMemory.{LocalMemory, newest_of}
use Rattle.dt_record.specs.declared.keys.Key.{Key}
use Rattle.dt_record.specs.declared.origins.Origin.TheVariants as origin
use Rattle.dt_record.specs.Keys.{KeyBelow}
use Rattle.dt_record.specs.LoadSources.{origin_of_key}
use Rattle.dt_record.specs.Memory.{source_at, moment_of}
use Rattle.dt_loads.specs.Newer.{is_newer_than}
use Rattle.dt_sources.specs.Knowing.{IsKnownKey, IsGreatest, Knows}
use Rattle.dt_atomics.specs.declared.accesses.AtomicAccess.{AtomicAccess}
use Rattle.dt_atomics.specs.Grounds.{AtomicGrounds}
use Rattle.dt_atomics.specs.Newer.{HasNewerByte}
use Rattle.dt_atomics.specs.Reading.{ReadsNewer}

-- Comparing with the newest key that is known decides whether a write is newer than all.

above_all : (Is : Key → Type 0) (newest : Option Key) (key : Key) → IsGreatest Is newest → IsTrue (is_newer_than newest (origin.Write key))
    → (known : Key) → Is known → KeyBelow known key
above_all Is None key greatest newer known is = absurd (false≢true (sym (greatest.bound known is)))
above_all Is (Some n) key greatest newer known is = below-chain known n key (greatest.bound known is) newer

above_newest : (Is : Key → Type 0) (newest : Option Key) (key : Key) → IsGreatest Is newest → ((known : Key) → Is known → KeyBelow known key)
    → IsTrue (is_newer_than newest (origin.Write key))
above_newest Is None key greatest above = refl
above_newest Is (Some n) key greatest above = above n greatest.one_of_them

-- only a byte that was written is newer
was_written : (newest source : Option Key) → IsTrue (is_newer_than newest (origin_of_key source)) → (key : Key) × (source ≡ Some key)
was_written None (Some key) newer = (key, refl)
was_written (Some n) (Some key) newer = (key, refl)
was_written None None newer = absurd (false≢true newer)
was_written (Some n) None newer = absurd (false≢true newer)

module _ (g : AtomicGrounds) (key : Key) (x : AtomicAccess) (local : LocalMemory) (knows : Knows local g.writes g.actions g.moments key) where
  found_newer : HasNewerByte local g.writes (moment_of g.writes key) x → ReadsNewer g key x
  found_newer has =
      let addr : ℕ = x.paddr + has.place in
      let written = was_written (newest_of local addr) (source_at g.writes (moment_of g.writes key) addr) has.newer in
      record {
        reading = has.reading;
        place = has.place;
        within = has.within;
        source = written.0;
        from = written.1;
        newer = above_all (IsKnownKey g.writes g.actions g.moments key addr) (newest_of local addr) written.0 (knows addr)
            (subst (λ o. IsTrue (is_newer_than (newest_of local addr) (origin_of_key o))) written.1 has.newer);
      }

  newer_found : ReadsNewer g key x → HasNewerByte local g.writes (moment_of g.writes key) x
  newer_found is =
      let addr : ℕ = x.paddr + is.place in
      let above = above_newest (IsKnownKey g.writes g.actions g.moments key addr) (newest_of local addr) is.source (knows addr) is.newer in
      record {
        reading = is.reading;
        place = is.place;
        within = is.within;
        newer = subst (λ o. IsTrue (is_newer_than (newest_of local addr) (origin_of_key o))) (sym is.from) above;
      }

  pub newer_by_newest : HasNewerByte local g.writes (moment_of g.writes key) x ↔ ReadsNewer g key x
  newer_by_newest = (found_newer, newer_found)

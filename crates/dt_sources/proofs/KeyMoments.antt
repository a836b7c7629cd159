-- Loads that read at the moments of their keys fit.
use Rattle.std.proofs.Common.{ℕ, ◌≡◌, ◌⊎◌, ◌<◌, ◌≤◌, ◌&&◌, Bool, true, false, if◌then◌else◌, Option, Some, None, List, length, take, nat_lt, refl, sym, ap, ◌∙◌, subst, inl, inr, IsTrue, arith}
use Rattle.std.specs.Prelude.{Contains, IfSome}
use Rattle.std.specs.List.{slice_get}
use Rattle.std.specs.Option.{option_map_or}
use Rattle.std.proofs.lemmas.Bool.{and_parts, ltb-true}
use Rattle.std.proofs.lemmas.List.{take-take}
use Rattle.dt_record.specs.declared.keys.Key.{Key}
use Rattle.dt_record.specs.declared.writes.Write.{Write}
use Rattle.dt_record.specs.declared.accesses.LoadAsk.{LoadAsk}
use Rattle.dt_record.specs.declared.origins.Origin.TheVariants as origin
use Rattle.dt_record.specs.Actions.{Action, Stored, Drained, Fenced, Loaded, Atomic, Held, held_of, is_undrained, store_covers, forwarded}
use Rattle.dt_record.specs.Keys.{KeyBelow}
use Rattle.dt_record.proofs.KeyLaws.{KeyBelow-stamps}
use Rattle.dt_record.specs.LoadSources.{FitsLoad, KeepsFloor, Rank, Lowest, At, Highest, is_within, origin_at, origin_of, origin_of_key, rank, rank_below, store_rank}
use Rattle.dt_record.specs.Memory.{covers, moment_of, source_at}
use Rattle.dt_record.specs.Visible.{IsVisible}
use Rattle.dt_versions.specs.History.{are_in_order}
use Rattle.dt_versions.specs.Laws.{EarlierWritesAreHeld, LaterMomentsLieSince, OwnMomentIsVisible, SourcesRise, source_rank}
use Rattle.dt_sources.specs.AtKeys.{ReadsAtItsKey, ReadsAtKeysFit, key_moment, key_moments}
use Rattle.dt_sources.proofs.KnownFloors.{IsStill, still_there}
use Rattle.dt_sources.proofs.Ranks.{rank-origin_of_key}
use Rattle.dt_sources.proofs.Untaken.{untaken_is_forwarded}
use Rattle.dt_sources.proofs.YoungestStores.{forwarded_last, found_again, held_at}

-- the laws of the crate below
pub record Below : Type 0 where
  pub rises : SourcesRise
  pub visible : OwnMomentIsVisible
  pub since : LaterMomentsLieSince
  pub held : EarlierWritesAreHeld

above_all : (other : Rank) → rank_below Highest other ≡ false
above_all Lowest = refl
above_all (At key) = refl
above_all Highest = refl

module _ (laws : Below) (image : List ℕ) (writes : List Write) (actions : List Action) (place : ℕ) (ask : LoadAsk)
    (ordered : IsTrue (are_in_order writes)) (r : ReadsAtItsKey image writes actions place ask) where
  abbrev before : List Action
  before = take place actions

  abbrev now : ℕ
  now = moment_of writes ask.key

  abbrev own : ℕ → Rank
  own byte = rank before (origin_of writes before ask now byte)

  -- a store that was forwarded to the load is drained by no earlier record
  waits : (h : Held) (i byte : ℕ) → slice_get (held_of before) i ≡ Some h → IsTrue (is_undrained ask.at h) → IsTrue (store_covers byte h.store)
      → (o : Option Key) → h.drained ≡ o → h.drained ≡ None
  waits h i byte there undrained covering None is = is
  waits h i byte there undrained covering (Some key) is =
      let wrote = r.judged.drained i h key byte there is covering in
      let stamps = KeyBelow-stamps key ask.key wrote.before in
      let late : nat_lt ask.at key.stamp ≡ true = sym (ap (λ (o : Option Key). option_map_or (λ (n : Key). nat_lt ask.at n.stamp) o true) is) ∙ undrained in
      absurd (omega (arith, ltb-true ask.at key.stamp late, r.now, stamps))

  forwarded_highest : (byte : ℕ) (h : Held) → forwarded ask.at before byte ≡ Some h → rank before (origin.Store h.store.seq) ≡ Highest
  forwarded_highest byte h found =
      let last = forwarded_last ask.at before byte h found in
      let i = length last.before in
      let there = held_at (held_of before) h last.before last.after last.split in
      let passes = and_parts (is_undrained ask.at h) (store_covers byte h.store) last.passes in
      ap (λ (o : Option Held). option_map_or (λ (b : Held). store_rank b.drained) o Highest) (found_again before i h r.judged.apart there)
      ∙ ap store_rank (waits h i byte there passes.0 passes.1 h.drained refl)

  -- the rank of a byte of the load by what is forwarded to it
  abbrev own_from : ℕ → Option Held → Rank
  own_from byte o = rank before (option_map_or (λ h. origin.Store h.store.seq) o (origin_of_key (source_at writes now byte)))

  -- a byte of the load is forwarded, and ranks above all, or comes from memory
  own_rank : (byte : ℕ) → (own byte ≡ Highest) ⊎ ((forwarded ask.at before byte ≡ None) × (own byte ≡ source_rank (source_at writes now byte)))
  own_rank byte = by (forwarded ask.at before byte) refl
    where
      by : (o : Option Held) → forwarded ask.at before byte ≡ o → (own byte ≡ Highest) ⊎ ((forwarded ask.at before byte ≡ None) × (own byte ≡ source_rank (source_at writes now byte)))
      by (Some h) is = inl (ap (own_from byte) is ∙ forwarded_highest byte h is)
      by None is = inr (is, ap (own_from byte) is ∙ rank-origin_of_key before (source_at writes now byte))

  keeps : (byte : ℕ) (other : Rank) → (forwarded ask.at before byte ≡ None → rank_below (source_rank (source_at writes now byte)) other ≡ false)
      → rank_below (own byte) other ≡ false
  keeps byte other by_memory = elim (own_rank byte) [
    | inl high ↦ ap (λ (a : Rank). rank_below a other) high ∙ above_all other
    | inr memory ↦ ap (λ (a : Rank). rank_below a other) memory.1 ∙ by_memory memory.0
  ]

  keeps_write : (byte : ℕ) (w : Write) → Contains writes w → KeyBelow w.key ask.key → IsTrue (covers byte w) → rank_below (own byte) (At w.key) ≡ false
  keeps_write byte w there below covering = keeps byte (At w.key) (λ _. laws.held writes ask.key byte w ordered there below covering)

  keeps_memory : (byte j : ℕ) → j ≤ now → rank_below (own byte) (rank before (origin_of_key (source_at writes j byte))) ≡ false
  keeps_memory byte j earlier =
      ap (rank_below (own byte)) (rank-origin_of_key before (source_at writes j byte))
      ∙ keeps byte (source_rank (source_at writes j byte)) (λ _. laws.rises writes byte j now ordered earlier)

  -- a store that was forwarded to an earlier read still waits, or its drain's write stands before the load
  keeps_store : (m at byte : ℕ) (h : Held) → m ≤ place → forwarded at (take m actions) byte ≡ Some h
      → rank_below (own byte) (rank before (origin.Store h.store.seq)) ≡ false
  keeps_store m at byte h within found =
      let same = take-take m place actions within in
      let still = still_there before m at byte h.store.seq h r.judged.apart (ap (λ (l : List Action). forwarded at l byte) same ∙ found) refl in
      ap (rank_below (own byte)) still.ranks ∙ by still still.held.drained refl
    where
      by : (still : IsStill before byte h.store.seq) (o : Option Key) → still.held.drained ≡ o → rank_below (own byte) (store_rank still.held.drained) ≡ false
      by still None free =
          ap (λ (o : Option Key). rank_below (own byte) (store_rank o)) free
          ∙ keeps byte Highest (λ none.
          let g = untaken_is_forwarded before ask.at byte still.place still.held r.judged.placed still.there free still.covering in
          let no : None ≡ Some g.0 = sym none ∙ g.1 in
          absurd (cc no))
      by still (Some key) taken =
          let wrote = r.judged.drained still.place still.held key byte still.there taken still.covering in
          ap (λ (o : Option Key). rank_below (own byte) (store_rank o)) taken
          ∙ ap (λ (n : Key). rank_below (own byte) (At n)) (sym wrote.is_its)
          ∙ keeps_write byte wrote.write wrote.there (subst (λ (n : Key). KeyBelow n ask.key) (sym wrote.is_its) wrote.before) wrote.covering

  keeps_read : (byte m : ℕ) → m < place
      → IfSome (slice_get actions m) (λ action. IfSome (origin_at writes (take m actions) (key_moments writes actions m) action byte) (λ o. rank_below (own byte) (rank before o) ≡ false))
  keeps_read byte m earlier = by (slice_get actions m) refl
    where
      loaded : (n at : ℕ) → n ≤ now → (b : Bool) (o : Option Held) → forwarded at (take m actions) byte ≡ o
          → IfSome (if b then Some (option_map_or (λ h. origin.Store h.store.seq) o (origin_of_key (source_at writes n byte))) else None) (λ o. rank_below (own byte) (rank before o) ≡ false)
      loaded n at early false o is = tt
      loaded n at early true None is = keeps_memory byte n early
      loaded n at early true (Some h) is = keeps_store m at byte h (omega (arith, earlier)) is

      accessed : (n : ℕ) → n ≤ now → (b : Bool)
          → IfSome (if b then Some (origin_of_key (source_at writes n byte)) else None) (λ o. rank_below (own byte) (rank before o) ≡ false)
      accessed n early false = tt
      accessed n early true = keeps_memory byte n early

      moment_before : (key : Key) → KeyBelow key ask.key → moment_of writes key ≤ now
      moment_before key below = (laws.since writes key ask.key ordered below).rises

      by : (found : Option Action) → slice_get actions m ≡ found
          → IfSome found (λ action. IfSome (origin_at writes (take m actions) (key_moment writes found) action byte) (λ o. rank_below (own byte) (rank before o) ≡ false))
      by None is = tt
      by (Some (Loaded a)) is =
          loaded (moment_of writes a.key) a.at (moment_before a.key (r.rises m (Loaded a) earlier is)) (is_within a.addr a.width byte) (forwarded a.at (take m actions) byte) refl
      by (Some (Atomic key addr width reads acquires)) is =
          accessed (moment_of writes key) (moment_before key (r.rises m (Atomic key addr width reads acquires) earlier is)) (reads && is_within addr width byte)
      by (Some (Stored s)) is = tt
      by (Some (Drained key line count)) is = tt
      by (Some (Fenced ww wr rr)) is = tt

  pub fits_now : FitsLoad image writes before (KeepsFloor writes actions (key_moments writes actions) place ask) ask now
  fits_now = record {
    visible = subst (λ n. IsVisible writes ask.key n now) (sym r.now) (laws.visible writes ask.key ordered);
    value = r.value;
    floor = λ i within. record {
      reads = λ m earlier. keeps_read _ m earlier;
      own_writes = λ w there same below covering. keeps_write _ w there below covering;
    };
  }

pub Fits-at_keys : Below → ReadsAtKeysFit
Fits-at_keys laws image writes actions ordered each place ask is =
    let Floor : ℕ → Rank → Type 0 = KeepsFloor writes actions (key_moments writes actions) place ask in
    subst (λ n. FitsLoad image writes (take place actions) Floor ask n) (sym (ap (key_moment writes) is))
    (fits_now laws image writes actions place ask ordered (each place ask is))

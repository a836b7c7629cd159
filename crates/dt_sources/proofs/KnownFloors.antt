use Rattle.std.proofs.Common.{ℕ, ◌≡◌, ◌&&◌, Bool, true, false, if◌then◌else◌, Option, Some, None, List, [], ◌∷◌, length, take, refl, sym, ap, ◌∙◌, subst, inl, inr, IsTrue, arith}
use Rattle.std.specs.Prelude.{IfSome, option_map}
use Rattle.std.specs.List.{slice_get}
use Rattle.std.specs.Option.{option_map_or}
use Rattle.std.proofs.lemmas.Bool.{and_parts}
use Rattle.std.proofs.lemmas.List.{take_all, take-append-le}
use Rattle.std.proofs.lemmas.Option.{slice_get-map, slice_get_within}
use Rattle.dt_record.specs.declared.keys.Key.{Key}
use Rattle.dt_record.specs.declared.writes.Write.{Write}
use Rattle.dt_record.specs.declared.accesses.OwnStore.{OwnStore}
use Rattle.dt_record.specs.declared.accesses.LoadAsk.{LoadAsk}
use Rattle.dt_record.specs.declared.origins.Origin.{Origin}
use Rattle.dt_record.specs.declared.origins.Origin.TheVariants as origin
use Rattle.dt_record.specs.Keys.{key_below}
use Rattle.dt_record.specs.Memory.{source_at, moment_of}
use Rattle.dt_record.specs.Actions.{Action, Stored, Drained, Fenced, Loaded, Atomic, Held, held_of, is_undrained, store_covers, forwarded}
use Rattle.dt_record.specs.LoadSources.{Rank, At, Highest, rank, rank_below, store_rank, origin_of, origin_of_key, origin_at, is_within, FitsLoad, KeepsFloor}
use Rattle.dt_versions.specs.Laws.{source_rank}
use Rattle.dt_stores.specs.Standing.{stores_of}
use Rattle.dt_local.specs.LocalMemory.{LocalMemory, newest_of}
use Rattle.dt_sources.specs.Choice.{then_action}
use Rattle.dt_sources.specs.Finding.{StoresAreApart, KeepsNewest}
use Rattle.dt_sources.specs.Knowing.{IsKnownKey, Knows, AreJudged, KnownIsFloor, KnownFitIsFit}
use Rattle.dt_sources.proofs.Fronts.{floor_along, front_is_same, same_back}
use Rattle.dt_sources.proofs.Ranks.{not_below_image, not_below-chain}
use Rattle.dt_sources.proofs.Untaken.{untaken_is_forwarded}
use Rattle.dt_sources.proofs.YoungestStores.{forwarded_last, found_again, held_at, stores_held, stores_of-front}

-- The newest keys of local memory ask what the floor of a load asks.

if_some : {X : Type 0} (P : X → Type 0) (o : Option X) → ((x : X) → o ≡ Some x → P x) → IfSome o P
if_some P None each = tt
if_some P (Some x) each = each x refl

-- a read that had a store had it forwarded
store_was_forwarded : (writes : List Write) (before : List Action) (k : ℕ) (action : Action) (byte seq : ℕ) → origin_at writes before k action byte ≡ Some (origin.Store seq)
    → (at : ℕ) × (h : Held) × (forwarded at before byte ≡ Some h) × (h.store.seq ≡ seq)
store_was_forwarded writes before k (Loaded a) byte seq had = within (is_within a.addr a.width byte) had
  where
    of_key : (o : Option Key) → origin_of_key o ≡ origin.Store seq → ⊥
    of_key None is = cc is
    of_key (Some key) is = cc is

    from : (o : Option Held) → forwarded a.at before byte ≡ o → option_map_or (λ (h : Held). origin.Store h.store.seq) o (origin_of_key (source_at writes k byte)) ≡ origin.Store seq
        → (at : ℕ) × (h : Held) × (forwarded at before byte ≡ Some h) × (h.store.seq ≡ seq)
    from None is gives = absurd (of_key (source_at writes k byte) gives)
    from (Some h) is gives = (a.at, h, is, cc gives)

    within : (b : Bool) → (if b then Some (origin_of writes before a k byte) else None) ≡ Some (origin.Store seq)
        → (at : ℕ) × (h : Held) × (forwarded at before byte ≡ Some h) × (h.store.seq ≡ seq)
    within true gives = from (forwarded a.at before byte) refl (cc gives)
    within false gives = absurd (cc gives)
store_was_forwarded writes before k (Atomic key addr width reads acquires) byte seq had = absurd (within (reads && is_within addr width byte) had)
  where
    of_key : (o : Option Key) → Some (origin_of_key o) ≡ Some (origin.Store seq) → ⊥
    of_key None is = cc is
    of_key (Some k) is = cc is

    within : (b : Bool) → (if b then Some (origin_of_key (source_at writes (moment_of writes key) byte)) else None) ≡ Some (origin.Store seq) → ⊥
    within true gives = of_key (source_at writes (moment_of writes key) byte) gives
    within false gives = cc gives
store_was_forwarded writes before k (Stored s) byte seq had = absurd (cc had)
store_was_forwarded writes before k (Drained key line count) byte seq had = absurd (cc had)
store_was_forwarded writes before k (Fenced ww wr rr) byte seq had = absurd (cc had)

-- a store that was forwarded to a read is one of the hart's stores later on
pub record IsStill (actions : List Action) (byte seq : ℕ) : Type 0 where
  pub place : ℕ
  pub held : Held
  pub there : slice_get (held_of actions) place ≡ Some held
  pub covering : IsTrue (store_covers byte held.store)
  pub ranks : rank actions (origin.Store seq) ≡ store_rank held.drained

pub still_there : (actions : List Action) (m at byte seq : ℕ) (h : Held) → StoresAreApart actions → forwarded at (take m actions) byte ≡ Some h → h.store.seq ≡ seq → IsStill actions byte seq
still_there actions m at byte seq h apart found is_seq =
    let last = forwarded_last at (take m actions) byte h found in
    let i = length last.before in
    let was : slice_get (stores_of (take m actions)) i ≡ Some h.store =
    ap (λ l. slice_get l i) (sym (stores_held (take m actions)))
    ∙ slice_get-map (λ (b : Held). b.store) (held_of (take m actions)) i
    ∙ ap (option_map (λ (b : Held). b.store)) (held_at (held_of (take m actions)) h last.before last.after last.split) in
    let is : slice_get (stores_of actions) i ≡ Some h.store = stores_of-front m actions i h.store was in
    let mapped : option_map (λ (b : Held). b.store) (slice_get (held_of actions) i) ≡ Some h.store =
    sym (slice_get-map (λ (b : Held). b.store) (held_of actions) i) ∙ ap (λ l. slice_get l i) (stores_held actions) ∙ is in
    later (slice_get (held_of actions) i) i refl mapped (and_parts (is_undrained at h) (store_covers byte h.store) last.passes).1
  where
    later : (o : Option Held) (i : ℕ) → slice_get (held_of actions) i ≡ o → option_map (λ (b : Held). b.store) o ≡ Some h.store → IsTrue (store_covers byte h.store) → IsStill actions byte seq
    later None i is gives covering = absurd (cc gives)
    later (Some g) i is gives covering =
        let same : g.store ≡ h.store = cc gives in
        let seq_is : g.store.seq ≡ seq = ap (λ (s : OwnStore). s.seq) same ∙ is_seq in
        record {
          place = i;
          held = g;
          there = is;
          covering = subst (λ s. IsTrue (store_covers byte s)) (sym same) covering;
          ranks = ap (λ n. rank actions (origin.Store n)) (sym seq_is) ∙ ap (λ (o : Option Held). option_map_or (λ (b : Held). store_rank b.drained) o Highest) (found_again actions i g apart is);
        }

known_keeps_floor : (local : LocalMemory) (writes : List Write) (actions : List Action) (moments : ℕ → ℕ) (ask : LoadAsk)
    → Knows local writes actions moments ask.key → AreJudged writes actions ask.key → (k byte : ℕ)
    → KeepsNewest local byte (rank actions (origin_of writes actions ask k byte))
    → KeepsFloor writes actions moments (length actions) ask byte (rank actions (origin_of writes actions ask k byte))
known_keeps_floor local writes actions moments ask knows judged k byte keeps = record {
  reads = λ m before. if_some _ (slice_get actions m) (λ action there. if_some _ (origin_at writes (take m actions) (moments m) action byte) (λ o had.
      subst (λ now. rank_below own (rank now o) ≡ false) (sym (take_all (length actions) actions (omega arith))) (kept m action o there had)));
  own_writes = λ w there own_hart before covering. at_known w.key (inr (record { write = w; there = there; is_its = refl; own = own_hart; before = before; covering = covering }));
}
  where
    own : Rank
    own = rank actions (origin_of writes actions ask k byte)

    at_known : (key : Key) → IsKnownKey writes actions moments ask.key byte key → rank_below own (At key) ≡ false
    at_known key known = not_below-chain own (source_rank (newest_of local byte)) (At key) keeps ((knows byte).bound key known)

    of_store : (still : Held) (i : ℕ) → slice_get (held_of actions) i ≡ Some still → IsTrue (store_covers byte still.store) → (o : Option Key) → still.drained ≡ o → rank_below own (store_rank o) ≡ false
    of_store still i there covering (Some key) drained = at_known key (inr (judged.drained i still key byte there drained covering))
    of_store still i there covering None free =
        let waits = untaken_is_forwarded actions ask.at byte i still judged.placed there free covering in
        let g : Held = waits.0 in
        let last = forwarded_last ask.at actions byte g waits.1 in
        let highest : own ≡ Highest =
        ap (λ (o : Option Held). rank actions (option_map_or (λ (h : Held). origin.Store h.store.seq) o (origin_of_key (source_at writes k byte)))) waits.1
        ∙ ap (λ (o : Option Held). option_map_or (λ (b : Held). store_rank b.drained) o Highest) (found_again actions (length last.before) g judged.apart (held_at (held_of actions) g last.before last.after last.split))
        ∙ ap store_rank waits.2 in
        ap (λ r. rank_below r Highest) highest

    kept : (m : ℕ) (action : Action) (o : Origin) → slice_get actions m ≡ Some action → origin_at writes (take m actions) (moments m) action byte ≡ Some o → rank_below own (rank actions o) ≡ false
    kept m action origin.Image there had = not_below_image own
    kept m action (origin.Write key) there had = at_known key (inl (record { place = m; action = action; there = there; had = had }))
    kept m action (origin.Store seq) there had =
        let from = store_was_forwarded writes (take m actions) (moments m) action byte seq had in
        let still = still_there actions m from.0 byte seq from.1 judged.apart from.2 from.3 in
        ap (rank_below own) still.ranks ∙ of_store still.held still.place still.there still.covering still.held.drained refl

floor_keeps_known : (local : LocalMemory) (writes : List Write) (actions : List Action) (moments : ℕ → ℕ) (ask : LoadAsk)
    → Knows local writes actions moments ask.key → (byte : ℕ) (own : Rank)
    → KeepsFloor writes actions moments (length actions) ask byte own → KeepsNewest local byte own
floor_keeps_known local writes actions moments ask knows byte own floor = newest (newest_of local byte) (knows byte).one_of_them
  where
    newest : (o : Option Key) → IfSome o (IsKnownKey writes actions moments ask.key byte) → rank_below own (source_rank o) ≡ false
    newest None none = not_below_image own
    newest (Some key) (inl had) =
        let within = slice_get_within actions had.place had.action had.there in
        let at_place = subst (λ found. IfSome found (λ action. IfSome (origin_at writes (take had.place actions) (moments had.place) action byte) (λ o. rank_below own (rank (take (length actions) actions) o) ≡ false)))
        had.there (floor.reads had.place within) in
        subst (λ found. IfSome found (λ o. rank_below own (rank (take (length actions) actions) o) ≡ false)) had.had at_place
    newest (Some key) (inr wrote) =
        ap (λ n. rank_below own (At n)) (sym wrote.is_its)
        ∙ floor.own_writes wrote.write wrote.there (ap (λ (n : Key). n.hart) wrote.is_its ∙ wrote.own) (subst (λ n. IsTrue (key_below n ask.key)) (sym wrote.is_its) wrote.before) wrote.covering

pub known_floor : KnownIsFloor
known_floor local writes actions moments ask knows judged k byte =
    let next = then_action actions (Loaded ask) in
    let own = rank actions (origin_of writes actions ask k byte) in
    let same = front_is_same (length actions) actions (Loaded ask ∷ []) moments moments (omega arith) (λ m before. refl) in (
      λ keeps. floor_along writes actions next moments moments (length actions) ask byte own (same_back (length actions) next actions moments moments same)
          (known_keeps_floor local writes actions moments ask knows judged k byte keeps),
      λ floor. floor_keeps_known local writes actions moments ask knows byte own (floor_along writes next actions moments moments (length actions) ask byte own same floor),
    )

pub known_fit : KnownFitIsFit
known_fit image local writes actions moments ask knows judged k =
    let next = then_action actions (Loaded ask) in
    let front : take (length actions) next ≡ actions = take-append-le (length actions) actions (Loaded ask ∷ []) (omega arith) ∙ take_all (length actions) actions (omega arith) in
    let Floor : ℕ → Rank → Type 0 = KeepsFloor writes next moments (length actions) ask in (
      λ fits. subst (λ before. FitsLoad image writes before Floor ask k) (sym front) (record {
        visible = fits.visible;
        value = fits.value;
        floor = λ i within. (known_floor local writes actions moments ask knows judged k _).0 (fits.floor i within);
      }),
      λ fits.
          let moved : FitsLoad image writes actions Floor ask k = subst (λ before. FitsLoad image writes before Floor ask k) front fits in
          record {
            visible = moved.visible;
            value = moved.value;
            floor = λ i within. (known_floor local writes actions moments ask knows judged k _).1 (moved.floor i within);
          },
    )

use Rattle.std.proofs.Common.{ℕ, ◌≡◌, ◌%◌, ◌==◌, true, if◌then◌else◌, nat_lt, not, Some, None, List, [], ◌∷◌, ◌++◌, length, filter, take, zero, suc, refl, sym, ap, ◌∙◌, subst, inl, inr, IsTrue}
use Rattle.std.specs.Prelude.{Contains}
use Rattle.std.specs.Int.{bit_at}
use Rattle.std.specs.List.{list_all, slice_get}
use Rattle.std.proofs.lemmas.Bool.{cases_Bool, and_parts, and_from, eq-eqb, ltb-true, ne_eqb}
use Rattle.std.proofs.lemmas.List.{append-nil}
use Rattle.std.proofs.lemmas.List.Folds.{list_all-append}
use Rattle.dt_record.proofs.KeyChains.{below-not_above}
use Rattle.dt_record.specs.declared.keys.Key.{Key}
use Rattle.dt_record.specs.declared.writes.Write.{Write}
use Rattle.dt_record.specs.declared.accesses.OwnStore.{OwnStore}
use Rattle.dt_record.specs.Keys.{KeyBelow}
use Rattle.dt_record.specs.Memory.{line_of}
use Rattle.dt_record.specs.Actions.{Action, Stored, Drained, Fenced, Loaded, Atomic, Held, held_of, raised, store_covers, ww_fences, wr_fences}
use Rattle.dt_record.proofs.Holding.{held_from, held-is_from}
use Rattle.dt_stores.specs.Kept.{Kept}
use Rattle.dt_stores.specs.Standing.{StoresStand, stores_of}
use Rattle.dt_stores.specs.Draining.{is_waiting_on}
use Rattle.dt_stores.specs.Places.{is_store_place}
use Rattle.dt_stores.specs.Plans.{TakesFirst, is_among_first}
use Rattle.dt_stores.specs.GoingOn.{StoresGoOn, is_quiet}
use Rattle.dt_sources.specs.Choice.{then_action}
use Rattle.dt_sources.specs.Finding.{are_apart}
use Rattle.dt_sources.specs.Knowing.{WroteBefore, AreJudged}
use Rattle.dt_judged.specs.Covering.{taken_by, DrainsCoverStores}
use Rattle.dt_judged.specs.GoingOn.{IsOnward, IsNewNumber, IsAllowedDrain, JudgedGoesOn}
use Rattle.dt_judged.proofs.Covered.{taken_parts}
use Rattle.dt_judged.proofs.Elements.{before_or_last, front_place, mapped_from, passing_place, all_pass}

-- How the actions of a hart go on being judged.

carried : (writes : List Write) (next after : Key) (byte : ℕ) (key : Key) → IsOnward next after → WroteBefore writes next byte key → WroteBefore writes after byte key
carried writes next after byte key onward wrote = record {
  write = wrote.write;
  there = wrote.there;
  is_its = wrote.is_its;
  own = wrote.own ∙ onward.hart;
  before = below-not_above key next after wrote.before onward.rises;
  covering = wrote.covering;
}

with_more : (writes more : List Write) (next : Key) (byte : ℕ) (key : Key) → ((w : Write) → Contains writes w → Contains more w) → WroteBefore writes next byte key → WroteBefore more next byte key
with_more writes more next byte key each wrote = record {
  write = wrote.write;
  there = each wrote.write wrote.there;
  is_its = wrote.is_its;
  own = wrote.own;
  before = wrote.before;
  covering = wrote.covering;
}

-- the same stores after other actions
same_stores : (writes : List Write) (actions others : List Action) (next after : Key) → AreJudged writes actions next → IsOnward next after
    → stores_of others ≡ stores_of actions → held_of others ≡ held_of actions → AreJudged writes others after
same_stores writes actions others next after judged onward stores held = record {
  apart = ap are_apart stores ∙ judged.apart;
  placed = ap (list_all is_store_place) stores ∙ judged.placed;
  drained = λ i h key byte there taken covering.
      carried writes next after byte key onward (judged.drained i h key byte (ap (λ l. slice_get l i) (sym held) ∙ there) taken covering);
}

no_store : (action : Action) → IsTrue (is_quiet action) → stores_of (action ∷ []) ≡ []
no_store (Stored s) quiet = absurd (cc quiet)
no_store (Drained key line count) quiet = refl
no_store (Fenced ww wr rr) quiet = refl
no_store (Loaded ask) quiet = refl
no_store (Atomic key addr width reads acquires) quiet = refl

quiet_goes_on : StoresGoOn → (writes : List Write) (actions : List Action) (action : Action) (next after : Key)
    → AreJudged writes actions next → IsOnward next after → IsTrue (is_quiet action) → AreJudged writes (then_action actions action) after
quiet_goes_on laws writes actions action next after judged onward quiet =
    same_stores writes actions (then_action actions action) next after judged onward
    (laws.stores actions action ∙ ap (λ l. stores_of actions ++ l) (no_store action quiet) ∙ append-nil (stores_of actions))
    (laws.quiet actions action quiet)

-- stores stay apart from one with a new number
apart_from_last : (xs : List OwnStore) (s : OwnStore) → are_apart xs ≡ true → list_all (λ t. not (t.seq == s.seq)) xs ≡ true → are_apart (xs ++ s ∷ []) ≡ true
apart_from_last [] s apart new = refl
apart_from_last (x ∷ xs) s apart new =
    let here = and_parts (list_all (λ t. not (x.seq == t.seq)) xs) (are_apart xs) apart in
    let ends = and_parts (not (x.seq == s.seq)) (list_all (λ t. not (t.seq == s.seq)) xs) new in
    and_from (list_all (λ t. not (x.seq == t.seq)) (xs ++ s ∷ [])) (are_apart (xs ++ s ∷ []))
    (list_all-append (λ t. not (x.seq == t.seq)) xs (s ∷ []) ∙ and_from (list_all (λ t. not (x.seq == t.seq)) xs) (list_all (λ t. not (x.seq == t.seq)) (s ∷ [])) here.0 (and_from (not (x.seq == s.seq)) true ends.0 refl))
    (apart_from_last xs s here.1 ends.1)

stored_goes_on : StoresGoOn → (kept : Kept) (writes : List Write) (actions : List Action) (s : OwnStore) (next after : Key) → StoresStand kept actions
    → AreJudged writes actions next → IsOnward next after → IsTrue (is_store_place s) → IsNewNumber actions s.seq
    → AreJudged writes (then_action actions (Stored s)) after
stored_goes_on laws kept writes actions s next after stands judged onward placed new = record {
  apart = ap are_apart (laws.stores actions (Stored s)) ∙ apart_from_last (stores_of actions) s judged.apart
      (all_pass (λ t. not (t.seq == s.seq)) (stores_of actions) (λ t among. ap not (ne_eqb t.seq s.seq (new t among))));
  placed = ap (list_all is_store_place) (laws.stores actions (Stored s)) ∙ list_all-append is_store_place (stores_of actions) (s ∷ [])
      ∙ and_from (list_all is_store_place (stores_of actions)) (list_all is_store_place (s ∷ [])) judged.placed (and_from (is_store_place s) true placed refl);
  drained = λ i h key byte there taken covering.
      let last : Held = record { store = s; barrier = ww_fences actions; readers = wr_fences actions; drained = None } in
      elim (before_or_last (held_of actions) last i h (ap (λ l. slice_get l i) (sym (laws.stored kept actions s stands)) ∙ there)) [
        | inl earlier ↦ carried writes next after byte key onward (judged.drained i h key byte earlier taken covering)
        | inr here ↦ absurd (let free : None ≡ Some key = ap (λ (b : Held). b.drained) here ∙ taken in cc free)
      ];
}

-- a store among placed ones is placed
placed_there : (all : List Action) (seen : List OwnStore) (ww wr : ℕ) (xs : List Action) (i : ℕ) (h : Held)
    → list_all is_store_place (stores_of xs) ≡ true → slice_get (held_from all seen ww wr xs) i ≡ Some h → is_store_place h.store ≡ true
placed_there all seen ww wr [] i h placed there = absurd (cc there)
placed_there all seen ww wr (Stored s ∷ xs) zero h placed there =
    let same : s ≡ h.store = cc there in
    ap is_store_place (sym same) ∙ (and_parts (is_store_place s) (list_all is_store_place (stores_of xs)) placed).0
placed_there all seen ww wr (Stored s ∷ xs) (suc i) h placed there =
    placed_there all (seen ++ s ∷ []) ww wr xs i h (and_parts (is_store_place s) (list_all is_store_place (stores_of xs)) placed).1 there
placed_there all seen ww wr (Drained key line count ∷ xs) i h placed there = placed_there all seen ww wr xs i h placed there
placed_there all seen ww wr (Fenced fence_ww fence_wr fence_rr ∷ xs) i h placed there = placed_there all seen (raised ww fence_ww) (raised wr fence_wr) xs i h placed there
placed_there all seen ww wr (Loaded ask ∷ xs) i h placed there = placed_there all seen ww wr xs i h placed there
placed_there all seen ww wr (Atomic key addr width reads acquires ∷ xs) i h placed there = placed_there all seen ww wr xs i h placed there

-- the write of a drain covers the stores that the drain takes
wrote_by : DrainsCoverStores → (writes : List Write) (actions : List Action) (line count : ℕ) (next after : Key) (i : ℕ) (h : Held) (byte : ℕ)
    → IsOnward next after → KeyBelow next after → IsAllowedDrain writes actions next line count
    → slice_get (taken_by actions line count) i ≡ Some h → IsTrue (is_store_place h.store) → IsTrue (store_covers byte h.store) → WroteBefore writes after byte next
wrote_by covers_stores writes actions line count next after i h byte onward later allowed there placed covering =
    let w : Write = allowed.write in
    let covered = covers_stores actions line count w.mask allowed.bytes i h byte allowed.took there placed covering in
    record {
      write = w;
      there = allowed.there;
      is_its = allowed.is_its;
      own = onward.hart;
      before = later;
      covering = and_from (w.line == line_of byte) (bit_at w.mask (byte % 64) == 1)
          (eq-eqb w.line (line_of byte) (allowed.on_line ∙ sym covered.0)) (eq-eqb (bit_at w.mask (byte % 64)) 1 covered.1);
    }

drained_goes_on : StoresGoOn → DrainsCoverStores → (kept : Kept) (writes : List Write) (actions : List Action) (line count : ℕ) (next after : Key) → StoresStand kept actions
    → AreJudged writes actions next → IsOnward next after → KeyBelow next after → IsAllowedDrain writes actions next line count
    → AreJudged writes (then_action actions (Drained next line count)) after
drained_goes_on laws covers_stores kept writes actions line count next after stands judged onward later allowed =
    let stores : stores_of (then_action actions (Drained next line count)) ≡ stores_of actions = laws.stores actions (Drained next line count) ∙ append-nil (stores_of actions) in
    record {
      apart = ap are_apart stores ∙ judged.apart;
      placed = ap (list_all is_store_place) stores ∙ judged.placed;
      drained = λ i h key byte there taken covering.
          let was = mapped_from (drained_at i) (slice_get (held_of actions) i) h (sym (takes i) ∙ there) in
          by_cases i was.0 h key byte was.1 was.2 taken covering;
    }
  where
    takes : TakesFirst line next count (held_of actions) (held_of (then_action actions (Drained next line count)))
    takes = laws.drained kept actions next line count stands (taken_parts (held_of actions) line count allowed.write.mask allowed.bytes allowed.took).enough

    drained_at : ℕ → Held → Held
    drained_at i g = if is_among_first line count (held_of actions) i g then record g { drained = Some next } else g

    now_taken : (i : ℕ) (g : Held) (byte : ℕ) → slice_get (held_of actions) i ≡ Some g → is_among_first line count (held_of actions) i g ≡ true
        → IsTrue (store_covers byte g.store) → WroteBefore writes after byte next
    now_taken i g byte there among covering =
        let before : ℕ = length (filter (is_waiting_on line) (take i (held_of actions))) in
        let parts = and_parts (is_waiting_on line g) (nat_lt before count) among in
        let place = front_place count (filter (is_waiting_on line) (held_of actions)) before g (ltb-true before count parts.1)
        (passing_place (is_waiting_on line) (held_of actions) i g there parts.0) in
        wrote_by covers_stores writes actions line count next after before g byte onward later allowed place
        (placed_there actions [] 0 0 actions i g judged.placed (ap (λ l. slice_get l i) (sym (held-is_from actions)) ∙ there)) covering

    by_cases : (i : ℕ) (g h : Held) (key : Key) (byte : ℕ) → slice_get (held_of actions) i ≡ Some g → drained_at i g ≡ h
        → h.drained ≡ Some key → IsTrue (store_covers byte h.store) → WroteBefore writes after byte key
    by_cases i g h key byte there gives taken covering =
        elim (cases_Bool (is_among_first line count (held_of actions) i g)) [
          | inl among ↦
              let now : record g { drained = Some next } ≡ h = rw among at gives in
              let its : next ≡ key = (let both : Some next ≡ Some key = ap (λ (b : Held). b.drained) now ∙ taken in cc both) in
              let same : g.store ≡ h.store = ap (λ (b : Held). b.store) now in
              subst (WroteBefore writes after byte) its (now_taken i g byte there among (ap (store_covers byte) same ∙ covering))
          | inr other ↦
              let same : g ≡ h = rw other at gives in
              carried writes next after byte key onward (judged.drained i h key byte (there ∙ ap (λ (b : Held). Some b) same) taken covering)
        ]

pub onward_laws : StoresGoOn → DrainsCoverStores → JudgedGoesOn
onward_laws laws covers_stores = record {
  at_first = λ writes next. record { apart = refl; placed = refl; drained = λ i h key byte there taken covering. absurd (cc there) };
  more_writes = λ writes more actions next judged each. record {
    apart = judged.apart;
    placed = judged.placed;
    drained = λ i h key byte there taken covering. with_more writes more next byte key each (judged.drained i h key byte there taken covering);
  };
  other_record = λ writes actions next after judged onward. same_stores writes actions actions next after judged onward refl refl;
  quiet = quiet_goes_on laws;
  stored = stored_goes_on laws;
  drained = drained_goes_on laws covers_stores;
}

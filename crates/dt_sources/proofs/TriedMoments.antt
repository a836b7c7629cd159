use Rattle.std.proofs.Common.{ℕ, ◌≡◌, ◌+◌, ◌*◌, ◌<◌, ◌≤◌, ◌%◌, ◌==◌, ◌&&◌, true, false, Option, Some, None, option_map, List, [], ◌∷◌, length, length-take, take, get_or, zero, suc, refl, sym, ap, ◌∙◌, subst, inl, inr, IsTrue, arith}
use Rattle.std.specs.Option.{option_map_or}
use Rattle.std.specs.List.{slice_get}
use Rattle.std.proofs.lemmas.Bool.{and_parts, and_from, cases_lt, eqb-true, eq-eqb, not-true, not_from_false, false≢true}
use Rattle.std.proofs.lemmas.Bool.Decides.{nat_tests}
use Rattle.std.proofs.lemmas.Option.{slice_get-get_or}
use Rattle.dt_lists.proofs.Lists.{slice_get-take}
use Rattle.dt_record.specs.declared.accesses.LoadAsk.{LoadAsk}
use Rattle.dt_record.specs.declared.origins.Origin.{Origin}
use Rattle.dt_record.specs.declared.origins.Origin.TheVariants as origin
use Rattle.dt_record.specs.Memory.{memory_at, source_at}
use Rattle.dt_record.specs.Visible.{IsVisible}
use Rattle.dt_record.specs.Actions.{Action, Held, held_of, forwarded}
use Rattle.dt_record.specs.Lawful.{is_in_ram}
use Rattle.dt_record.specs.LoadSources.{Highest, rank, rank_below, store_rank, stored_byte, origin_of, origin_of_key, found_byte, found_value}
use Rattle.dt_versions.specs.History.{History}
use Rattle.dt_versions.specs.Laws.{source_rank}
use Rattle.dt_versions.specs.Spans.{AreVisible}
use Rattle.dt_stores.specs.declared.answers.Forward.{Forward}
use Rattle.dt_stores.specs.Places.{is_store_width}
use Rattle.dt_stores.specs.Draining.{forward_of, forward_after}
use Rattle.dt_local.specs.LocalMemory.{LocalMemory, newest_of}
use Rattle.dt_sources.specs.declared.tries.LoadByte.{LoadByte}
use Rattle.dt_sources.specs.Finding.{is_load_place, StoresAreApart, KeepsNewest, FitsAsKnown, IsLeastMoment}
use Rattle.dt_sources.specs.Tries.{tried_byte, tried_origin, tried_rank, tried_value, is_kept, are_kept, are_fit}
use Rattle.dt_sources.proofs.Ranks.{rank-origin_of_key}
use Rattle.dt_sources.proofs.YoungestStores.{forwarded_last, found_again, held_at}

-- A moment that is tried with what is known of each byte fits exactly where the load may read there.

-- what is known of each byte of a load from an address on
pub record AreKnown (actions : List Action) (local : LocalMemory) (at addr : ℕ) (bytes : List LoadByte) : Type 0 where
  pub own : (i : ℕ) (b : LoadByte) → slice_get bytes i ≡ Some b → b.own ≡ forward_after actions (addr + i) at
  pub newest : (i : ℕ) (b : LoadByte) → slice_get bytes i ≡ Some b → b.newest ≡ newest_of local (addr + i)

known_first : (actions : List Action) (local : LocalMemory) (at addr : ℕ) (b : LoadByte) (bs : List LoadByte) → AreKnown actions local at addr (b ∷ bs)
    → (b.own ≡ forward_after actions addr at) × (b.newest ≡ newest_of local addr)
known_first actions local at addr b bs known =
    let here : addr + 0 ≡ addr = omega arith in
    (known.own 0 b refl ∙ ap (λ n. forward_after actions n at) here, known.newest 0 b refl ∙ ap (newest_of local) here)

known_rest : (actions : List Action) (local : LocalMemory) (at addr : ℕ) (b : LoadByte) (bs : List LoadByte) → AreKnown actions local at addr (b ∷ bs)
    → AreKnown actions local at (addr + 1) bs
known_rest actions local at addr b bs known = record {
  own = λ i d is. let there : addr + suc i ≡ addr + 1 + i = omega arith in known.own (suc i) d is ∙ ap (λ n. forward_after actions n at) there;
  newest = λ i d is. let there : addr + suc i ≡ addr + 1 + i = omega arith in known.newest (suc i) d is ∙ ap (newest_of local) there;
}

byte_forwarded : (addr m : ℕ) (o : Option Held) → option_map_or (λ f. f.byte) (option_map (forward_of addr) o) m ≡ option_map_or (stored_byte addr) o m
byte_forwarded addr m None = refl
byte_forwarded addr m (Some h) = refl

byte_is : (h : History) (actions : List Action) (ask : LoadAsk) (k addr : ℕ) (b : LoadByte) → b.own ≡ forward_after actions addr ask.at
    → tried_byte h k addr b ≡ found_byte h.image h.writes actions ask k addr
byte_is h actions ask k addr b own =
    ap (λ o. option_map_or (λ f. f.byte) o (memory_at h.image h.writes k addr)) own
    ∙ byte_forwarded addr (memory_at h.image h.writes k addr) (forwarded ask.at actions addr)

pub origin_is : (h : History) (actions : List Action) (ask : LoadAsk) (k addr : ℕ) (b : LoadByte) → b.own ≡ forward_after actions addr ask.at
    → tried_origin h k addr b ≡ origin_of h.writes actions ask k addr
origin_is h actions ask k addr b own =
    ap (λ o. option_map_or (λ f. origin.Store f.seq) o (origin_of_key (source_at h.writes k addr))) own ∙ forwarded_origin (forwarded ask.at actions addr)
  where
    forwarded_origin : (o : Option Held) → option_map_or (λ (f : Forward). origin.Store f.seq) (option_map (forward_of addr) o) (origin_of_key (source_at h.writes k addr))
        ≡ option_map_or (λ (g : Held). origin.Store g.store.seq) o (origin_of_key (source_at h.writes k addr))
    forwarded_origin None = refl
    forwarded_origin (Some g) = refl

rank_is : (h : History) (actions : List Action) (ask : LoadAsk) (k addr : ℕ) (b : LoadByte) → StoresAreApart actions → b.own ≡ forward_after actions addr ask.at
    → tried_rank h k addr b ≡ rank actions (origin_of h.writes actions ask k addr)
rank_is h actions ask k addr b apart own =
    ap (λ o. option_map_or (λ f. store_rank f.drained) o (source_rank (source_at h.writes k addr))) own ∙ forwarded_rank (forwarded ask.at actions addr) refl
  where
    forwarded_rank : (o : Option Held) → forwarded ask.at actions addr ≡ o
        → option_map_or (λ (f : Forward). store_rank f.drained) (option_map (forward_of addr) o) (source_rank (source_at h.writes k addr))
        ≡ rank actions (option_map_or (λ (g : Held). origin.Store g.store.seq) o (origin_of_key (source_at h.writes k addr)))
    forwarded_rank None is = sym (rank-origin_of_key actions (source_at h.writes k addr))
    forwarded_rank (Some g) is =
        let last = forwarded_last ask.at actions addr g is in
        sym (ap (λ (o : Option Held). option_map_or (λ (f : Held). store_rank f.drained) o Highest) (found_again actions (length last.before) g apart (held_at (held_of actions) g last.before last.after last.split)))

value_is : (h : History) (actions : List Action) (local : LocalMemory) (ask : LoadAsk) (k addr : ℕ) (bytes : List LoadByte) → AreKnown actions local ask.at addr bytes
    → tried_value h k addr bytes ≡ found_value h.image h.writes actions ask k (length bytes) addr
value_is h actions local ask k addr [] known = refl
value_is h actions local ask k addr (b ∷ bs) known =
    let first = byte_is h actions ask k addr b (known_first actions local ask.at addr b bs known).0 in
    let rest = value_is h actions local ask k (addr + 1) bs (known_rest actions local ask.at addr b bs known) in
    ap (λ n. n + 256 * tried_value h k (addr + 1) bs) first ∙ ap (λ n. found_byte h.image h.writes actions ask k addr + 256 * n) rest

-- the bytes from an address on keep what is newest
abbrev KeepAll : History → List Action → LocalMemory → LoadAsk → (k addr width : ℕ) → Type 0
KeepAll h actions local ask k addr width = (i : ℕ) → i < width → KeepsNewest local (addr + i) (rank actions (origin_of h.writes actions ask k (addr + i)))

below_is : (h : History) (actions : List Action) (local : LocalMemory) (ask : LoadAsk) (k addr : ℕ) (b : LoadByte) → StoresAreApart actions
    → b.own ≡ forward_after actions addr ask.at → b.newest ≡ newest_of local addr
    → rank_below (tried_rank h k addr b) (source_rank b.newest) ≡ rank_below (rank actions (origin_of h.writes actions ask k addr)) (source_rank (newest_of local addr))
below_is h actions local ask k addr b apart own newest =
    ap (λ r. rank_below r (source_rank b.newest)) (rank_is h actions ask k addr b apart own)
    ∙ ap (λ n. rank_below (rank actions (origin_of h.writes actions ask k addr)) (source_rank n)) newest

kept_all : (h : History) (actions : List Action) (local : LocalMemory) (ask : LoadAsk) (k addr : ℕ) (bytes : List LoadByte) → StoresAreApart actions
    → AreKnown actions local ask.at addr bytes → are_kept h k addr bytes ≡ true → KeepAll h actions local ask k addr (length bytes)
kept_all h actions local ask k addr [] apart known kept i within = absurd (omega arith)
kept_all h actions local ask k addr (b ∷ bs) apart known kept zero within =
    let first = known_first actions local ask.at addr b bs known in
    let parts = and_parts (is_kept h k addr b) (are_kept h k (addr + 1) bs) kept in
    let here : addr ≡ addr + 0 = omega arith in
    subst (λ n. KeepsNewest local n (rank actions (origin_of h.writes actions ask k n))) here
    (sym (below_is h actions local ask k addr b apart first.0 first.1) ∙ not-true (rank_below (tried_rank h k addr b) (source_rank b.newest)) parts.0)
kept_all h actions local ask k addr (b ∷ bs) apart known kept (suc i) within =
    let parts = and_parts (is_kept h k addr b) (are_kept h k (addr + 1) bs) kept in
    let there : addr + 1 + i ≡ addr + suc i = omega arith in
    subst (λ n. KeepsNewest local n (rank actions (origin_of h.writes actions ask k n))) there
    (kept_all h actions local ask k (addr + 1) bs apart (known_rest actions local ask.at addr b bs known) parts.1 i (omega arith))

all_kept : (h : History) (actions : List Action) (local : LocalMemory) (ask : LoadAsk) (k addr : ℕ) (bytes : List LoadByte) → StoresAreApart actions
    → AreKnown actions local ask.at addr bytes → KeepAll h actions local ask k addr (length bytes) → are_kept h k addr bytes ≡ true
all_kept h actions local ask k addr [] apart known keep = refl
all_kept h actions local ask k addr (b ∷ bs) apart known keep =
    let first = known_first actions local ask.at addr b bs known in
    let here : addr + 0 ≡ addr = omega arith in
    let kept = subst (λ n. KeepsNewest local n (rank actions (origin_of h.writes actions ask k n))) here (keep 0 (omega arith)) in
    and_from (is_kept h k addr b) (are_kept h k (addr + 1) bs)
    (not_from_false (rank_below (tried_rank h k addr b) (source_rank b.newest)) (below_is h actions local ask k addr b apart first.0 first.1 ∙ kept))
    (all_kept h actions local ask k (addr + 1) bs apart (known_rest actions local ask.at addr b bs known) (λ i within.
    let there : addr + suc i ≡ addr + 1 + i = omega arith in
    subst (λ n. KeepsNewest local n (rank actions (origin_of h.writes actions ask k n))) there (keep (suc i) (omega arith))))

-- what is known of the bytes of a load
pub record AreKnownFor (actions : List Action) (local : LocalMemory) (ask : LoadAsk) (bytes : List LoadByte) : Type 0 where
  pub known : AreKnown actions local ask.at ask.addr bytes
  pub long : length bytes ≡ ask.width
  pub apart : StoresAreApart actions

pub fits_from_tried : (h : History) (actions : List Action) (local : LocalMemory) (ask : LoadAsk) (k : ℕ) (bytes : List LoadByte) → AreKnownFor actions local ask bytes
    → IsVisible h.writes ask.key ask.at k → are_fit h k ask.addr ask.raw bytes ≡ true → FitsAsKnown h.image h.writes local actions ask k
fits_from_tried h actions local ask k bytes for visible fit =
    let parts = and_parts (tried_value h k ask.addr bytes == ask.raw) (are_kept h k ask.addr bytes) fit in
    record {
      visible = visible;
      value = ap (λ n. found_value h.image h.writes actions ask k n ask.addr) (sym for.long)
          ∙ sym (value_is h actions local ask k ask.addr bytes for.known) ∙ eqb-true (tried_value h k ask.addr bytes) ask.raw parts.0;
      floor = λ i within. kept_all h actions local ask k ask.addr bytes for.apart for.known parts.1 i (omega (arith, for.long));
    }

pub tried_from_fits : (h : History) (actions : List Action) (local : LocalMemory) (ask : LoadAsk) (k : ℕ) (bytes : List LoadByte) → AreKnownFor actions local ask bytes
    → FitsAsKnown h.image h.writes local actions ask k → are_fit h k ask.addr ask.raw bytes ≡ true
tried_from_fits h actions local ask k bytes for fits =
    and_from (tried_value h k ask.addr bytes == ask.raw) (are_kept h k ask.addr bytes)
    (eq-eqb (tried_value h k ask.addr bytes) ask.raw
    (value_is h actions local ask k ask.addr bytes for.known ∙ ap (λ n. found_value h.image h.writes actions ask k n ask.addr) for.long ∙ fits.value))
    (all_kept h actions local ask k ask.addr bytes for.apart for.known (λ i within. fits.floor i (omega (arith, for.long))))

-- the first moment of the span that fits is the least
pub least_tried : (h : History) (actions : List Action) (local : LocalMemory) (ask : LoadAsk) (first last found : ℕ) (bytes : List LoadByte) → AreKnownFor actions local ask bytes
    → AreVisible h.writes ask.key ask.at first last → first ≤ found → found ≤ last → are_fit h found ask.addr ask.raw bytes ≡ true
    → ((k : ℕ) → first ≤ k → k < found → are_fit h k ask.addr ask.raw bytes ≡ false)
    → IsLeastMoment h.image h.writes local actions ask found
least_tried h actions local ask first last found bytes for visible above below fit none = record {
  fits = fits_from_tried h actions local ask found bytes for ((visible.exact found).1 (above, below)) fit;
  least = λ j fits. elim (cases_lt j found) [
    | inr late ↦ late
    | inl early ↦
        let seen = (visible.exact j).0 fits.visible in
        absurd (false≢true (sym (none j seen.0 early) ∙ tried_from_fits h actions local ask j bytes for fits))
  ];
}

pub none_tried : (h : History) (actions : List Action) (local : LocalMemory) (ask : LoadAsk) (first last : ℕ) (bytes : List LoadByte) → AreKnownFor actions local ask bytes
    → AreVisible h.writes ask.key ask.at first last → ((k : ℕ) → first ≤ k → k ≤ last → are_fit h k ask.addr ask.raw bytes ≡ false)
    → (k : ℕ) → ¬ FitsAsKnown h.image h.writes local actions ask k
none_tried h actions local ask first last bytes for visible none k fits =
    let seen = (visible.exact k).0 fits.visible in
    absurd (false≢true (sym (none k seen.0 seen.1) ∙ tried_from_fits h actions local ask k bytes for fits))

pub known_front : (actions : List Action) (local : LocalMemory) (at addr n : ℕ) (bytes : List LoadByte) → AreKnown actions local at addr bytes → AreKnown actions local at addr (take n bytes)
known_front actions local at addr n bytes known = record {
  own = λ i b is. known.own i b (slice_get-take n bytes i b is);
  newest = λ i b is. known.newest i b (slice_get-take n bytes i b is);
}

pub known_for : (actions : List Action) (local : LocalMemory) (ask : LoadAsk) (n : ℕ) (bytes : List LoadByte) → StoresAreApart actions → n ≡ ask.width → n ≤ length bytes
    → AreKnown actions local ask.at ask.addr bytes → AreKnownFor actions local ask (take n bytes)
known_for actions local ask n bytes apart same within known = record {
  known = known_front actions local ask.at ask.addr n bytes known;
  long = omega (arith, length-take n bytes);
  apart = apart;
}

-- the tried sources are those of the load
pub sources_tried : (h : History) (actions : List Action) (local : LocalMemory) (ask : LoadAsk) (k : ℕ) (bytes : List LoadByte) (from : List Origin) → AreKnown actions local ask.at ask.addr bytes
    → ((i : ℕ) (b : LoadByte) → slice_get bytes i ≡ Some b → slice_get from i ≡ Some (tried_origin h k (ask.addr + i) b))
    → (i : ℕ) → i < length bytes → slice_get from i ≡ Some (origin_of h.writes actions ask k (ask.addr + i))
sources_tried h actions local ask k bytes from known tried i within =
    let none : LoadByte = record { own = None; newest = None } in
    let is = slice_get-get_or bytes i none within in
    tried i (get_or bytes i none) is ∙ ap (λ o. Some o) (origin_is h actions ask k (ask.addr + i) (get_or bytes i none) (known.own i (get_or bytes i none) is))

pub place_is_narrow : (ask : LoadAsk) → IsTrue (is_load_place ask) → ask.width ≤ 8
place_is_narrow ask place = narrow (and_parts (is_store_width ask.width) ((ask.addr % ask.width == 0) && is_in_ram ask.addr) place).0
  where
    narrow : IsTrue (is_store_width ask.width) → ask.width ≤ 8
    narrow wide = grind (arith, nat_tests)

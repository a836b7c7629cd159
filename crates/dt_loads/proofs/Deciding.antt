use Rattle.std.proofs.Common.{ℕ, zero, suc, ◌≡◌, ◌+◌, ◌<◌, ◌≤◌, Bool, true, false, not, Option, Some, None, List, [], ◌∷◌, length, take, drop, refl, sym, ap, ◌∙◌, subst, inl, inr, IsTrue, arith}
use Rattle.std.specs.Prelude.{◌⊎◌, slice_get, Contains, IfSome}
use Rattle.std.proofs.lemmas.Bool.{cases_eq, cases_lt, true≢false}
use Rattle.dt_record.specs.declared.accesses.LoadAsk.{LoadAsk}
use Rattle.dt_record.specs.declared.writes.Write.{Write}
use Rattle.dt_record.specs.declared.keys.Key.{Key}
use Rattle.dt_record.specs.declared.origins.Origin.{Origin}
use Rattle.dt_record.specs.declared.origins.Origin.TheVariants as origin
use Rattle.dt_sources.specs.Knowing.{IsKnownKey}
use Rattle.dt_record.specs.Actions.{Action, Loaded}
use Rattle.dt_record.specs.Keys.{KeyBelow, key_below}
use Rattle.dt_record.specs.Memory.{covers}
use Rattle.dt_record.specs.Visible.{IsVisible, must_see, cannot_see}
use Rattle.dt_record.specs.LoadSources.{Rank, At, rank, rank_below, origin_of, origin_at, found_value, KeepsFloor, FitsLoad}
use Rattle.std.specs.List.{list_all}
use Rattle.dt_sources.specs.Choice.{FitsNext, then_action}
use Rattle.dt_loads.specs.Reading.{IsAboveKnown, IsNewer, HasNewer}

-- A least moment fits a load after the loads before it, or none does: all that is asked is decided by tests.

abbrev pub Dec : Type 0 → Type 0
Dec P = P ⊎ (P → ⊥)

is_true : (b : Bool) → Dec (b ≡ true)
is_true true = inl refl
is_true false = inr (λ h. true≢false (sym h))

is_false : (b : Bool) → Dec (b ≡ false)
is_false true = inr true≢false
is_false false = inl refl

-- of a premise that is decided
follows : (P Q : Type 0) → Dec P → Dec Q → Dec (P → Q)
follows P Q (inl p) (inl q) = inl (λ h. q)
follows P Q (inl p) (inr q) = inr (λ h. q (h p))
follows P Q (inr p) q = inl (λ h. absurd (p h))

both : (P Q : Type 0) → Dec P → Dec Q → Dec (P × Q)
both P Q (inl p) (inl q) = inl (p, q)
both P Q (inl p) (inr q) = inr (λ h. q h.1)
both P Q (inr p) q = inr (λ h. p h.0)

some_dec : {A : Type 0} (P : A → Type 0) → ((a : A) → Dec (P a)) → (o : Option A) → Dec (IfSome o P)
some_dec P dec None = inl tt
some_dec P dec (Some a) = dec a

last_or : (P : ℕ → Type 0) (n i : ℕ) → P n → ((i : ℕ) → i < n → P i) → i < suc n → (i ≡ n) ⊎ (i ≡ n → ⊥) → P i
last_or P n i last before low (inl same) = subst P (sym same) last
last_or P n i last before low (inr other) = before i (cases (cases_lt i n))
  where
    cases : ((i < n) ⊎ (n ≤ i)) → i < n
    cases (inl less) = less
    cases (inr more) = absurd (other (omega arith))

-- of each number below one
below : (P : ℕ → Type 0) → ((i : ℕ) → Dec (P i)) → (n : ℕ) → Dec ((i : ℕ) → i < n → P i)
below P dec zero = inl (λ i low. absurd (omega arith))
below P dec (suc n) = one_more (dec n) (below P dec n)
  where
    one_more : Dec (P n) → Dec ((i : ℕ) → i < n → P i) → Dec ((i : ℕ) → i < suc n → P i)
    one_more (inl last) (inl before) = inl (λ i low. last_or P n i last before low (cases_eq i n))
    one_more (inl last) (inr before) = inr (λ h. before (λ i low. h i (omega arith)))
    one_more (inr last) before = inr (λ h. last (h n (omega arith)))

head_or : {X : Type 0} (P : X → Type 0) (x : X) (xs : List X) → P x → ((w : X) → Contains xs w → P w) → (w : X) → Contains (x ∷ xs) w → P w
head_or P x xs here there w (zero, low, is) = subst P is here
head_or P x xs here there w (suc k, low, is) = there w (k, omega arith, is)

-- of each element of a list
members : {X : Type 0} (P : X → Type 0) → ((x : X) → Dec (P x)) → (xs : List X) → Dec ((w : X) → Contains xs w → P w)
members P dec [] = inl (λ w c. let low = c.1 in absurd (omega arith))
members P dec (x ∷ xs) = one_more (dec x) (members P dec xs)
  where
    one_more : Dec (P x) → Dec ((w : _) → Contains xs w → P w) → Dec ((w : _) → Contains (x ∷ xs) w → P w)
    one_more (inl here) (inl there) = inl (head_or P x xs here there)
    one_more (inl here) (inr there) = inr (λ h. there (λ w c. h w (suc c.0, (let low = c.1 in omega arith), c.2)))
    one_more (inr here) there = inr (λ h. here (h x (zero, omega arith, refl)))

visible : (writes : List Write) (ask : LoadAsk) (k : ℕ) → Dec (IsVisible writes ask.key ask.at k)
visible writes ask k = by_parts (cases_lt (length writes) k) (is_true (list_all (λ w. not (cannot_see ask.key ask.at w)) (take k writes)))
    (is_true (list_all (λ w. not (must_see ask.key ask.at w)) (drop k writes)))
  where
    by_parts : ((length writes < k) ⊎ (k ≤ length writes)) → Dec (list_all (λ w. not (cannot_see ask.key ask.at w)) (take k writes) ≡ true)
        → Dec (list_all (λ w. not (must_see ask.key ask.at w)) (drop k writes) ≡ true) → Dec (IsVisible writes ask.key ask.at k)
    by_parts (inl far) seen unseen = inr (λ v. let within = v.within in omega arith)
    by_parts (inr within) (inl seen) (inl unseen) = inl (record { within = within; seen = seen; unseen = unseen })
    by_parts (inr within) (inl seen) (inr unseen) = inr (λ v. unseen v.unseen)
    by_parts (inr within) (inr seen) unseen = inr (λ v. seen v.seen)

keeps : (writes : List Write) (actions : List Action) (moments : ℕ → ℕ) (place : ℕ) (ask : LoadAsk) (byte : ℕ) (own : Rank)
    → Dec (KeepsFloor writes actions moments place ask byte own)
keeps writes actions moments place ask byte own = by_parts reads own_writes
  where
    reads : Dec ((m : ℕ) → m < place → IfSome (slice_get actions m) (λ action.
        IfSome (origin_at writes (take m actions) (moments m) action byte) (λ o. rank_below own (rank (take place actions) o) ≡ false)))
    reads = below (λ m. IfSome (slice_get actions m) (λ action. IfSome (origin_at writes (take m actions) (moments m) action byte) (λ o. rank_below own (rank (take place actions) o) ≡ false)))
        (λ m. some_dec (λ action. IfSome (origin_at writes (take m actions) (moments m) action byte) (λ o. rank_below own (rank (take place actions) o) ≡ false))
        (λ action. some_dec (λ o. rank_below own (rank (take place actions) o) ≡ false) (λ o. is_false (rank_below own (rank (take place actions) o))) (origin_at writes (take m actions) (moments m) action byte))
        (slice_get actions m))
        place

    one : (w : Write) → Dec (w.key.hart ≡ ask.key.hart → KeyBelow w.key ask.key → IsTrue (covers byte w) → rank_below own (At w.key) ≡ false)
    one w = follows (w.key.hart ≡ ask.key.hart) (KeyBelow w.key ask.key → IsTrue (covers byte w) → rank_below own (At w.key) ≡ false) (cases_eq w.key.hart ask.key.hart)
        (follows (KeyBelow w.key ask.key) (IsTrue (covers byte w) → rank_below own (At w.key) ≡ false) (is_true (key_below w.key ask.key))
        (follows (IsTrue (covers byte w)) (rank_below own (At w.key) ≡ false) (is_true (covers byte w)) (is_false (rank_below own (At w.key)))))

    own_writes : Dec ((w : Write) → Contains writes w → w.key.hart ≡ ask.key.hart → KeyBelow w.key ask.key → IsTrue (covers byte w) → rank_below own (At w.key) ≡ false)
    own_writes = members (λ w. w.key.hart ≡ ask.key.hart → KeyBelow w.key ask.key → IsTrue (covers byte w) → rank_below own (At w.key) ≡ false) one writes

    by_parts : Dec ((m : ℕ) → m < place → IfSome (slice_get actions m) (λ action.
        IfSome (origin_at writes (take m actions) (moments m) action byte) (λ o. rank_below own (rank (take place actions) o) ≡ false)))
        → Dec ((w : Write) → Contains writes w → w.key.hart ≡ ask.key.hart → KeyBelow w.key ask.key → IsTrue (covers byte w) → rank_below own (At w.key) ≡ false)
        → Dec (KeepsFloor writes actions moments place ask byte own)
    by_parts (inl r) (inl o) = inl (record { reads = r; own_writes = o })
    by_parts (inl r) (inr o) = inr (λ k. o k.own_writes)
    by_parts (inr r) o = inr (λ k. r k.reads)

load : (image : List ℕ) (writes : List Write) (before : List Action) (keeping : ℕ → Rank → Type 0) → ((byte : ℕ) (own : Rank) → Dec (keeping byte own))
    → (ask : LoadAsk) (k : ℕ) → Dec (FitsLoad image writes before keeping ask k)
load image writes before keeping dec ask k =
    by_parts (visible writes ask k) (cases_eq (found_value image writes before ask k ask.width ask.addr) ask.raw)
    (below (λ i. keeping (ask.addr + i) (rank before (origin_of writes before ask k (ask.addr + i)))) (λ i. dec (ask.addr + i) (rank before (origin_of writes before ask k (ask.addr + i)))) ask.width)
  where
    by_parts : Dec (IsVisible writes ask.key ask.at k) → Dec (found_value image writes before ask k ask.width ask.addr ≡ ask.raw)
        → Dec ((i : ℕ) → i < ask.width → keeping (ask.addr + i) (rank before (origin_of writes before ask k (ask.addr + i)))) → Dec (FitsLoad image writes before keeping ask k)
    by_parts (inl v) (inl x) (inl f) = inl (record { visible = v; value = x; floor = f })
    by_parts (inl v) (inl x) (inr f) = inr (λ h. f h.floor)
    by_parts (inl v) (inr x) f = inr (λ h. x h.value)
    by_parts (inr v) x f = inr (λ h. v h.visible)

-- a write that a byte came from has a lower key
abbrev IsUnder : Key → Option Origin → Type 0
IsUnder key None = Unit {0}
IsUnder key (Some origin.Image) = Unit {0}
IsUnder key (Some (origin.Write known)) = KeyBelow known key
IsUnder key (Some (origin.Store seq)) = Unit {0}

under : (key : Key) (o : Option Origin) → Dec (IsUnder key o)
under key None = inl tt
under key (Some origin.Image) = inl tt
under key (Some (origin.Write known)) = is_true (key_below known key)
under key (Some (origin.Store seq)) = inl tt

all_under : (key : Key) (o : Option Origin) → ((known : Key) → o ≡ Some (origin.Write known) → KeyBelow known key) → IsUnder key o
all_under key None h = tt
all_under key (Some origin.Image) h = tt
all_under key (Some (origin.Write known)) h = h known refl
all_under key (Some (origin.Store seq)) h = tt

for_some : {A : Type 0} (o : Option A) (P : A → Type 0) → ((a : A) → o ≡ Some a → P a) → IfSome o P
for_some None P h = tt
for_some (Some a) P h = h a refl

in_range : {A : Type 0} (xs : List A) (i : ℕ) (a : A) → slice_get xs i ≡ Some a → i < length xs
in_range [] i a there = absurd cc
in_range (x ∷ xs) zero a there = omega arith
in_range (x ∷ xs) (suc i) a there = let low = in_range xs i a there in omega arith

abbrev HadAt : List Write → List Action → (ℕ → ℕ) → ℕ → Key → ℕ → Action → Type 0
HadAt writes actions moments byte key m action = IsUnder key (origin_at writes (take m actions) (moments m) action byte)

abbrev OwnAt : Key → ℕ → Key → Write → Type 0
OwnAt next byte key w = w.key.hart ≡ next.hart → KeyBelow w.key next → IsTrue (covers byte w) → KeyBelow w.key key

pub above : (writes : List Write) (actions : List Action) (moments : ℕ → ℕ) (next : Key) (byte : ℕ) (key : Key) → Dec (IsAboveKnown writes actions moments next byte key)
above writes actions moments next byte key = by_parts reads own
  where
    reads : Dec ((m : ℕ) → m < length actions → IfSome (slice_get actions m) (HadAt writes actions moments byte key m))
    reads = below (λ m. IfSome (slice_get actions m) (HadAt writes actions moments byte key m)) (λ m. some_dec (HadAt writes actions moments byte key m) (λ action. under key (origin_at writes (take m actions) (moments m) action byte)) (slice_get actions m)) (length actions)

    one : (w : Write) → Dec (OwnAt next byte key w)
    one w = follows (w.key.hart ≡ next.hart) (KeyBelow w.key next → IsTrue (covers byte w) → KeyBelow w.key key) (cases_eq w.key.hart next.hart)
        (follows (KeyBelow w.key next) (IsTrue (covers byte w) → KeyBelow w.key key) (is_true (key_below w.key next))
        (follows (IsTrue (covers byte w)) (KeyBelow w.key key) (is_true (covers byte w)) (is_true (key_below w.key key))))

    own : Dec ((w : Write) → Contains writes w → OwnAt next byte key w)
    own = members (OwnAt next byte key) one writes

    known_under : ((m : ℕ) → m < length actions → IfSome (slice_get actions m) (HadAt writes actions moments byte key m)) → ((w : Write) → Contains writes w → OwnAt next byte key w)
        → (known : Key) → IsKnownKey writes actions moments next byte known → KeyBelow known key
    known_under r o known (inl had) =
        let at : IfSome (Some had.action) (HadAt writes actions moments byte key had.place) = subst (λ x. IfSome x (HadAt writes actions moments byte key had.place)) had.there (r had.place (in_range actions had.place had.action had.there)) in
        let it : IsUnder key (Some (origin.Write known)) = subst (IsUnder key) had.had at in it
    known_under r o known (inr wrote) =
        subst (λ (k : Key). KeyBelow k key) wrote.is_its
        (o wrote.write wrote.there (ap (λ (k : Key). k.hart) wrote.is_its ∙ wrote.own) (subst (λ (k : Key). KeyBelow k next) (sym wrote.is_its) wrote.before) wrote.covering)

    by_parts : Dec ((m : ℕ) → m < length actions → IfSome (slice_get actions m) (HadAt writes actions moments byte key m)) → Dec ((w : Write) → Contains writes w → OwnAt next byte key w)
        → Dec (IsAboveKnown writes actions moments next byte key)
    by_parts (inl r) (inl o) = inl (known_under r o)
    by_parts (inl r) (inr o) = inr (λ h. o (λ w there its before covering. h w.key (inr (record { write = w; there = there; is_its = refl; own = its; before = before; covering = covering }))))
    by_parts (inr r) o = inr (λ h. r (λ m low. for_some (slice_get actions m) (HadAt writes actions moments byte key m) (λ action there.
        all_under key (origin_at writes (take m actions) (moments m) action byte) (λ known had. h known (inl (record { place = m; action = action; there = there; had = had }))))))

newer_at : (writes : List Write) (actions : List Action) (moments : ℕ → ℕ) (ask : LoadAsk) (k place : ℕ) (o : Origin)
    → origin_of writes actions ask k (ask.addr + place) ≡ o → place < ask.width → Dec (IsNewer writes actions moments ask k place)
newer_at writes actions moments ask k place origin.Image is low = inr (λ n. let no : origin.Image ≡ origin.Write n.key = sym is ∙ n.from in absurd cc)
newer_at writes actions moments ask k place (origin.Store seq) is low = inr (λ n. let no : origin.Store seq ≡ origin.Write n.key = sym is ∙ n.from in absurd cc)
newer_at writes actions moments ask k place (origin.Write key) is low = by_above (above writes actions moments ask.key (ask.addr + place) key)
  where
    same : (n : IsNewer writes actions moments ask k place) → n.key ≡ key
    same n = let it : origin.Write n.key ≡ origin.Write key = sym n.from ∙ is in cc

    by_above : Dec (IsAboveKnown writes actions moments ask.key (ask.addr + place) key) → Dec (IsNewer writes actions moments ask k place)
    by_above (inl h) = inl (record { within = low; key = key; from = is; above = h })
    by_above (inr h) = inr (λ n. h (λ known knows. subst (λ (x : Key). KeyBelow known x) (same n) (n.above known knows)))

pub newer_or_not : (writes : List Write) (actions : List Action) (moments : ℕ → ℕ) (ask : LoadAsk) (k : ℕ) → Dec (HasNewer writes actions moments ask k)
newer_or_not writes actions moments ask k = by_all (below (λ p. IsNewer writes actions moments ask k p → ⊥) none ask.width) (some_place ask.width)
  where
    one : (p : ℕ) → Dec (IsNewer writes actions moments ask k p)
    one p = by_low (cases_lt p ask.width)
      where
        by_low : ((p < ask.width) ⊎ (ask.width ≤ p)) → Dec (IsNewer writes actions moments ask k p)
        by_low (inl low) = newer_at writes actions moments ask k p (origin_of writes actions ask k (ask.addr + p)) refl low
        by_low (inr high) = inr (λ n. let low = n.within in omega arith)

    none : (p : ℕ) → Dec (IsNewer writes actions moments ask k p → ⊥)
    none p = follows (IsNewer writes actions moments ask k p) ⊥ (one p) (inr (λ x. x))

    some_place : (n : ℕ) → HasNewer writes actions moments ask k ⊎ ((p : ℕ) → p < n → IsNewer writes actions moments ask k p → ⊥)
    some_place zero = inr (λ p low n. absurd (omega arith))
    some_place (suc n) = by_one (one n) (some_place n)
      where
        by_one : Dec (IsNewer writes actions moments ask k n) → (HasNewer writes actions moments ask k ⊎ ((p : ℕ) → p < n → IsNewer writes actions moments ask k p → ⊥))
            → HasNewer writes actions moments ask k ⊎ ((p : ℕ) → p < suc n → IsNewer writes actions moments ask k p → ⊥)
        by_one (inl new) rest = inl (n, new)
        by_one (inr old) (inl has) = inl has
        by_one (inr old) (inr rest) = inr (λ p low new. last_or (λ p. IsNewer writes actions moments ask k p → ⊥) n p old rest low (cases_eq p n) new)

    by_all : Dec ((p : ℕ) → p < ask.width → IsNewer writes actions moments ask k p → ⊥) → (HasNewer writes actions moments ask k ⊎ ((p : ℕ) → p < ask.width → IsNewer writes actions moments ask k p → ⊥))
        → Dec (HasNewer writes actions moments ask k)
    by_all d (inl has) = inl has
    by_all d (inr none) = inr (λ has. none has.0 has.1.within has.1)

-- the least below a number, or none below it
least : (P : ℕ → Type 0) → ((i : ℕ) → Dec (P i)) → (n : ℕ) → ((k : ℕ) × P k × ((j : ℕ) → P j → k ≤ j)) ⊎ ((j : ℕ) → j < n → P j → ⊥)
least P dec zero = inr (λ j low p. absurd (omega arith))
least P dec (suc n) = one_more (least P dec n) (dec n)
  where
    one_more : (((k : ℕ) × P k × ((j : ℕ) → P j → k ≤ j)) ⊎ ((j : ℕ) → j < n → P j → ⊥)) → Dec (P n)
        → ((k : ℕ) × P k × ((j : ℕ) → P j → k ≤ j)) ⊎ ((j : ℕ) → j < suc n → P j → ⊥)
    one_more (inl found) d = inl found
    one_more (inr none) (inl p) = inl (n, p, λ j q. at_least j q (cases_lt j n))
      where
        at_least : (j : ℕ) → P j → ((j < n) ⊎ (n ≤ j)) → n ≤ j
        at_least j q (inl low) = absurd (none j low q)
        at_least j q (inr high) = high
    one_more (inr none) (inr p) = inr (λ j low q. last_or (λ i. P i → ⊥) n j p none low (cases_eq j n) q)

-- a least moment fits a next load, or none does
pub fits_or_none : (image : List ℕ) (writes : List Write) (actions : List Action) (moments : ℕ → ℕ) (ask : LoadAsk)
    → ((k : ℕ) × FitsNext image writes actions moments ask k × ((j : ℕ) → FitsNext image writes actions moments ask j → k ≤ j))
    ⊎ ((k : ℕ) → ¬ FitsNext image writes actions moments ask k)
fits_or_none image writes actions moments ask = by_search (least (FitsNext image writes actions moments ask) dec (length writes + 1))
  where
    dec : (k : ℕ) → Dec (FitsNext image writes actions moments ask k)
    dec k = load image writes (take (length actions) (then_action actions (Loaded ask))) (KeepsFloor writes (then_action actions (Loaded ask)) moments (length actions) ask)
        (keeps writes (then_action actions (Loaded ask)) moments (length actions) ask) ask k

    by_search : (((k : ℕ) × FitsNext image writes actions moments ask k × ((j : ℕ) → FitsNext image writes actions moments ask j → k ≤ j))
        ⊎ ((j : ℕ) → j < length writes + 1 → FitsNext image writes actions moments ask j → ⊥))
        → ((k : ℕ) × FitsNext image writes actions moments ask k × ((j : ℕ) → FitsNext image writes actions moments ask j → k ≤ j))
        ⊎ ((k : ℕ) → ¬ FitsNext image writes actions moments ask k)
    by_search (inl found) = inl found
    by_search (inr none) = inr (λ k fits. none k (let within = fits.visible.within in omega arith) fits)

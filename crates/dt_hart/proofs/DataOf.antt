use Rattle.std.proofs.Common.{ℕ, ◌≡◌, ◌+◌, ◌<◌, ◌≤◌, ◌/◌, ◌%◌, ◌^◌, ◌&&◌, Bool, true, false, Option, None, Some, List, [], ◌∷◌, map, length, nat_lt, zero, suc, refl, sym, ap, ◌∙◌, subst, inl, inr, arith}
use Rattle.std.specs.List.{All, list_all, slice_get}
use Rattle.std.specs.List.Sorted.{IsStrictlySortedBy}
use Rattle.std.specs.Ordering.{nat_cmp}
use Rattle.std.specs.Map.{lookup, keys_of}
use Rattle.std.specs.Option.{option_and_then, unwrap_or}
use Rattle.std.specs.Prelude.{if◌then◌else◌}
use Rattle.std.proofs.lemmas.Bool.{cases_Bool, and_from, and_parts, lt-ltb, ltb-true}
use Rattle.std.proofs.lemmas.Bool.Decides.{nat_tests}
use Rattle.std.proofs.lemmas.List.Elements.{All-nil, All-cons, All-head, All-tail, All-same, All-weaker}
use Rattle.std.proofs.lemmas.Option.{same_Some}
use Rattle.dt_csr.specs.Kept.{KeepsBounds}
use Rattle.dt_csr.specs.Modes.{IsMode}
use Rattle.dt_local.specs.LocalMemory.{AreKnownBytes, local_memory, pair_of}
use Rattle.dt_record.specs.declared.states.HartState.{HartState}
use Rattle.dt_record.specs.declared.keys.Key.{Key}
use Rattle.dt_record.specs.declared.records.Record.{Record}
use Rattle.dt_record.specs.Keys.{key_below}
use Rattle.dt_reference.specs.Run.{start_of}
use Rattle.dt_step.specs.declared.plans.Planned.{Planned}
use Rattle.dt_step.specs.declared.plans.Planned.TheVariants.{Done, NeedsLoad, NeedsStore, NeedsAtomic, Csr, Returns, Fences, FenceI, FencesPages, Raises}
use Rattle.dt_windows.specs.Fences.{covers_all, covers_page, last_fence}
use Rattle.dt_windows.specs.Kept.{WindowsView, FencesStand, ArePages, later_of}
use Rattle.dt_hart.specs.Fences.{fences_of}
use Rattle.dt_hart.specs.HartView.{HartView}
use Rattle.dt_hart.specs.HartData.{AreListed, HasArch, HasData, IsWithin, page_pair, is_later, kept_values, number_of, number_within, own_number}
use Rattle.dt_hart.specs.Settings.{Setting, did, next_key}
use Rattle.dt_hart.specs.Standing.{HartStands}
use Rattle.dt_sources.specs.Knowing.{Knows}
use Rattle.dt_step.specs.declared.state.Arch.{Arch}
use Rattle.dt_step.specs.State.{IsArch, IsReachable}
use Rattle.dt_hart.proofs.KeptValues.{at, kept_all, kept_each, kept_lookup, kept_sorted}
use Rattle.dt_hart.proofs.LastFences.{IsNoEarlier, last_at, last_no_earlier}

-- What the numbers of a hart's fences say of them.

pub within_at : (rs : List Record) (i : ℕ) (r : Record) → slice_get rs i ≡ Some r → i < length rs
within_at [] i r there = absurd (cc there)
within_at (x ∷ xs) zero r there = omega arith
within_at (x ∷ xs) (suc i) r there = omega (arith, within_at xs i r there)

-- ---- a number is that of a fence among so many records

number_if : (count : ℕ) (k : Key) → k.seq < count → number_within count (Some k) ≡ k.seq + 1
number_if count k within = ap (λ (b : Bool). if b then k.seq + 1 else 0) (lt-ltb k.seq count within)

pub last_within : (s : Setting) (test : Planned → Bool) (k : Key) → last_fence test (fences_of s) ≡ Some k → k.seq < length s.before
last_within s test k is =
    let found = last_at test (start_of s.hart s.wide) 0 s.before k is in
    let place = within_at s.before found.place found.own found.there in
    omega (arith, place, ap (λ (q : Key). q.seq) found.is)

pub number_is : (s : Setting) (test : Planned → Bool) → number_within (length s.before) (last_fence test (fences_of s)) ≡ number_of (last_fence test (fences_of s))
number_is s test = by_last (last_fence test (fences_of s)) refl
  where
    by_last : (o : Option Key) → last_fence test (fences_of s) ≡ o → number_within (length s.before) o ≡ number_of o
    by_last None is = refl
    by_last (Some k) is = number_if (length s.before) k (last_within s test k is)

-- ---- and a page's own

all_covers : (va : ℕ) (p : Planned) → covers_all p ≡ true → covers_page va p ≡ true
all_covers va (FencesPages None all) is = is
all_covers va (FencesPages (Some fenced) all) is = rw is refl
all_covers va (Done rd value next) is = is
all_covers va (NeedsLoad address width signed rd) is = is
all_covers va (NeedsStore address width value) is = is
all_covers va (NeedsAtomic address width op aq rl rd operand) is = is
all_covers va (Csr number op operand reads writes rd) is = is
all_covers va (Returns mret) is = is
all_covers va (Fences ww wr rr) is = is
all_covers va FenceI is = is
all_covers va (Raises cause tval) is = is

not_itself : (k : Key) → key_below k k ≡ true → ⊥
not_itself k below = grind (arith, nat_tests)

-- the number that the data give a page, by the keys that are kept
abbrev given : (count : ℕ) (all own : Option Key) → ℕ
given count all own = unwrap_or (option_and_then (own_number count all) own) (number_within count all)

kept_number : (count : ℕ) (all : Option Key) (k : Key) → is_later k all ≡ true → number_within count all < number_within count (Some k)
    → given count all (Some k) ≡ number_within count (Some k)
kept_number count all k later above =
    ap (λ (b : Bool). unwrap_or (if b then Some (number_within count (Some k)) else None) (number_within count all))
    (and_from (is_later k all) (nat_lt (number_within count all) (number_within count (Some k))) later
    (lt-ltb (number_within count all) (number_within count (Some k)) above))

dropped_number : (count : ℕ) (all : Option Key) (k : Key) → is_later k all ≡ false → given count all (Some k) ≡ number_within count all
dropped_number count all k later =
    ap (λ (b : Bool). unwrap_or (if b && nat_lt (number_within count all) (number_within count (Some k)) then Some (number_within count (Some k)) else None) (number_within count all)) later

later_is : (all : Option Key) (k : Key) → is_later k all ≡ true → later_of all (Some k) ≡ Some k
later_is None k later = refl
later_is (Some a) k later = ap (λ (b : Bool). Some (if b then k else a)) later

earlier_is : (all : Option Key) (k : Key) → is_later k all ≡ false → later_of all (Some k) ≡ all
earlier_is None k later = absurd (cc later)
earlier_is (Some a) k later = ap (λ (b : Bool). Some (if b then k else a)) later

-- a key of a page that is above that of the last fence of all pages comes from a later record
later_number : (s : Setting) (va : ℕ) (all : Option Key) (k : Key) → all ≡ last_fence covers_all (fences_of s) → Some k ≡ last_fence (covers_page va) (fences_of s)
    → is_later k all ≡ true → number_within (length s.before) all < number_within (length s.before) (Some k)
later_number s va all k is own later =
    by_all all later (subst (λ (o : Option Key). IsNoEarlier o all) (sym own) (subst (IsNoEarlier (last_fence (covers_page va) (fences_of s))) (sym is)
    (last_no_earlier (covers_page va) covers_all (all_covers va) (start_of s.hart s.wide) 0 s.before)))
  where
    by_all : (o : Option Key) → is_later k o ≡ true → IsNoEarlier (Some k) o → number_within (length s.before) o < number_within (length s.before) (Some k)
    by_all None above _ = omega (arith, number_if (length s.before) k (last_within s (covers_page va) k (sym own)))
    by_all (Some l) above (inl same) = absurd (not_itself k (subst (λ (q : Key). key_below q k ≡ true) same above))
    by_all (Some l) above (inr less) =
        let within = last_within s (covers_page va) k (sym own) in
        omega (arith, number_if (length s.before) k within, number_if (length s.before) l (omega (arith, within, less)))

given_is : (s : Setting) (va : ℕ) (all own : Option Key) → all ≡ last_fence covers_all (fences_of s) → later_of all own ≡ last_fence (covers_page va) (fences_of s)
    → given (length s.before) all own ≡ number_of (last_fence (covers_page va) (fences_of s))
given_is s va all own is stands = by_own own stands
  where
    of_all : all ≡ last_fence (covers_page va) (fences_of s) → number_within (length s.before) all ≡ number_of (last_fence (covers_page va) (fences_of s))
    of_all same = ap (number_within (length s.before)) same ∙ number_is s (covers_page va)

    by_own : (o : Option Key) → later_of all o ≡ last_fence (covers_page va) (fences_of s) → given (length s.before) all o ≡ number_of (last_fence (covers_page va) (fences_of s))
    by_own None here = of_all (no_own all ∙ here)
      where
        no_own : (a : Option Key) → a ≡ later_of a None
        no_own None = refl
        no_own (Some a) = refl
    by_own (Some k) here = elim (cases_Bool (is_later k all)) [
      | inl later ↦
          let own_is = sym (later_is all k later) ∙ here in
          kept_number (length s.before) all k later (later_number s va all k is own_is later) ∙ ap (number_within (length s.before)) own_is ∙ number_is s (covers_page va)
      | inr before ↦ dropped_number (length s.before) all k before ∙ of_all (sym (earlier_is all k before) ∙ here)
    ]

pub page_is : (s : Setting) (w : WindowsView) (count va : ℕ) → count ≡ length s.before → ArePages w.pages → FencesStand w (fences_of s)
    → unwrap_or (lookup (at (va / 4096)) (kept_values (own_number count w.all) w.pages)) (number_within count w.all) ≡ number_of (last_fence (covers_page va) (fences_of s))
page_is s w count va counts are stands =
    ap (λ (o : Option ℕ). unwrap_or o (number_within count w.all)) (kept_lookup (own_number count w.all) (va / 4096) w.pages are.rising)
    ∙ ap (λ n. given n w.all (lookup (at (va / 4096)) w.pages)) counts
    ∙ given_is s va w.all (lookup (at (va / 4096)) w.pages) stands.all (stands.pages va)

-- ---- the data of what is kept of a hart

-- the data say what is kept of a hart
pub record IsStateOf (h : HartView) (d : HartState) : Type 0 where
  pub seq : d.seq ≡ h.seq
  pub arch : HasArch h.arch d
  pub order : d.order ≡ h.floor
  pub all_pages : d.all_pages ≡ number_within h.seq h.windows.all
  pub pages : map page_pair d.pages ≡ kept_values (own_number h.seq h.windows.all) h.windows.pages
  pub known : map pair_of d.known ≡ h.keys
  pub are_pages : ArePages h.windows.pages
  pub are_known : AreKnownBytes h.keys

own_is : (count : ℕ) (all : Option Key) (k : Key) (n : ℕ) → own_number count all k ≡ Some n → (number_within count all < n) × (n ≡ number_within count (Some k))
own_is count all k n is = by_test (is_later k all && nat_lt (number_within count all) (number_within count (Some k))) refl is
  where
    by_test : (passes : Bool) → (is_later k all && nat_lt (number_within count all) (number_within count (Some k))) ≡ passes
        → (if passes then Some (number_within count (Some k)) else None) ≡ Some n → (number_within count all < n) × (n ≡ number_within count (Some k))
    by_test true passes here =
        let same : number_within count (Some k) ≡ n = same_Some (number_within count (Some k)) n here in
        let above = ltb-true (number_within count all) (number_within count (Some k))
        (and_parts (is_later k all) (nat_lt (number_within count all) (number_within count (Some k))) passes).1 in
        (omega (arith, same, above), sym same)
    by_test false fails here = absurd (cc here)

number_few : (count : ℕ) (o : Option Key) → number_within count o ≤ count
number_few count None = omega arith
number_few count (Some k) = elim (cases_Bool (nat_lt k.seq count)) [
  | inl within ↦ let less = ltb-true k.seq count within in rw within (omega (arith, less))
  | inr past ↦ rw past (omega arith)
]

abbrev IsNumbered : (low count n : ℕ) → Type 0
IsNumbered low count n = (low < n) × (n ≤ count)

each_numbered : (count : ℕ) (all : Option Key) (pages : List (ℕ × Key)) → All (λ e. IsNumbered (number_within count all) count e.1) (kept_values (own_number count all) pages)
each_numbered count all pages = kept_each (own_number count all) (IsNumbered (number_within count all) count) pages
    (λ k n is. let own = own_is count all k n is in (own.0, omega (arith, own.1, number_few count (Some k))))

each_of_map : {X Y : Type 0} (P : Y → Type 0) (f : X → Y) (xs : List X) → All P (map f xs) → All (λ x. P (f x)) xs
each_of_map P f [] all = All-nil (λ x. P (f x))
each_of_map P f (x ∷ xs) all = All-cons (λ y. P (f y)) x xs (All-head P (f x) (map f xs) all) (each_of_map P f xs (All-tail P (f x) (map f xs) all))

pub numbered : (h : HartView) (d : HartState) → IsStateOf h d → All (λ p. (d.all_pages < p.seq) × (p.seq ≤ d.seq)) d.pages
numbered h d is =
    All-weaker (λ p. IsNumbered (number_within h.seq h.windows.all) h.seq p.seq) (λ p. (d.all_pages < p.seq) × (p.seq ≤ d.seq))
    (λ p own. (omega (arith, own.0, is.all_pages), omega (arith, own.1, is.seq))) d.pages
    (each_of_map (λ (e : ℕ × ℕ). IsNumbered (number_within h.seq h.windows.all) h.seq e.1) page_pair d.pages
    (All-same (λ e. IsNumbered (number_within h.seq h.windows.all) h.seq e.1) (map page_pair d.pages) (kept_values (own_number h.seq h.windows.all) h.windows.pages) is.pages
    (each_numbered h.seq h.windows.all h.windows.pages)))

pub listed : (h : HartView) (d : HartState) → IsStateOf h d → AreListed d
listed h d is = record {
  pages = subst (λ (es : List (ℕ × ℕ)). IsStrictlySortedBy nat_cmp (keys_of es)) (sym is.pages) (kept_sorted (own_number h.seq h.windows.all) h.windows.pages is.are_pages.rising);
  exist = ap (λ (es : List (ℕ × ℕ)). list_all (λ page. nat_lt page (2 ^ 52)) (keys_of es)) is.pages
      ∙ kept_all (own_number h.seq h.windows.all) (λ page. nat_lt page (2 ^ 52)) h.windows.pages is.are_pages.within;
  known = subst AreKnownBytes (sym is.known) is.are_known;
}

pub data_of : (h : HartView) (d : HartState) (s : Setting) → IsStateOf h d → HartStands h s → HasData s d
data_of h d s is stands =
    let counts : h.seq ≡ length s.before = stands.seq in
    record {
      seq = is.seq ∙ stands.seq;
      arch = subst (λ (a : Arch). HasArch a d) stands.arch is.arch;
      order = is.order ∙ stands.floor;
      all_pages = is.all_pages ∙ ap (λ (o : Option Key). number_within h.seq o) stands.windows.all
          ∙ ap (λ n. number_within n (last_fence covers_all (fences_of s))) counts ∙ number_is s covers_all;
      pages = λ va. ap (λ n. unwrap_or (lookup (at (va / 4096)) (map page_pair d.pages)) n) is.all_pages
          ∙ ap (λ (es : List (ℕ × ℕ)). unwrap_or (lookup (at (va / 4096)) es) (number_within h.seq h.windows.all)) is.pages
          ∙ page_is s h.windows h.seq va counts is.are_pages stands.windows;
      later = All-weaker (λ p. (d.all_pages < p.seq) × (p.seq ≤ d.seq)) (λ p. d.all_pages < p.seq) (λ p own. own.0) d.pages (numbered h d is);
      known = subst (λ (keys : List (ℕ × Key)). Knows (local_memory keys None) s.writes (did s) s.moments (next_key s)) (sym is.known) stands.knows;
      listed = listed h d is;
    }

pub within_of : (h : HartView) (d : HartState) → IsStateOf h d → IsArch h.arch → IsReachable h.arch → h.seq ≤ 4194304 → IsWithin h.arch.csrs.wide d
within_of h d is arch reachable few = record {
  seq = omega (arith, is.seq, few);
  pc = ap (λ n. n % 2) is.arch.pc ∙ reachable.pc;
  mode = subst IsMode (sym is.arch.mode) arch.mode;
  csrs = subst (λ (v : List ℕ). KeepsBounds v h.arch.csrs.wide) (sym is.arch.v)
      (record { fixed_bits = reachable.csrs.fixed_bits; mpp = reachable.csrs.mpp; satp_mode = reachable.csrs.satp_mode });
  all_pages = omega (arith, is.all_pages, is.seq, number_few h.seq h.windows.all);
  pages = numbered h d is;
  listed = listed h d is;
}

pub within_view : (h v : HartView) (d : HartState) → h ≡ v → IsStateOf h d → IsArch h.arch → IsReachable h.arch → v.seq ≤ 4194304 → IsWithin v.arch.csrs.wide d
within_view h v d same is arch reachable few =
    subst (λ (w : HartView). IsWithin w.arch.csrs.wide d) same
    (within_of h d is arch reachable (omega (arith, ap (λ (w : HartView). w.seq) same, few)))

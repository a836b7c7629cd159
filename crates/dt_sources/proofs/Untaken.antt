use Rattle.std.proofs.Common.{ℕ, ◌≡◌, ◌+◌, ◌-◌, ◌%◌, ◌⊎◌, ◌<◌, ◌≤◌, ◌==◌, ◌&&◌, true, false, not, if◌then◌else◌, Option, Some, None, List, [], ◌∷◌, ◌++◌, length, filter, zero, suc, nat_lt, nat_le, refl, sym, ap, ◌∙◌, inl, inr, IsTrue, arith, length-append}
use Rattle.std.specs.List.{list_all, slice_get}
use Rattle.std.specs.Prelude.{option_map}
use Rattle.std.specs.Option.{option_map_or}
use Rattle.std.proofs.lemmas.Bool.{and_parts, and_from, cases_lt, lt-leb, le-leb, leb-true, ltb-true, eqb-true, not-true, both_ways}
use Rattle.std.proofs.lemmas.Bool.Decides.{nat_tests}
use Rattle.std.proofs.lemmas.List.Elements.{filter-append}
use Rattle.std.proofs.lemmas.Option.{slice_get-map}
use Rattle.dt_lists.proofs.Lists.{list_all-get, slice_get-append_seam}
use Rattle.dt_record.specs.declared.keys.Key.{Key}
use Rattle.dt_record.specs.declared.accesses.OwnStore.{OwnStore}
use Rattle.dt_record.specs.Memory.{line_of}
use Rattle.dt_record.specs.Actions.{Action, Stored, Drained, Fenced, Loaded, Atomic, Held, held_of, raised, taker, drains_on, is_on, is_undrained, store_covers, forwarded}
use Rattle.dt_record.proofs.Holding.{held_from, held-is_from}
use Rattle.dt_stores.specs.Places.{is_store_place, is_store_width}
use Rattle.dt_stores.specs.Standing.{stores_of}
use Rattle.dt_record.specs.Lawful.{is_in_ram}
use Rattle.dt_sources.proofs.YoungestStores.{is_forward, forwarded_last, none_forwarded, stores_held}

-- A store that no drain has taken is forwarded, or a younger one is that no drain has taken either.

slice_get-append_past : {X : Type 0} (xs : List X) (y : X) (ys : List X) (i : ℕ) → length xs < i → slice_get (xs ++ y ∷ ys) i ≡ slice_get ys (i - (length xs + 1))
slice_get-append_past [] y ys zero past = absurd (omega arith)
slice_get-append_past [] y ys (suc i) past = let e : i ≡ suc i - (0 + 1) = omega arith in ap (slice_get ys) e
slice_get-append_past (x ∷ xs) y ys zero past = absurd (omega arith)
slice_get-append_past (x ∷ xs) y ys (suc i) past =
    let e : i - (length xs + 1) ≡ suc i - (length (x ∷ xs) + 1) = omega arith in
    slice_get-append_past xs y ys i (omega arith) ∙ ap (slice_get ys) e

-- where no drain takes a store, none takes a later one of its line
taker_rises : (j k : ℕ) (drains : List (Key × ℕ)) → j ≤ k → taker j drains ≡ None → taker k drains ≡ None
taker_rises j k [] later none = refl
taker_rises j k ((key, count) ∷ drains) later none = elim (cases_lt count j) [
  | inl high ↦
      let above : nat_le j count ≡ false = lt-leb j count high in
      let above_too : nat_le k count ≡ false = lt-leb k count (omega arith) in
      let rest : taker (j - count) drains ≡ None = sym (ap (λ b. if b then Some key else taker (j - count) drains) above) ∙ none in
      ap (λ b. if b then Some key else taker (k - count) drains) above_too ∙ taker_rises (j - count) (k - count) drains (omega arith) rest
  | inr low ↦
      let here : nat_le j count ≡ true = le-leb j count low in
      let taken : Some key ≡ None = sym (ap (λ b. if b then Some key else taker (j - count) drains) here) ∙ none in
      absurd (cc taken)
]

more_seen : (line : ℕ) (seen : List OwnStore) (s : OwnStore) → length (filter (is_on line) seen) ≤ length (filter (is_on line) (seen ++ s ∷ []))
more_seen line seen s = omega (arith, ap length (filter-append (is_on line) seen (s ∷ [])), length-append (filter (is_on line) seen) (filter (is_on line) (s ∷ [])))

later_untaken : (all : List Action) (seen : List OwnStore) (ww wr : ℕ) (xs : List Action) (line : ℕ) → taker (length (filter (is_on line) seen) + 1) (drains_on line all) ≡ None
    → (i : ℕ) (g : Held) → slice_get (held_from all seen ww wr xs) i ≡ Some g → line_of g.store.addr ≡ line → g.drained ≡ None
later_untaken all seen ww wr [] line free i g is on_line = absurd (cc is)
later_untaken all seen ww wr (Stored s ∷ xs) line free zero g is on_line =
    let first : Held = record { store = s; barrier = ww; readers = wr; drained = taker (length (filter (is_on (line_of s.addr)) seen) + 1) (drains_on (line_of s.addr) all) } in
    let same : first ≡ g = cc is in
    let there : line_of s.addr ≡ line = ap (λ (h : Held). line_of h.store.addr) same ∙ on_line in
    sym (ap (λ (h : Held). h.drained) same) ∙ ap (λ n. taker (length (filter (is_on n) seen) + 1) (drains_on n all)) there ∙ free
later_untaken all seen ww wr (Stored s ∷ xs) line free (suc i) g is on_line =
    let more = more_seen line seen s in
    later_untaken all (seen ++ s ∷ []) ww wr xs line
    (taker_rises (length (filter (is_on line) seen) + 1) (length (filter (is_on line) (seen ++ s ∷ [])) + 1) (drains_on line all) (omega arith) free) i g is on_line
later_untaken all seen ww wr (Drained key on count ∷ xs) line free i g is on_line = later_untaken all seen ww wr xs line free i g is on_line
later_untaken all seen ww wr (Fenced fence_ww fence_wr fence_rr ∷ xs) line free i g is on_line = later_untaken all seen (raised ww fence_ww) (raised wr fence_wr) xs line free i g is on_line
later_untaken all seen ww wr (Loaded ask ∷ xs) line free i g is on_line = later_untaken all seen ww wr xs line free i g is on_line
later_untaken all seen ww wr (Atomic key addr width reads acquires ∷ xs) line free i g is on_line = later_untaken all seen ww wr xs line free i g is on_line

-- a store after an untaken one of its line is untaken
untaken_after : (all : List Action) (seen : List OwnStore) (ww wr : ℕ) (xs : List Action) (i j : ℕ) (h g : Held) → i ≤ j
    → slice_get (held_from all seen ww wr xs) i ≡ Some h → slice_get (held_from all seen ww wr xs) j ≡ Some g
    → line_of h.store.addr ≡ line_of g.store.addr → h.drained ≡ None → g.drained ≡ None
untaken_after all seen ww wr [] i j h g after h_is g_is same free = absurd (cc h_is)
untaken_after all seen ww wr (Stored s ∷ xs) zero j h g after h_is g_is same free =
    let first : Held = record { store = s; barrier = ww; readers = wr; drained = taker (length (filter (is_on (line_of s.addr)) seen) + 1) (drains_on (line_of s.addr) all) } in
    let one : first ≡ h = cc h_is in
    later_untaken all seen ww wr (Stored s ∷ xs) (line_of s.addr) (ap (λ (b : Held). b.drained) one ∙ free) j g g_is
    (sym (ap (λ (b : Held). line_of b.store.addr) one ∙ same))
untaken_after all seen ww wr (Stored s ∷ xs) (suc i) zero h g after h_is g_is same free = absurd (omega arith)
untaken_after all seen ww wr (Stored s ∷ xs) (suc i) (suc j) h g after h_is g_is same free =
    untaken_after all (seen ++ s ∷ []) ww wr xs i j h g (omega arith) h_is g_is same free
untaken_after all seen ww wr (Drained key on count ∷ xs) i j h g after h_is g_is same free = untaken_after all seen ww wr xs i j h g after h_is g_is same free
untaken_after all seen ww wr (Fenced fence_ww fence_wr fence_rr ∷ xs) i j h g after h_is g_is same free =
    untaken_after all seen (raised ww fence_ww) (raised wr fence_wr) xs i j h g after h_is g_is same free
untaken_after all seen ww wr (Loaded ask ∷ xs) i j h g after h_is g_is same free = untaken_after all seen ww wr xs i j h g after h_is g_is same free
untaken_after all seen ww wr (Atomic key addr width reads acquires ∷ xs) i j h g after h_is g_is same free = untaken_after all seen ww wr xs i j h g after h_is g_is same free

pub widths : (w : ℕ) → IsTrue (is_store_width w) → (w ≡ 1) ⊎ ((w ≡ 2) ⊎ ((w ≡ 4) ⊎ (w ≡ 8)))
widths w narrow = grind (arith, nat_tests)

-- a store that covers a byte lies on its line
pub covering_line : (s : OwnStore) (byte : ℕ) → is_store_place s ≡ true → store_covers byte s ≡ true → line_of s.addr ≡ line_of byte
covering_line s byte placed covering =
    let parts = and_parts (is_store_width s.width) ((s.addr % s.width == 0) && is_in_ram s.addr) placed in
    let aligned : s.addr % s.width ≡ 0 = eqb-true (s.addr % s.width) 0 (and_parts (s.addr % s.width == 0) (is_in_ram s.addr) parts.1).0 in
    let inside = and_parts (nat_le s.addr byte) (nat_lt byte (s.addr + s.width)) covering in
    let from : s.addr ≤ byte = leb-true s.addr byte inside.0 in
    let to : byte < s.addr + s.width = ltb-true byte (s.addr + s.width) inside.1 in
    elim (widths s.width parts.0) [
      | inl one ↦ let same : byte ≡ s.addr = omega arith in ap line_of (sym same)
      | inr more ↦ elim more [
        | inl two ↦ by_two s.addr byte (sym (ap (λ w. s.addr % w) two) ∙ aligned) from (omega arith)
        | inr wide ↦ elim wide [
          | inl four ↦ by_four s.addr byte (sym (ap (λ w. s.addr % w) four) ∙ aligned) from (omega arith)
          | inr eight ↦ by_eight s.addr byte (sym (ap (λ w. s.addr % w) eight) ∙ aligned) from (omega arith)
        ]
      ]
    ]
  where
    by_two : (addr b : ℕ) → addr % 2 ≡ 0 → addr ≤ b → b < addr + 2 → line_of addr ≡ line_of b
    by_two addr b even from to = omega arith

    by_four : (addr b : ℕ) → addr % 4 ≡ 0 → addr ≤ b → b < addr + 4 → line_of addr ≡ line_of b
    by_four addr b even from to = omega arith

    by_eight : (addr b : ℕ) → addr % 8 ≡ 0 → addr ≤ b → b < addr + 8 → line_of addr ≡ line_of b
    by_eight addr b even from to = omega arith

pub untaken_is_forwarded : (actions : List Action) (at byte i : ℕ) (h : Held) → list_all is_store_place (stores_of actions) ≡ true
    → slice_get (held_of actions) i ≡ Some h → h.drained ≡ None → store_covers byte h.store ≡ true
    → (g : Held) × (forwarded at actions byte ≡ Some g) × (g.drained ≡ None)
untaken_is_forwarded actions at byte i h placed is free covering = parts (forwarded at actions byte) refl
  where
    waits : is_undrained at h ≡ true
    waits = ap (λ o. option_map_or (λ (key : Key). nat_lt at key.stamp) o true) free

    passes : is_forward at byte h ≡ true
    passes = and_from (is_undrained at h) (store_covers byte h.store) waits covering

    lies : (j : ℕ) (g : Held) → slice_get (held_of actions) j ≡ Some g → store_covers byte g.store ≡ true → line_of g.store.addr ≡ line_of byte
    lies j g g_is covers =
        let store_is : slice_get (stores_of actions) j ≡ Some g.store = ap (λ l. slice_get l j) (sym (stores_held actions)) ∙ slice_get-map (λ (b : Held). b.store) (held_of actions) j ∙ ap (option_map (λ (b : Held). b.store)) g_is in
        covering_line g.store byte (list_all-get is_store_place (stores_of actions) j g.store placed store_is) covers

    parts : (o : Option Held) → forwarded at actions byte ≡ o → (g : Held) × (forwarded at actions byte ≡ Some g) × (g.drained ≡ None)
    parts None none =
        let not_it = list_all-get (λ g. not (is_forward at byte g)) (held_of actions) i h (none_forwarded at actions byte none) is in
        absurd (both_ways (is_forward at byte h) (not-true (is_forward at byte h) not_it) passes)
    parts (Some g) found =
        let last = forwarded_last at actions byte g found in
        let g_is : slice_get (held_of actions) (length last.before) ≡ Some g = ap (λ l. slice_get l (length last.before)) last.split ∙ slice_get-append_seam last.before g last.after in
        elim (cases_lt (length last.before) i) [
          | inl late ↦
              let past = sym (slice_get-append_past last.before g last.after i late) ∙ ap (λ l. slice_get l i) (sym last.split) ∙ is in
              let not_it = list_all-get (λ b. not (is_forward at byte b)) last.after (i - (length last.before + 1)) h last.none_after past in
              absurd (both_ways (is_forward at byte h) (not-true (is_forward at byte h) not_it) passes)
          | inr early ↦
              let g_covers = (and_parts (is_undrained at g) (store_covers byte g.store) last.passes).1 in (
                g,
                found,
                untaken_after actions [] 0 0 actions i (length last.before) h g early
                    (ap (λ l. slice_get l i) (sym (held-is_from actions)) ∙ is)
                    (ap (λ l. slice_get l (length last.before)) (sym (held-is_from actions)) ∙ g_is)
                    (lies i h is covering ∙ sym (lies (length last.before) g g_is g_covers)) free,
              )
        ]

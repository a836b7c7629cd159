use Rattle.std.proofs.Common.{ℕ, ◌≡◌, ◌<◌, ◌≤◌, ◌/◌, ◌==◌, Bool, true, Option, None, Some, List, map, suc, refl, sym, ap, ◌∙◌, subst, arith}
use Rattle.std.specs.Prelude.{if◌then◌else◌, IfSome}
use Rattle.std.specs.List.{slice_get}
use Rattle.std.specs.Map.{lookup}
use Rattle.std.specs.Option.{option_and_then, option_map, unwrap_or}
use Rattle.std.proofs.lemmas.Bool.{eqb-true}
use Rattle.std.proofs.lemmas.Bool.Decides.{nat_tests}
use Rattle.std.proofs.lemmas.List.Elements.{All-map}
use Rattle.std.proofs.lemmas.Map.Entries.{All-lookup}
use Rattle.dt_record.specs.declared.keys.Key.{Key}
use Rattle.dt_record.specs.declared.records.Record.{Record}
use Rattle.dt_record.specs.declared.states.HartState.{HartState}
use Rattle.dt_record.specs.Keys.{KeyBelow, key_of}
use Rattle.dt_local.specs.LocalMemory.{LocalMemory, newest_of, pair_of}
use Rattle.dt_reference.specs.Run.{start_of}
use Rattle.dt_sources.specs.Knowing.{IsGreatest, IsKnownKey}
use Rattle.dt_step.specs.declared.plans.Planned.{Planned}
use Rattle.dt_step.specs.declared.state.Arch.{Arch}
use Rattle.dt_windows.specs.Fences.{covers_all, covers_page, is_instruction_fence, last_fence}
use Rattle.dt_stores.specs.Kept.{Kept}
use Rattle.dt_stores.specs.Standing.{StoresStand}
use Rattle.dt_windows.specs.Kept.{FencesStand, WindowsView, later_of, windows_view}
use Rattle.dt_hart.specs.declared.replays.Replayed.{Replayed}
use Rattle.dt_hart.specs.Fences.{fences_of}
use Rattle.dt_hart.specs.Fronts.{IsLegal}
use Rattle.dt_hart.specs.HartData.{HasArch, HasData, kept_values, number_of, page_pair}
use Rattle.dt_hart.specs.HartView.{HartView}
use Rattle.dt_hart.specs.OwnWrites.{are_of, are_rising}
use Rattle.dt_hart.specs.Replaying.{IsReplayed, numbered_key}
use Rattle.dt_hart.specs.Settings.{Setting, arch_of, did, next_key}
use Rattle.dt_hart.specs.Standing.{HartStands}
use Rattle.dt_hart.proofs.KeptValues.{at, kept_lookup}
use Rattle.dt_hart.proofs.LastFences.{IsKeyAt, last_at}
use Rattle.dt_hart.proofs.Members.{list_all-at}
use Rattle.dt_hart.proofs.OwnKeys.{rising_at}
use Rattle.dt_hart.proofs.Registers.{one_state}
use Rattle.dt_hart.proofs.StateStays.{hart_after, wide_after}

-- What the data of a hart and its records are made into stands for these.

-- ---- the key with a number

-- the number of the last fence of a kind leads back to its key
numbered_is : (s : Setting) (test : Planned → Bool) (n : ℕ) → n ≡ number_of (last_fence test (fences_of s)) → numbered_key s.before n ≡ last_fence test (fences_of s)
numbered_is s test n is = by_last (last_fence test (fences_of s)) refl
  where
    by_last : (o : Option Key) → last_fence test (fences_of s) ≡ o → numbered_key s.before n ≡ last_fence test (fences_of s)
    by_last None here = ap (numbered_key s.before) (is ∙ ap number_of here) ∙ sym here
    by_last (Some k) here =
        let found = last_at test (start_of s.hart s.wide) 0 s.before k here in
        let place : k.seq ≡ found.place = ap (λ (q : Key). q.seq) found.is ∙ omega arith in
        let count : n ≡ suc found.place = is ∙ ap number_of here ∙ omega (arith, place) in
        ap (numbered_key s.before) count ∙ ap (option_map (key_of found.place)) found.there
        ∙ ap (λ (q : Key). Some q) (ap (λ m. key_of m found.own) (omega arith) ∙ sym found.is) ∙ sym here

key_is_below : (a b : Key) → a.stamp ≤ b.stamp → a.hart ≡ b.hart → a.seq < b.seq → KeyBelow a b
key_is_below a b stamp hart seq = grind (arith, nat_tests)

its_hart : (hart : ℕ) (rs : List Record) (i : ℕ) (r : Record) → are_of hart rs ≡ true → slice_get rs i ≡ Some r → r.hart ≡ hart
its_hart hart rs i r its there = eqb-true r.hart hart (list_all-at (λ (q : Record). q.hart == hart) rs i r its there)

-- of two fences the one with the greater number has the greater key
later_key : (hart : ℕ) (rs : List Record) → are_of hart rs ≡ true → are_rising rs ≡ true → (a b : Key) → IsKeyAt 0 rs a → IsKeyAt 0 rs b → a.seq < b.seq → KeyBelow a b
later_key hart rs its rising a b one two less =
    let first : a.seq ≡ one.place = ap (λ (q : Key). q.seq) one.is ∙ omega arith in
    let second : b.seq ≡ two.place = ap (λ (q : Key). q.seq) two.is ∙ omega arith in
    let rise = rising_at rs one.place two.place one.own two.own rising one.there two.there (omega (arith, less, first, second)) in
    let stamps : a.stamp ≤ b.stamp = omega (arith, rise, ap (λ (q : Key). q.stamp) one.is, ap (λ (q : Key). q.stamp) two.is) in
    let harts : a.hart ≡ b.hart =
    ap (λ (q : Key). q.hart) one.is ∙ its_hart hart rs one.place one.own its one.there
    ∙ sym (ap (λ (q : Key). q.hart) two.is ∙ its_hart hart rs two.place two.own its two.there) in
    key_is_below a b stamps harts less

-- ---- the last fences

later_none : (o : Option Key) → later_of o None ≡ o
later_none None = refl
later_none (Some a) = refl

-- a page's own fence, which has a greater number than the last one of all pages
own_page : (s : Setting) (va : ℕ) → are_of s.hart s.before ≡ true → are_rising s.before ≡ true → (n : ℕ) → number_of (last_fence covers_all (fences_of s)) < n
    → n ≡ number_of (last_fence (covers_page va) (fences_of s)) → later_of (last_fence covers_all (fences_of s)) (numbered_key s.before n) ≡ last_fence (covers_page va) (fences_of s)
own_page s va its rising n above is =
    ap (later_of (last_fence covers_all (fences_of s))) (numbered_is s (covers_page va) n is)
    ∙ by_both (last_fence covers_all (fences_of s)) (last_fence (covers_page va) (fences_of s)) refl refl
  where
    by_both : (all own : Option Key) → last_fence covers_all (fences_of s) ≡ all → last_fence (covers_page va) (fences_of s) ≡ own → later_of all own ≡ own
    by_both None own here there = refl
    by_both (Some l) None here there = absurd (omega (arith, above, is, ap number_of here, ap number_of there))
    by_both (Some l) (Some k) here there =
        let less : l.seq < k.seq = omega (arith, above, is, ap number_of here, ap number_of there) in
        let below = later_key s.hart s.before its rising l k (last_at covers_all (start_of s.hart s.wide) 0 s.before l here)
        (last_at (covers_page va) (start_of s.hart s.wide) 0 s.before k there) less in
        ap (λ (b : Bool). Some (if b then k else l)) below

by_number : (s : Setting) (va all_pages : ℕ) → are_of s.hart s.before ≡ true → are_rising s.before ≡ true → all_pages ≡ number_of (last_fence covers_all (fences_of s))
    → (o : Option ℕ) → IfSome o (λ n. all_pages < n) → unwrap_or o all_pages ≡ number_of (last_fence (covers_page va) (fences_of s))
    → later_of (numbered_key s.before all_pages) (option_and_then (numbered_key s.before) o) ≡ last_fence (covers_page va) (fences_of s)
by_number s va all_pages its rising all None above is = later_none (numbered_key s.before all_pages) ∙ numbered_is s (covers_page va) all_pages is
by_number s va all_pages its rising all (Some n) above is =
    ap (λ (o : Option Key). later_of o (numbered_key s.before n)) (numbered_is s covers_all all_pages all)
    ∙ own_page s va its rising n (omega (arith, above, all)) is

windows_stand : (s : Setting) (d : HartState) (instructions : Option Key) → are_of s.hart s.before ≡ true → are_rising s.before ≡ true → HasData s d
    → instructions ≡ last_fence is_instruction_fence (fences_of s)
    → FencesStand (windows_view instructions (numbered_key s.before d.all_pages) (kept_values (numbered_key s.before) (map page_pair d.pages))) (fences_of s)
windows_stand s d instructions its rising given is = record {
  all = numbered_is s covers_all d.all_pages given.all_pages;
  pages = λ va.
      let found = lookup (at (va / 4096)) (map page_pair d.pages) in
      ap (later_of (numbered_key s.before d.all_pages)) (kept_lookup (numbered_key s.before) (va / 4096) (map page_pair d.pages) given.listed.pages)
      ∙ by_number s va d.all_pages its rising given.all_pages found
      (All-lookup (λ n. d.all_pages < n) (at (va / 4096)) (map page_pair d.pages) (All-map (λ (e : ℕ × ℕ). d.all_pages < e.1) page_pair d.pages given.later))
      (given.pages va);
  instructions = is;
}

-- ---- the whole

pub hart_of_data : (s : Setting) (d : HartState) (a : Arch) (v : Replayed) (local : LocalMemory) (h : HartView)
    → are_of s.hart s.before ≡ true → are_rising s.before ≡ true → IsLegal s → HasData s d
    → HasArch a d → a.hart ≡ s.hart → a.csrs.wide ≡ s.wide → IsReplayed a.hart v s.before
    → ((byte : ℕ) → newest_of local byte ≡ lookup (λ x. x == byte) (map pair_of d.known))
    → h.arch ≡ a → h.seq ≡ v.seq → h.stamp ≡ v.stamp → h.stores ≡ v.accesses.stores → h.keys ≡ local.keys → h.floor ≡ d.order → h.last_read ≡ v.accesses.last_read
    → h.reserved ≡ v.reserved
    → h.windows ≡ windows_view v.instructions (numbered_key s.before d.all_pages) (kept_values (numbered_key s.before) (map page_pair d.pages))
    → HartStands h s
hart_of_data s d a v local h its rising front given has hart wide replayed known arch seq stamp stores keys floor last_read reserved windows =
    let first = start_of s.hart s.wide in
    let state : a ≡ arch_of s = one_state d a (arch_of s) has given.arch (wide ∙ sym (wide_after first s.before)) (hart ∙ sym (hart_after first s.before)) in
    record {
      seq = seq ∙ replayed.seq;
      stamp = stamp ∙ replayed.stamp;
      arch = arch ∙ state;
      stores = subst (λ (k : Kept). StoresStand k (did s)) (sym stores) (replayed.stores front.placed front.drained);
      knows = λ byte. subst (λ (o : Option Key). IsGreatest (IsKnownKey s.writes (did s) s.moments (next_key s) byte) o)
          (sym (ap (λ (ks : List (ℕ × Key)). lookup (λ x. x == byte) ks) keys ∙ known byte)) (given.known byte);
      chosen = front.chosen;
      judged = front.judged;
      floor = floor ∙ given.order;
      last_read = last_read ∙ replayed.last_read front.placed;
      reserved = reserved ∙ replayed.reserved;
      windows = subst (λ (w : WindowsView). FencesStand w (fences_of s)) (sym windows) (windows_stand s d v.instructions its rising given (replayed.instructions first));
    }

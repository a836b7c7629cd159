use Rattle.std.proofs.Common.{ℕ, ◌≡◌, ◌+◌, ◌-◌, ◌*◌, ◌≤◌, ◌&&◌, Bool, true, false, not, List, [], ◌∷◌, ◌++◌, length, take, drop, zero, suc, IsTrue, refl, sym, ap, subst, ◌∙◌, inl, inr, append_assoc, filter, arith}
use Rattle.std.specs.Prelude.{Contains, nat_lt}
use Rattle.std.specs.List.{list_all, prefix_len, suffix_len}
use Rattle.std.specs.Option.{option_map_or}
use Rattle.std.proofs.lemmas.Bool.{and_parts, cases_Bool, cond-true}
use Rattle.std.proofs.lemmas.Bool.Decides.{nat_tests}
use Rattle.std.proofs.lemmas.List.{append-nil, length-append, take-append-le, drop-append-le, reverse-append}
use Rattle.std.proofs.lemmas.List.Elements.{All-contains, Contains-append_cases, Contains-append_left, filter-append}
use Rattle.std.proofs.lemmas.List.Folds.{list_all-append}
use Rattle.std.proofs.lemmas.List.Sums.{AllPass-from_list_all, prefix_len-le-length}
use Rattle.dt_record.proofs.KeyLaws.{KeyBelow-stamps}
use Rattle.dt_lists.proofs.Lists.{filter-within, within_prefix}
use Rattle.dt_record.specs.declared.accesses.LoadAsk.{LoadAsk}
use Rattle.dt_record.specs.declared.keys.Key.{Key}
use Rattle.dt_record.specs.declared.writes.Write.{Write}
use Rattle.dt_record.specs.Actions.{Action, forwarded}
use Rattle.dt_record.specs.Keys.{KeyBelow, key_below}
use Rattle.dt_record.specs.LoadSources.{found_byte, found_value, origin_of, stored_byte}
use Rattle.dt_record.specs.Memory.{memory_at, moment_of, source_at}
use Rattle.dt_record.specs.Visible.{IsVisible, cannot_see, must_see}
use Rattle.dt_sources.specs.Knowing.{WroteBefore}
use Rattle.dt_versions.specs.Spans.{first_visible, last_visible}
use Rattle.dt_judge.specs.Judging.{are_later}

-- Writes of later cycles do not change what a record sees.

pub passes_in : {X : Type 0} (p : X → Bool) (xs : List X) (x : X) → IsTrue (list_all p xs) → Contains xs x → IsTrue (p x)
passes_in p xs x all there = All-contains (λ y. p y ≡ true) xs x (AllPass-from_list_all p xs all) there

prefix_stops : {X : Type 0} (p stops : X → Bool) (xs ys : List X) → ((y : X) → IsTrue (stops y) → p y ≡ false) → IsTrue (list_all stops ys) → prefix_len p (xs ++ ys) ≡ prefix_len p xs
prefix_stops p stops [] [] fails all = refl
prefix_stops p stops [] (y ∷ ys) fails all = rw (fails y (and_parts (stops y) (list_all stops ys) all).0) refl
prefix_stops p stops (x ∷ xs) ys fails all = elim (cases_Bool (p x)) [
  | inl passes ↦ rw passes (ap (λ n. 1 + n) (prefix_stops p stops xs ys fails all))
  | inr stop ↦ rw stop refl
]

all_imply : {X : Type 0} (p q : X → Bool) (xs : List X) → ((x : X) → IsTrue (p x) → IsTrue (q x)) → IsTrue (list_all p xs) → IsTrue (list_all q xs)
all_imply p q [] imply all = refl
all_imply p q (x ∷ xs) imply all =
    let parts = and_parts (p x) (list_all p xs) all in
    rw (imply x parts.0) (all_imply p q xs imply parts.1)

-- a write of a later cycle cannot be seen, and need not be
hidden : (stamp at : ℕ) (key : Key) (w : Write) → at ≤ stamp → IsTrue (nat_lt stamp w.key.stamp) → not (cannot_see key at w) ≡ false
hidden stamp at key w early later = let above : nat_lt at w.key.stamp ≡ true = grind (arith, nat_tests) in rw above refl

needless : (stamp at : ℕ) (key : Key) (w : Write) → at ≤ stamp → IsTrue (nat_lt stamp w.key.stamp) → IsTrue (not (must_see key at w))
needless stamp at key w early later = grind (arith, nat_tests)

-- what is left of a list before its last elements that pass, where more that pass follow
one_stays : {X : Type 0} (p : X → Bool) (xs : List X) (y : X) → p y ≡ true → length (xs ++ y ∷ []) - suffix_len p (xs ++ y ∷ []) ≡ length xs - suffix_len p xs
one_stays p xs y passes =
    let longer : suffix_len p (xs ++ y ∷ []) ≡ 1 + suffix_len p xs = ap (prefix_len p) (reverse-append xs (y ∷ [])) ∙ cond-true (p y) (1 + suffix_len p xs) 0 passes in
    omega (arith, length-append xs (y ∷ []))

first_stays : {X : Type 0} (p also : X → Bool) (xs ys : List X) → ((y : X) → IsTrue (also y) → IsTrue (p y)) → IsTrue (list_all also ys)
    → length (xs ++ ys) - suffix_len p (xs ++ ys) ≡ length xs - suffix_len p xs
first_stays p also xs [] passes all = ap (λ zs. length zs - suffix_len p zs) (append-nil xs)
first_stays p also xs (y ∷ ys) passes all =
    let parts = and_parts (also y) (list_all also ys) all in
    ap (λ zs. length zs - suffix_len p zs) (sym (append_assoc xs (y ∷ []) ys))
    ∙ first_stays p also (xs ++ y ∷ []) ys passes parts.1
    ∙ one_stays p xs y (passes y parts.0)

none_kept : {X : Type 0} (p stops : X → Bool) (xs : List X) → ((x : X) → IsTrue (stops x) → p x ≡ false) → IsTrue (list_all stops xs) → filter p xs ≡ []
none_kept p stops [] fails all = refl
none_kept p stops (x ∷ xs) fails all =
    let parts = and_parts (stops x) (list_all stops xs) all in
    rw (fails x parts.0) (none_kept p stops xs fails parts.1)

-- a write of a later cycle has no key below one of an earlier cycle
not_below : (stamp : ℕ) (key : Key) (w : Write) → key.stamp ≤ stamp → IsTrue (nat_lt stamp w.key.stamp) → key_below w.key key ≡ false
not_below stamp key w early later = grind (arith, nat_tests)

module _ (ws later : List Write) (stamp : ℕ) (after : IsTrue (are_later stamp later)) where
  pub last_same : (key : Key) (at : ℕ) → at ≤ stamp → last_visible (ws ++ later) key at ≡ last_visible ws key at
  last_same key at early = prefix_stops (λ w. not (cannot_see key at w)) (λ w. nat_lt stamp w.key.stamp) ws later (λ w is. hidden stamp at key w early is) after

  pub first_same : (key : Key) (at : ℕ) → at ≤ stamp → first_visible (ws ++ later) key at ≡ first_visible ws key at
  first_same key at early = first_stays (λ w. not (must_see key at w)) (λ w. nat_lt stamp w.key.stamp) ws later (λ w is. needless stamp at key w early is) after

  pub last_within : (key : Key) (at : ℕ) → last_visible ws key at ≤ length ws
  last_within key at = prefix_len-le-length (λ w. not (cannot_see key at w)) ws

  pub seen_within : (key : Key) (at k : ℕ) → at ≤ stamp → IsVisible (ws ++ later) key at k → k ≤ length ws
  seen_within key at k early visible =
      let below : k ≤ last_visible (ws ++ later) key at = within_prefix (λ w. not (cannot_see key at w)) k (ws ++ later) visible.within visible.seen in
      let most = last_within key at in
      let same = last_same key at early in
      omega arith

  pub sees_more : (key : Key) (at k : ℕ) → at ≤ stamp → IsVisible ws key at k → IsVisible (ws ++ later) key at k
  sees_more key at k early visible =
      let long = length-append ws later in
      let unseen : IsTrue (list_all (λ w. not (must_see key at w)) later) =
      all_imply (λ w. nat_lt stamp w.key.stamp) (λ w. not (must_see key at w)) later (λ w is. needless stamp at key w early is) after in
      record {
        within = omega (arith, visible.within);
        seen = rw (take-append-le k ws later visible.within) visible.seen;
        unseen = rw (drop-append-le k ws later visible.within, list_all-append (λ w. not (must_see key at w)) (drop k ws) later, visible.unseen) unseen;
      }

  pub sees_less : (key : Key) (at k : ℕ) → at ≤ stamp → IsVisible (ws ++ later) key at k → IsVisible ws key at k
  sees_less key at k early visible =
      let within = seen_within key at k early visible in
      let seen : IsTrue (list_all (λ w. not (cannot_see key at w)) (take k ws)) = rw (take-append-le k ws later within) at visible.seen in
      let both : IsTrue (list_all (λ w. not (must_see key at w)) (drop k ws ++ later)) = rw (drop-append-le k ws later within) at visible.unseen in
      let parts : IsTrue (list_all (λ w. not (must_see key at w)) (drop k ws) && list_all (λ w. not (must_see key at w)) later) =
      rw (list_all-append (λ w. not (must_see key at w)) (drop k ws) later) at both in
      record {
        within = within;
        seen = seen;
        unseen = (and_parts (list_all (λ w. not (must_see key at w)) (drop k ws)) (list_all (λ w. not (must_see key at w)) later) parts).0;
      }

  pub memory_same : (image : List ℕ) (k addr : ℕ) → k ≤ length ws → memory_at image (ws ++ later) k addr ≡ memory_at image ws k addr
  memory_same image k addr within = rw (take-append-le k ws later within) refl

  pub source_same : (k addr : ℕ) → k ≤ length ws → source_at (ws ++ later) k addr ≡ source_at ws k addr
  source_same k addr within = rw (take-append-le k ws later within) refl

  moment_same : (key : Key) → key.stamp ≤ stamp → moment_of (ws ++ later) key ≡ moment_of ws key
  moment_same key early =
      let test : Write → Bool = λ w. key_below w.key key in
      let none : filter test later ≡ [] = none_kept test (λ w. nat_lt stamp w.key.stamp) later (λ w is. not_below stamp key w early is) after in
      ap length (filter-append test ws later ∙ ap (λ vs. filter test ws ++ vs) none ∙ append-nil (filter test ws))

  -- where an atomic has a byte from
  pub own_source_same : (key : Key) (byte : ℕ) → key.stamp ≤ stamp → source_at (ws ++ later) (moment_of (ws ++ later) key) byte ≡ source_at ws (moment_of ws key) byte
  own_source_same key byte early =
      ap (λ k. source_at (ws ++ later) k byte) (moment_same key early) ∙ source_same (moment_of ws key) byte (filter-within (λ w. key_below w.key key) ws)

  pub origin_same : (before : List Action) (ask : LoadAsk) (k byte : ℕ) → k ≤ length ws → origin_of (ws ++ later) before ask k byte ≡ origin_of ws before ask k byte
  origin_same before ask k byte within = rw (source_same k byte within) refl

  byte_same : (image : List ℕ) (before : List Action) (ask : LoadAsk) (k addr : ℕ) → k ≤ length ws → found_byte image (ws ++ later) before ask k addr ≡ found_byte image ws before ask k addr
  byte_same image before ask k addr within = ap (option_map_or (stored_byte addr) (forwarded ask.at before addr)) (memory_same image k addr within)

  pub value_same : (image : List ℕ) (before : List Action) (ask : LoadAsk) (k width addr : ℕ) → k ≤ length ws → found_value image (ws ++ later) before ask k width addr ≡ found_value image ws before ask k width addr
  value_same image before ask k zero addr within = refl
  value_same image before ask k (suc width) addr within =
      ap (λ n. n + 256 * found_value image (ws ++ later) before ask k width (addr + 1)) (byte_same image before ask k addr within)
      ∙ ap (λ n. found_byte image ws before ask k addr + 256 * n) (value_same image before ask k width (addr + 1) within)

  -- a write with a key below one of an earlier cycle is not a later one
  pub is_earlier : (w : Write) (key : Key) → key.stamp ≤ stamp → Contains (ws ++ later) w → KeyBelow w.key key → Contains ws w
  is_earlier w key early there below = elim (Contains-append_cases ws later w there) [
    | inl here ↦ here
    | inr last ↦
        let above : IsTrue (nat_lt stamp w.key.stamp) = passes_in (λ v. nat_lt stamp v.key.stamp) later w after last in
        let least = KeyBelow-stamps w.key key below in
        absurd (grind (arith, nat_tests))
  ]

  pub wrote_more : (next : Key) (byte : ℕ) (key : Key) → WroteBefore ws next byte key → WroteBefore (ws ++ later) next byte key
  wrote_more next byte key wrote = record {
    write = wrote.write;
    there = Contains-append_left ws later wrote.write wrote.there;
    is_its = wrote.is_its;
    own = wrote.own;
    before = wrote.before;
    covering = wrote.covering;
  }

  pub wrote_less : (next : Key) (byte : ℕ) (key : Key) → next.stamp ≤ stamp → WroteBefore (ws ++ later) next byte key → WroteBefore ws next byte key
  wrote_less next byte key early wrote = record {
    write = wrote.write;
    there = is_earlier wrote.write next early wrote.there (subst (λ (k : Key). KeyBelow k next) (sym wrote.is_its) wrote.before);
    is_its = wrote.is_its;
    own = wrote.own;
    before = wrote.before;
    covering = wrote.covering;
  }

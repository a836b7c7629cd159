use Rattle.std.proofs.Common.{◌≡◌, ℕ, ◌+◌, ◌-◌, ◌<◌, ◌≤◌, ◌==◌, Bool, Option, None, List, [], ◌∷◌, ◌++◌, length, filter, refl, sym, ap, ◌∙◌, arith, length-append, inl, inr, subst}
use Rattle.std.proofs.lemmas.List.{append-nil}
use Rattle.std.proofs.lemmas.List.Elements.{filter-append}
use Rattle.std.proofs.lemmas.Bool.{cases_Bool, eqb-true}
use Rattle.dt_record.specs.declared.keys.Key.{Key}
use Rattle.dt_record.specs.declared.accesses.OwnStore.{OwnStore}
use Rattle.dt_record.specs.declared.accesses.LoadAsk.{LoadAsk}
use Rattle.dt_record.specs.Memory.{line_of}
use Rattle.dt_record.specs.Actions.{Action, Stored, Drained, Fenced, Loaded, Atomic, Held, held_of, ww_fences, wr_fences, raised, drains_on, taker, is_on}
use Rattle.dt_record.proofs.Holding.{held_from, held-is_from, ww_fences-append, wr_fences-append, one_fence}
use Rattle.dt_stores.specs.Kept.{Kept}
use Rattle.dt_stores.specs.Standing.{StoresStand, stores_of, counted}
use Rattle.dt_stores.specs.Draining.{is_waiting_on}
use Rattle.dt_stores.proofs.ActionLaws.{drains_on-append, stores_of-append, counted-append, held_from-append, held_from-same_drains, taker_past}
use Rattle.dt_stores.proofs.DrainLaws.{marked, held_from-drained, waiting_from, more_drains, same_drains}

-- How what is kept goes on standing for a hart's actions.

more_stores : (line : ℕ) (xs ys : List Action) → length (filter (is_on line) (stores_of xs)) ≤ length (filter (is_on line) (stores_of (xs ++ ys)))
more_stores line xs ys =
    let both : length (filter (is_on line) (stores_of (xs ++ ys))) ≡ length (filter (is_on line) (stores_of xs)) + length (filter (is_on line) (stores_of ys)) =
    ap (λ l. length (filter (is_on line) l)) (stores_of-append xs ys)
    ∙ ap length (filter-append (is_on line) (stores_of xs) (stores_of ys))
    ∙ length-append (filter (is_on line) (stores_of xs)) (filter (is_on line) (stores_of ys)) in
    omega arith

-- an action that is no drain
undrained_after : (actions : List Action) (action : Action) → ((line : ℕ) → drains_on line (action ∷ []) ≡ [])
    → (line : ℕ) → drains_on line (actions ++ action ∷ []) ≡ drains_on line actions
undrained_after actions action none line =
    drains_on-append line actions (action ∷ []) ∙ ap (λ l. drains_on line actions ++ l) (none line) ∙ append-nil (drains_on line actions)

still_filled : (kept : Kept) (actions : List Action) (action : Action) → ((line : ℕ) → drains_on line (action ∷ []) ≡ []) → StoresStand kept actions
    → (line : ℕ) → counted (drains_on line (actions ++ action ∷ [])) ≤ length (filter (is_on line) (stores_of (actions ++ action ∷ [])))
still_filled kept actions action none stands line =
    let same : counted (drains_on line (actions ++ action ∷ [])) ≡ counted (drains_on line actions) = ap counted (undrained_after actions action none line) in
    let before : counted (drains_on line actions) ≤ length (filter (is_on line) (stores_of actions)) = stands.filled line in
    let more : length (filter (is_on line) (stores_of actions)) ≤ length (filter (is_on line) (stores_of (actions ++ action ∷ []))) = more_stores line actions (action ∷ []) in
    omega arith

-- the stores after an action that is no drain: those before it, and its own
pub held_after : (actions : List Action) (action : Action) → ((line : ℕ) → drains_on line (action ∷ []) ≡ [])
    → held_of (actions ++ action ∷ []) ≡ held_of actions ++ held_from (actions ++ action ∷ []) (stores_of actions) (0 + ww_fences actions) (0 + wr_fences actions) (action ∷ [])
held_after actions action none =
    held-is_from (actions ++ action ∷ []) ∙ held_from-append (actions ++ action ∷ []) [] 0 0 actions (action ∷ [])
    ∙ ap (λ l. l ++ held_from (actions ++ action ∷ []) (stores_of actions) (0 + ww_fences actions) (0 + wr_fences actions) (action ∷ []))
    (held_from-same_drains (actions ++ action ∷ []) actions (undrained_after actions action none) [] 0 0 actions ∙ sym (held-is_from actions))

-- an action that is neither store nor drain
pub stands_quietly : (old new : Kept) (actions : List Action) (action : Action)
    → ((line : ℕ) → drains_on line (action ∷ []) ≡ [])
    → ((all : List Action) (seen : List OwnStore) (ww wr : ℕ) → held_from all seen ww wr (action ∷ []) ≡ [])
    → new.held ≡ old.held → new.ww ≡ old.ww + ww_fences (action ∷ []) → new.wr ≡ old.wr + wr_fences (action ∷ [])
    → StoresStand old actions → StoresStand new (actions ++ action ∷ [])
stands_quietly old new actions action none nothing held ww wr stands = record {
  held = held ∙ stands.held ∙ sym (held_after actions action none
      ∙ ap (λ l. held_of actions ++ l) (nothing (actions ++ action ∷ []) (stores_of actions) (0 + ww_fences actions) (0 + wr_fences actions))
      ∙ append-nil (held_of actions));
  ww = ww ∙ ap (λ n. n + ww_fences (action ∷ [])) stands.ww ∙ sym (ww_fences-append actions (action ∷ []));
  wr = wr ∙ ap (λ n. n + wr_fences (action ∷ [])) stands.wr ∙ sym (wr_fences-append actions (action ∷ []));
  filled = still_filled old actions action none stands;
}

pub stands_loaded : (kept : Kept) (ask : LoadAsk) (actions : List Action) → StoresStand kept actions → StoresStand kept (actions ++ Loaded ask ∷ [])
stands_loaded kept ask actions stands =
    stands_quietly kept kept actions (Loaded ask) (λ _. refl) (λ _ _ _ _. refl) refl (omega arith) (omega arith) stands

pub stands_atomic : (kept : Kept) (key : Key) (addr width : ℕ) (reads acquires : Bool) (actions : List Action)
    → StoresStand kept actions → StoresStand kept (actions ++ Atomic key addr width reads acquires ∷ [])
stands_atomic kept key addr width reads acquires actions stands =
    stands_quietly kept kept actions (Atomic key addr width reads acquires) (λ _. refl) (λ _ _ _ _. refl) refl (omega arith) (omega arith) stands

pub stands_fenced : (old new : Kept) (ww wr rr : Bool) (actions : List Action)
    → new.held ≡ old.held → new.ww ≡ raised old.ww ww → new.wr ≡ raised old.wr wr
    → StoresStand old actions → StoresStand new (actions ++ Fenced ww wr rr ∷ [])
stands_fenced old new ww wr rr actions held ww_is wr_is stands =
    stands_quietly old new actions (Fenced ww wr rr) (λ _. refl) (λ _ _ _ _. refl) held (ww_is ∙ one_fence old.ww ww) (wr_is ∙ one_fence old.wr wr) stands

pub stands_stored : (old new : Kept) (s : OwnStore) (actions : List Action)
    → new.held ≡ old.held ++ record { store = s; barrier = old.ww; readers = old.wr; drained = None } ∷ [] → new.ww ≡ old.ww → new.wr ≡ old.wr
    → StoresStand old actions → StoresStand new (actions ++ Stored s ∷ [])
stands_stored old new s actions held ww wr stands =
    let line : ℕ = line_of s.addr in
    let number : ℕ = length (filter (is_on (line_of s.addr)) (stores_of actions)) + 1 in
    let none : (l : ℕ) → drains_on l (Stored s ∷ []) ≡ [] = λ _. refl in
    let last : ℕ → ℕ → Option Key → List Held = λ barrier readers drained. record { store = s; barrier = barrier; readers = readers; drained = drained } ∷ [] in
    let before : counted (drains_on (line_of s.addr) actions) ≤ length (filter (is_on (line_of s.addr)) (stores_of actions)) = stands.filled (line_of s.addr) in
    let past : counted (drains_on (line_of s.addr) actions) < length (filter (is_on (line_of s.addr)) (stores_of actions)) + 1 = omega arith in
    let free : taker number (drains_on line (actions ++ Stored s ∷ [])) ≡ None = ap (taker number) (undrained_after actions (Stored s) none line) ∙ taker_past number (drains_on line actions) past in
    let ww_is : 0 + ww_fences actions ≡ old.ww = omega (arith, stands.ww) in
    let wr_is : 0 + wr_fences actions ≡ old.wr = omega (arith, stands.wr) in
    record {
      held = held ∙ ap (λ l. l ++ last old.ww old.wr None) stands.held
          ∙ sym (held_after actions (Stored s) none
          ∙ ap (λ d. held_of actions ++ last (0 + ww_fences actions) (0 + wr_fences actions) d) free
          ∙ ap (λ n. held_of actions ++ last n (0 + wr_fences actions) None) ww_is
          ∙ ap (λ n. held_of actions ++ last old.ww n None) wr_is);
      ww = ww ∙ stands.ww ∙ sym (ww_fences-append actions (Stored s ∷ []) ∙ (omega arith));
      wr = wr ∙ stands.wr ∙ sym (wr_fences-append actions (Stored s ∷ []) ∙ (omega arith));
      filled = still_filled old actions (Stored s) none stands;
    }

-- a drain leaves no line with more stores counted than there are, where so many waited
still_filled-drained : (kept : Kept) (actions : List Action) (key : Key) (line count : ℕ) → StoresStand kept actions
    → count ≤ length (filter (is_waiting_on line) (held_of actions))
    → (on : ℕ) → counted (drains_on on (actions ++ Drained key line count ∷ [])) ≤ length (filter (is_on on) (stores_of (actions ++ Drained key line count ∷ [])))
still_filled-drained kept actions key line count stands enough on =
    let before : counted (drains_on on actions) ≤ length (filter (is_on on) (stores_of actions)) = stands.filled on in
    let more : length (filter (is_on on) (stores_of actions)) ≤ length (filter (is_on on) (stores_of (actions ++ Drained key line count ∷ []))) = more_stores on actions (Drained key line count ∷ []) in
    elim (cases_Bool (on == line)) [
      | inl same ↦
          let here : on ≡ line = eqb-true on line same in
          let waits : length (filter (is_waiting_on line) (held_of actions)) + (0 - counted (drains_on line actions)) ≡ 0 + length (filter (is_on line) (stores_of actions)) - counted (drains_on line actions) =
          ap (λ (l : List Held). length (filter (is_waiting_on line) l) + (0 - counted (drains_on line actions))) (held-is_from actions)
          ∙ waiting_from actions line [] 0 0 actions in
          let drains : counted (drains_on line (actions ++ Drained key line count ∷ [])) ≡ counted (drains_on line actions) + (count + 0) = ap counted (more_drains actions line key count) ∙ counted-append (drains_on line actions) ((key, count) ∷ []) in
          let at_line : counted (drains_on line actions) ≤ length (filter (is_on line) (stores_of actions)) = stands.filled line in
          let more_here : length (filter (is_on line) (stores_of actions)) ≤ length (filter (is_on line) (stores_of (actions ++ Drained key line count ∷ []))) = more_stores line actions (Drained key line count ∷ []) in
          let Filled : ℕ → Type 0 = λ l. counted (drains_on l (actions ++ Drained key line count ∷ [])) ≤ length (filter (is_on l) (stores_of (actions ++ Drained key line count ∷ []))) in
          let filled : counted (drains_on line (actions ++ Drained key line count ∷ [])) ≤ length (filter (is_on line) (stores_of (actions ++ Drained key line count ∷ []))) = omega arith in
          subst Filled (sym here) filled
      | inr other ↦
          let same : counted (drains_on on (actions ++ Drained key line count ∷ [])) ≡ counted (drains_on on actions) = ap counted (same_drains actions on line key count other) in
          omega arith
    ]

-- the stores after a drain
pub held_drained : (actions : List Action) (key : Key) (line count : ℕ) → held_of (actions ++ Drained key line count ∷ []) ≡ marked line key count (held_of actions)
held_drained actions key line count =
    let after = actions ++ Drained key line count ∷ [] in
    let all : count - (0 - counted (drains_on line actions)) ≡ count = omega arith in
    held-is_from after ∙ held_from-append after [] 0 0 actions (Drained key line count ∷ []) ∙ append-nil (held_from after [] 0 0 actions)
    ∙ held_from-drained actions line key count [] 0 0 actions ∙ ap (marked line key (count - (0 - counted (drains_on line actions)))) (sym (held-is_from actions))
    ∙ ap (λ k. marked line key k (held_of actions)) all

pub stands_drained : (old new : Kept) (key : Key) (line count : ℕ) (actions : List Action)
    → new.held ≡ marked line key count old.held → new.ww ≡ old.ww → new.wr ≡ old.wr
    → count ≤ length (filter (is_waiting_on line) old.held)
    → StoresStand old actions → StoresStand new (actions ++ Drained key line count ∷ [])
stands_drained old new key line count actions held ww wr enough stands =
    let waits : count ≤ length (filter (is_waiting_on line) (held_of actions)) = rw (← stands.held) enough in
    record {
      held = held ∙ ap (marked line key count) stands.held
          ∙ sym (held_drained actions key line count);
      ww = ww ∙ stands.ww ∙ sym (ww_fences-append actions (Drained key line count ∷ []) ∙ (omega arith));
      wr = wr ∙ stands.wr ∙ sym (wr_fences-append actions (Drained key line count ∷ []) ∙ (omega arith));
      filled = still_filled-drained old actions key line count stands waits;
    }

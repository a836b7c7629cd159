-- The stores of a hart, in one walk over its actions.
use Rattle.std.proofs.Common.{◌≡◌, ℕ, ◌+◌, ◌==◌, Bool, true, false, if◌then◌else◌, Option, Some, List, [], ◌∷◌, ◌++◌, length, filter, take, refl, sym, ap, ◌∙◌, arith, append_assoc, length-append}
use Rattle.std.specs.Prelude.{slice_get}
use Rattle.std.specs.Option.{option_and_then}
use Rattle.std.specs.List.{filter_map, cons_option, range_with_len}
use Rattle.std.proofs.Math.Seq.{take-append_seam}
use Rattle.std.proofs.lemmas.List.Elements.{filter-append}
use Rattle.dt_record.specs.declared.accesses.OwnStore.{OwnStore}
use Rattle.dt_record.specs.Memory.{line_of}
use Rattle.dt_record.specs.Actions.{Action, Stored, Drained, Fenced, Loaded, Atomic, Held, raised, taker, drains_on, is_on, is_store_on, store_held, held_by_place, held_of, ww_fences, wr_fences}

-- the stores among some actions, after other stores and so many fences, where all is what the hart did
abbrev pub held_from : List Action → List OwnStore → ℕ → ℕ → List Action → List Held
held_from all seen ww wr [] = []
held_from all seen ww wr (Stored s ∷ rest) =
    record {
      store = s;
      barrier = ww;
      readers = wr;
      drained = taker (length (filter (is_on (line_of s.addr)) seen) + 1) (drains_on (line_of s.addr) all);
    } ∷ held_from all (seen ++ s ∷ []) ww wr rest
held_from all seen ww wr (Fenced fence_ww fence_wr fence_rr ∷ rest) = held_from all seen (raised ww fence_ww) (raised wr fence_wr) rest
held_from all seen ww wr (_ ∷ rest) = held_from all seen ww wr rest

-- the fences of two parts add up
pub ww_fences-append : (xs ys : List Action) → ww_fences (xs ++ ys) ≡ ww_fences xs + ww_fences ys
ww_fences-append [] ys = omega arith
ww_fences-append (Fenced ww wr rr ∷ xs) ys =
    ap (λ n. raised n ww) (ww_fences-append xs ys) ∙ raised-sum (ww_fences xs) (ww_fences ys) ww
  where
    raised-sum : (n m : ℕ) (b : Bool) → raised (n + m) b ≡ raised n b + m
    raised-sum n m true = omega arith
    raised-sum n m false = refl
ww_fences-append (Stored s ∷ xs) ys = ww_fences-append xs ys
ww_fences-append (Drained key on count ∷ xs) ys = ww_fences-append xs ys
ww_fences-append (Loaded ask ∷ xs) ys = ww_fences-append xs ys
ww_fences-append (Atomic key addr width reads acquires ∷ xs) ys = ww_fences-append xs ys

pub wr_fences-append : (xs ys : List Action) → wr_fences (xs ++ ys) ≡ wr_fences xs + wr_fences ys
wr_fences-append [] ys = omega arith
wr_fences-append (Fenced ww wr rr ∷ xs) ys =
    ap (λ n. raised n wr) (wr_fences-append xs ys) ∙ raised-sum (wr_fences xs) (wr_fences ys) wr
  where
    raised-sum : (n m : ℕ) (b : Bool) → raised (n + m) b ≡ raised n b + m
    raised-sum n m true = omega arith
    raised-sum n m false = refl
wr_fences-append (Stored s ∷ xs) ys = wr_fences-append xs ys
wr_fences-append (Drained key on count ∷ xs) ys = wr_fences-append xs ys
wr_fences-append (Loaded ask ∷ xs) ys = wr_fences-append xs ys
wr_fences-append (Atomic key addr width reads acquires ∷ xs) ys = wr_fences-append xs ys

-- what the walk has counted at a place is what the actions before it say
record HasCounted (front : List Action) (seen : List OwnStore) (ww wr : ℕ) : Type 0 where
  stores : (line : ℕ) → length (filter (is_on line) seen) ≡ length (filter (is_store_on line) front)
  ww_is : ww ≡ ww_fences front
  wr_is : wr ≡ wr_fences front

counted-action : (front : List Action) (seen after : List OwnStore) (ww wr ww_after wr_after : ℕ) (action : Action) → HasCounted front seen ww wr
    → ((line : ℕ) → length (filter (is_on line) after) ≡ length (filter (is_on line) seen) + length (filter (is_store_on line) (action ∷ [])))
    → ww_after ≡ ww + ww_fences (action ∷ []) → wr_after ≡ wr + wr_fences (action ∷ [])
    → HasCounted (front ++ action ∷ []) after ww_after wr_after
counted-action front seen after ww wr ww_after wr_after action counted one_more ww_more wr_more = record {
  stores = λ line.
      let actions : length (filter (is_store_on line) (front ++ action ∷ []))
      ≡ length (filter (is_store_on line) front) + length (filter (is_store_on line) (action ∷ [])) =
      ap length (filter-append (is_store_on line) front (action ∷ []))
      ∙ length-append (filter (is_store_on line) front) (filter (is_store_on line) (action ∷ [])) in
      omega (arith, counted.stores line, one_more line, actions);
  ww_is = ww_more ∙ ap (λ n. n + ww_fences (action ∷ [])) counted.ww_is ∙ sym (ww_fences-append front (action ∷ []));
  wr_is = wr_more ∙ ap (λ n. n + wr_fences (action ∷ [])) counted.wr_is ∙ sym (wr_fences-append front (action ∷ []));
}

one_store : (line : ℕ) (s : OwnStore) (seen : List OwnStore)
    → length (filter (is_on line) (seen ++ s ∷ [])) ≡ length (filter (is_on line) seen) + length (filter (is_store_on line) (Stored s ∷ []))
one_store line s seen =
    ap length (filter-append (is_on line) seen (s ∷ [])) ∙ length-append (filter (is_on line) seen) (filter (is_on line) (s ∷ []))
    ∙ ap (λ n. length (filter (is_on line) seen) + n) (alike (line_of s.addr == line))
  where
    alike : (b : Bool) → length (if b then s ∷ [] else []) ≡ length (if b then Stored s ∷ [] else [])
    alike true = refl
    alike false = refl

pub one_fence : (n : ℕ) (b : Bool) → raised n b ≡ n + raised 0 b
one_fence n true = refl
one_fence n false = omega arith

get-seam : {X : Type 0} (xs ys : List X) (x : X) → slice_get (xs ++ x ∷ ys) (length xs) ≡ Some x
get-seam [] ys x = refl
get-seam (z ∷ zs) ys x = get-seam zs ys x

-- the place behind a front has the action that stands there
one_place : (all front rest : List Action) (action : Action) → all ≡ front ++ action ∷ rest
    → filter_map (held_by_place all) (range_with_len (length front) (length (action ∷ rest)))
    ≡ cons_option (store_held all front action) (filter_map (held_by_place all) (range_with_len (length (front ++ action ∷ [])) (length rest)))
one_place all front rest action parts =
    ap (λ (o : Option Held). cons_option o (filter_map (held_by_place all) (range_with_len (length front + 1) (length rest)))) here
    ∙ ap (λ n. cons_option (store_held all front action) (filter_map (held_by_place all) (range_with_len n (length rest)))) next
  where
    here : held_by_place all (length front) ≡ store_held all front action
    here = ap (λ (l : List Action). option_and_then (store_held all (take (length front) l)) (slice_get l (length front))) parts
        ∙ ap (λ (l : List Action). option_and_then (store_held all l) (slice_get (front ++ action ∷ rest) (length front)))
        (take-append_seam front (action ∷ rest))
        ∙ ap (option_and_then (store_held all front)) (get-seam front rest action)

    next : length front + 1 ≡ length (front ++ action ∷ [])
    next = sym (length-append front (action ∷ []))

split : (all front rest : List Action) (action : Action) → all ≡ front ++ action ∷ rest → all ≡ (front ++ action ∷ []) ++ rest
split all front rest action parts = parts ∙ sym (append_assoc front (action ∷ []) rest)

-- the walk is at the place behind a front
walk : (all front : List Action) (seen : List OwnStore) (ww wr : ℕ) (rest : List Action) → HasCounted front seen ww wr → all ≡ front ++ rest
    → filter_map (held_by_place all) (range_with_len (length front) (length rest)) ≡ held_from all seen ww wr rest
walk all front seen ww wr [] counted parts = refl
walk all front seen ww wr (Stored s ∷ rest) counted parts =
    let line = line_of s.addr in
    let others = filter_map (held_by_place all) (range_with_len (length (front ++ Stored s ∷ [])) (length rest)) in
    let with : ℕ → ℕ → ℕ → Held =
    λ barrier readers number. record { store = s; barrier = barrier; readers = readers; drained = taker (number + 1) (drains_on line all) } in
    let counted_store = counted-action front seen (seen ++ s ∷ []) ww wr ww wr (Stored s) counted (λ on. one_store on s seen) (omega arith) (omega arith) in
    one_place all front rest (Stored s) parts
    ∙ ap (λ n. with n (wr_fences front) (length (filter (is_store_on line) front)) ∷ others) (sym counted.ww_is)
    ∙ ap (λ n. with ww n (length (filter (is_store_on line) front)) ∷ others) (sym counted.wr_is)
    ∙ ap (λ n. with ww wr n ∷ others) (sym (counted.stores line))
    ∙ ap (λ (hs : List Held). with ww wr (length (filter (is_on line) seen)) ∷ hs)
    (walk all (front ++ Stored s ∷ []) (seen ++ s ∷ []) ww wr rest counted_store (split all front rest (Stored s) parts))
walk all front seen ww wr (Drained key on count ∷ rest) counted parts =
    let action = Drained key on count in
    one_place all front rest action parts
    ∙ walk all (front ++ action ∷ []) seen ww wr rest
    (counted-action front seen seen ww wr ww wr action counted (λ line. omega arith) (omega arith) (omega arith)) (split all front rest action parts)
walk all front seen ww wr (Fenced fence_ww fence_wr fence_rr ∷ rest) counted parts =
    let action = Fenced fence_ww fence_wr fence_rr in
    one_place all front rest action parts
    ∙ walk all (front ++ action ∷ []) seen (raised ww fence_ww) (raised wr fence_wr) rest
    (counted-action front seen seen ww wr (raised ww fence_ww) (raised wr fence_wr) action counted (λ line. omega arith)
    (one_fence ww fence_ww) (one_fence wr fence_wr)) (split all front rest action parts)
walk all front seen ww wr (Loaded ask ∷ rest) counted parts =
    let action = Loaded ask in
    one_place all front rest action parts
    ∙ walk all (front ++ action ∷ []) seen ww wr rest
    (counted-action front seen seen ww wr ww wr action counted (λ line. omega arith) (omega arith) (omega arith)) (split all front rest action parts)
walk all front seen ww wr (Atomic key addr width reads acquires ∷ rest) counted parts =
    let action = Atomic key addr width reads acquires in
    one_place all front rest action parts
    ∙ walk all (front ++ action ∷ []) seen ww wr rest
    (counted-action front seen seen ww wr ww wr action counted (λ line. omega arith) (omega arith) (omega arith)) (split all front rest action parts)

pub held-is_from : (actions : List Action) → held_of actions ≡ held_from actions [] 0 0 actions
held-is_from actions = walk actions [] [] 0 0 actions (record { stores = λ line. refl; ww_is = refl; wr_is = refl }) refl

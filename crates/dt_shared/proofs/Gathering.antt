-- Passes that are made, and passes that are given back.
use Rattle.std.proofs.Common.{◌≡◌, ℕ, zero, suc, ◌+◌, ◌<◌, true, Some, List, [], ◌∷◌, ◌++◌, All, Any, map, get_or, length, slice_get, sym, refl, ap, ◌∙◌, subst, append_assoc, arith}
use Rattle.std.proofs.lemmas.List.{length-map}
use Rattle.std.proofs.lemmas.List.Elements.{All-map, All-weaker}
use mathlib.Core.Logic.{dite}
use mathlib.Core.Option.{some}
use mathlib.Core.List.{IsPrefix}
use native.Mathlib.Decide.{ℕ_discrete}
use lib.ListN.{get_elem?}
use Rattle.atomic_table.specs.Table.{Final, Seen}
use Rattle.atomic_table.specs.Seated.{TableId}
use Rattle.dt_shared.specs.declared.entries.Entry.{Entry}
use Rattle.dt_shared.specs.declared.views.Known.{Known}
use Rattle.dt_shared.specs.Entries.{notes_of}
use Rattle.dt_shared.specs.Moments.{Stored, Holds}
use Rattle.dt_shared.specs.Steps.{Seated}
use Rattle.dt_shared.specs.Passes.{PassState, new_pass, pass_state}
use Rattle.dt_shared.specs.Gathers.{Gathered}
use Rattle.dt_shared.specs.Closing.{Accounts}
use Rattle.dt_shared.proofs.Ends.{closes}

get_before : {A : Type 0} (xs : List A) (x : A) (n : ℕ) → n < length xs → slice_get (xs ++ x ∷ []) n ≡ slice_get xs n
get_before [] x n l = absurd (omega arith)
get_before (y ∷ ys) x zero l = refl
get_before (y ∷ ys) x (suc n) l = get_before ys x n (omega arith)

get_last : {A : Type 0} (xs : List A) (x : A) (n : ℕ) → n ≡ length xs → slice_get (xs ++ x ∷ []) n ≡ Some x
get_last [] x n e = ap (slice_get (x ∷ [])) e
get_last (y ∷ ys) x zero e = absurd (omega arith)
get_last (y ∷ ys) x (suc n) e = get_last ys x n (omega arith)

-- one pass more was cut
pub cut_more : (id : TableId) (cut : List PassState) (p : PassState) (number : ℕ) → length cut + 1 ≡ number → ((n : ℕ) → n + 1 < number → slice_get cut n ≡ Some (new_pass id (n + 1))) → p ≡ new_pass id number
    → (n : ℕ) → n + 1 < number + 1 → slice_get (cut ++ p ∷ []) n ≡ Some (new_pass id (n + 1))
cut_more id cut p number count before is n below = dite (ℕ_discrete (n + 1) number)
    (λ last. get_last cut p n (omega arith) ∙ ap Some (is ∙ ap (new_pass id) (sym last)))
    (λ other. get_before cut p n (omega arith) ∙ before n (omega arith))

-- one pass more was taken in
pub gathers_one : (id : TableId) (items rest all : List PassState) (p : PassState) (ks : List Known) (k : Known) → items ≡ rest ++ p ∷ [] → items ++ map (pass_state id) ks ≡ all → pass_state id k ≡ p → rest ++ map (pass_state id) (k ∷ ks) ≡ all
gathers_one id items rest all p ks k cut before is =
    ap (λ (q : PassState). rest ++ q ∷ map (pass_state id) ks) is ∙ (sym (append_assoc rest (p ∷ []) (map (pass_state id) ks)) ∙ (ap (λ xs. xs ++ map (pass_state id) ks) (sym cut) ∙ before))

any_map : {A B : Type 0} (P : B → Type 0) (f : A → B) (xs : List A) → Any (λ x. P (f x)) xs → Any P (map f xs)
any_map P f xs a = let inside = a.2 in let long = length-map xs f in (a.0, f a.1, omega arith, lib.ListN.get_or-map f xs a.0 a.1 ∙ ap f a.3, a.4)

any_unmap : {A B : Type 0} (P : B → Type 0) (f : A → B) (xs : List A) (i : ℕ) (y : B) → i < length (map f xs) → get_or (map f xs) i y ≡ y → P y → Any (λ x. P (f x)) xs
any_unmap P f [] i y l e p = absurd (omega arith)
any_unmap P f (x ∷ xs) zero y l e p = (0, x, omega arith, refl, subst P (sym e) p)
any_unmap P f (x ∷ xs) (suc i) y l e p = let a = any_unmap P f xs i y (omega arith) e p in let inside = a.2 in (suc a.0, a.1, omega arith, a.3, a.4)

-- what the closed history says of the passes, as contracts see them
pub record ClosedFacts (passes : List PassState) (history : List Entry) : Type 0 where
  pub seen : All (λ p. IsPrefix p.seen history) passes
  pub own : All (λ p. p.own ≡ notes_of p.number history) passes
  pub numbers : All (λ e. Any (λ p. p.number ≡ e.pass) passes) history
  pub stops : Any (λ p. p.saw_stop ≡ true) passes → Any (λ p. p.stopped ≡ true) passes

pub closed_facts : (most id : ℕ) (table : TableId) (me : Seated) (passes : List PassState) (ws : List ℕ) (xs : List Stored) (list : Stored) → Gathered table passes me → length passes ≡ most
    → Final (Seen (Holds most) id me.0) ws xs → get_elem? xs 0 ≡ some list → ClosedFacts passes list.items
closed_facts most id table me passes ws xs list all count final first =
    let ks : List Known = all.0 in let f : Known → PassState = pass_state table in let long = length-map ks f in let same = ap length all.2 in
    let a : Accounts ks list.items = closes most id ks all.1 ws xs list (omega arith) (subst (λ (x : Seated). Final (Seen (Holds most) id x.0) ws xs) all.3 final) first in
    subst (λ (ps : List PassState). ClosedFacts ps list.items) all.2 record {
      seen = All-map (λ (p : PassState). IsPrefix p.seen list.items) f ks a.seen;
      own = All-map (λ (p : PassState). p.own ≡ notes_of p.number list.items) f ks a.own;
      numbers = All-weaker (λ e. Any (λ k. k.number ≡ e.pass) ks) (λ e. Any (λ p. p.number ≡ e.pass) (map f ks)) (λ e h. any_map (λ (p : PassState). p.number ≡ e.pass) f ks h) list.items a.numbers;
      stops = λ s. any_map (λ (p : PassState). p.stopped ≡ true) f ks (a.stops (any_unmap (λ (p : PassState). p.saw_stop ≡ true) f ks s.0 s.1 s.2 s.3 s.4));
    }

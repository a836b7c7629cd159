-- The workers of the first hands.
use Rattle.std.proofs.Common.{◌≡◌, ◌<◌, ◌+◌, ◌-◌, ℕ, Bool, List, [], ◌∷◌, ◌++◌, length, get_or, take, drop, sym, ap, ◌∙◌, subst, inl, inr, arith}
use Rattle.std.specs.Prelude.{Some}
use Rattle.std.proofs.lemmas.Bool.{cases_lt}
use Rattle.std.proofs.lemmas.List.{drop-drop, get_or-drop, get_or-take, get_or_append_left, get_or_default, get_or_push, length_push, length-take-le}
use Rattle.std.proofs.lemmas.Option.{get_or_from_slice_get}
use Rattle.atomic_table.specs.Seated.{TableId}
use Rattle.dt_shared.specs.Passes.{AreNumbered, PassState, new_pass}
use Rattle.dt_worker.specs.Workers.{IsNewWorker, WorkerView}
use Rattle.dt_pool.specs.Opening.{AreInOrder, Hand}

-- the first workers, so many, are those of the first passes and hands
pub record AreFirstMade (image : List ℕ) (wide : Bool) (harts count : ℕ) (passes : List PassState) (hands : List Hand)
    (made : List WorkerView) : Type 0 where
  pub size : length made ≡ count
  pub each : (k : ℕ) (p : PassState) (hand : Hand) (w : WorkerView) → k < count
      → IsNewWorker harts wide image (get_or passes k p) (get_or hands k hand).items (get_or made k w)

-- the first of what is left behind so many
pub first_left : {X : Type 0} (xs left : List X) (k : ℕ) (x d : X) → left ≡ drop k xs → x ≡ get_or left 0 x → k < length xs → get_or xs k d ≡ x
first_left xs left k x d rest is within =
    get_or_default xs k d x within
    ∙ ap (λ n. get_or xs n x) (omega arith)
    ∙ sym (get_or-drop k xs 0 x)
    ∙ ap (λ ys. get_or ys 0 x) (sym rest)
    ∙ sym is

pub one_more_worker : (image : List ℕ) (wide : Bool) (harts count : ℕ) (passes : List PassState) (hands : List Hand)
    (made more : List WorkerView) (pass : PassState) (hand : Hand) (worker : WorkerView)
    → ((p : PassState) → get_or passes count p ≡ pass) → ((h : Hand) → get_or hands count h ≡ hand)
    → IsNewWorker harts wide image pass hand.items worker → more ≡ made ++ worker ∷ []
    → AreFirstMade image wide harts count passes hands made → AreFirstMade image wide harts (count + 1) passes hands more
one_more_worker image wide harts count passes hands made more pass hand worker pass_is hand_is new pushed are =
    subst (AreFirstMade image wide harts (count + 1) passes hands) (sym pushed)
    (record {
      size = length_push made worker ∙ ap (λ n. n + 1) are.size;
      each = λ k p h w within. elim (cases_lt k count) [
        | inl old ↦
            let same : get_or (made ++ worker ∷ []) k w ≡ get_or made k w = get_or_append_left made (worker ∷ []) w k (omega (arith, old, are.size)) in
            subst (IsNewWorker harts wide image (get_or passes k p) (get_or hands k h).items) (sym same) (are.each k p h w old)
        | inr above ↦
            let at : count ≡ k = omega (arith, within, above) in
            let its : get_or (made ++ worker ∷ []) k w ≡ worker = get_or_push made worker w k (are.size ∙ at) in
            let its_pass : get_or passes k p ≡ pass = subst (λ n. get_or passes n p ≡ pass) at (pass_is p) in
            let its_hand : get_or hands k h ≡ hand = subst (λ n. get_or hands n h ≡ hand) at (hand_is h) in
            subst (λ (q : PassState). IsNewWorker harts wide image q (get_or hands k h).items (get_or (made ++ worker ∷ []) k w)) (sym its_pass)
            (subst (λ (q : Hand). IsNewWorker harts wide image pass q.items (get_or (made ++ worker ∷ []) k w)) (sym its_hand)
            (subst (IsNewWorker harts wide image pass hand.items) (sym its) new))
      ];
    })

-- the passes but for the last one, in order
pub first_passes : (id : TableId) (count last : ℕ) (all passes : List PassState) → AreNumbered id last all → last ≡ count + 1
    → passes ≡ take count all → AreInOrder id count passes
first_passes id count last all passes numbered one_more are = record {
  size = ap length are ∙ length-take-le count all (omega (arith, numbered.size, one_more));
  each = λ k p within.
      ap (λ ps. get_or ps k p) are ∙ get_or-take count all k p within
      ∙ get_or_from_slice_get all k (new_pass id k) p (numbered.each k (omega (arith, within, one_more)));
}

-- and the last one
pub last_pass : (id : TableId) (count last len : ℕ) (all : List PassState) (pass : PassState) → AreNumbered id last all → last ≡ count + 1
    → len ≡ last → ((d : PassState) → 0 < len → Some pass ≡ Some (get_or all (len - 1) d)) → pass ≡ new_pass id count
last_pass id count last len all pass numbered one_more size is =
    let taken : Some pass ≡ Some (get_or all (len - 1) pass) = is pass (omega (arith, one_more, size)) in
    let at : len - 1 ≡ count = omega (arith, one_more, size) in
    let same : get_or all (len - 1) pass ≡ get_or all count pass = ap (λ n. get_or all n pass) at in
    let its : get_or all count pass ≡ new_pass id count
    = get_or_from_slice_get all count (new_pass id count) pass (numbered.each count (omega (arith, one_more))) in
    cc

-- what is left behind one more
pub rest_left : {X : Type 0} (xs left more : List X) (k : ℕ) → left ≡ drop k xs → more ≡ drop 1 left → more ≡ drop (k + 1) xs
rest_left xs left more k rest gone = gone ∙ ap (λ ys. drop 1 ys) rest ∙ drop-drop 1 k xs

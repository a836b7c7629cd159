-- Steps that a loop over a source or a sink takes one after another.
use Rattle.std.proofs.Common.{◌≡◌, ◌≤◌, ◌+◌, ℕ, List, [], ◌++◌, Option, Some, None, length, take, drop, refl, inl, inr, sym, ap, ◌∙◌, append_assoc, arith}
use Rattle.std.proofs.lemmas.List.{append-nil, length-append}
use Rattle.std.proofs.Math.Seq.{take-add}
use Rattle.std.specs.Option.{option_map}
use Rattle.dt_source.specs.Faults.{Rose}
use Rattle.dt_source.specs.Known.{TakesFrom, TakesSome, Appends}

-- nothing is taken at first
pub TakesFrom-nil : (known : Option (List ℕ)) → TakesFrom known [] known
TakesFrom-nil None = refl
TakesFrom-nil (Some rest) = refl

-- what is taken in two steps is taken in one
pub TakesFrom-append : (before middle after : Option (List ℕ)) (xs ys : List ℕ) → TakesFrom before xs middle → TakesFrom middle ys after → TakesFrom before (xs ++ ys) after
TakesFrom-append before middle None xs ys first second = first ∙ ap (option_map (λ rest. xs ++ rest)) second
TakesFrom-append before middle (Some rest) xs ys first second =
    first ∙ ap (option_map (λ rest. xs ++ rest)) second ∙ ap Some (sym (append_assoc xs ys rest))

-- nothing is appended at first
pub Appends-nil : (known : Option (List ℕ)) → Appends known [] known
Appends-nil None = refl
Appends-nil (Some bytes) = ap Some (sym (append-nil bytes))

-- what is appended in two steps is appended in one
pub Appends-append : (before middle after : Option (List ℕ)) (xs ys : List ℕ) → Appends before xs middle → Appends middle ys after → Appends before (xs ++ ys) after
Appends-append None middle after xs ys first second = second ∙ ap (option_map (λ bytes. bytes ++ ys)) first
Appends-append (Some bytes) middle after xs ys first second =
    second ∙ ap (option_map (λ bytes. bytes ++ ys)) first ∙ ap Some (append_assoc bytes xs ys)

-- a count that rose in the last of some steps rose in them all
pub Rose-later : (before middle after : ℕ) → before ≤ middle → Rose middle after → Rose before after
Rose-later before middle after h (inl risen) = inl (omega arith)
Rose-later before middle after h (inr at_end) = inr at_end

-- one more read into a buffer: its front is still what was taken
pub TakesFrom-more : (before middle after : Option (List ℕ)) (old new : List ℕ) (at n : ℕ) → TakesFrom before (take at old) middle → TakesFrom middle (take n (drop at new)) after → take at new ≡ take at old → TakesFrom before (take (at + n) new) after
TakesFrom-more before middle after old new at n first second same =
    rw (take-add at n new, same) (TakesFrom-append before middle after _ _ first second)

-- one more write of a text: its front is what was appended
pub Appends-more : (before middle after : Option (List ℕ)) (text : List ℕ) (at n : ℕ) → Appends before (take at text) middle → Appends middle (take n (drop at text)) after → Appends before (take (at + n) text) after
Appends-more before middle after text at n first second =
    rw (take-add at n text) (Appends-append before middle after _ _ first second)

-- bytes that were taken are so many
pub TakesSome-two : (before middle after : Option (List ℕ)) (xs ys : List ℕ) (n : ℕ) → TakesFrom before xs middle → TakesFrom middle ys after → length xs + length ys ≤ n → (m : ℕ) × (m ≤ n) × TakesSome before after m
TakesSome-two before middle after xs ys n first second within =
    (length xs + length ys, within, (xs ++ ys, length-append xs ys, TakesFrom-append before middle after xs ys first second))

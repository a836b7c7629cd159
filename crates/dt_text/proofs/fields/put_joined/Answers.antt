use Rattle.std.proofs.Common.{◌≡◌, ℕ, ◌-◌, List, ◌∷◌, ◌++◌, length, get_or, take, drop, sym, ap, ◌∙◌, append_assoc}
use Rattle.std.specs.List.{flat_map}
use Rattle.std.proofs.lemmas.List.{take_all, take_rest}
use Rattle.dt_text.specs.Line.{sixteen_digits}
use Rattle.dt_text.proofs.Joined.{joined}
use Rattle.dt_text.proofs.fields.put_joined.Goals as goal

pub returns : goal.returns
returns c =
    let xs = c.args.numbers.now in
    let others = take (length xs - 1) (drop 1 xs) in
    let all : take c.loop-number.number-index others ≡ drop 1 xs = take_all c.loop-number.number-index others c.loop-number-test.false ∙ take_rest xs 1 in
    c.loop-number.invariant
    ∙ ap (λ (t : List ℕ). c.put_sixteen_digits.new.out.items ++ flat_map (λ n. 44 ∷ sixteen_digits n) t) all
    ∙ ap (λ (t : List ℕ). t ++ flat_map (λ n. 44 ∷ sixteen_digits n) (drop 1 xs)) c.in_ok-put_sixteen_digits.ensures.put
    ∙ append_assoc c.args.out.now.items (sixteen_digits (get_or xs 0 0)) (flat_map (λ n. 44 ∷ sixteen_digits n) (drop 1 xs))
    ∙ ap (λ (t : List ℕ). c.args.out.now.items ++ t) (sym (joined sixteen_digits xs c.in-len1-up.len_at_least))

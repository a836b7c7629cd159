use Rattle.std.proofs.Common.{ℕ, ◌≡◌, ◌∷◌, ◌∙◌, List, drop, length-drop, ap, arith}
use Rattle.std.proofs.lemmas.List.{take_all}
use Rattle.dt_hart.proofs.Registers.{first_and_rest}
use Rattle.dt_hart.proofs.states.named_registers.Goals as goal

pub returns : goal.returns
returns c = λ first is.
    let xs = c.args.x.now in
    let short = length-drop 1 xs in
    let part : borrow.Rule.Slice.PartMut.mid_of 1 31 xs ≡ drop 1 xs = take_all 31 (drop 1 xs) (omega (arith, short, c.told-x)) in
    ap (λ (ys : List ℕ). first ∷ ys) (c.copy_from_slice.ensures.after ∙ part) ∙ first_and_rest first xs (omega (arith, c.told-x)) is

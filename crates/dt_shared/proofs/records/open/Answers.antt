use Rattle.std.proofs.Common.{◌≡◌, List, [], ◌∷◌, ◌++◌, ap, sym, ◌∙◌, subst, arith}
use Rattle.atomic_table.specs.Table.{opening}
use Rattle.dt_shared.specs.Views.{newcomer, at_rest}
use Rattle.dt_shared.specs.Moments.{Stored, Holds}
use Rattle.dt_shared.proofs.Ends.{opens}
use Rattle.dt_shared.proofs.records.open.Goals as goal

pub new-requires-2 : goal.new-requires-2
new-requires-2 c = let list : Stored = c.new.result in
    let one : c.push_reserved.new.self.items ≡ list ∷ [] = c.push_reserved.ensures.items ∙ ap (λ (xs : List Stored). xs ++ list ∷ []) c.in_ok-slots.ensures.items in
    subst (λ (xs : List Stored). Holds c.args.passes (opening (0 ∷ 0 ∷ 0 ∷ 0 ∷ []) xs (at_rest (newcomer 0 ∷ []) 1))) (sym one) (opens c.args.passes list c.requires (omega arith) c.new.ensures.items)

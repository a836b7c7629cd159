-- Places in lists that go on.
use Rattle.std.proofs.Common.{◌≡◌, Bool, true, List, [], ◌∷◌, ◌++◌, refl}
use Rattle.std.specs.List.{list_all}
use Rattle.std.proofs.lemmas.Bool.{and_from, and_parts}
use Rattle.dt_record.specs.declared.records.Record.{Record}

pub all_front : (p : Record → Bool) (before more : List Record) → list_all p (before ++ more) ≡ true → list_all p before ≡ true
all_front p [] more all = refl
all_front p (q ∷ qs) more all =
    let parts = and_parts (p q) (list_all p (qs ++ more)) all in
    and_from (p q) (list_all p qs) parts.0 (all_front p qs more parts.1)

use Rattle.std.proofs.Common.{subst}
use Rattle.dt_local.specs.LocalMemory.{AreKnownBytes, LocalMemory}
use Rattle.dt_local.proofs.Known.{known_in_order}
use Rattle.dt_local.proofs.local.Local.pairs.Goals as goal

pub returns-clause-in_order : goal.returns-clause-in_order
returns-clause-in_order c =
    let are = c.self.invariant.words in
    subst (λ (l : LocalMemory). AreKnownBytes l.keys) c.self.view_is (known_in_order c.self.inside.slots.entries are.ordered are.in_ram)

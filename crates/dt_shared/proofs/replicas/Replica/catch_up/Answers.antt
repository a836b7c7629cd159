use Rattle.std.proofs.Common.{List, ap, sym, subst, ◌∙◌, arith}
use mathlib.Core.List.{IsPrefix}
use Rattle.dt_record.specs.declared.writes.Note.{Note}
use Rattle.dt_shared.specs.Entries.{notes_in}
use Rattle.dt_shared.specs.Replicas.{ReplicaState, Follows}
use Rattle.dt_shared.proofs.Progresses.{rest_notes}
use Rattle.dt_shared.proofs.replicas.Replica.catch_up.Goals as goal

pub invariant_of-self-2 : goal.invariant_of-self-2
invariant_of-self-2 c = subst (Follows c.follow_all.new.progress) (sym c.in_ok-add_notes.ensures.ok) (c.follow_all.ensures c.self.inside.notes.items c.self.invariant)

pub returns-clause-ok : goal.returns-clause-ok
returns-clause-ok c = let kept = ap (λ (r : ReplicaState). r.notes) c.self.view_is in
    let prefix : IsPrefix c.self.inside.notes.items (notes_in c.args.entries.now) = subst (λ (ns : List Note). IsPrefix ns (notes_in c.args.entries.now)) (sym kept) c.requires in
    let all = c.in_ok-add_notes.ensures.ok ∙ rest_notes c.self.inside.notes.items c.args.entries.now c.len.result prefix (let ok = c.self.inside.notes.ok in omega arith) in
    λ i. record { harts = (c.self.view_is i).harts; notes = all i }

use Rattle.std.proofs.Common.{◌∙◌, ap, sym, subst}
use Rattle.dt_local.specs.LocalMemory.{LocalMemory, greater, newest_of, noted_key, reserved_at}
use Rattle.dt_local.specs.Marks.{KeepsMarks}
use Rattle.dt_local.specs.Slots.{memory_of, IsSound}
use Rattle.dt_local.proofs.Bytes.{newest-known_bytes}
use Rattle.dt_local.proofs.Soundness.{IsSound-stepped}
use Rattle.dt_local.proofs.Undoing.{KeepsMarks-stepped}
use Rattle.dt_local.proofs.local.Local.note.Goals as goal

pub raise_all-requires-clause-line : goal.raise_all-requires-clause-line
raise_all-requires-clause-line c =
    c.self.invariant.line (reserved_at c.args.line c.args.mask) (ap (λ l. l.reserved) c.self.view_is ∙ c.requires)

pub raise_all-requires-clause-room : goal.raise_all-requires-clause-room
raise_all-requires-clause-room c =
    c.self.invariant.room (reserved_at c.args.line c.args.mask) (ap (λ l. l.reserved) c.self.view_is ∙ c.requires)

pub raise_all-requires-clause-spare : goal.raise_all-requires-clause-spare
raise_all-requires-clause-spare c =
    c.self.invariant.spare (reserved_at c.args.line c.args.mask) (ap (λ l. l.reserved) c.self.view_is ∙ c.requires)

pub invariant_of-self : goal.invariant_of-self
invariant_of-self c =
    let its = reserved_at c.args.line c.args.mask in
    IsSound-stepped c.self.inside.slots c.raise_all.new.slots c.self.inside.steps c.raise_all.new.steps its
    (subst (λ r. IsSound c.self.inside.slots c.self.inside.steps r) (ap (λ l. l.reserved) c.self.view_is ∙ c.requires) c.self.invariant)
    c.raise_all.ensures.stepped c.raise_all.ensures.words

pub returns-clause-noted : goal.returns-clause-noted
returns-clause-noted c = λ addr.
    let before = sym (newest-known_bytes addr c.self.inside.slots.entries c.self.invariant.words.ordered) ∙ ap (λ l. newest_of l addr) c.self.view_is in
    newest-known_bytes addr c.raise_all.new.slots.entries c.raise_all.ensures.words.ordered
    ∙ c.raise_all.ensures.raised addr
    ∙ ap (λ old. greater old (noted_key c.args.line c.args.mask c.args.keys.now addr)) before

pub returns-clause-marks : goal.returns-clause-marks
returns-clause-marks c =
    subst (λ (l : LocalMemory). KeepsMarks l (memory_of c.raise_all.new.slots.entries c.raise_all.new.steps _)) c.self.view_is
    (KeepsMarks-stepped c.self.inside.slots.entries c.raise_all.new.slots.entries c.self.inside.steps c.raise_all.new.steps 8 _ c.raise_all.ensures.stepped)

use Rattle.std.proofs.Common.{ap, ◌∙◌, subst, ◌<◌, length, ℕ, List}
use Rattle.dt_permissions.specs.Files.{perms_of}
use Rattle.dt_permissions.proofs.Told.{told, on_ok}
use Rattle.dt_permissions.proofs.reading.read_perms.Goals as goal

pub returns-clause-answer : goal.returns-clause-answer
returns-clause-answer g c = λ no_fault memory.
    told _ _ c.in_ok-bytes.bytes.items c.perms_of.result c.in_ok-bytes.ensures.takes c.in_ok-bytes.ensures.within c.in_ok-bytes.ensures.end
    (c.perms_of.ensures.answer memory ∙ ap perms_of c.deref.ensures.value)

pub returns-clause-calm : goal.returns-clause-calm
returns-clause-calm g c = λ calm memory.
    told _ _ c.in_ok-bytes.bytes.items c.perms_of.result c.in_ok-bytes.ensures.takes c.in_ok-bytes.ensures.within c.in_ok-bytes.ensures.end
    (c.perms_of.ensures.answer memory ∙ ap perms_of c.deref.ensures.value)

pub returns-clause-end : goal.returns-clause-end
returns-clause-end g c =
    on_ok c.perms_of.result _ _ c.perms_of.ensures.short
    (λ short. c.in_ok-bytes.ensures.end (subst (λ (z : List ℕ). length z < 75497506) c.deref.ensures.value short))

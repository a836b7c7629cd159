use Rattle.std.proofs.Common.{◌≡◌, Bool, true, false, not, refl, rules, sym, ap, ◌∙◌}
use Rattle.std.specs.List.{list_all}
use Rattle.std.specs.Map.{values_of}
use Rattle.std.proofs.lemmas.Bool.{cond-true, cond-false}
use Rattle.dt_record.specs.declared.writes.Write.{Write}
use Rattle.dt_record.specs.Writes.{insert_write}
use Rattle.dt_writes.specs.Apart.{keys_differ}
use Rattle.dt_settled.proofs.Entries.{values-insert, AreKeyed-insert, found-key}
use Rattle.dt_settled.proofs.waiting.Waiting.insert.Goals as goal

absent : (b found : Bool) → found ≡ not b → found ≡ false → b ≡ true
absent true found is none = refl
absent false found is none = absurd (let bad : true ≡ false = sym is ∙ none in let never : ⊥ = cc in never)

present : (b found : Bool) → found ≡ not b → found ≡ true → b ≡ false
present false found is some = refl
present true found is some = absurd (let bad : false ≡ true = sym is ∙ some in let never : ⊥ = cc in never)

pub invariant_of-self : goal.invariant_of-self
invariant_of-self c = AreKeyed-insert c.args.w c.self.inside.writes.entries c.insert.new.self.entries c.self.invariant c.in_ok-insert.ensures.entries c.insert.ensures.ordered

pub returns-in_ok-insert-clause-held : goal.returns-in_ok-insert-clause-held
returns-in_ok-insert-clause-held c =
    let w = c.args.w in
    let entries = c.self.inside.writes.entries in
    let differs : Write → Bool = λ v. keys_differ w.key v.key in
    let apart : list_all differs (values_of entries) ≡ true =
    absent (list_all differs (values_of entries)) c.contains_key.result (c.contains_key.ensures ∙ found-key w entries c.self.invariant.keyed) (search rules) in
    ap values_of c.in_ok-insert.ensures.entries ∙ values-insert w entries c.self.invariant.keyed apart
    ∙ ap (insert_write w) c.self.view_is
    ∙ sym (cond-true (list_all differs c.args.self.now) (insert_write w c.args.self.now) c.args.self.now (ap (list_all differs) (sym c.self.view_is) ∙ apart))

pub returns-in_ok-insert-clause-in_order : goal.returns-in_ok-insert-clause-in_order
returns-in_ok-insert-clause-in_order c = (AreKeyed-insert c.args.w c.self.inside.writes.entries c.insert.new.self.entries c.self.invariant c.in_ok-insert.ensures.entries c.insert.ensures.ordered).in_order

pub returns-else-not-contains_key-clause-held : goal.returns-else-not-contains_key-clause-held
returns-else-not-contains_key-clause-held c =
    let w = c.args.w in
    let entries = c.self.inside.writes.entries in
    let differs : Write → Bool = λ v. keys_differ w.key v.key in
    let found : list_all differs (values_of entries) ≡ false =
    present (list_all differs (values_of entries)) c.contains_key.result (c.contains_key.ensures ∙ found-key w entries c.self.invariant.keyed) (search rules) in
    sym (cond-false (list_all differs c.args.self.now) (insert_write w c.args.self.now) c.args.self.now (ap (list_all differs) (sym c.self.view_is) ∙ found))

use Rattle.std.proofs.Common.{◌≡◌, ◌%◌, ◌∙◌, ap, sym, rules}
use Rattle.std.specs.Option.{option_and_then}
use Rattle.dt_local.specs.LocalMemory.{newest_of}
use Rattle.dt_local.specs.Slots.{slot_key, key_at}
use Rattle.dt_local.proofs.Bytes.{newest-known_bytes}
use Rattle.dt_local.proofs.local.Local.newest.Goals as goal

pub returns-in-Some : goal.returns-in-Some
returns-in-Some c =
    let slot : c.key_of_byte.result ≡ slot_key c.self.inside.slots.entries c.args.addr = search rules in
    let kept = newest-known_bytes c.args.addr c.self.inside.slots.entries c.self.invariant.words.ordered in
    slot ∙ sym kept ∙ ap (λ l. newest_of l c.args.addr) c.self.view_is

pub returns-in-None : goal.returns-in-None
returns-in-None c =
    let kept = newest-known_bytes c.args.addr c.self.inside.slots.entries c.self.invariant.words.ordered in
    ap (option_and_then (λ slot. key_at slot (c.args.addr % 8))) c.in-None.ensures.value ∙ sym kept ∙ ap (λ l. newest_of l c.args.addr) c.self.view_is

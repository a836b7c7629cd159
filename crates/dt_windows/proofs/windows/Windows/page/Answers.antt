use Rattle.std.proofs.Common.{◌≡◌, ◌/◌, ◌∙◌, ap, sym, rules}
use Rattle.std.specs.Option.{option_flatten}
use Rattle.std.specs.Map.{lookup}
use Rattle.dt_windows.specs.Kept.{WindowsView, later_of, page_key}
use Rattle.dt_record.proofs.Undoing.{at}
use Rattle.dt_windows.proofs.Undoing.{lookup-present}
use Rattle.dt_windows.proofs.windows.Windows.page.Goals as goal

pub returns : goal.returns
returns c =
    let w = c.self.inside in
    let page = c.args.va / 4096 in
    let its : c.flatten.result ≡ option_flatten (lookup (at page) w.fenced.entries) = search rules in
    c.later_of.ensures ∙ ap (later_of w.all) (its ∙ sym (lookup-present page w.fenced.entries c.self.invariant.are_slots.ordered))
    ∙ ap (λ (v : WindowsView). page_key v c.args.va) c.self.view_is

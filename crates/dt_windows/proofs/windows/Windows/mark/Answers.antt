use Rattle.std.proofs.Common.{◌≡◌, ℕ, ◌+◌, Option, length, ap, ◌∙◌, refl, arith}
use Rattle.dt_record.specs.declared.keys.Key.{Key}
use Rattle.dt_windows.specs.Kept.{WindowsView}
use Rattle.dt_windows.specs.declared.windows.Mark.{Mark}
use Rattle.dt_windows.specs.Pages.{present, past_of, slots_before}
use Rattle.dt_record.proofs.Undoing.{length-earlier_views}
use Rattle.dt_windows.proofs.windows.Windows.mark.Goals as goal

abbrev marked : (at : ℕ) (instructions all : Option Key) → Mark
marked at instructions all = record { at = at; instructions = instructions; all = all }

pub returns-clause-here : goal.returns-clause-here
returns-clause-here c =
    let steps = c.self.inside.steps in
    let long = length-earlier_views slots_before present c.self.inside.fenced.entries steps.kept.items in
    let counted = steps.kept.ok.0 in
    let place : steps.from + c.len.result ≡ steps.from + length (past_of c.self.inside.fenced.entries steps.kept.items) = omega (arith, c.len.ensures, long, counted) in
    ap (λ n. marked n c.self.inside.instructions c.self.inside.all) place
    ∙ ap (λ (w : WindowsView). marked (w.from + length w.past) w.instructions w.all) c.self.view_is

pub returns-clause-live : goal.returns-clause-live
returns-clause-live c =
    let steps = c.self.inside.steps in
    let long = length-earlier_views slots_before present c.self.inside.fenced.entries steps.kept.items in
    let counted = steps.kept.ok.0 in
    record { keeps = refl; kept = omega arith; reached = omega (arith, c.len.ensures, long, counted) }

use Rattle.std.proofs.Common.{◌≡◌, ℕ, ◌+◌, length, ap, ◌∙◌, refl, sym, arith, subst, IsTrue}
use Rattle.dt_stores.specs.Kept.{Kept}
use Rattle.dt_stores.specs.declared.buffer.Mark.{Mark}
use Rattle.dt_stores.specs.Marks.{are_fenced}
use Rattle.dt_stores.specs.Past.{buffer_of, past_of}
use Rattle.dt_stores.proofs.GoingBack.{length-past_of, fenced, held_now}
use Rattle.dt_stores.proofs.buffer.Stores.mark.Goals as goal

abbrev marked : (at ww wr : ℕ) → Mark
marked at ww wr = record { at = at; ww = ww; wr = wr }

pub returns-clause-here : goal.returns-clause-here
returns-clause-here c =
    let s = c.self.inside in
    let b = buffer_of s.entries.items s.first s.late.items in
    let long = length-past_of b s.steps.kept.items in
    let counted = s.steps.kept.ok.0 in
    let place : s.steps.from + c.len.result ≡ s.steps.from + length (past_of b s.steps.kept.items) = omega (arith, c.len.ensures, long, counted) in
    ap (λ n. marked n s.ww s.wr) place
    ∙ ap (λ (k : Kept). marked (k.from + length k.past) k.ww k.wr) c.self.view_is

pub returns-clause-live : goal.returns-clause-live
returns-clause-live c =
    let s = c.self.inside in
    let b = buffer_of s.entries.items s.first s.late.items in
    let long = length-past_of b s.steps.kept.items in
    let counted = s.steps.kept.ok.0 in
    let order = c.self.invariant.now.order in
    record {
      keeps = refl;
      kept = omega arith;
      reached = omega (arith, c.len.ensures, long, counted);
      fences = subst (λ hs. IsTrue (are_fenced s.ww s.wr hs)) (sym (held_now b s.ww s.wr s.steps c.len.result (omega (arith, c.len.ensures, counted)))) (fenced s.ww s.wr 0 0 s.entries.items order.barriers order.readers);
    }

use Rattle.std.proofs.Common.{rules, List, Some, slice_get, ℕ, ◌+◌, ◌<◌, ◌≡◌, ap, sym, subst, ◌∙◌, arith}
use Rattle.dt_shared.specs.Views.{newcomer}
use Rattle.dt_shared.specs.Passes.{PassState, new_pass, pass_state, first_known}
use Rattle.dt_shared.specs.Steps.{Seated, maker}
use Rattle.dt_shared.proofs.Steps.{makes_for}
use Rattle.dt_shared.proofs.Gathering.{cut_more}
use Rattle.dt_shared.proofs.gathers.cut_passes.Goals as goal

pub split_seat-seat-requires : goal.split_seat-seat-requires
split_seat-seat-requires c = let key = c.requires.key in let test = c.loop-number-test.true in let low = c.loop-number.auto.number in
    (search rules, search rules, makes_for _ _ _ _ _ c.loop-number.invariant.first (omega arith) (omega arith))

pub loop-number-preserved : goal.loop-number-preserved
loop-number-preserved c = let i = c.loop-number.invariant in let s = c.split_seat-seat.ensures in record {
  table = search rules;
  first = s.2 ∙ ap (λ (x : Seated). (maker x.0, x.1)) i.first;
  count = search rules;
  room = search rules;
  cut = let id = c.args.board.now.table_id in let number = c.loop-number.number in let same = s.3 ∙ (i.table ∙ c.requires.table.0) in
      let is = (λ j. pass_state (same j) (first_known (s.4 j).0.passes)) ∙ ap (λ (x : Seated). pass_state id (newcomer x.0.made)) i.first in
      let ok = c.loop-number.cut.ok in let count = i.count in
      subst (λ (items : List PassState). (n : ℕ) → n + 1 < number + 1 → slice_get items n ≡ Some (new_pass id (n + 1))) (sym c.push_reserved.ensures.items)
      (cut_more id c.loop-number.cut.items _ number (omega arith) i.cut is);
}

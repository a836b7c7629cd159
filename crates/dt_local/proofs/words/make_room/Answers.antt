use Rattle.std.proofs.Common.{◌+◌, ◌/◌, sym, ap, ◌∙◌, inl, inr, arith}
use Rattle.std.proofs.lemmas.Bool.{cases_eq, false≢true}
use Rattle.dt_local.specs.Slots.{has_word}
use Rattle.dt_local.proofs.Undoing.{IsWidened-chain}
use Rattle.dt_local.proofs.words.make_room.Goals as goal
use Rattle.dt_local.proofs.words.make_room.Goals.{then-has_word+in_ok-add_slot, else-has_word}

pub returns-in_err-add_slot-clause-widened : goal.returns-in_err-add_slot-clause-widened
returns-in_err-add_slot-clause-widened c = IsWidened-chain _ _ _ c.loop-place.invariant.widened c.add_slot.ensures.widened

pub loop-place-preserved : goal.loop-place-preserved
loop-place-preserved c = elim c.if-has_word.branch [
  | then-has_word+in_ok-add_slot w ↦ rw w.slots-is (record {
    words = w.add_slot.ensures.words;
    widened = IsWidened-chain _ _ _ c.loop-place.invariant.widened w.add_slot.ensures.widened;
    room = λ k below has. elim (cases_eq k c.loop-place.place) [
      | inl is ↦ rw is w.in_ok-add_slot.ensures.room
      | inr apart ↦ w.add_slot.ensures.widened.kept (c.args.line / 8 + k) (c.loop-place.invariant.room k (omega arith) has)
    ];
  })
  | else-has_word w ↦ rw w.slots-is (record {
    words = c.loop-place.invariant.words;
    widened = c.loop-place.invariant.widened;
    room = λ k below has. elim (cases_eq k c.loop-place.place) [
      | inl is ↦ absurd (false≢true (sym w.if-has_word.false ∙ c.has_word.ensures ∙ ap (has_word c.args.mask) (sym is) ∙ has))
      | inr apart ↦ c.loop-place.invariant.room k (omega arith) has
    ];
  })
]

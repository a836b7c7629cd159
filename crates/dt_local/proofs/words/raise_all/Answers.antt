use Rattle.std.proofs.Common.{ℕ, ◌≡◌, ◌+◌, ◌∙◌, Option, ap, sym, arith}
use Rattle.dt_record.specs.declared.keys.Key.{Key}
use Rattle.dt_local.specs.LocalMemory.{greater}
use Rattle.dt_local.specs.Slots.{slot_key}
use Rattle.dt_local.proofs.Raised.{greater-none, gives_none, noted_before, noted_before-none, noted_before-more, noted_before-all, noted_by_word}
use Rattle.dt_local.proofs.Undoing.{IsStepped-none, IsStepped-more, IsStepped-chain}
use Rattle.dt_local.proofs.words.raise_all.Goals as goal
use Rattle.dt_local.proofs.words.raise_all.Goals.{then-has_word, else-has_word}

pub loop-place-init : goal.loop-place-init
loop-place-init c = record {
  raised = λ addr. sym (ap (greater (slot_key c.args.slots.now.entries addr)) (noted_before-none c.args.line c.args.mask addr c.args.keys.now)
      ∙ greater-none (slot_key c.args.slots.now.entries addr));
  stepped = IsStepped-none c.args.slots.now.entries c.args.steps.now;
  words = c.requires.words;
}

pub loop-place-preserved : goal.loop-place-preserved
loop-place-preserved c =
    let line = c.args.line in
    let mask = c.args.mask in
    let keys = c.args.keys.now in
    let place = c.loop-place.place in
    let more = λ (addr : ℕ). noted_before-more line mask place addr keys (slot_key c.args.slots.now.entries addr) c.requires.line c.loop-place-test.true in
    elim c.if-has_word.branch [
      | then-has_word w ↦ rw (w.slots-is, w.steps-is) (record {
        raised = λ addr. w.raise_word.ensures.raised addr
            ∙ ap (λ (o : Option Key). greater o (noted_by_word line mask keys addr place)) (c.loop-place.invariant.raised addr) ∙ more addr;
        stepped = IsStepped-chain _ _ _ _ _ _ place 1 c.loop-place.invariant.stepped w.raise_word.ensures.stepped;
        words = w.raise_word.ensures.words;
      })
      | else-has_word w ↦ rw (w.slots-is, w.steps-is) (record {
        raised = λ addr.
            let before = greater (slot_key c.args.slots.now.entries addr) (noted_before line mask keys addr place) in
            c.loop-place.invariant.raised addr ∙ sym (greater-none before)
            ∙ ap (greater before) (sym (gives_none line mask place addr keys (sym c.has_word.ensures ∙ w.if-has_word.false))) ∙ more addr;
        stepped = IsStepped-more _ _ _ _ place (place + 1) (omega arith) c.loop-place.invariant.stepped;
        words = c.loop-place.invariant.words;
      })
    ]

pub raise_word-requires-clause-room : goal.raise_word-requires-clause-room
raise_word-requires-clause-room c = c.loop-place.invariant.stepped.words _ (c.requires.room c.loop-place.place c.loop-place-test.true (sym c.has_word.ensures ∙ c.if-has_word.true))

pub returns-clause-raised : goal.returns-clause-raised
returns-clause-raised c = λ addr.
    let all : c.loop-place.place ≡ 8 = omega arith in
    let old = slot_key c.args.slots.now.entries addr in
    c.loop-place.invariant.raised addr
    ∙ ap (λ n. greater old (noted_before c.args.line c.args.mask c.args.keys.now addr n)) all
    ∙ ap (greater old) (noted_before-all c.args.line c.args.mask addr c.args.keys.now)

use Rattle.std.proofs.Common.{ℕ, ◌+◌, ◌-◌, ◌*◌, List, ◌++◌, ◌∙◌, ap, sym, map}
use Rattle.std.proofs.lemmas.List.{map-append}
use Rattle.dt_record.specs.declared.keys.Key.{Key}
use Rattle.dt_record.specs.declared.states.KnownByte.{KnownByte}
use Rattle.dt_local.specs.LocalMemory.{pair_of}
use Rattle.dt_local.specs.Slots.{key_at}
use Rattle.dt_local.proofs.Bytes.{run}
use Rattle.dt_local.proofs.Known.{after_key, after_none}
use Rattle.dt_local.proofs.pairs.push_word.Goals as goal
use Rattle.dt_local.proofs.pairs.push_word.Goals.{in-Some+in_ok-push, in_default}

pub loop-place-preserved : goal.loop-place-preserved
loop-place-preserved c =
    let f = key_at c.args.slot.now in
    let base = 8 * c.args.word in
    let old = map pair_of c.loop-place.bytes.items in
    elim c.match-key_of_byte.branch [
      | in-Some+in_ok-push w ↦ rw w.bytes-is (record {
        bytes = ap (λ (bytes : List KnownByte). map pair_of bytes ++ run f base (c.loop-place.place + 1) (8 - (c.loop-place.place + 1)))
            w.in_ok-push.ensures.items
            ∙ ap (λ (keys : List (ℕ × Key)). keys ++ run f base (c.loop-place.place + 1) (8 - (c.loop-place.place + 1))) (map-append pair_of c.loop-place.bytes.items _)
            ∙ after_key f base c.loop-place.place old _ w.in-Some.key c.loop-place-test.true (sym w.in-Some.ensures) c.loop-place.invariant.bytes;
      })
      | in_default w ↦ rw w.bytes-is (record {
        bytes = after_none f base c.loop-place.place old _ c.loop-place-test.true (sym w.in_default.ensures) c.loop-place.invariant.bytes;
      })
    ]

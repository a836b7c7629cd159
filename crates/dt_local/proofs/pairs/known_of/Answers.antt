use Rattle.std.proofs.Common.{ℕ, List, ◌++◌, ◌∙◌, ap, sym, subst, map}
use Rattle.dt_record.specs.declared.keys.Key.{Key}
use Rattle.dt_record.specs.declared.states.KnownByte.{KnownByte}
use Rattle.dt_local.specs.LocalMemory.{pair_of}
use Rattle.dt_local.specs.Slots.{known_bytes}
use Rattle.dt_local.proofs.Known.{AreInRam, words_in_ram, after_word}
use Rattle.dt_local.proofs.pairs.known_of.Goals as goal

pub loop-word-init : goal.loop-word-init
loop-word-init c =
    let words = c.into_iter-word-iterator.ensures.into_iter_gives.0 in
    record {
      bytes = ap (λ (bytes : List KnownByte). map pair_of bytes ++ known_bytes c.into_iter-word-iterator.result) c.new-bytes.ensures.items ∙ ap known_bytes words;
      in_ram = subst AreInRam (sym words) (words_in_ram c.args.slots.now.entries c.requires.in_ram);
    }

pub loop-word-preserved : goal.loop-word-preserved
loop-word-preserved c =
    let steps = c.in-Some.ensures.steps in
    record {
      bytes = ap (λ (keys : List (ℕ × Key)). keys ++ known_bytes c.next.new.self) c.in_ok-push_word.ensures
          ∙ after_word (c.in-Some.word.now, c.in-Some.slot.now) c.next.new.self c.loop-word.word-iterator (map pair_of c.loop-word.bytes.items) _ steps c.loop-word.invariant.bytes;
      in_ram = (subst AreInRam steps c.loop-word.invariant.in_ram).1;
    }

pub push_word-requires : goal.push_word-requires
push_word-requires c = (subst AreInRam c.in-Some.ensures.steps c.loop-word.invariant.in_ram).0

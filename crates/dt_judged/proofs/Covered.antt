use Rattle.std.proofs.Common.{ℕ, ◌≡◌, ◌+◌, ◌%◌, ◌≤◌, true, false, nat_lt, Option, Some, None, List, length, filter, take, sym, ap, ◌∙◌, inl, inr, arith}
use Rattle.std.specs.Int.{bit_at}
use Rattle.std.specs.Option.{option_map_or}
use Rattle.std.proofs.lemmas.Bool.{and_parts, cases_lt, lt-ltb, le-ltb, eqb-true}
use Rattle.dt_sources.proofs.Untaken.{covering_line}
use Rattle.dt_lists.proofs.Lists.{slice_get-take}
use Rattle.dt_record.specs.Memory.{line_of}
use Rattle.dt_record.specs.Actions.{Held, held_of, is_waiting, is_on, store_covers}
use Rattle.dt_stores.specs.declared.answers.DrainAnswer.TheVariants as answer
use Rattle.dt_stores.specs.Draining.{is_waiting_on, is_covered, mask_over, took, answer_among}
use Rattle.dt_stores.proofs.Merging.{bit_of, covered_bit}
use Rattle.dt_judged.specs.Covering.{taken_by, DrainsCoverStores}
use Rattle.dt_judged.proofs.Elements.{any_passes, passes_there}

-- The mask of a drain has each byte of the stores that it takes.

-- a drain that is allowed finds enough stores, and has their mask
pub record IsTaken (held : List Held) (line count mask : ℕ) : Type 0 where
  pub enough : count ≤ length (filter (is_waiting_on line) held)
  pub mask_is : mask_over line (take count (filter (is_waiting_on line) held)) ≡ mask

unbarred : (o : Option Held) (line : ℕ) (taken : List Held) (mask : ℕ) (bytes : List ℕ)
    → option_map_or (λ h. answer.Barred h.store.seq) o (took line taken) ≡ answer.Took mask bytes → mask_over line taken ≡ mask
unbarred None line taken mask bytes is = cc is
unbarred (Some h) line taken mask bytes is = absurd (cc is)

pub taken_parts : (held : List Held) (line count mask : ℕ) (bytes : List ℕ) → answer_among held line count ≡ answer.Took mask bytes → IsTaken held line count mask
taken_parts held line count mask bytes is = elim (cases_lt (length (filter (is_waiting_on line) held)) count) [
  | inl few ↦
      let less : nat_lt (length (filter (is_waiting_on line) held)) count ≡ true = lt-ltb (length (filter (is_waiting_on line) held)) count few in
      absurd (let refused : answer.Few (length (filter (is_waiting_on line) held)) ≡ answer.Took mask bytes = rw less at is in cc refused)
  | inr enough ↦
      let not_less : nat_lt (length (filter (is_waiting_on line) held)) count ≡ false = le-ltb (length (filter (is_waiting_on line) held)) count enough in
      record { enough = enough; mask_is = unbarred _ line (take count (filter (is_waiting_on line) held)) mask bytes (rw not_less at is) }
]

pub covered : DrainsCoverStores
covered actions line count mask bytes i h byte is there placed covering =
    let taken = taken_parts (held_of actions) line count mask bytes is in
    let waits = passes_there (is_waiting_on line) (held_of actions) i h (slice_get-take count (filter (is_waiting_on line) (held_of actions)) i h there) in
    let on_line : line_of h.store.addr ≡ line = eqb-true (line_of h.store.addr) line (and_parts (is_waiting h) (is_on line h.store) waits).1 in
    let same_line : line_of byte ≡ line = sym (covering_line h.store byte placed covering) ∙ on_line in
    let its : line + byte % 64 ≡ byte = omega arith in
    let has : is_covered (taken_by actions line count) (line + byte % 64) ≡ true =
    any_passes (λ g. store_covers (line + byte % 64) g.store) (taken_by actions line count) i h there (ap (λ a. store_covers a h.store) its ∙ covering) in
    (same_line, ap (λ n. bit_at n (byte % 64)) (sym taken.mask_is) ∙ covered_bit line (byte % 64) (taken_by actions line count) (omega arith) ∙ ap bit_of has)

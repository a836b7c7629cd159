use Rattle.std.proofs.Common.{ℕ, ◌≡◌, ◌+◌, ◌<◌, Bool, true, false, Option, None, Some, List, [], ◌∷◌, ◌++◌, length, max, get_or, take, drop, refl, sym, ap, ◌∙◌, subst, IsTrue, arith}
use Rattle.std.specs.Option.{option_map_or, option_or, option_to_list}
use Rattle.std.specs.Prelude.{if◌then◌else◌}
use Rattle.std.proofs.lemmas.List.{drop_more, length-append, take-append-drop, take-append-le, take_all}
use Rattle.std.proofs.lemmas.List.Elements.{All-nil}
use Rattle.dt_lists.proofs.Lists.{slice_get-append_left, slice_get-end}
use Rattle.dt_decode.specs.declared.instructions.Instr.{Instr}
use Rattle.dt_decode.specs.declared.instructions.Instr.TheVariants.{Lui, Auipc, Jal, Jalr, Branch, Load as LoadOf, Store as StoreOf, AluImm, Alu, Fence as FenceOf, FenceI, Lr, Sc, Amo, Csr, Ecall, Ebreak, Sret, Mret, Wfi, SfenceVma}
use Rattle.dt_record.specs.declared.keys.Key.{Key}
use Rattle.dt_record.specs.declared.origins.Sources.{Sources}
use Rattle.dt_record.specs.declared.records.Record.{Record}
use Rattle.dt_record.specs.declared.records.Body.{Body}
use Rattle.dt_record.specs.declared.records.Body.TheVariants.{Commit, Trap, Regs, Csrs, Load, Store, Atomic, Drain, Refill, Beat}
use Rattle.dt_record.specs.Actions.{Action, last_read}
use Rattle.dt_record.specs.Keys.{key_of}
use Rattle.dt_reference.specs.HartActions.{action_of, actions_of}
use Rattle.dt_reference.specs.Meaning.{meaning_of}
use Rattle.dt_reference.specs.Run.{state_from}
use Rattle.dt_step.specs.declared.plans.Planned.TheVariants.{FencesPages, Raises}
use Rattle.dt_step.specs.declared.state.Arch.{Arch}
use Rattle.dt_step.specs.Causes.{due_cause, due_tval}
use Rattle.dt_step.specs.State.{register}
use Rattle.dt_stores.specs.GoingOn.{AreDrainedBelow}
use Rattle.dt_stores.specs.Kept.{Kept, without_past}
use Rattle.dt_stores.specs.Standing.{StoresStand}
use Rattle.dt_windows.specs.Fences.{is_instruction_fence, last_fence}
use Rattle.dt_hart.specs.declared.accesses.Accesses.{Accesses}
use Rattle.dt_hart.specs.declared.replays.Replayed.{Replayed}
use Rattle.dt_hart.specs.Counting.{IsCounted}
use Rattle.dt_hart.specs.Fences.{fence_by, fence_in, fence_plan, fences_from}
use Rattle.dt_hart.specs.Following.{Follows}
use Rattle.dt_hart.specs.Fronts.{AreDrained, ArePlaced}
use Rattle.dt_hart.specs.Replaying.{IsReplayed, Replays, ReplaysOn, is_fence_i, means_fence_i}
use Rattle.dt_hart.specs.Reserving.{reserved_by, reserved_in}
use Rattle.dt_hart.specs.Taking.{IsDrained, is_placed}
use Rattle.dt_hart.proofs.FencesOn.{fences_from-snoc, reserved_from-snoc}
use Rattle.dt_hart.proofs.Floors.{last_read_after}
use Rattle.dt_hart.proofs.LastFences.{last-append, last_own, own_key}
use Rattle.dt_hart.proofs.DataOf.{within_at}
use Rattle.dt_hart.specs.OwnWrites.{are_rising}
use Rattle.dt_hart.proofs.Counted.{counts_later}
use Rattle.dt_hart.proofs.OwnKeys.{stamp_from-snoc, stamp_from_below}

-- What is replayed of a hart goes on by a record.

pub from_follows : (old new : Accesses) (key : Key) (body : Body) (sources : Sources) → Follows old new key body sources → Replays old new key body
from_follows old new key body sources follows = record { stores = follows.stores; last_read = follows.last_read }

-- ---- the last fence of instructions

pages_raise : (o : Option ℕ) (tval : ℕ → ℕ) (b c : Bool) (va : ℕ) (key : Key)
    → own_key is_instruction_fence key (Some (option_map_or (λ cause. Raises cause (tval cause)) o
    (if b then (if c then FencesPages None true else FencesPages (Some va) false) else FencesPages None false))) ≡ None
pages_raise (Some cause) tval b c va key = refl
pages_raise None tval true true va key = refl
pages_raise None tval true false va key = refl
pages_raise None tval false c va key = refl

by_instr : (a : Arch) (bits : ℕ) (key : Key) (o : Option Instr) → own_key is_instruction_fence key (fence_plan a bits o) ≡ (if means_fence_i o then Some key else None)
by_instr a bits key None = refl
by_instr a bits key (Some (Lui rd imm)) = refl
by_instr a bits key (Some (Auipc rd imm)) = refl
by_instr a bits key (Some (Jal rd imm)) = refl
by_instr a bits key (Some (Jalr rd rs1 imm)) = refl
by_instr a bits key (Some (Branch cond rs1 rs2 imm)) = refl
by_instr a bits key (Some (LoadOf width signed rd rs1 imm)) = refl
by_instr a bits key (Some (StoreOf width rs1 rs2 imm)) = refl
by_instr a bits key (Some (AluImm op word rd rs1 imm)) = refl
by_instr a bits key (Some (Alu op word rd rs1 rs2)) = refl
by_instr a bits key (Some (FenceOf fm pred succ)) = refl
by_instr a bits key (Some FenceI) = refl
by_instr a bits key (Some (Lr width aq rl rd rs1)) = refl
by_instr a bits key (Some (Sc width aq rl rd rs1 rs2)) = refl
by_instr a bits key (Some (Amo op width aq rl rd rs1 rs2)) = refl
by_instr a bits key (Some (Csr op number rd source immediate)) = refl
by_instr a bits key (Some Ecall) = refl
by_instr a bits key (Some Ebreak) = refl
by_instr a bits key (Some Sret) = refl
by_instr a bits key (Some Mret) = refl
by_instr a bits key (Some Wfi) = refl
by_instr a bits key (Some (SfenceVma rs1 rs2)) = pages_raise (due_cause a (SfenceVma rs1 rs2)) (due_tval a (SfenceVma rs1 rs2) bits) _ _ (register a rs1) key

own_fence : (a : Arch) (key : Key) (body : Body) → own_key is_instruction_fence key (fence_in a body) ≡ (if is_fence_i body then Some key else None)
own_fence a key (Commit retire) = by_instr a retire.bits key (meaning_of retire.bits)
own_fence a key (Trap pc bits cause tval) = refl
own_fence a key (Regs pc x) = refl
own_fence a key (Csrs mode v) = refl
own_fence a key (Load retire at paddr) = refl
own_fence a key (Store pc bits paddr value) = refl
own_fence a key (Atomic retire paddr width wrote new) = refl
own_fence a key (Drain line mask count bytes) = refl
own_fence a key (Refill line bytes) = refl
own_fence a key Beat = refl

or_choice : (b : Bool) (key : Key) (old : Option Key) → option_or (if b then Some key else None) old ≡ (if b then Some key else old)
or_choice true key old = refl
or_choice false key old = refl

fence_after : (a : Arch) (rs : List Record) (r : Record) → last_fence is_instruction_fence (fences_from a 0 (rs ++ r ∷ []))
    ≡ (if is_fence_i r.body then Some (key_of (length rs) r) else last_fence is_instruction_fence (fences_from a 0 rs))
fence_after a rs r =
    let before = fences_from a 0 rs in
    let here = state_from a rs in
    ap (last_fence is_instruction_fence) (fences_from-snoc a 0 rs r)
    ∙ last-append is_instruction_fence before (option_to_list (fence_by here (0 + length rs) r))
    ∙ ap (λ (o : Option Key). option_or o (last_fence is_instruction_fence before))
    (last_own is_instruction_fence (key_of (0 + length rs) r) (fence_in here r.body) ∙ own_fence here (key_of (0 + length rs) r) r.body)
    ∙ or_choice (is_fence_i r.body) (key_of (0 + length rs) r) (last_fence is_instruction_fence before)
    ∙ ap (λ n. if is_fence_i r.body then Some (key_of n r) else last_fence is_instruction_fence before) (omega arith)

-- ---- one more record

placed_before : (rs : List Record) (r : Record) → ArePlaced (rs ++ r ∷ []) → ArePlaced rs
placed_before rs r placed n q there = placed n q (slice_get-append_left rs (r ∷ []) n (within_at rs n q there) ∙ there)

drained_before : (rs : List Record) (r : Record) → AreDrained (rs ++ r ∷ []) → AreDrained rs
drained_before rs r drained n q there =
    let within = within_at rs n q there in
    subst (λ (xs : List Record). IsDrained (actions_of xs) q.body) (take-append-le n rs (r ∷ []) (omega (arith, within)))
    (drained n q (slice_get-append_left rs (r ∷ []) n within ∙ there))

drained_last : (rs : List Record) (r : Record) → AreDrained (rs ++ r ∷ []) → IsDrained (actions_of rs) r.body
drained_last rs r drained =
    subst (λ (xs : List Record). IsDrained (actions_of xs) r.body) (take-append-le (length rs) rs (r ∷ []) (omega arith) ∙ take_all (length rs) rs (omega arith))
    (drained (length rs) r (slice_get-end rs r))

abbrev ActionsGoOn : Type 0
ActionsGoOn = (records : List Record) (r : Record) → actions_of (records ++ r ∷ []) ≡ actions_of records ++ option_to_list (action_of (length records) r)

pub replayed_on : ActionsGoOn → (hart : ℕ) (old new : Replayed) (rs : List Record) (r : Record) → IsReplayed hart old rs → ReplaysOn old new r → r.hart ≡ hart
    → IsReplayed hart new (rs ++ r ∷ [])
replayed_on actions hart old new rs r is on its =
    let acts = actions rs r in
    let accesses : IsTrue (is_placed (action_of (length rs) r)) → Replays old.accesses new.accesses (key_of (length rs) r) r.body =
    subst (λ n. IsTrue (is_placed (action_of n r)) → Replays old.accesses new.accesses (key_of n r) r.body) is.seq on.accesses in
    let Counted : (stamp h seq : ℕ) → Type 0 = λ stamp h seq. IsCounted new.accesses.stores (record { stamp = stamp; hart = h; seq = seq }) in
    let last : ArePlaced (rs ++ r ∷ []) → IsTrue (is_placed (action_of (length rs) r)) = λ placed. placed (length rs) r (slice_get-end rs r) in
    record {
      seq = on.seq ∙ ap (λ n. n + 1) is.seq ∙ sym (length-append rs (r ∷ []));
      stamp = on.stamp ∙ sym (stamp_from-snoc 0 rs r);
      counted = subst (λ n. Counted new.stamp hart n) (sym on.seq) (subst (λ n. Counted n hart (old.seq + 1)) (sym on.stamp)
          (subst (λ n. Counted r.stamp n (old.seq + 1)) its on.counted));
      stores = λ placed drained. subst (λ (xs : List Action). StoresStand new.accesses.stores xs) (sym acts)
          ((accesses (last placed)).stores (actions_of rs) (is.stores (placed_before rs r placed) (drained_before rs r drained)) (drained_last rs r drained));
      last_read = λ placed. (accesses (last placed)).last_read
          ∙ ap (λ n. max n (last_read (option_to_list (action_of (length rs) r)))) (is.last_read (placed_before rs r placed))
          ∙ sym (ap last_read acts ∙ last_read_after (actions_of rs) (action_of (length rs) r));
      reserved = on.reserved ∙ ap (λ n. reserved_by (key_of n r) r.body old.reserved) is.seq ∙ ap (reserved_by (key_of (length rs) r) r.body) is.reserved
          ∙ ap (λ n. reserved_by (key_of n r) r.body (reserved_in rs)) (omega arith) ∙ sym (reserved_from-snoc 0 None rs r);
      instructions = λ a. on.instructions ∙ ap (λ n. if is_fence_i r.body then Some (key_of n r) else old.instructions) is.seq
          ∙ ap (λ (o : Option Key). if is_fence_i r.body then Some (key_of (length rs) r) else o) (is.instructions a) ∙ sym (fence_after a rs r);
    }

-- what the next record's key asks of the stores
pub counted_next : (hart : ℕ) (v : Replayed) (rs : List Record) (r : Record) (more : List Record) → IsReplayed hart v rs → IsTrue (are_rising (rs ++ r ∷ more)) → r.hart ≡ hart
    → IsCounted v.accesses.stores (key_of v.seq r)
counted_next hart v rs r more is rising its =
    let rise = stamp_from_below 0 rs r more rising (omega arith) in
    counts_later v.accesses.stores (record { stamp = v.stamp; hart = hart; seq = v.seq }) (key_of v.seq r) (omega (arith, rise, is.stamp)) (sym its) (omega arith) is.counted

pub split_at : (rs : List Record) (i : ℕ) (d : Record) → i < length rs → rs ≡ take i rs ++ get_or rs i d ∷ drop (i + 1) rs
split_at rs i d within = sym (take-append-drop i rs) ∙ ap (λ (rest : List Record). take i rs ++ rest) (drop_more rs i d within)

pub replayed_first : (hart : ℕ) (v : Replayed) → v.seq ≡ 0 → v.stamp ≡ 0 → v.accesses.stores ≡ without_past [] 0 0 → StoresStand v.accesses.stores [] → v.accesses.last_read ≡ 0
    → v.reserved ≡ None → v.instructions ≡ None → IsReplayed hart v []
replayed_first hart v seq stamp empty stands last_read reserved instructions = record {
  seq = seq;
  stamp = stamp;
  counted = record {
    actions = [];
    stands = stands;
    few = omega arith;
    below = subst (λ (k : Kept). AreDrainedBelow (record { stamp = v.stamp; hart = hart; seq = v.seq }) k.held) (sym empty) (All-nil _);
  };
  stores = λ placed drained. stands;
  last_read = λ placed. last_read;
  reserved = reserved;
  instructions = λ a. instructions;
}

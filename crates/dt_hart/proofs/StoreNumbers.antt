use Rattle.std.proofs.Common.{ℕ, ◌≡◌, ◌+◌, ◌<◌, Option, Some, None, List, [], ◌∷◌, length, sym, ap, subst, inl, inr, arith}
use Rattle.std.specs.List.{Contains}
use Rattle.std.specs.Option.{option_to_list}
use Rattle.std.proofs.lemmas.Bool.{cases_Bool}
use Rattle.std.proofs.lemmas.List.Elements.{Contains-append_cases}
use Rattle.dt_stores.proofs.ActionLaws.{stores_of-append}
use Rattle.dt_decode.specs.declared.instructions.Instr.{Instr}
use Rattle.dt_decode.specs.declared.instructions.Instr.TheVariants.{Fence}
use Rattle.dt_record.specs.declared.accesses.OwnStore.{OwnStore}
use Rattle.dt_record.specs.declared.keys.Key.{Key}
use Rattle.dt_record.specs.declared.records.Body.{Body}
use Rattle.dt_record.specs.declared.records.Body.TheVariants.{Commit, Trap, Regs, Csrs, Load, Store, Atomic, Drain, Refill, Beat}
use Rattle.dt_record.specs.declared.records.Record.{Record}
use Rattle.dt_record.specs.Actions.{Action, Stored, Drained, Fenced, Loaded, Atomic as Accessed}
use Rattle.dt_record.specs.Keys.{key_of}
use Rattle.dt_record.specs.Lawful.{is_in_ram}
use Rattle.dt_step.specs.declared.plans.Planned.{Planned}
use Rattle.dt_step.specs.declared.plans.Planned.TheVariants.{Fences}
use Rattle.dt_step.specs.Plans.{fence_of}
use Rattle.dt_reference.specs.HartActions.{action_of, actions_from, body_action, commit_action, fenced, width_of}
use Rattle.dt_reference.specs.Meaning.{meaning_of}
use Rattle.dt_stores.specs.Standing.{stores_of}
use Rattle.dt_hart.proofs.Members.{cons_cases, no_element}

-- The numbers of a hart's stores are those of their records.

fenced_no_store : (plan : Planned) (store : OwnStore) → fenced plan ≡ Some (Stored store) → ⊥
fenced_no_store (Fences ww wr rr) store is = cc is
fenced_no_store plan store is = cc is

commit_no_store : (instr : Option Instr) (store : OwnStore) → commit_action instr ≡ Some (Stored store) → ⊥
commit_no_store (Some (Fence fm pred succ)) store is = fenced_no_store (fence_of fm pred succ) store is
commit_no_store instr store is = cc is

store_number : (key : Key) (body : Body) (store : OwnStore) → body_action key body ≡ Some (Stored store) → store.seq ≡ key.seq
store_number key (Commit retire) store is = absurd (commit_no_store (meaning_of retire.bits) store is)
store_number key (Trap pc bits cause tval) store is = absurd (cc is)
store_number key (Regs pc x) store is = absurd (cc is)
store_number key (Csrs mode v) store is = absurd (cc is)
store_number key (Load retire at paddr) store is = elim (cases_Bool (is_in_ram paddr)) [
  | inl ram ↦ absurd (let no = rw ram at is in cc no)
  | inr device ↦ absurd (let no = rw device at is in cc no)
]
store_number key (Store pc bits paddr value) store is = elim (cases_Bool (is_in_ram paddr)) [
  | inl ram ↦
      let made : OwnStore = record { seq = key.seq; addr = paddr; width = width_of (meaning_of bits); value = value } in
      let same : Some (Stored made) ≡ Some (Stored store) = rw ram at is in
      let one : made ≡ store = cc same in
      sym (ap (λ (s : OwnStore). s.seq) one)
  | inr device ↦ absurd (let no = rw device at is in cc no)
]
store_number key (Atomic retire paddr width wrote new) store is = absurd (cc is)
store_number key (Drain line mask count bytes) store is = absurd (cc is)
store_number key (Refill line bytes) store is = absurd (cc is)
store_number key Beat store is = absurd (cc is)

one_store : (o : Option Action) (store : OwnStore) → Contains (stores_of (option_to_list o)) store → o ≡ Some (Stored store)
one_store None store there = absurd (no_element store there)
one_store (Some (Stored s)) store there = elim (cons_cases s [] store there) [
  | inl here ↦ ap (λ (x : OwnStore). Some (Stored x)) here
  | inr later ↦ absurd (no_element store later)
]
one_store (Some (Drained key line count)) store there = absurd (no_element store there)
one_store (Some (Fenced ww wr rr)) store there = absurd (no_element store there)
one_store (Some (Loaded ask)) store there = absurd (no_element store there)
one_store (Some (Accessed key addr width reads acquires)) store there = absurd (no_element store there)

-- the stores of a hart's records have numbers below that of the next one
pub number_below : (seq : ℕ) (records : List Record) (store : OwnStore) → Contains (stores_of (actions_from seq records)) store → store.seq < seq + length records
number_below seq [] store there = absurd (no_element store there)
number_below seq (r ∷ rs) store there =
    let parts = subst (λ (l : List OwnStore). Contains l store) (stores_of-append (option_to_list (action_of seq r)) (actions_from (seq + 1) rs)) there in
    elim (Contains-append_cases (stores_of (option_to_list (action_of seq r))) (stores_of (actions_from (seq + 1) rs)) store parts) [
      | inl here ↦ omega (arith, store_number (key_of seq r) r.body store (one_store (action_of seq r) store here))
      | inr later ↦ omega (arith, number_below (seq + 1) rs store later)
    ]

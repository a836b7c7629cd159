use Rattle.std.proofs.Common.{ℕ, ◌≡◌, ◌==◌, ◌&&◌, Bool, true, false, not, Option, Some, None, Result, Ok, Err, refl, sym}
use Rattle.std.specs.Prelude.{if◌then◌else◌, OnOk}
use Rattle.std.specs.Option.{option_map_or}
use Rattle.std.proofs.lemmas.Option.{same_Some}
use Rattle.dt_decode.specs.declared.instructions.Instr.{Instr}
use Rattle.dt_decode.specs.declared.instructions.Instr.TheVariants.{Fence as FenceOf, FenceI, SfenceVma}
use Rattle.dt_record.specs.declared.keys.Key.{Key}
use Rattle.dt_record.specs.declared.origins.Sources.{Sources}
use Rattle.dt_record.specs.declared.records.Body.{Body}
use Rattle.dt_record.specs.declared.records.Body.TheVariants.{Commit, Trap, Regs, Csrs, Load, Store, Atomic, Drain, Refill, Beat}
use Rattle.dt_record.specs.declared.records.Record.{Record}
use Rattle.dt_record.specs.Actions.{Fenced}
use Rattle.dt_record.specs.Keys.{key_of}
use Rattle.dt_record.specs.Writes.{body_write}
use Rattle.dt_reference.specs.HartActions.{body_action, commit_action}
use Rattle.dt_reference.specs.Meaning.{meaning_of}
use Rattle.dt_step.specs.declared.plans.Planned.{Planned}
use Rattle.dt_step.specs.declared.plans.Planned.TheVariants.{Fences, FencesPages, Raises}
use Rattle.dt_step.specs.declared.state.Arch.{Arch}
use Rattle.dt_step.specs.Causes.{due_cause, due_tval}
use Rattle.dt_step.specs.Plans.{has_reads, has_writes, is_tso}
use Rattle.dt_step.specs.State.{register}
use Rattle.dt_windows.specs.Kept.{WindowsView, TakesFence}
use Rattle.dt_hart.specs.declared.accesses.Accesses.{Accesses}
use Rattle.dt_hart.specs.Fences.{fence_in, fence_plan, ordering_in, ordering_plan}
use Rattle.dt_hart.specs.Following.{Follows, FollowsFences, read_by}
use Rattle.dt_hart.proofs.AccessLaws.{rest_follows}

-- What a record does, by the plan of the fence that it retires.

-- a commit writes and reads nothing
pub record IsCommit (key : Key) (body : Body) : Type 0 where
  pub write : body_write key body ≡ None
  pub read : (sources : Sources) (byte : ℕ) → read_by body sources byte ≡ None

-- a fence of any kind is a commit
pub ordering_commits : (a : Arch) (key : Key) (body : Body) (plan : Planned) → ordering_in a body ≡ Some plan → IsCommit key body
ordering_commits a key (Commit retire) plan is = record { write = refl; read = λ sources byte. refl }
ordering_commits a key (Trap pc bits cause tval) plan is = absurd (cc is)
ordering_commits a key (Regs pc x) plan is = absurd (cc is)
ordering_commits a key (Csrs mode v) plan is = absurd (cc is)
ordering_commits a key (Load retire at paddr) plan is = absurd (cc is)
ordering_commits a key (Store pc bits paddr value) plan is = absurd (cc is)
ordering_commits a key (Atomic retire paddr width wrote new) plan is = absurd (cc is)
ordering_commits a key (Drain line mask count bytes) plan is = absurd (cc is)
ordering_commits a key (Refill line bytes) plan is = absurd (cc is)
ordering_commits a key Beat plan is = absurd (cc is)

-- SFENCE.VMA plans no FENCE
pages_no_fence : (o : Option ℕ) (tval : ℕ → ℕ) (b c : Bool) (va : ℕ) (ww wr rr : Bool)
    → option_map_or (λ cause. Raises cause (tval cause)) o
    (if b then (if c then FencesPages None true else FencesPages (Some va) false) else FencesPages None false) ≡ Fences ww wr rr → ⊥
pages_no_fence (Some cause) tval b c va ww wr rr is = cc is
pages_no_fence None tval true true va ww wr rr is = cc is
pages_no_fence None tval true false va ww wr rr is = cc is
pages_no_fence None tval false c va ww wr rr is = cc is

-- of a FENCE
pub record IsOrdering (a : Arch) (key : Key) (body : Body) (ww wr rr : Bool) : Type 0 where
  pub action : body_action key body ≡ Some (Fenced ww wr rr)
  pub no_pages : fence_in a body ≡ None

ordering_instr : (a : Arch) (bits : ℕ) (instr : Option Instr) (ww wr rr : Bool) → ordering_plan a bits instr ≡ Some (Fences ww wr rr)
    → (commit_action instr ≡ Some (Fenced ww wr rr)) × (fence_plan a bits instr ≡ None)
ordering_instr a bits (Some (FenceOf fm pred succ)) ww wr rr is = (cc is, refl)
ordering_instr a bits (Some FenceI) ww wr rr is = absurd (cc is)
ordering_instr a bits (Some (SfenceVma rs1 rs2)) ww wr rr is =
    absurd (pages_no_fence (due_cause a (SfenceVma rs1 rs2)) (due_tval a (SfenceVma rs1 rs2) bits) (rs2 == 0) (rs1 == 0) (register a rs1) ww wr rr (cc is))
ordering_instr a bits instr ww wr rr is = absurd (cc is)

pub is_ordering : (a : Arch) (key : Key) (body : Body) (ww wr rr : Bool) → ordering_in a body ≡ Some (Fences ww wr rr) → IsOrdering a key body ww wr rr
is_ordering a key (Commit retire) ww wr rr is =
    let both = ordering_instr a retire.bits (meaning_of retire.bits) ww wr rr is in
    record { action = both.0; no_pages = both.1 }
is_ordering a key (Trap pc bits cause tval) ww wr rr is = absurd (cc is)
is_ordering a key (Regs pc x) ww wr rr is = absurd (cc is)
is_ordering a key (Csrs mode v) ww wr rr is = absurd (cc is)
is_ordering a key (Load retire at paddr) ww wr rr is = absurd (cc is)
is_ordering a key (Store pc bits paddr value) ww wr rr is = absurd (cc is)
is_ordering a key (Atomic retire paddr width wrote new) ww wr rr is = absurd (cc is)
is_ordering a key (Drain line mask count bytes) ww wr rr is = absurd (cc is)
is_ordering a key (Refill line bytes) ww wr rr is = absurd (cc is)
is_ordering a key Beat ww wr rr is = absurd (cc is)

-- of another fence
pub record IsPageFence (a : Arch) (key : Key) (body : Body) (plan : Planned) : Type 0 where
  pub action : body_action key body ≡ None
  pub planned : fence_in a body ≡ Some plan

no_other : (ww wr rr : Bool) (plan : Planned) → Some (Fences ww wr rr) ≡ Some plan → ((ww wr rr : Bool) → plan ≡ Fences ww wr rr → ⊥) → ⊥
no_other ww wr rr plan is other = other ww wr rr (sym (same_Some (Fences ww wr rr) plan is))

page_instr : (a : Arch) (bits : ℕ) (instr : Option Instr) (plan : Planned) → ordering_plan a bits instr ≡ Some plan → ((ww wr rr : Bool) → plan ≡ Fences ww wr rr → ⊥)
    → (commit_action instr ≡ None) × (fence_plan a bits instr ≡ Some plan)
page_instr a bits (Some (FenceOf fm pred succ)) plan is other =
    absurd (no_other (has_writes pred && has_writes succ) ((has_writes pred && has_reads succ) && not (is_tso fm pred succ)) (has_reads pred && has_reads succ) plan is other)
page_instr a bits (Some FenceI) plan is other = (refl, is)
page_instr a bits (Some (SfenceVma rs1 rs2)) plan is other = (refl, is)
page_instr a bits instr plan is other = absurd (cc is)

pub is_page_fence : (a : Arch) (key : Key) (body : Body) (plan : Planned) → ordering_in a body ≡ Some plan → ((ww wr rr : Bool) → plan ≡ Fences ww wr rr → ⊥)
    → IsPageFence a key body plan
is_page_fence a key (Commit retire) plan is other =
    let both = page_instr a retire.bits (meaning_of retire.bits) plan is other in
    record { action = both.0; planned = both.1 }
is_page_fence a key (Trap pc bits cause tval) plan is other = absurd (cc is)
is_page_fence a key (Regs pc x) plan is other = absurd (cc is)
is_page_fence a key (Csrs mode v) plan is other = absurd (cc is)
is_page_fence a key (Load retire at paddr) plan is other = absurd (cc is)
is_page_fence a key (Store pc bits paddr value) plan is other = absurd (cc is)
is_page_fence a key (Atomic retire paddr width wrote new) plan is other = absurd (cc is)
is_page_fence a key (Drain line mask count bytes) plan is other = absurd (cc is)
is_page_fence a key (Refill line bytes) plan is other = absurd (cc is)
is_page_fence a key Beat plan is other = absurd (cc is)

-- what holds anyway holds on success
pub on_ok : {A E : Type 0} (result : Result A E) (P : Type 0) → P → OnOk result P
on_ok (Ok done) P holds = holds
on_ok (Err refused) P holds = tt

-- the accesses after a fence of pages or instructions, and the fences after it
pub page_accesses : (accesses : Accesses) (a : Arch) (seq : ℕ) (r : Record) (sources : Sources) (plan : Planned) → ordering_in a r.body ≡ Some plan
    → ((ww wr rr : Bool) → plan ≡ Fences ww wr rr → ⊥) → Follows accesses accesses (key_of seq r) r.body sources
page_accesses accesses a seq r sources plan is other =
    let commit = ordering_commits a (key_of seq r) r.body plan is in
    rest_follows accesses (key_of seq r) r.body sources (is_page_fence a (key_of seq r) r.body plan is other).action commit.write (commit.read sources)

pub page_fences : {A E : Type 0} (result : Result A E) (old new : WindowsView) (a : Arch) (seq : ℕ) (r : Record) (plan : Planned) → ordering_in a r.body ≡ Some plan
    → ((ww wr rr : Bool) → plan ≡ Fences ww wr rr → ⊥) → OnOk result (TakesFence old new plan (key_of seq r)) → OnOk result (FollowsFences old new a seq r)
page_fences (Ok done) old new a seq r plan is other takes = λ fences below keeps.
    let planned = (is_page_fence a (key_of seq r) r.body plan is other).planned in
    rw planned (takes fences below keeps)
page_fences (Err refused) old new a seq r plan is other takes = tt

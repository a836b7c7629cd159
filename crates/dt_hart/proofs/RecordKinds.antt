use Rattle.std.proofs.Common.{ℕ, ◌≡◌, Bool, Option, Some, None, List, take, refl, ap, inl, inr}
use Rattle.std.proofs.lemmas.Bool.{cases_Bool}
use Rattle.dt_alu.specs.Extend.{low_bytes_of}
use Rattle.dt_decode.specs.declared.instructions.Instr.{Instr}
use Rattle.dt_decode.specs.declared.instructions.Instr.TheVariants.{Fence}
use Rattle.dt_record.specs.declared.accesses.LoadAsk.{LoadAsk}
use Rattle.dt_record.specs.declared.accesses.OwnStore.{OwnStore}
use Rattle.dt_record.specs.declared.keys.Key.{Key}
use Rattle.dt_record.specs.declared.origins.Sources.{Sources}
use Rattle.dt_record.specs.declared.records.Body.{Body}
use Rattle.dt_record.specs.declared.records.Body.TheVariants.{Commit, Trap, Regs, Csrs, Load, Store, Atomic, Drain, Refill, Beat}
use Rattle.dt_record.specs.declared.records.Retire.{Retire}
use Rattle.dt_record.specs.Actions.{Stored, Fenced, Loaded}
use Rattle.dt_record.specs.Lawful.{is_in_ram}
use Rattle.dt_record.specs.Writes.{body_write}
use Rattle.dt_reference.specs.HartActions.{body_action, commit_action, width_of}
use Rattle.dt_reference.specs.Meaning.{meaning_of}
use Rattle.dt_hart.specs.Following.{read_by, read_key}

-- The records by what they do.

-- a record that orders nothing and writes nothing
pub record IsIdle (key : Key) (body : Body) : Type 0 where
  pub action : body_action key body ≡ None
  pub write : body_write key body ≡ None
  pub read : (sources : Sources) (byte : ℕ) → read_by body sources byte ≡ None

-- a load from RAM
pub record IsLoad (key : Key) (body : Body) : Type 0 where
  pub ask : LoadAsk
  pub action : body_action key body ≡ Some (Loaded ask)
  pub write : body_write key body ≡ None
  pub read : (sources : Sources) (byte : ℕ) → read_by body sources byte ≡ read_key ask.addr (take ask.width sources.from) byte
  pub its : ask.key ≡ key

-- a store to RAM
pub record IsStore (key : Key) (body : Body) : Type 0 where
  pub store : OwnStore
  pub action : body_action key body ≡ Some (Stored store)
  pub write : body_write key body ≡ None
  pub read : (sources : Sources) (byte : ℕ) → read_by body sources byte ≡ None
  pub its : store.seq ≡ key.seq

-- a FENCE
pub record IsFence (key : Key) (body : Body) : Type 0 where
  pub ww : Bool
  pub wr : Bool
  pub rr : Bool
  pub action : body_action key body ≡ Some (Fenced ww wr rr)
  pub write : body_write key body ≡ None
  pub read : (sources : Sources) (byte : ℕ) → read_by body sources byte ≡ None

pub record IsAtomic (body : Body) : Type 0 where
  pub retire : Retire
  pub paddr : ℕ
  pub width : ℕ
  pub wrote : Bool
  pub new : ℕ
  pub is : body ≡ Atomic retire paddr width wrote new

pub record IsDrain (body : Body) : Type 0 where
  pub line : ℕ
  pub mask : ℕ
  pub count : ℕ
  pub bytes : List ℕ
  pub is : body ≡ Drain line mask count bytes

pub data Kind (key : Key) (body : Body) : Type 0 where
  Idle : IsIdle key body → Kind key body
  Loads : IsLoad key body → Kind key body
  Stores : IsStore key body → Kind key body
  Fences : IsFence key body → Kind key body
  Atomics : IsAtomic body → Kind key body
  Drains : IsDrain body → Kind key body

load_from_ram : (key : Key) (body : Body) (ask : LoadAsk) → body_action key body ≡ Some (Loaded ask) → body_write key body ≡ None
    → ((sources : Sources) (byte : ℕ) → read_by body sources byte ≡ read_key ask.addr (take ask.width sources.from) byte)
    → ask.key ≡ key → Kind key body
load_from_ram key body ask action write read its = Loads (record { ask = ask; action = action; write = write; read = read; its = its })

store_to_ram : (key : Key) (body : Body) (store : OwnStore) → body_action key body ≡ Some (Stored store) → body_write key body ≡ None
    → ((sources : Sources) (byte : ℕ) → read_by body sources byte ≡ None) → store.seq ≡ key.seq → Kind key body
store_to_ram key body store action write read its = Stores (record { store = store; action = action; write = write; read = read; its = its })

fence : (key : Key) (body : Body) (ww wr rr : Bool) → body_action key body ≡ Some (Fenced ww wr rr) → body_write key body ≡ None
    → ((sources : Sources) (byte : ℕ) → read_by body sources byte ≡ None) → Kind key body
fence key body ww wr rr action write read = Fences (record { ww = ww; wr = wr; rr = rr; action = action; write = write; read = read })

commit_kind : (key : Key) (retire : Retire) (instr : Option Instr) → meaning_of retire.bits ≡ instr → Kind key (Commit retire)
commit_kind key retire (Some (Fence fm pred succ)) is = fence key (Commit retire) _ _ _ (ap commit_action is) refl (λ sources byte. refl)
commit_kind key retire instr is = Idle (record { action = ap commit_action is; write = refl; read = λ sources byte. refl })

-- every record is of one of these kinds
pub kind_of : (key : Key) (body : Body) → Kind key body
kind_of key (Commit retire) = commit_kind key retire (meaning_of retire.bits) refl
kind_of key (Trap pc bits cause tval) = Idle (record { action = refl; write = refl; read = λ sources byte. refl })
kind_of key (Regs pc x) = Idle (record { action = refl; write = refl; read = λ sources byte. refl })
kind_of key (Csrs mode v) = Idle (record { action = refl; write = refl; read = λ sources byte. refl })
kind_of key (Load retire at paddr) = elim (cases_Bool (is_in_ram paddr)) [
  | inl ram ↦
      let width : ℕ = width_of (meaning_of retire.bits) in
      let ask : LoadAsk = record { key = key; at = at; addr = paddr; width = width; raw = low_bytes_of width retire.value } in
      load_from_ram key (Load retire at paddr) ask (rw ram refl) refl (λ sources byte. rw ram refl) refl
  | inr device ↦ Idle (record { action = rw device refl; write = refl; read = λ sources byte. rw device refl })
]
kind_of key (Store pc bits paddr value) = elim (cases_Bool (is_in_ram paddr)) [
  | inl ram ↦
      let store : OwnStore = record { seq = key.seq; addr = paddr; width = width_of (meaning_of bits); value = value } in
      store_to_ram key (Store pc bits paddr value) store (rw ram refl) refl (λ sources byte. refl) refl
  | inr device ↦ Idle (record { action = rw device refl; write = refl; read = λ sources byte. refl })
]
kind_of key (Atomic retire paddr width wrote new) =
    Atomics (record { retire = retire; paddr = paddr; width = width; wrote = wrote; new = new; is = refl })
kind_of key (Drain line mask count bytes) = Drains (record { line = line; mask = mask; count = count; bytes = bytes; is = refl })
kind_of key (Refill line bytes) = Idle (record { action = refl; write = refl; read = λ sources byte. refl })
kind_of key Beat = Idle (record { action = refl; write = refl; read = λ sources byte. refl })

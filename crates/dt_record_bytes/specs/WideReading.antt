-- Fields of version 1 as they are read, one after another, from bytes of any kind: what stands at the front, and what is
-- behind it (this project's own).
use Rattle.std.specs.Prelude.{ℕ, suc, zero, ◌==◌, not, if◌then◌else◌, List, [], ◌∷◌, take, drop}
use Rattle.std.specs.Int.{from_le_bytes, w16, w32, w64}
use Rattle.dt_record.specs.declared.records.Record.{Record}
use Rattle.dt_record.specs.declared.records.Retire.{Retire}
use Rattle.dt_record.specs.declared.records.Body.{Body}
use Rattle.dt_record.specs.declared.records.Body.TheVariants.{Commit, Trap, Regs, Csrs, Load, Store, Atomic, Drain, Refill, Beat}

-- Reading one field, and then what comes next.

unfoldable pub with_byte : {A : Type 0} → List ℕ → (ℕ → List ℕ → A) → A
with_byte [] next = next 0 []
with_byte (x ∷ xs) next = next x xs

unfoldable pub with_half : {A : Type 0} → List ℕ → (ℕ → List ℕ → A) → A
with_half bytes next = next (from_le_bytes w16 (take 2 bytes)) (drop 2 bytes)

unfoldable pub with_word : {A : Type 0} → List ℕ → (ℕ → List ℕ → A) → A
with_word bytes next = next (from_le_bytes w32 (take 4 bytes)) (drop 4 bytes)

unfoldable pub with_double : {A : Type 0} → List ℕ → (ℕ → List ℕ → A) → A
with_double bytes next = next (from_le_bytes w64 (take 8 bytes)) (drop 8 bytes)

unfoldable pub with_doubles : {A : Type 0} → ℕ → List ℕ → (List ℕ → List ℕ → A) → A
with_doubles zero bytes next = next [] bytes
with_doubles (suc n) bytes next = with_double bytes (λ x rest. with_doubles n rest (λ xs more. next (x ∷ xs) more))

unfoldable pub with_line : {A : Type 0} → List ℕ → (List ℕ → List ℕ → A) → A
with_line bytes next = next (take 64 bytes) (drop 64 bytes)

unfoldable pub with_retire : {A : Type 0} → List ℕ → (Retire → List ℕ → A) → A
with_retire bytes next =
    with_double bytes (λ pc a. with_word a (λ bits b. with_double b (λ value c. next (record { pc = pc; bits = bits; value = value }) c)))

-- Reading a body of each kind: the body, the byte for whether an atomic wrote, and the rest.

abbrev pub Parts : Type 0
Parts = Body × ℕ × List ℕ

abbrev pub parts : Body → ℕ → List ℕ → Parts
parts body wrote_byte rest = (body, wrote_byte, rest)

unfoldable pub read_trap : List ℕ → Parts
read_trap bytes =
    with_double bytes (λ pc a. with_word a (λ bits b. with_double b (λ cause c.
    with_double c (λ tval d. parts (Trap pc bits cause tval) 0 d))))

unfoldable pub read_regs : List ℕ → Parts
read_regs bytes = with_double bytes (λ pc a. with_doubles 31 a (λ x b. parts (Regs pc x) 0 b))

unfoldable pub read_csrs : List ℕ → Parts
read_csrs bytes = with_byte bytes (λ mode a. with_doubles 17 a (λ v b. parts (Csrs mode v) 0 b))

unfoldable pub read_load : List ℕ → Parts
read_load bytes = with_retire bytes (λ r a. with_double a (λ at b. with_double b (λ paddr c. parts (Load r at paddr) 0 c)))

unfoldable pub read_store : List ℕ → Parts
read_store bytes =
    with_double bytes (λ pc a. with_word a (λ bits b. with_double b (λ paddr c.
    with_double c (λ value d. parts (Store pc bits paddr value) 0 d))))

unfoldable pub read_atomic : List ℕ → Parts
read_atomic bytes =
    with_retire bytes (λ r a. with_double a (λ paddr b. with_byte b (λ width c. with_byte c (λ w d.
    with_double d (λ new e. parts (Atomic r paddr width (not (w == 0)) new) w e)))))

unfoldable pub read_drain : List ℕ → Parts
read_drain bytes =
    with_double bytes (λ line a. with_double a (λ mask b. with_half b (λ count c.
    with_line c (λ xs d. parts (Drain line mask count xs) 0 d))))

unfoldable pub read_refill : List ℕ → Parts
read_refill bytes = with_double bytes (λ line a. with_line a (λ xs b. parts (Refill line xs) 0 b))

unfoldable pub read_body : ℕ → List ℕ → Parts
read_body tag bytes =
    if tag == 1 then with_retire bytes (λ r rest. parts (Commit r) 0 rest)
    else if tag == 2 then read_trap bytes
    else if tag == 3 then read_regs bytes
    else if tag == 4 then read_csrs bytes
    else if tag == 5 then read_load bytes
    else if tag == 6 then read_store bytes
    else if tag == 7 then read_atomic bytes
    else if tag == 8 then read_drain bytes
    else if tag == 9 then read_refill bytes
    else parts Beat 0 bytes

-- A record, the byte for whether an atomic wrote, and the rest.

abbrev pub Whole : Type 0
Whole = Record × ℕ × List ℕ

abbrev pub whole : Record → ℕ → List ℕ → Whole
whole r wrote_byte rest = (r, wrote_byte, rest)

abbrev pub joined : ℕ → ℕ → Parts → Whole
joined stamp hart p = whole (record { stamp = stamp; hart = hart; body = p.0 }) p.1 p.2

unfoldable pub read_fields : List ℕ → Whole
read_fields bytes =
    with_byte bytes (λ tag a. with_byte a (λ hart b. with_double b (λ stamp c. joined stamp hart (read_body tag c))))

-- A record and the bytes behind it: the one that bytes may begin with.

abbrev pub Proposal : Type 0
Proposal = Record × List ℕ

abbrev pub proposal : Record → List ℕ → Proposal
proposal r rest = (r, rest)

unfoldable pub of_whole : Whole → Proposal
of_whole w = proposal w.0 w.2

-- the fields that stand at the front, taken one after another
unfoldable pub wide_proposal : List ℕ → Proposal
wide_proposal bytes = of_whole (read_fields bytes)

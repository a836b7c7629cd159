-- The kinds of records and their tags (this project's own).
use Rattle.std.specs.Prelude.{ℕ, ◌==◌, if◌then◌else◌, Option, None, Some}
use Rattle.dt_record.specs.declared.records.Body.{Body}
use Rattle.dt_record.specs.declared.records.Body.TheVariants as body
use Rattle.dt_record.specs.declared.kinds.Kind.{Kind}
use Rattle.dt_record.specs.declared.kinds.Kind.TheVariants.{Commit, Trap, Regs, Csrs, Load, Store, Atomic, Drain, Refill, Beat}

-- the kind of a record with this body
abbrev pub kind_of : Body → Kind
kind_of (body.Commit retire) = Commit
kind_of (body.Trap pc bits cause tval) = Trap
kind_of (body.Regs pc x) = Regs
kind_of (body.Csrs mode v) = Csrs
kind_of (body.Load retire at paddr) = Load
kind_of (body.Store pc bits paddr value) = Store
kind_of (body.Atomic retire paddr width wrote new) = Atomic
kind_of (body.Drain line mask count bytes) = Drain
kind_of (body.Refill line bytes) = Refill
kind_of body.Beat = Beat

-- the tag of a kind
abbrev pub kind_number : Kind → ℕ
kind_number Commit = 1
kind_number Trap = 2
kind_number Regs = 3
kind_number Csrs = 4
kind_number Load = 5
kind_number Store = 6
kind_number Atomic = 7
kind_number Drain = 8
kind_number Refill = 9
kind_number Beat = 10

-- the kind with a tag
abbrev pub kind_with : ℕ → Option Kind
kind_with tag =
    if tag == 1 then Some Commit
    else if tag == 2 then Some Trap
    else if tag == 3 then Some Regs
    else if tag == 4 then Some Csrs
    else if tag == 5 then Some Load
    else if tag == 6 then Some Store
    else if tag == 7 then Some Atomic
    else if tag == 8 then Some Drain
    else if tag == 9 then Some Refill
    else if tag == 10 then Some Beat
    else None

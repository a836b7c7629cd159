use Rattle.std.specs.Prelude.{ℕ}
use Rattle.dt_record.specs.declared.records.Body.{Body}
use Rattle.dt_record.specs.declared.records.Body.TheVariants.{Commit, Trap, Regs, Csrs, Load, Store, Atomic, Drain, Refill, Beat}

-- the number of a record's kind (this project's own)
abbrev pub tag_number : Body → ℕ
tag_number (Commit retire) = 1
tag_number (Trap pc bits cause tval) = 2
tag_number (Regs pc x) = 3
tag_number (Csrs mode v) = 4
tag_number (Load retire at paddr) = 5
tag_number (Store pc bits paddr value) = 6
tag_number (Atomic retire paddr width wrote new) = 7
tag_number (Drain line mask count bytes) = 8
tag_number (Refill line bytes) = 9
tag_number Beat = 10

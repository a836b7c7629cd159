use Rattle.std.specs.Prelude.{ℕ, ◌*◌, ◌==◌, nat_lt, Bool, ◌&&◌, ◌||◌, if◌then◌else◌}
use Rattle.dt_csr.specs.declared.modes.TheConstants.{MACHINE}
use Rattle.dt_csr.specs.declared.mstatus.TheConstants.{MPP, MPRV, SUM, MXR}
use Rattle.dt_csr.specs.declared.satp.TheConstants.{PPN, MODE, SV39, SV48}
use Rattle.dt_csr.specs.Fields.{field_of}
use Rattle.dt_step.specs.declared.plans.AtomicOp.{AtomicOp}
use Rattle.dt_step.specs.declared.plans.AtomicOp.TheVariants.{Lr, Sc, Amo}
use Rattle.dt_step.specs.declared.state.Arch.{Arch}
use Rattle.dt_walk.specs.declared.arguments.Access.{Access}
use Rattle.dt_walk.specs.declared.arguments.Access.TheVariants.{Fetch, Load, Store}
use Rattle.dt_walk.specs.declared.arguments.WalkArgs.{WalkArgs}

-- What decides the translation of an address besides the page tables.

-- the mode whose rules loads and stores follow: in M with MPRV that of MPP (Volume II, section 3.1.6.3)
abbrev pub data_mode : Arch → ℕ
data_mode a =
    if (a.mode == MACHINE) && (field_of a.csrs.mstatus MPRV == 1) then field_of a.csrs.mstatus MPP else a.mode

-- the mode whose rules an access follows
abbrev pub effective_mode : Arch → Access → ℕ
effective_mode a Fetch = a.mode
effective_mode a Load = data_mode a
effective_mode a Store = data_mode a

-- addresses are translated below M where satp holds the mode of Sv39 or of Sv48 (Volume II, section 4.1.11)
abbrev pub is_translated : Arch → ℕ → Bool
is_translated a mode =
    nat_lt mode MACHINE && ((field_of a.csrs.satp MODE == SV39) || (field_of a.csrs.satp MODE == SV48))

-- the levels of the page tables: three of Sv39, four of Sv48 (Volume II, sections 4.4 and 4.5)
abbrev pub levels_of : Arch → ℕ
levels_of a = if field_of a.csrs.satp MODE == SV48 then 4 else 3

-- how an address is translated for an access in this state
abbrev pub walk_args : Arch → Access → ℕ → WalkArgs
walk_args a access va = record {
  va = va;
  root = field_of a.csrs.satp PPN * 4096;
  on = is_translated a (effective_mode a access);
  levels = levels_of a;
  access = access;
  mode = effective_mode a access;
  sum = field_of a.csrs.mstatus SUM == 1;
  mxr = field_of a.csrs.mstatus MXR == 1;
}

-- what an atomic's address is translated for: to load there by an LR, to store there by any other (Volume II, section 4.3.1)
abbrev pub atomic_access : AtomicOp → Access
atomic_access Lr = Load
atomic_access Sc = Store
atomic_access (Amo op) = Store

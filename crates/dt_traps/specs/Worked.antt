use Rattle.std.specs.Prelude.{◌≡◌, ℕ, ◌*◌, ◌+◌, ◌^◌, true, false, List, [], ◌∷◌, ◌++◌, Ok, Err, replicate, refl}
use Rattle.dt_csr.specs.Traps.{bits_where}
use Rattle.dt_record.specs.declared.reasons.Reason.TheVariants.{Cause, Interrupt}
use Rattle.dt_record.specs.declared.writes.Write.{Write}
use Rattle.dt_versions.specs.declared.moments.Span.{Span}
use Rattle.dt_walk.specs.declared.arguments.Access.TheVariants.{Load}
use Rattle.dt_walk.specs.declared.arguments.WalkArgs.{WalkArgs}
use Rattle.dt_walk.specs.Walk.{walk_from, walk_of}
use Rattle.dt_translate.specs.Newest.{newest}
use Rattle.dt_translate.specs.Outcomes.{allowed_moment, entry_at, half_at, outcome_at}
use Rattle.dt_step.specs.declared.state.Arch.{Arch}
use Rattle.dt_step.specs.State.{reset_arch}
use Rattle.dt_rules.specs.declared.misfits.TheConstants.{NO_NUMBER}
use Rattle.dt_rules.specs.Checks.{misfit}
use Rattle.dt_traps.specs.Faults.{fault_check, raised}
use Rattle.dt_traps.specs.Traps.{interrupt_check}

-- Traps that the definitions compute.

-- one write maps the gigapage at 80000000 to itself, and S loads from it
abbrev mapping : List Write
mapping = record {
  key = record { stamp = 20; hart = 0; seq = 9 };
  line = 0x8000_2000;
  mask = 255 * 2 ^ 16;
  bytes = replicate 16 0 ++ 0xcf ∷ 0 ∷ 0 ∷ 0x20 ∷ replicate 44 0;
} ∷ []

abbrev load : WalkArgs
load = record {
  va = 0x8000_3000;
  root = 0x8000_2000;
  on = true;
  levels = 3;
  access = Load;
  mode = 1;
  sum = false;
  mxr = false;
}

abbrev span : ℕ → ℕ → Span
span first last = record { first = first; last = last }

pub stale_fault : fault_check [] mapping (span 0 1) load false 13 ≡ Ok (raised true 0x8000_3000)
unfolding allowed_moment newest outcome_at entry_at half_at walk_of walk_from
stale_fault = refl

pub no_fault_after_the_fence : fault_check [] mapping (span 1 1) load false 13 ≡ Err (misfit Cause NO_NUMBER 13)
unfolding allowed_moment newest outcome_at entry_at half_at walk_of walk_from
no_fault_after_the_fence = refl

-- the timer interrupt of M, after a reset with some bits in mie and in mstatus
abbrev enabling : ℕ → ℕ → Arch
enabling mie status = let a = reset_arch 0 in record a { csrs = record a.csrs { mie = mie; mstatus = a.csrs.mstatus + status } }

pub enabled_timer : interrupt_check (enabling 0x80 8) (2 ^ 63 + 7) ≡ Ok (raised false 0)
unfolding bits_where
enabled_timer = refl

pub disabled_timer : interrupt_check (enabling 0 8) (2 ^ 63 + 7) ≡ Err (misfit Interrupt 0 (2 ^ 63 + 7))
unfolding bits_where
disabled_timer = refl

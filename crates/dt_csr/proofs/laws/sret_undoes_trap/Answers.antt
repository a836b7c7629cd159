use Rattle.std.proofs.Common.{◌≡◌}
use Rattle.dt_csr.specs.declared.mstatus.TheConstants.{SIE}
use Rattle.dt_csr.specs.Fields.{field_of}
use Rattle.dt_csr.specs.Traps.{sret_mode, after_sret}
use Rattle.dt_csr.proofs.Stacks.{when_s, in_s_spp, from_below, from_s_or_u, sie_back}
use Rattle.dt_csr.proofs.laws.sret_undoes_trap.Goals as goal

pub returns-clause-mode : goal.returns-clause-mode
returns-clause-mode c = λ d mode pc cause tval is e.
    when_s d mode pc cause tval (λ t. sret_mode t ≡ mode) e (in_s_spp d.mstatus mode (from_s_or_u mode is (from_below d mode cause e)))

pub returns-clause-enabled : goal.returns-clause-enabled
returns-clause-enabled c = λ d mode pc cause tval e.
    when_s d mode pc cause tval (λ t. field_of (after_sret t).mstatus SIE ≡ field_of d.mstatus SIE) e (sie_back d.mstatus mode)

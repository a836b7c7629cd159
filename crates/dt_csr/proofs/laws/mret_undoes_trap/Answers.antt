use Rattle.std.proofs.Common.{◌≡◌}
use Rattle.dt_csr.specs.declared.mstatus.TheConstants.{MIE}
use Rattle.dt_csr.specs.Fields.{field_of}
use Rattle.dt_csr.specs.Traps.{mret_mode, after_mret}
use Rattle.dt_csr.proofs.Stacks.{when_m, in_m_mpp, mode_small, mie_back}
use Rattle.dt_csr.proofs.laws.mret_undoes_trap.Goals as goal

pub returns-clause-mode : goal.returns-clause-mode
returns-clause-mode c = λ d mode pc cause tval is e.
    when_m d mode pc cause tval (λ t. mret_mode t ≡ mode) e (in_m_mpp d.mstatus mode (mode_small mode is))

pub returns-clause-enabled : goal.returns-clause-enabled
returns-clause-enabled c = λ d mode pc cause tval e.
    when_m d mode pc cause tval (λ t. field_of (after_mret t).mstatus MIE ≡ field_of d.mstatus MIE) e (mie_back d.mstatus mode)

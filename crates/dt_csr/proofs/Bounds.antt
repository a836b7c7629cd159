-- The bounds of the kept registers as a test.
use Rattle.std.proofs.Common.{◌≡◌, ℕ, ◌^◌, ◌<◌, ◌==◌, Bool, true, not, get_or}
use Rattle.std.proofs.lemmas.Bool.{and_from, and_parts, eq-eqb, eqb-true, eqb-false, ne_eqb, not-true, not_from_false}
use Rattle.dt_csr.specs.declared.mstatus.TheConstants.{MPP, RESERVED_MODE}
use Rattle.dt_csr.specs.declared.satp.TheConstants.{MODE}
use Rattle.dt_csr.specs.declared.registers.Register.{Register}
use Rattle.dt_csr.specs.declared.registers.Register.TheVariants.{Mstatus, Medeleg, Mideleg, Mie, Mtvec, Mcounteren, Mepc, Stvec, Scounteren, Sepc}
use Rattle.dt_csr.specs.declared.state.Csrs.{Csrs}
use Rattle.dt_csr.specs.Access.{keeps_mode}
use Rattle.dt_csr.specs.Fields.{field_of}
use Rattle.dt_csr.specs.Kept.{HasFixedBits, KeepsBounds, are_within_bounds, has_fixed_bits, machine_has_fixed_bits, supervisor_has_fixed_bits, values_of}
use Rattle.dt_csr.proofs.Writes.{whole}

passed : (register : Register) (value : ℕ) → value < 2 ^ 64 → has_fixed_bits register value ≡ true → HasFixedBits register value
passed register value fits passes = (fits, eqb-true _ _ passes)

passes_by : (register : Register) (value : ℕ) → HasFixedBits register value → has_fixed_bits register value ≡ true
passes_by register value fixed = eq-eqb _ _ fixed.1

module _ (c : Csrs) (wide : Bool) where
  pub KeepsBounds-tested : ((i : ℕ) → get_or (values_of c) i 0 < 2 ^ 64) → are_within_bounds c wide ≡ true → KeepsBounds (values_of c) wide
  KeepsBounds-tested fits passes =
      let all = and_parts (machine_has_fixed_bits c) _ passes in
      let rest = and_parts (supervisor_has_fixed_bits c) _ all.1 in
      let modes = and_parts (not (field_of c.mstatus MPP == RESERVED_MODE)) (keeps_mode wide (field_of c.satp MODE)) rest.1 in
      let m0 = and_parts (has_fixed_bits Mstatus c.mstatus) _ all.0 in
      let m1 = and_parts (has_fixed_bits Medeleg c.medeleg) _ m0.1 in
      let m2 = and_parts (has_fixed_bits Mideleg c.mideleg) _ m1.1 in
      let m3 = and_parts (has_fixed_bits Mie c.mie) _ m2.1 in
      let m4 = and_parts (has_fixed_bits Mtvec c.mtvec) _ m3.1 in
      let m5 = and_parts (has_fixed_bits Mcounteren c.mcounteren) (has_fixed_bits Mepc c.mepc) m4.1 in
      let s0 = and_parts (has_fixed_bits Stvec c.stvec) _ rest.0 in
      let s1 = and_parts (has_fixed_bits Scounteren c.scounteren) (has_fixed_bits Sepc c.sepc) s0.1 in
      record {
        fixed_bits = (
          passed Mstatus c.mstatus (fits 0) m0.0,
          (
            passed Medeleg c.medeleg (fits 1) m1.0,
            (
              passed Mideleg c.mideleg (fits 2) m2.0,
              (
                passed Mie c.mie (fits 3) m3.0,
                (
                  passed Mtvec c.mtvec (fits 4) m4.0,
                  (
                    passed Mcounteren c.mcounteren (fits 5) m5.0,
                    (
                      whole c.mscratch (fits 6),
                      (
                        passed Mepc c.mepc (fits 7) m5.1,
                        (
                          whole c.mcause (fits 8),
                          (
                            whole c.mtval (fits 9),
                            (
                              passed Stvec c.stvec (fits 10) s0.0,
                              (
                                passed Scounteren c.scounteren (fits 11) s1.0,
                                (
                                  whole c.sscratch (fits 12),
                                  (passed Sepc c.sepc (fits 13) s1.1, (whole c.scause (fits 14), (whole c.stval (fits 15), (whole c.satp (fits 16), tt)))),
                                ),
                              ),
                            ),
                          ),
                        ),
                      ),
                    ),
                  ),
                ),
              ),
            ),
          ),
        );
        mpp = eqb-false (field_of c.mstatus MPP) RESERVED_MODE (not-true _ modes.0);
        satp_mode = modes.1;
      }

  pub tested-KeepsBounds : KeepsBounds (values_of c) wide → are_within_bounds c wide ≡ true
  tested-KeepsBounds keeps =
      let f = keeps.fixed_bits in
      let machine : machine_has_fixed_bits c ≡ true =
      and_from _ _ (passes_by Mstatus c.mstatus f.0) (and_from _ _ (passes_by Medeleg c.medeleg f.1.0)
      (and_from _ _ (passes_by Mideleg c.mideleg f.1.1.0) (and_from _ _ (passes_by Mie c.mie f.1.1.1.0)
      (and_from _ _ (passes_by Mtvec c.mtvec f.1.1.1.1.0) (and_from _ _ (passes_by Mcounteren c.mcounteren f.1.1.1.1.1.0)
      (passes_by Mepc c.mepc f.1.1.1.1.1.1.1.0)))))) in
      let s = f.1.1.1.1.1.1.1.1.1.1 in
      let supervisor : supervisor_has_fixed_bits c ≡ true =
      and_from _ _ (passes_by Stvec c.stvec s.0) (and_from _ _ (passes_by Scounteren c.scounteren s.1.0) (passes_by Sepc c.sepc s.1.1.1.0)) in
      and_from _ _ machine (and_from _ _ supervisor
      (and_from _ _ (not_from_false _ (ne_eqb (field_of c.mstatus MPP) RESERVED_MODE keeps.mpp)) keeps.satp_mode))

use Rattle.std.proofs.Common.{ℕ, ◌≡◌, ◌+◌, ◌%◌, ◌==◌, ◌||◌, ◌<◌, ◌≤◌, IsTrue, subst, inl, inr, arith}
use Rattle.std.proofs.lemmas.Bool.{and_parts}
use Rattle.std.proofs.lemmas.Bool.Decides.{nat_tests}
use Rattle.dt_loads.proofs.Lines.{is_zero, in_ram}
use Rattle.dt_alu.specs.Amo.{IsAmoWidth}
use Rattle.dt_alu.specs.Extend.{IsAccessWidth}
use Rattle.dt_record.specs.Lawful.{is_atomic_place}

-- Where an atomic lies.

-- it lies in RAM, with 4 or 8 bytes
pub record LiesInRam (paddr width : ℕ) : Type 0 where
  pub wide : IsAmoWidth width
  pub some : 4 ≤ width
  pub few : width ≤ 8
  pub from : 0x8000_0000 ≤ paddr
  pub end : paddr + width ≤ 0x8400_0000

amo_width : (width : ℕ) → IsTrue ((width == 4) || (width == 8)) → IsAmoWidth width
amo_width width is = grind (arith, nat_tests)

some_bytes : (width : ℕ) → IsAmoWidth width → 4 ≤ width
some_bytes width (inl four) = omega arith
some_bytes width (inr eight) = omega arith

few_bytes : (width : ℕ) → IsAmoWidth width → width ≤ 8
few_bytes width (inl four) = omega arith
few_bytes width (inr eight) = omega arith

ends_in_ram : (addr width : ℕ) → IsAmoWidth width → addr % width ≡ 0 → addr < 0x8400_0000 → addr + width ≤ 0x8400_0000
ends_in_ram addr width (inl four) aligned below = let even : addr % 4 ≡ 0 = subst (λ n. addr % n ≡ 0) four aligned in omega arith
ends_in_ram addr width (inr eight) aligned below = let even : addr % 8 ≡ 0 = subst (λ n. addr % n ≡ 0) eight aligned in omega arith

pub lies_in_ram : (paddr width : ℕ) → IsTrue (is_atomic_place paddr width) → LiesInRam paddr width
lies_in_ram paddr width place =
    let parts = and_parts ((width == 4) || (width == 8)) _ place in
    let more = and_parts (paddr % width == 0) _ parts.1 in
    let wide = amo_width width parts.0 in
    let within = in_ram paddr more.1 in
    record {
      wide = wide;
      some = some_bytes width wide;
      few = few_bytes width wide;
      from = within.0;
      end = ends_in_ram paddr width wide (is_zero (paddr % width) more.0) within.1;
    }

-- an atomic is one of the accesses that may be extended
pub access_width : (width : ℕ) → IsAmoWidth width → IsAccessWidth width
access_width width (inl four) = inr (inr (inl four))
access_width width (inr eight) = inr (inr (inr eight))

use Rattle.std.proofs.Common.{ℕ, ◌≡◌, ◌+◌, ◌%◌, ◌==◌, ◌<◌, ◌≤◌, IsTrue, subst, inl, inr, arith}
use Rattle.std.proofs.lemmas.Bool.{and_parts}
use Rattle.std.proofs.lemmas.Bool.Decides.{nat_tests}
use Rattle.dt_alu.specs.Extend.{IsAccessWidth}
use Rattle.dt_record.specs.declared.accesses.LoadAsk.{LoadAsk}
use Rattle.dt_record.specs.Lawful.{is_in_ram}
use Rattle.dt_stores.specs.Places.{is_store_width}
use Rattle.dt_sources.specs.Finding.{is_load_place}

-- Where a load lies.

access_width : (width : ℕ) → IsTrue (is_store_width width) → IsAccessWidth width
access_width width is = grind (arith, nat_tests)

pub narrow : (width : ℕ) → IsAccessWidth width → width ≤ 8
narrow width (inl one) = omega arith
narrow width (inr (inl two)) = omega arith
narrow width (inr (inr (inl four))) = omega arith
narrow width (inr (inr (inr eight))) = omega arith

fits_line : (addr width : ℕ) → IsAccessWidth width → addr % width ≡ 0 → addr % 64 + width ≤ 64
fits_line addr width wide aligned = elim wide [
  | inl one ↦ omega arith
  | inr (inl two) ↦ (let even : addr % 2 ≡ 0 = subst (λ n. addr % n ≡ 0) two aligned in omega arith)
  | inr (inr (inl four)) ↦ (let even : addr % 4 ≡ 0 = subst (λ n. addr % n ≡ 0) four aligned in omega arith)
  | inr (inr (inr eight)) ↦ (let even : addr % 8 ≡ 0 = subst (λ n. addr % n ≡ 0) eight aligned in omega arith)
]

ends_in_ram : (addr width : ℕ) → IsAccessWidth width → addr % width ≡ 0 → addr < 0x8400_0000 → addr + width ≤ 0x8400_0000
ends_in_ram addr width wide aligned below =
    let inside = fits_line addr width wide aligned in omega arith

-- a load from RAM lies in one line of it
pub record LiesInLine (ask : LoadAsk) : Type 0 where
  pub wide : IsAccessWidth ask.width
  pub few : ask.width ≤ 8
  pub inside : ask.addr % 64 + ask.width ≤ 64
  pub from : 0x8000_0000 ≤ ask.addr
  pub end : ask.addr + ask.width ≤ 0x8400_0000

pub in_ram : (addr : ℕ) → IsTrue (is_in_ram addr) → (0x8000_0000 ≤ addr) × (addr < 0x8400_0000)
in_ram addr is = grind (arith, nat_tests)

pub is_zero : (n : ℕ) → IsTrue (n == 0) → n ≡ 0
is_zero n is = grind (arith, nat_tests)

pub lies_in_line : (ask : LoadAsk) → IsTrue (is_load_place ask) → LiesInLine ask
lies_in_line ask place =
    let parts = and_parts (is_store_width ask.width) _ place in
    let more = and_parts (ask.addr % ask.width == 0) _ parts.1 in
    let wide = access_width ask.width parts.0 in
    let aligned = is_zero (ask.addr % ask.width) more.0 in
    let within = in_ram ask.addr more.1 in
    record {
      wide = wide;
      few = narrow ask.width wide;
      inside = fits_line ask.addr ask.width wide aligned;
      from = within.0;
      end = ends_in_ram ask.addr ask.width wide aligned within.1;
    }

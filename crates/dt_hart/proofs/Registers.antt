use Rattle.std.proofs.Common.{ℕ, ◌≡◌, ◌<◌, ◌∷◌, ◌∙◌, Bool, List, [], length, drop, get_or, slice_index, refl, sym, ap, arith}
use Rattle.dt_csr.specs.declared.state.Csrs.{Csrs}
use Rattle.dt_csr.specs.Kept.{values_of}
use Rattle.dt_record.specs.declared.states.HartState.{HartState}
use Rattle.dt_step.specs.declared.state.Arch.{Arch}
use Rattle.dt_hart.specs.HartData.{HasArch}

-- The registers x0 to x31.

pub first_and_rest : (first : ℕ) (xs : List ℕ) → 0 < length xs → slice_index xs 0 ≡ first → first ∷ drop 1 xs ≡ xs
first_and_rest first [] some is = absurd (omega arith)
first_and_rest first (x ∷ xs) some is = ap (λ (n : ℕ). n ∷ xs) (sym is)

-- ---- a state by its parts

csrs_from : (values floors : List ℕ) → Bool → Csrs
csrs_from v floors wide = record {
  mstatus = slice_index v 0;
  medeleg = slice_index v 1;
  mideleg = slice_index v 2;
  mie = slice_index v 3;
  mtvec = slice_index v 4;
  mcounteren = slice_index v 5;
  mscratch = slice_index v 6;
  mepc = slice_index v 7;
  mcause = slice_index v 8;
  mtval = slice_index v 9;
  stvec = slice_index v 10;
  scounteren = slice_index v 11;
  sscratch = slice_index v 12;
  sepc = slice_index v 13;
  scause = slice_index v 14;
  stval = slice_index v 15;
  satp = slice_index v 16;
  cycle_floor = slice_index floors 0;
  instret_floor = slice_index floors 1;
  time_floor = slice_index floors 2;
  wide = wide;
}

floors_of : Csrs → List ℕ
floors_of c = c.cycle_floor ∷ c.instret_floor ∷ c.time_floor ∷ []

csrs_back : (c : Csrs) → csrs_from (values_of c) (floors_of c) c.wide ≡ c
unfolding csrs_from floors_of
csrs_back c = refl

same_csrs : (b c : Csrs) → values_of b ≡ values_of c → floors_of b ≡ floors_of c → b.wide ≡ c.wide → b ≡ c
same_csrs b c values floors wide =
    sym (csrs_back b) ∙ ap (λ (v : List ℕ). csrs_from v (floors_of b) b.wide) values ∙ ap (λ (f : List ℕ). csrs_from (values_of c) f b.wide) floors
    ∙ ap (csrs_from (values_of c) (floors_of c)) wide ∙ csrs_back c

arch_made : (pc : ℕ) (x : List ℕ) → Csrs → (mode hart : ℕ) → Arch
arch_made pc x csrs mode hart = record { pc = pc; x = x; csrs = csrs; mode = mode; hart = hart }

arch_back : (a : Arch) → arch_made a.pc a.x a.csrs a.mode a.hart ≡ a
unfolding arch_made
arch_back a = refl

-- the data say one state of a hart
pub one_state : (d : HartState) (a b : Arch) → HasArch a d → HasArch b d → a.csrs.wide ≡ b.csrs.wide → a.hart ≡ b.hart → a ≡ b
unfolding floors_of
one_state d a b its other wide hart =
    let csrs = same_csrs a.csrs b.csrs (sym its.v ∙ other.v) (sym its.floors ∙ other.floors) wide in
    sym (arch_back a) ∙ ap (λ n. arch_made n a.x a.csrs a.mode a.hart) (sym its.pc ∙ other.pc)
    ∙ ap (λ (xs : List ℕ). arch_made b.pc xs a.csrs a.mode a.hart) (sym its.x ∙ other.x)
    ∙ ap (λ (c : Csrs). arch_made b.pc b.x c a.mode a.hart) csrs
    ∙ ap (λ n. arch_made b.pc b.x b.csrs n a.hart) (sym its.mode ∙ other.mode)
    ∙ ap (λ n. arch_made b.pc b.x b.csrs b.mode n) hart ∙ arch_back b

-- ---- three floors

pub three_are : (xs : List ℕ) (a b c : ℕ) → length xs ≡ 3 → a ≡ get_or xs 0 0 → b ≡ get_or xs 1 0 → c ≡ get_or xs 2 0 → xs ≡ a ∷ b ∷ c ∷ []
three_are [] a b c long first second third = absurd (omega (arith, long))
three_are (x ∷ []) a b c long first second third = absurd (omega (arith, long))
three_are (x ∷ y ∷ []) a b c long first second third = absurd (omega (arith, long))
three_are (x ∷ y ∷ z ∷ []) a b c long first second third =
    ap (λ n. n ∷ y ∷ z ∷ []) (sym first) ∙ ap (λ n. a ∷ n ∷ z ∷ []) (sym second) ∙ ap (λ n. a ∷ b ∷ n ∷ []) (sym third)
three_are (x ∷ y ∷ z ∷ w ∷ ws) a b c long first second third = absurd (omega (arith, long))

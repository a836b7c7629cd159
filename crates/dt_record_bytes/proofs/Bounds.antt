-- The bounds on fields that stand in bytes, and those on a record.
use Rattle.std.proofs.Common.{◌≡◌, ℕ, zero, suc, ◌==◌, ◌&&◌, Bool, true, false, not, if◌then◌else◌, List, [], ◌∷◌, ◌++◌, Option, None, Some, IsTrue, refl, sym, ap, ◌∙◌, arith}
use Rattle.std.specs.Prelude.{nat_le, nat_lt}
use Rattle.std.specs.List.{list_all}
use Rattle.std.proofs.lemmas.Bool.{leb-true}
use Rattle.dt_record.specs.declared.records.Record.{Record}
use Rattle.dt_record.specs.declared.records.Body.{Body}
use Rattle.dt_record.specs.declared.records.Body.TheVariants.{Commit, Trap, Regs, Csrs, Load, Store, Atomic, Drain, Refill, Beat}
use Rattle.dt_record.specs.Lawful.{Bound, bounds_of, IsLawful, is_instruction, is_atomic_place, is_atomic_value}
use Rattle.dt_record.specs.Spelling.{flag, body_bytes, double, wide_bytes}
use Rattle.dt_record.specs.Tags.{tag_number}
use Rattle.dt_record_bytes.specs.WideAnswer.{body_bytes_with, wide_bytes_with, IsWroteByte, bounds_with, first_broken}

-- the byte for whether an atomic wrote
abbrev pub wrote_byte_of : Body → ℕ
wrote_byte_of (Atomic retire paddr width wrote new) = flag wrote
wrote_byte_of body = 0

pub wrote_byte_is : (b : Body) → IsWroteByte (wrote_byte_of b) b
wrote_byte_is (Atomic retire paddr width true new) = refl
wrote_byte_is (Atomic retire paddr width false new) = refl
wrote_byte_is (Commit r) = refl
wrote_byte_is (Trap pc bits cause tval) = refl
wrote_byte_is (Regs pc x) = refl
wrote_byte_is (Csrs mode v) = refl
wrote_byte_is (Load r at paddr) = refl
wrote_byte_is (Store pc bits paddr value) = refl
wrote_byte_is (Drain line mask count xs) = refl
wrote_byte_is (Refill line xs) = refl
wrote_byte_is Beat = refl

same_body : (b : Body) → body_bytes_with (wrote_byte_of b) b ≡ body_bytes b
same_body (Atomic retire paddr width wrote new) = refl
same_body (Commit r) = refl
same_body (Trap pc bits cause tval) = refl
same_body (Regs pc x) = refl
same_body (Csrs mode v) = refl
same_body (Load r at paddr) = refl
same_body (Store pc bits paddr value) = refl
same_body (Drain line mask count xs) = refl
same_body (Refill line xs) = refl
same_body Beat = refl

pub same_bytes : (r : Record) → wide_bytes_with (wrote_byte_of r.body) r ≡ wide_bytes r
unfolding wide_bytes wide_bytes_with
same_bytes r = ap (λ (z : List ℕ). tag_number r.body ∷ r.hart ∷ double r.stamp ++ z) (same_body r.body)

-- no bound is broken exactly where all hold

step : (holds : Bool) (place : ℕ) (later : Option ℕ) → (if holds then later else Some place) ≡ None → (holds ≡ true) × (later ≡ None)
step true place later e = (refl, e)
step false place later e = absurd cc

both : (a b : Bool) → a ≡ true → b ≡ true → (a && b) ≡ true
both true true p q = refl
both true false p q = absurd cc
both false b p q = absurd cc

parted : (a b : Bool) → (a && b) ≡ true → (a ≡ true) × (b ≡ true)
parted true true p = (refl, refl)
parted true false p = absurd cc
parted false b p = absurd cc

unbroken_holds : (bs : List Bound) → first_broken bs ≡ None → IsTrue (list_all (λ b. b.holds) bs)
unbroken_holds [] e = refl
unbroken_holds (b ∷ bs) e =
    let p = step b.holds b.place (first_broken bs) e in
    both b.holds (list_all (λ c. c.holds) bs) p.0 (unbroken_holds bs p.1)

holds_unbroken : (bs : List Bound) → IsTrue (list_all (λ b. b.holds) bs) → first_broken bs ≡ None
holds_unbroken [] e = refl
holds_unbroken (b ∷ bs) e =
    let p = parted b.holds (list_all (λ c. c.holds) bs) e in
    ap (λ (h : Bool). if h then first_broken bs else Some b.place) p.0 ∙ holds_unbroken bs p.1

-- an atomic has one more bound in bytes
without_fourth : (h a b c d : Bool) → (h && (a && (b && (c && (d && true))))) ≡ true → ((h && (a && (b && (d && true)))) ≡ true) × (c ≡ true)
without_fourth true true true true true e = (refl, refl)
without_fourth true true true true false e = absurd cc
without_fourth true true true false d e = absurd cc
without_fourth true true false c d e = absurd cc
without_fourth true false b c d e = absurd cc
without_fourth false a b c d e = absurd cc

with_fourth : (h a b c d : Bool) → (h && (a && (b && (d && true)))) ≡ true → c ≡ true → (h && (a && (b && (c && (d && true))))) ≡ true
with_fourth true true true true true e k = refl
with_fourth true true true true false e k = absurd cc
with_fourth true true true false d e k = absurd cc
with_fourth true true false c d e k = absurd cc
with_fourth true false b c d e k = absurd cc
with_fourth false a b c d e k = absurd cc

abbrev of_body : ℕ → ℕ → Body → Record
of_body stamp hart b = record { stamp = stamp; hart = hart; body = b }

lawful_body : (stamp hart w : ℕ) (b : Body) → first_broken (bounds_with w (of_body stamp hart b)) ≡ None → IsLawful (of_body stamp hart b)
lawful_body stamp hart w (Atomic retire paddr width wrote new) e =
    (without_fourth (nat_lt hart 8) (is_instruction retire.bits) (is_atomic_place paddr width) (nat_le w 1) (is_atomic_value width wrote new) (unbroken_holds (bounds_with w (of_body stamp hart (Atomic retire paddr width wrote new))) e)).0
lawful_body stamp hart w (Commit r) e = unbroken_holds (bounds_of (of_body stamp hart (Commit r))) e
lawful_body stamp hart w (Trap pc bits cause tval) e = unbroken_holds (bounds_of (of_body stamp hart (Trap pc bits cause tval))) e
lawful_body stamp hart w (Regs pc x) e = unbroken_holds (bounds_of (of_body stamp hart (Regs pc x))) e
lawful_body stamp hart w (Csrs mode v) e = unbroken_holds (bounds_of (of_body stamp hart (Csrs mode v))) e
lawful_body stamp hart w (Load r at paddr) e = unbroken_holds (bounds_of (of_body stamp hart (Load r at paddr))) e
lawful_body stamp hart w (Store pc bits paddr value) e = unbroken_holds (bounds_of (of_body stamp hart (Store pc bits paddr value))) e
lawful_body stamp hart w (Drain line mask count xs) e = unbroken_holds (bounds_of (of_body stamp hart (Drain line mask count xs))) e
lawful_body stamp hart w (Refill line xs) e = unbroken_holds (bounds_of (of_body stamp hart (Refill line xs))) e
lawful_body stamp hart w Beat e = unbroken_holds (bounds_of (of_body stamp hart Beat)) e

pub lawful_of_unbroken : (r : Record) (w : ℕ) → first_broken (bounds_with w r) ≡ None → IsLawful r
lawful_of_unbroken r w e = lawful_body r.stamp r.hart w r.body e

flag_within : (wrote : Bool) → nat_le (flag wrote) 1 ≡ true
flag_within true = refl
flag_within false = refl

unbroken_body : (stamp hart : ℕ) (b : Body) → IsLawful (of_body stamp hart b) → first_broken (bounds_with (wrote_byte_of b) (of_body stamp hart b)) ≡ None
unbroken_body stamp hart (Atomic retire paddr width wrote new) lawful =
    holds_unbroken (bounds_with (flag wrote) (of_body stamp hart (Atomic retire paddr width wrote new))) (with_fourth (nat_lt hart 8) (is_instruction retire.bits) (is_atomic_place paddr width) (nat_le (flag wrote) 1) (is_atomic_value width wrote new) lawful (flag_within wrote))
unbroken_body stamp hart (Commit r) lawful = holds_unbroken (bounds_of (of_body stamp hart (Commit r))) lawful
unbroken_body stamp hart (Trap pc bits cause tval) lawful = holds_unbroken (bounds_of (of_body stamp hart (Trap pc bits cause tval))) lawful
unbroken_body stamp hart (Regs pc x) lawful = holds_unbroken (bounds_of (of_body stamp hart (Regs pc x))) lawful
unbroken_body stamp hart (Csrs mode v) lawful = holds_unbroken (bounds_of (of_body stamp hart (Csrs mode v))) lawful
unbroken_body stamp hart (Load r at paddr) lawful = holds_unbroken (bounds_of (of_body stamp hart (Load r at paddr))) lawful
unbroken_body stamp hart (Store pc bits paddr value) lawful = holds_unbroken (bounds_of (of_body stamp hart (Store pc bits paddr value))) lawful
unbroken_body stamp hart (Drain line mask count xs) lawful = holds_unbroken (bounds_of (of_body stamp hart (Drain line mask count xs))) lawful
unbroken_body stamp hart (Refill line xs) lawful = holds_unbroken (bounds_of (of_body stamp hart (Refill line xs))) lawful
unbroken_body stamp hart Beat lawful = holds_unbroken (bounds_of (of_body stamp hart Beat)) lawful

pub unbroken_of_lawful : (r : Record) → IsLawful r → first_broken (bounds_with (wrote_byte_of r.body) r) ≡ None
unbroken_of_lawful r lawful = unbroken_body r.stamp r.hart r.body lawful

-- where no bound is broken, an atomic's byte is 0 or 1
small_byte : (w : ℕ) (wrote : Bool) → wrote ≡ not (w == 0) → nat_le w 1 ≡ true → w ≡ flag wrote
small_byte zero wrote is within = sym (ap flag is)
small_byte (suc zero) wrote is within = sym (ap flag is)
small_byte (suc (suc w)) wrote is within = absurd (omega (arith, leb-true (suc (suc w)) 1 within))

byte_of_body : (stamp hart w : ℕ) (b : Body) → IsWroteByte w b → first_broken (bounds_with w (of_body stamp hart b)) ≡ None → w ≡ wrote_byte_of b
byte_of_body stamp hart w (Atomic retire paddr width wrote new) is e =
    small_byte w wrote is (without_fourth (nat_lt hart 8) (is_instruction retire.bits) (is_atomic_place paddr width) (nat_le w 1) (is_atomic_value width wrote new) (unbroken_holds (bounds_with w (of_body stamp hart (Atomic retire paddr width wrote new))) e)).1
byte_of_body stamp hart w (Commit r) is e = is
byte_of_body stamp hart w (Trap pc bits cause tval) is e = is
byte_of_body stamp hart w (Regs pc x) is e = is
byte_of_body stamp hart w (Csrs mode v) is e = is
byte_of_body stamp hart w (Load r at paddr) is e = is
byte_of_body stamp hart w (Store pc bits paddr value) is e = is
byte_of_body stamp hart w (Drain line mask count xs) is e = is
byte_of_body stamp hart w (Refill line xs) is e = is
byte_of_body stamp hart w Beat is e = is

pub byte_of_unbroken : (r : Record) (w : ℕ) → IsWroteByte w r.body → first_broken (bounds_with w r) ≡ None → w ≡ wrote_byte_of r.body
byte_of_unbroken r w is e = byte_of_body r.stamp r.hart w r.body is e

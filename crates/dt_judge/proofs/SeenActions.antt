use Rattle.std.proofs.Common.{ℕ, ◌≡◌, ◌+◌, ◌≤◌, ◌&&◌, true, Option, Some, List, [], ◌∷◌, ◌++◌, IsTrue, refl, inl, inr, arith}
use Rattle.std.specs.Prelude.{Contains, nat_le, nat_lt}
use Rattle.std.specs.List.{list_all}
use Rattle.std.specs.Option.{option_to_list}
use Rattle.std.proofs.lemmas.Bool.{and_parts, cases_Bool}
use Rattle.std.proofs.lemmas.Bool.Decides.{nat_tests}
use Rattle.std.proofs.lemmas.List.Elements.{Contains-append_right}
use Rattle.std.proofs.lemmas.List.Folds.{list_all-append}
use Rattle.dt_decode.specs.declared.instructions.Instr.{Instr}
use Rattle.dt_decode.specs.declared.instructions.Instr.TheVariants.{Fence}
use Rattle.dt_hart.specs.OwnWrites.{are_rising}
use Rattle.dt_record.specs.declared.keys.Key.{Key}
use Rattle.dt_record.specs.declared.records.Body.{Body}
use Rattle.dt_record.specs.declared.records.Body.TheVariants.{Commit, Trap, Regs, Csrs, Load, Store, Atomic, Drain, Refill, Beat}
use Rattle.dt_record.specs.declared.records.Record.{Record}
use Rattle.dt_record.specs.Keys.{key_of}
use Rattle.dt_record.specs.Lawful.{body_bounds, is_in_ram, is_instruction, is_lawful}
use Rattle.dt_reference.specs.HartActions.{actions_from, body_action, commit_action}
use Rattle.dt_reference.specs.Meaning.{meaning_of}
use Rattle.dt_judge.proofs.LaterFindings.{ReadsUntil}
use Rattle.dt_judge.proofs.LaterFits.{is_seen}
use Rattle.dt_judge.proofs.LaterWrites.{passes_in}

-- What the hart did before saw no later write.

commit_seen : (stamp : ℕ) (o : Option Instr) → IsTrue (list_all (is_seen stamp) (option_to_list (commit_action o)))
commit_seen stamp (Some (Fence fm pred succ)) = refl
commit_seen stamp o = refl

-- a lawful load reads in a cycle that is not later
pub reads_until : (stamp : ℕ) (b : Body) → IsTrue (list_all (λ x. x.holds) (body_bounds stamp b)) → ReadsUntil stamp b
reads_until stamp (Load retire at paddr) lawful =
    let parts = and_parts (is_instruction retire.bits) (nat_le at stamp && true) lawful in
    let read = and_parts (nat_le at stamp) true parts.1 in
    let early : IsTrue (nat_le at stamp) = read.0 in
    grind (arith, nat_tests)
reads_until stamp (Commit retire) lawful = tt
reads_until stamp (Trap pc bits cause tval) lawful = tt
reads_until stamp (Regs pc x) lawful = tt
reads_until stamp (Csrs mode v) lawful = tt
reads_until stamp (Store pc bits paddr value) lawful = tt
reads_until stamp (Atomic retire paddr width wrote new) lawful = tt
reads_until stamp (Drain line mask count bytes) lawful = tt
reads_until stamp (Refill line bytes) lawful = tt
reads_until stamp Beat lawful = tt

load_seen : (stamp at : ℕ) (key : Key) → at ≤ key.stamp → key.stamp ≤ stamp → (nat_le at stamp && nat_le key.stamp stamp) ≡ true
load_seen stamp at key read early = grind (arith, nat_tests)

pub body_seen : (stamp : ℕ) (key : Key) (b : Body) → key.stamp ≤ stamp → IsTrue (list_all (λ x. x.holds) (body_bounds key.stamp b))
    → IsTrue (list_all (is_seen stamp) (option_to_list (body_action key b)))
body_seen stamp key (Load retire at paddr) early lawful =
    let read : at ≤ key.stamp = reads_until key.stamp (Load retire at paddr) lawful in
    elim (cases_Bool (is_in_ram paddr)) [
      | inl ram ↦ rw (ram, load_seen stamp at key read early) refl
      | inr device ↦ rw device refl
    ]
body_seen stamp key (Store pc bits paddr value) early lawful = elim (cases_Bool (is_in_ram paddr)) [ inl ram ↦ rw ram refl | inr device ↦ rw device refl ]
body_seen stamp key (Commit retire) early lawful = commit_seen stamp (meaning_of retire.bits)
body_seen stamp key (Trap pc bits cause tval) early lawful = refl
body_seen stamp key (Regs pc x) early lawful = refl
body_seen stamp key (Csrs mode v) early lawful = refl
body_seen stamp key (Atomic retire paddr width wrote new) early lawful = let seen : nat_le key.stamp stamp ≡ true = grind (arith, nat_tests) in rw seen refl
body_seen stamp key (Drain line mask count bytes) early lawful = refl
body_seen stamp key (Refill line bytes) early lawful = refl
body_seen stamp key Beat early lawful = refl

body_lawful : (r : Record) → IsTrue (is_lawful r) → IsTrue (list_all (λ x. x.holds) (body_bounds r.stamp r.body))
body_lawful r lawful = (and_parts (nat_lt r.hart 8) (list_all (λ x. x.holds) (body_bounds r.stamp r.body)) lawful).1

-- of the record that is judged
pub record_seen : (seq : ℕ) (r : Record) → IsTrue (is_lawful r) → IsTrue (list_all (is_seen r.stamp) (option_to_list (body_action (key_of seq r) r.body)))
record_seen seq r lawful = body_seen r.stamp (key_of seq r) r.body (omega arith) (body_lawful r lawful)

pub record_reads : (r : Record) → IsTrue (is_lawful r) → ReadsUntil r.stamp r.body
record_reads r lawful = reads_until r.stamp r.body (body_lawful r lawful)

-- of those before it
actions_seen : (stamp seq : ℕ) (rs : List Record) → IsTrue (list_all (λ q. nat_le q.stamp stamp) rs) → IsTrue (list_all is_lawful rs)
    → IsTrue (list_all (is_seen stamp) (actions_from seq rs))
actions_seen stamp seq [] early lawful = refl
actions_seen stamp seq (r ∷ rs) early lawful =
    let earlies = and_parts (nat_le r.stamp stamp) (list_all (λ q. nat_le q.stamp stamp) rs) early in
    let lawfuls = and_parts (is_lawful r) (list_all is_lawful rs) lawful in
    let least : IsTrue (nat_le r.stamp stamp) = earlies.0 in
    let below : r.stamp ≤ stamp = grind (arith, nat_tests) in
    let here = body_seen stamp (key_of seq r) r.body below (body_lawful r lawfuls.0) in
    rw (list_all-append (is_seen stamp) (option_to_list (body_action (key_of seq r) r.body)) (actions_from (seq + 1) rs), here)
    (actions_seen stamp (seq + 1) rs earlies.1 lawfuls.1)

rising_until : (before : List Record) (r : Record) (more : List Record) → IsTrue (are_rising (before ++ r ∷ more)) → IsTrue (list_all (λ q. nat_le q.stamp r.stamp) before)
rising_until [] r more rising = refl
rising_until (x ∷ xs) r more rising =
    let parts = and_parts (list_all (λ q. nat_le x.stamp q.stamp) (xs ++ r ∷ more)) (are_rising (xs ++ r ∷ more)) rising in
    let there : Contains (r ∷ more) r = (0, omega arith, refl) in
    let here : IsTrue (nat_le x.stamp r.stamp) = passes_in (λ q. nat_le x.stamp q.stamp) (xs ++ r ∷ more) r parts.0 (Contains-append_right xs (r ∷ more) r there) in
    rw here (rising_until xs r more parts.1)

pub all_seen : (before : List Record) (r : Record) (more : List Record) → IsTrue (are_rising (before ++ r ∷ more)) → IsTrue (list_all is_lawful before)
    → IsTrue (list_all (is_seen r.stamp) (actions_from 0 before))
all_seen before r more rising lawful = actions_seen r.stamp 0 before (rising_until before r more rising) lawful

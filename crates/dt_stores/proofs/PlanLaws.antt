use Rattle.std.proofs.Common.{◌≡◌, ℕ, ◌≤◌, Option, Some, None, option_map, List, length, filter, find, take, drop, true, false, nat_lt, refl, sym, ap, ◌∙◌, inl, inr}
use Rattle.std.proofs.lemmas.Bool.{cases_lt, lt-ltb, le-ltb, false≢true}
use Rattle.std.specs.List.{position_or_len}
use Rattle.std.specs.Option.{option_map_or}
use Rattle.dt_record.specs.Actions.{Action, Held, is_waiting}
use Rattle.dt_stores.specs.declared.answers.DrainAnswer.{DrainAnswer}
use Rattle.dt_stores.specs.declared.answers.DrainAnswer.TheVariants as answer
use Rattle.dt_stores.specs.Kept.{Kept}
use Rattle.dt_stores.specs.Standing.{StoresStand}
use Rattle.dt_stores.specs.Draining.{is_waiting_on, is_barring, greatest_barrier, took, barred_or, answer_among, drain_answer, is_taking, OnTook}
use Rattle.dt_stores.proofs.Firsts.{find-behind}

-- whether one bars it
barred-some : (o : Option Held) (seq : ℕ) (a : DrainAnswer) → option_map (λ h. h.store.seq) o ≡ Some seq → option_map_or (λ h. answer.Barred h.store.seq) o a ≡ answer.Barred seq
barred-some None seq a found = cc
barred-some (Some h) seq a found = let same : h.store.seq ≡ seq = cc in ap (λ n. answer.Barred n) same

barred-none : (o : Option Held) (a : DrainAnswer) → option_map (λ h. h.store.seq) o ≡ None → option_map_or (λ h. answer.Barred h.store.seq) o a ≡ a
barred-none None a found = refl
barred-none (Some h) a found = cc

pub answer_stands : (kept : Kept) (line count : ℕ) (result : DrainAnswer) → result ≡ answer_among kept.held line count
    → (actions : List Action) → StoresStand kept actions → result ≡ drain_answer actions line count
answer_stands kept line count result answers actions stands = answers ∙ ap (λ l. answer_among l line count) stands.held

-- the answer by the stores that wait on the line
pub answers_by : (line count : ℕ) (held : List Held) → count ≤ length (filter (is_waiting_on line) held)
    → answer_among held line count ≡ barred_or held line (take count (filter (is_waiting_on line) held))
answers_by line count held enough =
    let not_less : nat_lt (length (filter (is_waiting_on line) held)) count ≡ false = le-ltb (length (filter (is_waiting_on line) held)) count enough in
    rw not_less refl

drained-bars-none : (line barrier : ℕ) (h : Held) → is_waiting h ≡ false → is_barring line barrier h ≡ false
drained-bars-none line barrier h drained = rw drained refl

pub bars : (line count first barrier seq : ℕ) (held : List Held) → count ≤ length (filter (is_waiting_on line) held)
    → first ≤ position_or_len is_waiting held
    → barrier ≡ greatest_barrier (take count (filter (is_waiting_on line) held))
    → Some seq ≡ option_map (λ h. h.store.seq) (find (is_barring line barrier) (drop first held))
    → answer.Barred seq ≡ answer_among held line count
bars line count first barrier seq held enough before barrier_is found =
    sym (answers_by line count held enough
    ∙ barred-some (find (is_barring line (greatest_barrier (take count (filter (is_waiting_on line) held)))) held) seq (took line (take count (filter (is_waiting_on line) held)))
    (sym (found ∙ ap (option_map (λ (h : Held). h.store.seq)) (find-behind (is_barring line barrier) is_waiting (drained-bars-none line barrier) first held before)
    ∙ ap (λ b. option_map (λ h. h.store.seq) (find (is_barring line b) held)) barrier_is)))

pub takes : (line count first barrier : ℕ) (held : List Held) → count ≤ length (filter (is_waiting_on line) held)
    → first ≤ position_or_len is_waiting held
    → barrier ≡ greatest_barrier (take count (filter (is_waiting_on line) held))
    → None ≡ option_map (λ h. h.store.seq) (find (is_barring line barrier) (drop first held))
    → took line (take count (filter (is_waiting_on line) held)) ≡ answer_among held line count
takes line count first barrier held enough before barrier_is found =
    sym (answers_by line count held enough
    ∙ barred-none (find (is_barring line (greatest_barrier (take count (filter (is_waiting_on line) held)))) held) (took line (take count (filter (is_waiting_on line) held)))
    (sym (found ∙ ap (option_map (λ (h : Held). h.store.seq)) (find-behind (is_barring line barrier) is_waiting (drained-bars-none line barrier) first held before)
    ∙ ap (λ b. option_map (λ h. h.store.seq) (find (is_barring line b) held)) barrier_is)))

-- a drain that takes its stores has so many
pub took_enough : (held : List Held) (line count : ℕ) (a : DrainAnswer) → a ≡ answer_among held line count → is_taking a ≡ true → count ≤ length (filter (is_waiting_on line) held)
took_enough held line count a answers taking =
    elim (cases_lt (length (filter (is_waiting_on line) held)) count) [
      | inl few ↦ (let less : nat_lt (length (filter (is_waiting_on line) held)) count ≡ true = lt-ltb (length (filter (is_waiting_on line) held)) count few in
          let refused : a ≡ answer.Few (length (filter (is_waiting_on line) held)) = answers ∙ (rw less refl) in
          absurd (false≢true (sym (ap is_taking refused) ∙ taking)))
      | inr enough ↦ enough
    ]

pub took-if : (a : DrainAnswer) {P : Type 0} → (is_taking a ≡ true → P) → OnTook a P
took-if (answer.Took mask bytes) gains = gains refl
took-if (answer.Few held) gains = tt
took-if (answer.Barred seq) gains = tt
took-if answer.OutOfMemory gains = tt

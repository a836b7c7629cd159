use Rattle.std.proofs.Common.{ℕ, ◌≡◌, ◌+◌, ◌*◌, ◌/◌, ◌%◌, ◌^◌, ◌<◌, ◌≤◌, true, not, List, ◌++◌, take, drop, refl, sym, ap, ◌∙◌, arith, lit<}
use Rattle.std.specs.Prelude.{reverse, slice_index}
use Rattle.std.specs.List.{list_all, find}
use Rattle.std.specs.Option.{option_map, option_map_or, option_or}
use Rattle.std.proofs.lemmas.Bool.{not_from_false}
use Rattle.std.proofs.lemmas.List.{get_or-drop, get_or-take, length-drop, length-take, take-append-drop, reverse-append}
use Rattle.std.proofs.lemmas.List.Folds.{find-append}
use Rattle.dt_record.specs.declared.writes.Write.{Write}
use Rattle.dt_record.specs.Image.{image_byte}
use Rattle.dt_record.specs.Memory.{covers, last_covering, memory_at}
use Rattle.dt_versions.specs.Words.{IsSteady, SteadyBytesStay, SteadySourcesStay, SteadyWordsStay, double_at}
use Rattle.dt_versions.proofs.Orders.{no_write}
use Rattle.dt_versions.proofs.Places.{find_none, list_all-from, list_all-reverse, take-take}

-- A steady word stays.

-- the write that a byte comes from stays
pub last_covering-stays : (writes : List Write) (addr byte j k : ℕ) → IsSteady writes addr j k → j ≤ k → byte / 8 ≡ addr / 8
    → last_covering writes k byte ≡ last_covering writes j byte
last_covering-stays writes addr byte j k steady later in_word =
    let early = take j writes in
    let late = drop j (take k writes) in
    let split : take k writes ≡ early ++ late =
    sym (take-append-drop j (take k writes)) ∙ ap (λ (xs : List Write). xs ++ late) (take-take j k writes later) in
    let unseen : list_all (λ w. not (covers byte w)) late ≡ true = list_all-from (λ w. not (covers byte w)) no_write late (λ i within.
    let inside : j + i < k = omega (arith, length-drop j (take k writes), length-take k writes) in
    ap (λ w. not (covers byte w)) (get_or-drop j (take k writes) i no_write ∙ get_or-take k writes (j + i) no_write inside)
    ∙ not_from_false _ (steady.none byte (j + i) no_write in_word (omega arith) inside)) in
    ap (λ ws. find (covers byte) (reverse ws)) split
    ∙ ap (find (covers byte)) (reverse-append early late)
    ∙ find-append (covers byte) (reverse late) (reverse early)
    ∙ ap (λ o. option_or o (find (covers byte) (reverse early)))
    (find_none (covers byte) (reverse late) (list_all-reverse (λ w. not (covers byte w)) no_write late unseen))

pub steady_bytes : SteadyBytesStay
steady_bytes image writes addr byte j k steady later in_word =
    ap (λ o. option_map_or (λ w. slice_index w.bytes (byte % 64)) o (image_byte image byte)) (last_covering-stays writes addr byte j k steady later in_word)

pub steady_sources : SteadySourcesStay
steady_sources writes addr byte j k steady later in_word = ap (option_map (λ w. w.key)) (last_covering-stays writes addr byte j k steady later in_word)

-- eight bytes as a number, over a memory
abbrev double_over : (ℕ → ℕ) → ℕ → ℕ
double_over memory addr =
    memory addr
    + 2 ^ 8 * memory (addr + 1)
    + 2 ^ 16 * memory (addr + 2)
    + 2 ^ 24 * memory (addr + 3)
    + 2 ^ 32 * memory (addr + 4)
    + 2 ^ 40 * memory (addr + 5)
    + 2 ^ 48 * memory (addr + 6)
    + 2 ^ 56 * memory (addr + 7)

same_double : (now before : ℕ → ℕ) (addr : ℕ) → now addr ≡ before addr → ((i : ℕ) → i < 8 → now (addr + i) ≡ before (addr + i))
    → double_over now addr ≡ double_over before addr
same_double now before addr first each =
    omega (arith, first, each 1 (lit< tt), each 2 (lit< tt), each 3 (lit< tt), each 4 (lit< tt), each 5 (lit< tt), each 6 (lit< tt), each 7 (lit< tt))

pub steady_words : SteadyWordsStay
unfolding double_at
steady_words image writes addr j k steady later aligned =
    same_double (memory_at image writes k) (memory_at image writes j) addr (steady_bytes image writes addr addr j k steady later refl)
    (λ i within. steady_bytes image writes addr (addr + i) j k steady later (omega arith))

-- what is steady from a moment on is so from a later one on
pub IsSteady-later : (writes : List Write) (addr from later k : ℕ) → from ≤ later → IsSteady writes addr from k → IsSteady writes addr later k
IsSteady-later writes addr from later k rises is = record { none = λ byte j d in_word after before. is.none byte j d in_word (omega arith) before }

-- The walk depends only on the entries that it reads, and reads them in RAM.
use Rattle.std.proofs.Common.{◌≡◌, ℕ, zero, suc, ◌%◌, Bool, true, false, cond, ◌&&◌, List, [], ◌∷◌, All, refl, sym, ◌∙◌, ap, subst, inl, inr, arith, leb, ltb}
use Rattle.std.proofs.lemmas.Bool.{and_from, and_parts, false≢true, cases_Bool, leb-true, ltb-true}
use Rattle.std.proofs.lemmas.List.Elements.{All-cons, All-head, All-tail}
use Rattle.dt_walk.specs.declared.arguments.WalkArgs.{WalkArgs}
use Rattle.dt_walk.specs.declared.arguments.WalkAnswer.TheVariants.{Page}
use Rattle.dt_walk.specs.Entry.{is_faulty, is_leaf, table_of}
use Rattle.dt_walk.specs.Walk.{AgreeOn, CanWalk, IsEntryAddress, entry_address, is_canonical, is_in_ram, page_address, reads_from, reads_of, walk_from, walk_of}
use Rattle.dt_walk.proofs.Steps.{walk_from-none, walk_from-outside, walk_from-faulty, walk_from-leaf, walk_from-pointer}

pub reads_from-none : (entry : ℕ → ℕ) (a : WalkArgs) (table : ℕ) → reads_from entry a 0 table ≡ []
unfolding reads_from
reads_from-none entry a table = refl

module _ (entry : ℕ → ℕ) (a : WalkArgs) (level table : ℕ) where
  pub reads_from-outside : is_in_ram (entry_address a.va level table) ≡ false → reads_from entry a (suc level) table ≡ []
  unfolding reads_from
  reads_from-outside outside = rw outside

  module _ (inside : is_in_ram (entry_address a.va level table) ≡ true) where
    pub reads_from-faulty : is_faulty a level (entry (entry_address a.va level table)) ≡ true → reads_from entry a (suc level) table ≡ entry_address a.va level table ∷ []
    unfolding reads_from
    reads_from-faulty faulty = rw (inside, faulty)

    module _ (sound : is_faulty a level (entry (entry_address a.va level table)) ≡ false) where
      pub reads_from-leaf : is_leaf (entry (entry_address a.va level table)) ≡ true → reads_from entry a (suc level) table ≡ entry_address a.va level table ∷ []
      unfolding reads_from
      reads_from-leaf leaf = rw (inside, sound, leaf)

      pub reads_from-pointer : is_leaf (entry (entry_address a.va level table)) ≡ false → reads_from entry a (suc level) table ≡ entry_address a.va level table ∷ reads_from entry a level (table_of (entry (entry_address a.va level table)))
      unfolding reads_from
      reads_from-pointer pointer = rw (inside, sound, pointer)

-- two memories give one answer from a table on, and read the same entries
record Same (first second : ℕ → ℕ) (a : WalkArgs) (level table : ℕ) : Type 0 where
  pub answer : walk_from second a level table ≡ walk_from first a level table
  pub reads : reads_from second a level table ≡ reads_from first a level table

module _ (first second : ℕ → ℕ) (a : WalkArgs) where
  module _ (level table : ℕ) (inside : is_in_ram (entry_address a.va level table) ≡ true) where
    same_faulty : is_faulty a level (first (entry_address a.va level table)) ≡ true → first (entry_address a.va level table) ≡ second (entry_address a.va level table) → Same first second a (suc level) table
    same_faulty faulty equal =
        let faulty_too = ap (is_faulty a level) (sym equal) ∙ faulty in
        record {
          answer = walk_from-faulty second a level table inside faulty_too ∙ sym (walk_from-faulty first a level table inside faulty);
          reads = reads_from-faulty second a level table inside faulty_too ∙ sym (reads_from-faulty first a level table inside faulty);
        }

    module _ (sound : is_faulty a level (first (entry_address a.va level table)) ≡ false) (equal : first (entry_address a.va level table) ≡ second (entry_address a.va level table)) where
      same_leaf : is_leaf (first (entry_address a.va level table)) ≡ true → Same first second a (suc level) table
      same_leaf leaf =
          let sound_too = ap (is_faulty a level) (sym equal) ∙ sound in
          let leaf_too = ap is_leaf (sym equal) ∙ leaf in
          record {
            answer = walk_from-leaf second a level table inside sound_too leaf_too ∙ ap (λ pte. Page (page_address a.va level pte)) (sym equal) ∙ sym (walk_from-leaf first a level table inside sound leaf);
            reads = reads_from-leaf second a level table inside sound_too leaf_too ∙ sym (reads_from-leaf first a level table inside sound leaf);
          }

      same_pointer : is_leaf (first (entry_address a.va level table)) ≡ false → Same first second a level (table_of (first (entry_address a.va level table))) → Same first second a (suc level) table
      same_pointer pointer below =
          let sound_too = ap (is_faulty a level) (sym equal) ∙ sound in
          let pointer_too = ap is_leaf (sym equal) ∙ pointer in
          record {
            answer = walk_from-pointer second a level table inside sound_too pointer_too ∙ ap (λ pte. walk_from second a level (table_of pte)) (sym equal) ∙ below.answer ∙ sym (walk_from-pointer first a level table inside sound pointer);
            reads = reads_from-pointer second a level table inside sound_too pointer_too ∙ ap (λ pte. entry_address a.va level table ∷ reads_from second a level (table_of pte)) (sym equal) ∙ ap (λ rest. entry_address a.va level table ∷ rest) below.reads ∙ sym (reads_from-pointer first a level table inside sound pointer);
          }

  same : (level table : ℕ) → AgreeOn (reads_from first a level table) first second → Same first second a level table
  same zero table agree = record {
    answer = walk_from-none second a table ∙ sym (walk_from-none first a table);
    reads = reads_from-none second a table ∙ sym (reads_from-none first a table);
  }
  same (suc level) table agree =
      let address = entry_address a.va level table in
      let Equal : ℕ → Type 0 = λ x. first x ≡ second x in
      elim (cases_Bool (is_in_ram address)) [
        | inl inside ↦ elim (cases_Bool (is_faulty a level (first address))) [
          | inl faulty ↦
              same_faulty level table inside faulty (All-head Equal address [] (subst (All Equal) (reads_from-faulty first a level table inside faulty) agree))
          | inr sound ↦ elim (cases_Bool (is_leaf (first address))) [
            | inl leaf ↦
                same_leaf level table inside sound (All-head Equal address [] (subst (All Equal) (reads_from-leaf first a level table inside sound leaf) agree)) leaf
            | inr pointer ↦
                let rest = reads_from first a level (table_of (first address)) in
                let agreed : All Equal (address ∷ rest) = subst (All Equal) (reads_from-pointer first a level table inside sound pointer) agree in
                same_pointer level table inside sound (All-head Equal address rest agreed) pointer (same level (table_of (first address)) (All-tail Equal address rest agreed))
          ]
        ]
        | inr outside ↦ record {
          answer = walk_from-outside second a level table outside ∙ sym (walk_from-outside first a level table outside);
          reads = reads_from-outside second a level table outside ∙ sym (reads_from-outside first a level table outside);
        }
      ]

if-same : {X : Type 0} (b : Bool) (x y z : X) → (b ≡ true → x ≡ y) → cond b x z ≡ cond b y z
if-same true x y z h = h refl
if-same false x y z h = refl

All-then : (P : ℕ → Type 0) (b : Bool) (xs : List ℕ) → b ≡ true → All P (cond b xs []) → All P xs
All-then P true xs e h = h
All-then P false xs e h = absurd (false≢true e)

All-if : (P : ℕ → Type 0) (b : Bool) (xs : List ℕ) → (b ≡ true → All P xs) → All P (cond b xs [])
All-if P true xs h = h refl
All-if P false xs h = λ k d below. absurd (omega arith)

pub same_walk : (first second : ℕ → ℕ) (a : WalkArgs) → AgreeOn (reads_of first a) first second → walk_of second a ≡ walk_of first a
unfolding walk_of reads_of
same_walk first second a agree =
    if-same a.on _ _ _ (λ on. if-same (is_canonical a.levels a.va) _ _ _ (λ canonical. (same first second a a.levels a.root (All-then (λ x. first x ≡ second x) (a.on && is_canonical a.levels a.va) _ (and_from _ _ on canonical) agree)).answer))

pub same_reads : (first second : ℕ → ℕ) (a : WalkArgs) → AgreeOn (reads_of first a) first second → reads_of second a ≡ reads_of first a
unfolding reads_of
same_reads first second a agree =
    let walked = a.on && is_canonical a.levels a.va in
    if-same walked _ _ _ (λ walks. (same first second a a.levels a.root (All-then (λ x. first x ≡ second x) walked _ walks agree)).reads)

entry_address-lies : (va level table : ℕ) → table % 4096 ≡ 0 → is_in_ram (entry_address va level table) ≡ true → IsEntryAddress (entry_address va level table)
entry_address-lies va level table begins inside =
    let parts = and_parts (leb 0x8000_0000 (entry_address va level table)) (ltb (entry_address va level table) 0x8400_0000) inside in
    record { aligned = omega arith; in_ram = leb-true _ _ parts.0; before_end = ltb-true _ _ parts.1 }

module _ (entry : ℕ → ℕ) (a : WalkArgs) where
  reads_lie : (level table : ℕ) → table % 4096 ≡ 0 → All IsEntryAddress (reads_from entry a level table)
  reads_lie zero table begins = rw (reads_from-none entry a table) (λ k d below. absurd (omega arith))
  reads_lie (suc level) table begins =
      let address = entry_address a.va level table in
      elim (cases_Bool (is_in_ram address)) [
        | inl inside ↦
            let lies = entry_address-lies a.va level table begins inside in
            let alone : All IsEntryAddress (address ∷ []) = All-cons IsEntryAddress address [] lies (λ k d below. absurd (omega arith)) in
            elim (cases_Bool (is_faulty a level (entry address))) [
              | inl faulty ↦ subst (All IsEntryAddress) (sym (reads_from-faulty entry a level table inside faulty)) alone
              | inr sound ↦ elim (cases_Bool (is_leaf (entry address))) [
                | inl leaf ↦ subst (All IsEntryAddress) (sym (reads_from-leaf entry a level table inside sound leaf)) alone
                | inr pointer ↦
                    let below = table_of (entry address) in
                    subst (All IsEntryAddress) (sym (reads_from-pointer entry a level table inside sound pointer))
                    (All-cons IsEntryAddress address (reads_from entry a level below) lies (reads_lie level below (omega arith)))
              ]
            ]
        | inr outside ↦ rw (reads_from-outside entry a level table outside) (λ k d below. absurd (omega arith))
      ]

pub reads_of-lie : (entry : ℕ → ℕ) (a : WalkArgs) → CanWalk a → All IsEntryAddress (reads_of entry a)
unfolding reads_of
reads_of-lie entry a can =
    let walked = a.on && is_canonical a.levels a.va in
    All-if IsEntryAddress walked (reads_from entry a a.levels a.root) (λ walks. reads_lie entry a a.levels a.root (can.root (and_parts _ _ walks).0))

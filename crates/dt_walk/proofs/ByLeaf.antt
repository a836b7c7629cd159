-- A walk is decided by the leaf of its page, and then by who asks.
use Rattle.std.proofs.Common.{◌≡◌, ℕ, zero, suc, ◌+◌, ◌-◌, ◌*◌, ◌/◌, ◌%◌, ◌^◌, ◌≤◌, Bool, true, false, cond, not, ◌&&◌, ◌||◌, IsTrue, refl, sym, ◌∙◌, ap, subst, inl, inr, arith, eqb}
use Rattle.std.proofs.Math.Nat.{div-div-eq-div-mul}
use Rattle.std.proofs.lemmas.Bool.{cases_Bool, false≢true}
use Rattle.std.proofs.lemmas.Nat.{pow-add}
use Rattle.dt_walk.specs.declared.arguments.Access.{Access}
use Rattle.dt_walk.specs.declared.arguments.Access.TheVariants.{Fetch, Load, Store}
use Rattle.dt_walk.specs.declared.arguments.WalkArgs.{WalkArgs}
use Rattle.dt_walk.specs.declared.arguments.WalkAnswer.TheVariants.{Page, PageFault, AccessFault}
use Rattle.dt_walk.specs.declared.leaves.LeafAnswer.{LeafAnswer}
use Rattle.dt_walk.specs.declared.leaves.LeafAnswer.TheVariants as found
use Rattle.dt_walk.specs.Entry.{has_bit, is_aligned, is_broken, is_faulty, is_faulty_pointer, is_leaf, is_marked, is_valid_entry, leaf_bits, permits, permits_access, permits_mode, table_of}
use Rattle.dt_walk.specs.Leaf.{KeepsOffset, answer_by, entry_place, is_canonical_page, leaf_from, leaf_of, tables_of}
use Rattle.dt_walk.specs.Walk.{CanWalk, entry_address, is_canonical, is_in_ram, page_address, walk_from, walk_of}
use Rattle.dt_walk.proofs.LeafSteps.{leaf_from-none, leaf_from-outside, leaf_from-broken, leaf_from-leaf, leaf_from-pointer}
use Rattle.dt_walk.proofs.Steps.{walk_from-none, walk_from-outside, walk_from-faulty, walk_from-leaf, walk_from-pointer}

-- an address shifted by 12 and more places is its page's number shifted by those that are left
shifted : (va n : ℕ) → va / 4096 / 2 ^ n ≡ va / 2 ^ (12 + n)
shifted va n = div-div-eq-div-mul va 4096 (2 ^ n) ∙ ap (λ k. va / k) (sym (pow-add 2 12 n))

same_place : (va level table : ℕ) → entry_place (va / 4096) level table ≡ entry_address va level table
same_place va level table = ap (λ k. table + 8 * (k % 2 ^ 9)) (shifted va (9 * level))

same_canonical : (levels va : ℕ) → 3 ≤ levels → is_canonical_page levels (va / 4096) ≡ is_canonical levels va
same_canonical levels va few =
    let places : 12 + (9 * levels - 1) ≡ 9 * levels + 11 = omega arith in
    let same : va / 4096 / 2 ^ (9 * levels - 1) ≡ va / 2 ^ (9 * levels + 11) = shifted va (9 * levels - 1) ∙ ap (λ k. va / 2 ^ k) places in
    ap (λ high. eqb high 0 || eqb high (2 ^ (53 - 9 * levels) - 1)) same

-- the marks and rights of a leaf stand in its lowest 8 bits
module _ (pte : ℕ) where
  readable : has_bit (pte % 2 ^ 8) 1 ≡ has_bit pte 1
  readable = let same : pte % 2 ^ 8 / 2 ^ 1 % 2 ≡ pte / 2 ^ 1 % 2 = omega arith in ap (λ k. eqb k 1) same

  writable : has_bit (pte % 2 ^ 8) 2 ≡ has_bit pte 2
  writable = let same : pte % 2 ^ 8 / 2 ^ 2 % 2 ≡ pte / 2 ^ 2 % 2 = omega arith in ap (λ k. eqb k 1) same

  executable : has_bit (pte % 2 ^ 8) 3 ≡ has_bit pte 3
  executable = let same : pte % 2 ^ 8 / 2 ^ 3 % 2 ≡ pte / 2 ^ 3 % 2 = omega arith in ap (λ k. eqb k 1) same

  user : has_bit (pte % 2 ^ 8) 4 ≡ has_bit pte 4
  user = let same : pte % 2 ^ 8 / 2 ^ 4 % 2 ≡ pte / 2 ^ 4 % 2 = omega arith in ap (λ k. eqb k 1) same

  accessed : has_bit (pte % 2 ^ 8) 6 ≡ has_bit pte 6
  accessed = let same : pte % 2 ^ 8 / 2 ^ 6 % 2 ≡ pte / 2 ^ 6 % 2 = omega arith in ap (λ k. eqb k 1) same

  dirty : has_bit (pte % 2 ^ 8) 7 ≡ has_bit pte 7
  dirty = let same : pte % 2 ^ 8 / 2 ^ 7 % 2 ≡ pte / 2 ^ 7 % 2 = omega arith in ap (λ k. eqb k 1) same

  same_marks : (access : Access) → is_marked access (leaf_bits pte) ≡ is_marked access pte
  same_marks Fetch = accessed
  same_marks Load = accessed
  same_marks Store = ap (λ b. b && has_bit (leaf_bits pte) 7) accessed ∙ ap (λ b. has_bit pte 6 && b) dirty

  same_rights : (access : Access) (mxr : Bool) → permits_access access mxr (leaf_bits pte) ≡ permits_access access mxr pte
  same_rights Fetch mxr = executable
  same_rights Load mxr = ap (λ b. b || (mxr && has_bit (leaf_bits pte) 3)) readable ∙ ap (λ b. has_bit pte 1 || (mxr && b)) executable
  same_rights Store mxr = writable

  same_mode : (a : WalkArgs) → permits_mode a (leaf_bits pte) ≡ permits_mode a pte
  same_mode a = ap (λ b. cond b (permits_mode (record a { mode = a.mode }) (2 ^ 4)) (not (eqb a.mode 0))) user

  same_permits : (a : WalkArgs) → permits a (leaf_bits pte) ≡ permits a pte
  same_permits a =
      ap (λ m. m && (permits_access a.access a.mxr (leaf_bits pte) && permits_mode a (leaf_bits pte))) (same_marks a.access)
      ∙ ap (λ r. is_marked a.access pte && (r && permits_mode a (leaf_bits pte))) (same_rights a.access a.mxr)
      ∙ ap (λ u. is_marked a.access pte && (permits_access a.access a.mxr pte && u)) (same_mode a)

-- an entry is valid or not, a leaf or not, aligned or not; p says that it is a faulty pointer, and m, r and u
-- that it lacks a mark or a right, or denies the mode
broken_is_faulty : (v l al p m r u : Bool) → (not v || cond l (not al) p) ≡ true → (not v || cond l (not al || m || r || u) p) ≡ true
broken_is_faulty false l al p m r u h = refl
broken_is_faulty true true false p m r u h = refl
broken_is_faulty true true true p m r u h = absurd (false≢true h)
broken_is_faulty true false al p m r u h = h

sound_leaf : (v l al p m r u : Bool) → (not v || cond l (not al) p) ≡ false → l ≡ true → (not v || cond l (not al || m || r || u) p) ≡ (m || r || u)
sound_leaf false l al p m r u h leaf = absurd (false≢true (sym h))
sound_leaf true true false p m r u h leaf = absurd (false≢true (sym h))
sound_leaf true true true p m r u h leaf = refl
sound_leaf true false al p m r u h leaf = absurd (false≢true leaf)

sound_pointer : (v l al p m r u : Bool) → (not v || cond l (not al) p) ≡ false → l ≡ false → (not v || cond l (not al || m || r || u) p) ≡ false
sound_pointer false l al p m r u h pointer = absurd (false≢true (sym h))
sound_pointer true true al p m r u h pointer = absurd (false≢true (sym pointer))
sound_pointer true false al p m r u h pointer = h

denied : (m r u : Bool) → (not m || not r || not u) ≡ not (m && (r && u))
denied false r u = refl
denied true false u = refl
denied true true u = refl

module _ (a : WalkArgs) (level pte : ℕ) where
  faulty_if_broken : is_broken level pte ≡ true → is_faulty a level pte ≡ true
  faulty_if_broken = broken_is_faulty (is_valid_entry pte) (is_leaf pte) (is_aligned level pte) (is_faulty_pointer level pte)
      (not (is_marked a.access pte)) (not (permits_access a.access a.mxr pte)) (not (permits_mode a pte))

  faulty_leaf : is_broken level pte ≡ false → is_leaf pte ≡ true → is_faulty a level pte ≡ not (permits a pte)
  faulty_leaf sound leaf =
      sound_leaf (is_valid_entry pte) (is_leaf pte) (is_aligned level pte) (is_faulty_pointer level pte)
      (not (is_marked a.access pte)) (not (permits_access a.access a.mxr pte)) (not (permits_mode a pte)) sound leaf
      ∙ denied (is_marked a.access pte) (permits_access a.access a.mxr pte) (permits_mode a pte)

  sound_if_pointer : is_broken level pte ≡ false → is_leaf pte ≡ false → is_faulty a level pte ≡ false
  sound_if_pointer = sound_pointer (is_valid_entry pte) (is_leaf pte) (is_aligned level pte) (is_faulty_pointer level pte)
      (not (is_marked a.access pte)) (not (permits_access a.access a.mxr pte)) (not (permits_mode a pte))

module _ (entry : ℕ → ℕ) (a : WalkArgs) where
  module _ (level table : ℕ) (inside : is_in_ram (entry_address a.va level table) ≡ true) where
    inside_too : is_in_ram (entry_place (a.va / 4096) level table) ≡ true
    inside_too = ap is_in_ram (same_place a.va level table) ∙ inside

    same_entry : entry (entry_place (a.va / 4096) level table) ≡ entry (entry_address a.va level table)
    same_entry = ap entry (same_place a.va level table)

    by_broken : is_broken level (entry (entry_address a.va level table)) ≡ true → walk_from entry a (suc level) table ≡ answer_by (leaf_from entry (a.va / 4096) (suc level) table) a
    by_broken broken =
        walk_from-faulty entry a level table inside (faulty_if_broken a level (entry (entry_address a.va level table)) broken)
        ∙ sym (ap (λ l. answer_by l a) (leaf_from-broken entry (a.va / 4096) level table inside_too (ap (is_broken level) same_entry ∙ broken)))

    module _ (sound : is_broken level (entry (entry_address a.va level table)) ≡ false) where
      sound_too : is_broken level (entry (entry_place (a.va / 4096) level table)) ≡ false
      sound_too = ap (is_broken level) same_entry ∙ sound

      by_pointer : is_leaf (entry (entry_address a.va level table)) ≡ false
          → walk_from entry a level (table_of (entry (entry_address a.va level table))) ≡ answer_by (leaf_from entry (a.va / 4096) level (table_of (entry (entry_address a.va level table)))) a
          → walk_from entry a (suc level) table ≡ answer_by (leaf_from entry (a.va / 4096) (suc level) table) a
      by_pointer pointer below =
          walk_from-pointer entry a level table inside (sound_if_pointer a level (entry (entry_address a.va level table)) sound pointer) pointer
          ∙ below
          ∙ sym (ap (λ pte. answer_by (leaf_from entry (a.va / 4096) level (table_of pte)) a) same_entry)
          ∙ sym (ap (λ l. answer_by l a) (leaf_from-pointer entry (a.va / 4096) level table inside_too sound_too (ap is_leaf same_entry ∙ pointer)))

      module _ (leaf : is_leaf (entry (entry_address a.va level table)) ≡ true) where
        found_leaf : answer_by (leaf_from entry (a.va / 4096) (suc level) table) a
            ≡ cond (permits a (entry (entry_address a.va level table))) (Page (page_address a.va level (entry (entry_address a.va level table)))) PageFault
        found_leaf =
            ap (λ l. answer_by l a) (leaf_from-leaf entry (a.va / 4096) level table inside_too sound_too (ap is_leaf same_entry ∙ leaf))
            ∙ ap (λ pte. cond (permits a (leaf_bits pte)) (Page (page_address a.va level pte)) PageFault) same_entry
            ∙ ap (λ b. cond b (Page (page_address a.va level (entry (entry_address a.va level table)))) PageFault) (same_permits (entry (entry_address a.va level table)) a)

        by_leaf : walk_from entry a (suc level) table ≡ answer_by (leaf_from entry (a.va / 4096) (suc level) table) a
        by_leaf =
            let pte = entry (entry_address a.va level table) in
            elim (cases_Bool (permits a pte)) [
              | inl allowed ↦
                  walk_from-leaf entry a level table inside (faulty_leaf a level pte sound leaf ∙ ap not allowed) leaf
                  ∙ sym (found_leaf ∙ ap (λ b. cond b (Page (page_address a.va level pte)) PageFault) allowed)
              | inr refused ↦
                  walk_from-faulty entry a level table inside (faulty_leaf a level pte sound leaf ∙ ap not refused)
                  ∙ sym (found_leaf ∙ ap (λ b. cond b (Page (page_address a.va level pte)) PageFault) refused)
            ]

  by_outside : (level table : ℕ) → is_in_ram (entry_address a.va level table) ≡ false → walk_from entry a (suc level) table ≡ answer_by (leaf_from entry (a.va / 4096) (suc level) table) a
  by_outside level table outside =
      walk_from-outside entry a level table outside
      ∙ sym (ap (λ l. answer_by l a) (leaf_from-outside entry (a.va / 4096) level table (ap is_in_ram (same_place a.va level table) ∙ outside)))

  decided_from : (level table : ℕ) → walk_from entry a level table ≡ answer_by (leaf_from entry (a.va / 4096) level table) a
  decided_from zero table = walk_from-none entry a table ∙ sym (ap (λ l. answer_by l a) (leaf_from-none entry (a.va / 4096) table))
  decided_from (suc level) table =
      let pte = entry (entry_address a.va level table) in
      elim (cases_Bool (is_in_ram (entry_address a.va level table))) [
        | inl inside ↦ elim (cases_Bool (is_broken level pte)) [
          | inl broken ↦ by_broken level table inside broken
          | inr sound ↦ elim (cases_Bool (is_leaf pte)) [
            | inl leaf ↦ by_leaf level table inside sound leaf
            | inr pointer ↦ by_pointer level table inside sound pointer (decided_from level (table_of pte))
          ]
        ]
        | inr outside ↦ by_outside level table outside
      ]

answered : (c : Bool) (l : LeafAnswer) (a : WalkArgs) → cond c (answer_by l a) PageFault ≡ answer_by (cond c l found.PageFault) a
answered true l a = refl
answered false l a = refl

pub decided : (entry : ℕ → ℕ) (a : WalkArgs) → CanWalk a → IsTrue a.on → walk_of entry a ≡ answer_by (leaf_of entry (tables_of a) (a.va / 4096)) a
unfolding walk_of leaf_of
decided entry a can on =
    let canonical = is_canonical a.levels a.va in
    let leaf = leaf_from entry (a.va / 4096) a.levels a.root in
    ap (λ b. cond b (cond canonical (walk_from entry a a.levels a.root) PageFault) (Page a.va)) on
    ∙ ap (λ x. cond canonical x PageFault) (decided_from entry a a.levels a.root)
    ∙ answered canonical leaf a
    ∙ ap (λ c. answer_by (cond c leaf found.PageFault) a) (sym (same_canonical a.levels a.va (can.levels on).0))

answer_by-keeps : (l : LeafAnswer) (a : WalkArgs) → KeepsOffset a (answer_by l a)
answer_by-keeps (found.Leaf page bits) a =
    elim (cases_Bool (permits a bits)) [
      | inl allowed ↦ subst (KeepsOffset a) (sym (ap (λ b. cond b (Page (page * 4096 + a.va % 4096)) PageFault) allowed)) (omega arith)
      | inr refused ↦ subst (KeepsOffset a) (sym (ap (λ b. cond b (Page (page * 4096 + a.va % 4096)) PageFault) refused)) tt
    ]
answer_by-keeps found.PageFault a = tt
answer_by-keeps found.AccessFault a = tt

pub walk_of-keeps : (entry : ℕ → ℕ) (a : WalkArgs) → CanWalk a → KeepsOffset a (walk_of entry a)
unfolding walk_of
walk_of-keeps entry a can =
    elim (cases_Bool a.on) [
      | inl on ↦ subst (KeepsOffset a) (sym (decided entry a can on)) (answer_by-keeps (leaf_of entry (tables_of a) (a.va / 4096)) a)
      | inr off ↦ subst (KeepsOffset a) (sym (ap (λ b. cond b (cond (is_canonical a.levels a.va) (walk_from entry a a.levels a.root) PageFault) (Page a.va)) off)) refl
    ]

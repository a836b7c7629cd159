use Rattle.std.proofs.Common.{ℕ, ◌≡◌, ◌/◌, ◌==◌, Bool, true, false, if◌then◌else◌, Option, None, Some, option_map, List, [], ◌∷◌, ◌++◌, reverse, find, refl, sym, ap, ◌∙◌, subst, inl, inr, IsTrue, arith}
use Rattle.std.specs.Prelude.{IfSome}
use Rattle.std.specs.BTreeMap.{is_at}
use Rattle.std.specs.List.{list_all}
use Rattle.std.specs.Map.{lookup}
use Rattle.std.specs.Ordering.{nat_cmp}
use Rattle.std.proofs.lemmas.Bool.{and_parts, and_from, cases_Bool, false≢true}
use Rattle.std.proofs.lemmas.Bool.Decides.{nat_tests}
use Rattle.std.proofs.lemmas.List.{reverse-append}
use Rattle.std.proofs.lemmas.List.Folds.{list_all-append}
use Rattle.dt_record.specs.declared.keys.Key.{Key}
use Rattle.dt_record.specs.Keys.{key_below, KeyBelow}
use Rattle.dt_record.proofs.KeyLaws.{KeyBelow-chain, key_below-back, key_below-cases}
use Rattle.dt_step.specs.declared.plans.Planned.{Planned}
use Rattle.dt_step.specs.declared.plans.Planned.TheVariants.{Done, NeedsLoad, NeedsStore, NeedsAtomic, Csr, Returns, Fences, FenceI, FencesPages, Raises}
use Rattle.dt_windows.specs.Fences.{Fence, fence_at, is_fence, is_instruction_fence, covers_all, covers_page, last_fence}
use Rattle.dt_windows.specs.Kept.{WindowsView, FencesStand, TakesFence, later_of, page_key}
use Rattle.dt_windows.specs.Laws.{LastFencesAreBelow, OtherPlansKeepWindows}

-- How what is kept goes on standing for a hart's fences.

-- ---- the last fence of a kind after one more plan

after_choice : (key : Key) (passes : Bool) (f : Fence) (rest : Option Fence) → f.key ≡ key
    → option_map (λ g. g.key) (if passes then Some f else rest) ≡ (if passes then Some key else option_map (λ g. g.key) rest)
after_choice key true f rest is = ap (λ (k : Key). Some k) is
after_choice key false f rest is = refl

last-more : (test : Planned → Bool) (fences : List Fence) (plan : Planned) (key : Key)
    → last_fence test (fences ++ fence_at plan key ∷ []) ≡ (if test plan then Some key else last_fence test fences)
last-more test fences plan key =
    ap (λ fs. option_map (λ (g : Fence). g.key) (find (λ g. test g.plan) fs)) (reverse-append fences (fence_at plan key ∷ []))
    ∙ after_choice key (test plan) (fence_at plan key) (find (λ g. test g.plan) (reverse fences)) refl

last_here : (test : Planned → Bool) (fences : List Fence) (plan : Planned) (key : Key) → test plan ≡ true → last_fence test (fences ++ fence_at plan key ∷ []) ≡ Some key
last_here test fences plan key passes = last-more test fences plan key ∙ ap (λ b. if b then Some key else last_fence test fences) passes

last_past : (test : Planned → Bool) (fences : List Fence) (plan : Planned) (key : Key) → test plan ≡ false
    → last_fence test (fences ++ fence_at plan key ∷ []) ≡ last_fence test fences
last_past test fences plan key other = last-more test fences plan key ∙ ap (λ b. if b then Some key else last_fence test fences) other

-- ---- keys below another

list_all-reverse : {X : Type 0} (test : X → Bool) (xs : List X) → list_all test xs ≡ true → list_all test (reverse xs) ≡ true
list_all-reverse test [] all = refl
list_all-reverse test (x ∷ xs) all =
    let parts = and_parts (test x) (list_all test xs) all in
    ap (list_all test) (reverse-append (x ∷ []) xs) ∙ list_all-append test (reverse xs) (x ∷ [])
    ∙ and_from (list_all test (reverse xs)) (list_all test (x ∷ [])) (list_all-reverse test xs parts.1) (and_from (test x) true parts.0 refl)

-- what is there stands below a key
abbrev pub Below : Key → Option Key → Type 0
Below key o = IfSome o (λ k. KeyBelow k key)

either_below : (key : Key) (passes : Bool) (f : Fence) (rest : Option Fence) → KeyBelow f.key key → Below key (option_map (λ g. g.key) rest)
    → Below key (option_map (λ g. g.key) (if passes then Some f else rest))
either_below key true f rest here further = here
either_below key false f rest here further = further

found_below : (test : Fence → Bool) (key : Key) (fences : List Fence) → list_all (λ f. key_below f.key key) fences ≡ true → Below key (option_map (λ g. g.key) (find test fences))
found_below test key [] all = tt
found_below test key (f ∷ fs) all =
    let parts = and_parts (key_below f.key key) (list_all (λ g. key_below g.key key) fs) all in
    either_below key (test f) f (find test fs) parts.0 (found_below test key fs parts.1)

last_below : (test : Planned → Bool) (key : Key) (fences : List Fence) → IsTrue (list_all (λ f. key_below f.key key) fences) → Below key (last_fence test fences)
last_below test key fences all = found_below (λ f. test f.plan) key (reverse fences) (list_all-reverse (λ f. key_below f.key key) fences all)

pub last_fences_below : LastFencesAreBelow
last_fences_below test fences key all = last_below test key fences all

later-second : (key : Key) (a : Option Key) → Below key a → later_of a (Some key) ≡ Some key
later-second key None below = refl
later-second key (Some a) below = ap (λ b. Some (if b then key else a)) below

later-first : (key : Key) (b : Option Key) → Below key b → later_of (Some key) b ≡ Some key
later-first key None below = refl
later-first key (Some b) below = ap (λ (t : Bool). Some (if t then b else key)) (key_below-back b key below)

of_two : (key a b : Key) (rises : Bool) → key_below a b ≡ rises → KeyBelow (if rises then b else a) key → KeyBelow b key
of_two key a b true is below = below
of_two key a b false is below = elim (key_below-cases a b) [
  | inl rises ↦ absurd (false≢true (sym is ∙ rises))
  | inr others ↦ elim others [
    | inl same ↦ subst (λ k. KeyBelow k key) same below
    | inr falls ↦ KeyBelow-chain b a key falls below
  ]
]

-- the second of two is below a key that their greater is below
second_below : (key : Key) (a b : Option Key) → Below key (later_of a b) → Below key b
second_below key None b below = below
second_below key (Some a) None below = tt
second_below key (Some a) (Some b) below = of_two key a b (key_below a b) refl below

-- ---- a plan that is no fence

stands_past : (w : WindowsView) (fences : List Fence) (plan : Planned) (key : Key)
    → covers_all plan ≡ false → ((va : ℕ) → covers_page va plan ≡ false) → is_instruction_fence plan ≡ false
    → FencesStand w fences → FencesStand w (fences ++ fence_at plan key ∷ [])
stands_past w fences plan key some uncovered other stands = record {
  all = stands.all ∙ sym (last_past covers_all fences plan key some);
  pages = λ va. stands.pages va ∙ sym (last_past (covers_page va) fences plan key (uncovered va));
  instructions = stands.instructions ∙ sym (last_past is_instruction_fence fences plan key other);
}

covers_none : (va : ℕ) (plan : Planned) → is_fence plan ≡ false → covers_page va plan ≡ false
covers_none va (Done rd value next) other = refl
covers_none va (NeedsLoad at width signed rd) other = refl
covers_none va (NeedsStore at width value) other = refl
covers_none va (NeedsAtomic at width op aq rl rd operand) other = refl
covers_none va (Csr number op operand reads writes rd) other = refl
covers_none va (Returns from_m) other = refl
covers_none va (Fences ww wr rr) other = refl
covers_none va FenceI other = refl
covers_none va (FencesPages at all) other = absurd (false≢true (sym other))
covers_none va (Raises cause tval) other = refl

no_fence_of_all : (plan : Planned) → is_fence plan ≡ false → covers_all plan ≡ false
no_fence_of_all (FencesPages at all) other = absurd (false≢true (sym other))
no_fence_of_all plan other = refl

no_instruction_fence : (plan : Planned) → is_fence plan ≡ false → is_instruction_fence plan ≡ false
no_instruction_fence FenceI other = other
no_instruction_fence (FencesPages at all) other = refl
no_instruction_fence plan other = refl

pub stands_other : OtherPlansKeepWindows
stands_other w fences plan key other =
    stands_past w fences plan key (no_fence_of_all plan other) (λ va. covers_none va plan other) (no_instruction_fence plan other)

-- SFENCE.VMA of an address space alone
pub takes_space : (w : WindowsView) (key : Key) → TakesFence w w (FencesPages None false) key
takes_space w key fences below stands = stands_past w fences (FencesPages None false) key refl (λ va. refl) refl stands

-- ---- a fence of instructions

pub takes_instructions : (w : WindowsView) (key : Key) → TakesFence w (record w { instructions = Some key }) FenceI key
takes_instructions w key fences below stands = record {
  all = stands.all ∙ sym (last_past covers_all fences FenceI key refl);
  pages = λ va. stands.pages va ∙ sym (last_past (covers_page va) fences FenceI key refl);
  instructions = sym (last_here is_instruction_fence fences FenceI key refl);
}

-- ---- a fence of all pages

covers_any : (va : ℕ) (fenced : Option ℕ) → covers_page va (FencesPages fenced true) ≡ true
covers_any va None = refl
covers_any va (Some fenced) = refl

pub takes_all_pages : (w : WindowsView) (key : Key) (fenced : Option ℕ) → TakesFence w (record w { all = Some key }) (FencesPages fenced true) key
takes_all_pages w key fenced fences below stands = record {
  all = sym (last_here covers_all fences (FencesPages fenced true) key refl);
  pages = λ va.
      let its = lookup (is_at (nat_cmp (va / 4096))) w.pages in
      let before : Below key (page_key w va) = subst (λ (o : Option Key). Below key o) (sym (stands.pages va)) (last_below (covers_page va) key fences below) in
      later-first key its (second_below key w.all its before)
      ∙ sym (last_here (covers_page va) fences (FencesPages fenced true) key (covers_any va fenced));
  instructions = stands.instructions ∙ sym (last_past is_instruction_fence fences (FencesPages fenced true) key refl);
}

-- ---- a fence of the page of an address

is_at-nat_cmp : (p q : ℕ) → is_at (nat_cmp p) q ≡ (p == q)
is_at-nat_cmp p q = elim (cases_Bool (p == q)) [
  | inl same ↦ let here : is_at (nat_cmp p) q ≡ true = grind (arith, nat_tests) in here ∙ sym same
  | inr apart ↦ let past : is_at (nat_cmp p) q ≡ false = grind (arith, nat_tests) in past ∙ sym apart
]

either : (here : Bool) (key : Key) (all old since : Option Key) → Below key all → later_of all old ≡ since
    → later_of all (if here then Some key else old) ≡ (if here then Some key else since)
either true key all old since below is = later-second key all below
either false key all old since below is = is

pub takes_page : (old new : WindowsView) (va : ℕ) (key : Key) → new.all ≡ old.all → new.instructions ≡ old.instructions
    → ((q : ℕ) → lookup (is_at (nat_cmp q)) new.pages ≡ (if is_at (nat_cmp (va / 4096)) q then Some key else lookup (is_at (nat_cmp q)) old.pages))
    → TakesFence old new (FencesPages (Some va) false) key
takes_page old new va key all instructions updates fences below stands = record {
  all = all ∙ stands.all ∙ sym (last_past covers_all fences (FencesPages (Some va) false) key refl);
  pages = λ other.
      let here = va / 4096 == other / 4096 in
      let its = lookup (is_at (nat_cmp (other / 4096))) old.pages in
      let before : Below key old.all = subst (λ (o : Option Key). Below key o) (sym stands.all) (last_below covers_all key fences below) in
      ap (λ (o : Option Key). later_of o (lookup (is_at (nat_cmp (other / 4096))) new.pages)) all
      ∙ ap (later_of old.all) (updates (other / 4096) ∙ ap (λ b. if b then Some key else its) (is_at-nat_cmp (va / 4096) (other / 4096)))
      ∙ either here key old.all its (last_fence (covers_page other) fences) before (stands.pages other)
      ∙ sym (last-more (covers_page other) fences (FencesPages (Some va) false) key);
  instructions = instructions ∙ stands.instructions ∙ sym (last_past is_instruction_fence fences (FencesPages (Some va) false) key refl);
}

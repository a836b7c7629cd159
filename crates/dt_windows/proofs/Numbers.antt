use Rattle.std.proofs.Common.{ℕ, ◌≡◌, ◌+◌, ◌<◌, ◌^◌, zero, suc, Bool, true, false, if◌then◌else◌, List, [], ◌∷◌, ◌++◌, map, take, drop, length, get_or, nat_lt, Option, None, Some, IsSome, refl, sym, ap, ◌∙◌, subst, inl, inr, BTreeMap, arith}
use Rattle.std.specs.Option.{option_map}
use Rattle.std.specs.List.{cons_option, list_all, AllByRecursion}
use Rattle.std.specs.List.Sorted.{IsStrictlySortedBy}
use Rattle.std.specs.Ordering.{nat_cmp, match_ordering}
use Rattle.std.specs.declared.cmp.Ordering.TheVariants.{Less, Greater}
use Rattle.std.specs.BTreeMap.{get, insert_entry, Updates}
use Rattle.std.specs.Map.{lookup, keys_of}
use Rattle.std.proofs.lemmas.Bool.{and_parts, and_from, cases_Bool, cond-false, lt-ltb, ltb-true}
use Rattle.std.proofs.lemmas.Bool.Decides.{nat_tests}
use Rattle.std.proofs.lemmas.List.{take-append-drop, drop_more, map_more}
use Rattle.std.proofs.lemmas.Map.Keys.{sorted_head, sorted_tail}
use Rattle.dt_record.specs.declared.keys.Key.{Key}
use Rattle.dt_windows.specs.Kept.{ArePages}
use Rattle.dt_windows.specs.Pages.{Entries, present}
use Rattle.dt_record.proofs.Undoing.{at}

-- The numbers of the pages that have a key.

-- ---- in order

either_above : (q a : ℕ) (o : Option Key) (pages : List (ℕ × Key)) → nat_cmp q a ≡ Less → AllByRecursion (λ b. nat_cmp q b ≡ Less) (keys_of pages)
    → AllByRecursion (λ b. nat_cmp q b ≡ Less) (keys_of (cons_option (option_map (λ key. (a, key)) o) pages))
either_above q a None pages here rest = rest
either_above q a (Some key) pages here rest = (here, rest)

above_present : (q : ℕ) (es : Entries) → AllByRecursion (λ a. nat_cmp q a ≡ Less) (keys_of es) → AllByRecursion (λ a. nat_cmp q a ≡ Less) (keys_of (present es))
above_present q [] above = tt
above_present q (e ∷ es) above = either_above q e.0 e.1 (present es) above.0 (above_present q es above.1)

sorted_cons : (q : ℕ) (qs : List ℕ) → AllByRecursion (λ a. nat_cmp q a ≡ Less) qs → IsStrictlySortedBy nat_cmp qs → IsStrictlySortedBy nat_cmp (q ∷ qs)
unfolding IsStrictlySortedBy
sorted_cons q qs above rest = (above, rest)

either_sorted : (a : ℕ) (o : Option Key) (pages : List (ℕ × Key)) → AllByRecursion (λ b. nat_cmp a b ≡ Less) (keys_of pages) → IsStrictlySortedBy nat_cmp (keys_of pages)
    → IsStrictlySortedBy nat_cmp (keys_of (cons_option (option_map (λ key. (a, key)) o) pages))
either_sorted a None pages above rest = rest
either_sorted a (Some key) pages above rest = sorted_cons a (keys_of pages) above rest

pub sorted_present : (es : Entries) → IsStrictlySortedBy nat_cmp (keys_of es) → IsStrictlySortedBy nat_cmp (keys_of (present es))
sorted_present [] ordered = ordered
sorted_present (e ∷ es) ordered =
    either_sorted e.0 e.1 (present es) (above_present e.0 es (sorted_head nat_cmp e.0 (keys_of es) ordered)) (sorted_present es (sorted_tail nat_cmp e.0 (keys_of es) ordered))

-- ---- below the limit

-- a page of later slots is one of all
either_found : (b : Bool) (slot : Option Key) (o : Option (Option Key)) → IsSome o → IsSome (if b then Some slot else o)
either_found true slot o some = refl
either_found false slot o some = some

either_within : (a : ℕ) (o : Option Key) (pages : List (ℕ × Key)) → nat_lt a (2 ^ 52) ≡ true → list_all (λ page. nat_lt page (2 ^ 52)) (keys_of pages) ≡ true
    → list_all (λ page. nat_lt page (2 ^ 52)) (keys_of (cons_option (option_map (λ key. (a, key)) o) pages)) ≡ true
either_within a None pages here rest = rest
either_within a (Some key) pages here rest = and_from (nat_lt a (2 ^ 52)) (list_all (λ page. nat_lt page (2 ^ 52)) (keys_of pages)) here rest

itself : (page : ℕ) → at page page ≡ true
itself page = grind (arith, nat_tests)

within_present : (es : Entries) → ((page : ℕ) → IsSome (lookup (at page) es) → page < 2 ^ 52) → list_all (λ page. nat_lt page (2 ^ 52)) (keys_of (present es)) ≡ true
within_present [] within = refl
within_present (e ∷ es) within =
    let some = subst (λ (b : Bool). IsSome (if b then Some e.1 else lookup (at e.0) es)) (sym (itself e.0)) refl in
    either_within e.0 e.1 (present es) (lt-ltb e.0 (2 ^ 52) (within e.0 some))
    (within_present es (λ page there. within page (either_found (at page e.0) e.1 (lookup (at page) es) there)))

pub pages_in_order : (es : Entries) → IsStrictlySortedBy nat_cmp (keys_of es) → ((page : ℕ) → IsSome (lookup (at page) es) → page < 2 ^ 52) → ArePages (present es)
pages_in_order es ordered within = record { rising = sorted_present es ordered; within = within_present es within }

-- ---- from a list of pages

abbrev pub slot_of : ℕ × Key → ℕ × Option Key
slot_of p = (p.0, Some p.1)

pub present-map : (pages : List (ℕ × Key)) → present (map slot_of pages) ≡ pages
present-map [] = refl
present-map (p ∷ ps) = ap (λ rest. p ∷ rest) (present-map ps)

all_member : (q : ℕ) (xs : List (ℕ × Key)) (p : ℕ × Key) (ys : List (ℕ × Key)) → AllByRecursion (λ a. nat_cmp q a ≡ Less) (keys_of (xs ++ p ∷ ys)) → nat_cmp q p.0 ≡ Less
all_member q [] p ys all = all.0
all_member q (x ∷ xs) p ys all = all_member q xs p ys all.1

turned : (a b : ℕ) → nat_cmp a b ≡ Less → nat_cmp b a ≡ Greater
turned a b less = grind (arith, nat_tests)

below_next : (xs : List (ℕ × Key)) (p : ℕ × Key) (ys : List (ℕ × Key)) → IsStrictlySortedBy nat_cmp (keys_of (xs ++ p ∷ ys)) → AllByRecursion (λ a. nat_cmp p.0 a ≡ Greater) (keys_of (map slot_of xs))
below_next [] p ys rising = tt
below_next (x ∷ xs) p ys rising = (
  turned x.0 p.0 (all_member x.0 xs p ys (sorted_head nat_cmp x.0 (keys_of (xs ++ p ∷ ys)) rising)),
  below_next xs p ys (sorted_tail nat_cmp x.0 (keys_of (xs ++ p ∷ ys)) rising),
)

insert_last : (es : Entries) (page : ℕ) (key : Option Key) → AllByRecursion (λ a. nat_cmp page a ≡ Greater) (keys_of es) → insert_entry nat_cmp es page key ≡ es ++ (page, key) ∷ []
insert_last [] page key above = refl
insert_last (e ∷ es) page key above =
    ap (λ o. match_ordering o ((page, key) ∷ e ∷ es) ((e.0, key) ∷ es) (e ∷ insert_entry nat_cmp es page key)) above.0
    ∙ ap (λ rest. e ∷ rest) (insert_last es page key above.1)

-- one more page
pub insert_next : (pages : List (ℕ × Key)) (i : ℕ) (d : ℕ × Key) → ArePages pages → i < length pages
    → insert_entry nat_cmp (map slot_of (take i pages)) (get_or pages i d).0 (Some (get_or pages i d).1) ≡ map slot_of (take (i + 1) pages)
insert_next pages i d are within =
    let next = get_or pages i d in
    let split : pages ≡ take i pages ++ next ∷ drop (i + 1) pages = sym (take-append-drop i pages) ∙ ap (λ (rest : List (ℕ × Key)). take i pages ++ rest) (drop_more pages i d within) in
    let rising : IsStrictlySortedBy nat_cmp (keys_of (take i pages ++ next ∷ drop (i + 1) pages)) =
    subst (λ (ps : List (ℕ × Key)). IsStrictlySortedBy nat_cmp (keys_of ps)) split are.rising in
    insert_last (map slot_of (take i pages)) next.0 (Some next.1) (below_next (take i pages) next (drop (i + 1) pages) rising)
    ∙ sym (map_more slot_of pages i d within)

pub page_within : (pages : List (ℕ × Key)) (i : ℕ) (d : ℕ × Key) → ArePages pages → i < length pages → (get_or pages i d).0 < 2 ^ 52
page_within pages i d are within = by_place pages i within are.within
  where
    by_place : (ps : List (ℕ × Key)) (n : ℕ) → n < length ps → list_all (λ page. nat_lt page (2 ^ 52)) (keys_of ps) ≡ true → (get_or ps n d).0 < 2 ^ 52
    by_place [] n below all = absurd (omega arith)
    by_place (p ∷ ps) zero below all = ltb-true p.0 (2 ^ 52) (and_parts (nat_lt p.0 (2 ^ 52)) _ all).0
    by_place (p ∷ ps) (suc n) below all = by_place ps n (omega arith) (and_parts (nat_lt p.0 (2 ^ 52)) _ all).1

same_page : (a b : ℕ) → at a b ≡ true → b ≡ a
same_page a b same = grind (arith, nat_tests)

pub within_inserted : (old new : BTreeMap ℕ (Option Key)) (page : ℕ) (slot : Option Key) → Updates nat_cmp old new page (Some slot) → page < 2 ^ 52
    → ((other : ℕ) → IsSome (get nat_cmp old other) → other < 2 ^ 52) → (other : ℕ) → IsSome (get nat_cmp new other) → other < 2 ^ 52
within_inserted old new page slot updates here before other some = elim (cases_Bool (at page other)) [
  | inl same ↦ let is = same_page page other same in omega (arith, is, here)
  | inr apart ↦ before other (subst (λ (o : Option (Option Key)). IsSome o) (updates.0 other ∙ cond-false (at page other) (Some slot) (get nat_cmp old other) apart) some)
]

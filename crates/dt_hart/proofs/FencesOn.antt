use Rattle.std.proofs.Common.{ℕ, ◌≡◌, ◌+◌, ◌<◌, ◌≤◌, ◌==◌, true, Option, None, Some, option_map, List, [], ◌∷◌, ◌++◌, length, nat_le, refl, sym, ap, ◌∙◌, subst, arith}
use Rattle.std.specs.List.{list_all}
use Rattle.std.specs.Option.{option_to_list}
use Rattle.std.proofs.lemmas.Bool.{and_parts, and_from}
use Rattle.std.proofs.lemmas.Bool.Decides.{nat_tests}
use Rattle.std.proofs.lemmas.List.{append-nil, append_assoc}
use Rattle.std.proofs.lemmas.List.Folds.{list_all-append}
use Rattle.dt_record.specs.declared.keys.Key.{Key}
use Rattle.dt_record.specs.declared.records.Record.{Record}
use Rattle.dt_record.specs.Keys.{key_below, KeyBelow, key_of}
use Rattle.dt_reference.specs.Run.{after_record, start_of, state_from}
use Rattle.dt_step.specs.declared.state.Arch.{Arch}
use Rattle.dt_step.specs.declared.plans.Planned.{Planned}
use Rattle.dt_windows.specs.Fences.{Fence, fence_at}
use Rattle.dt_windows.specs.Kept.{WindowsView, FencesStand}
use Rattle.dt_hart.specs.Fences.{fence_by, fence_in, fences_from, fences_of}
use Rattle.dt_hart.specs.Following.{FollowsFences}
use Rattle.dt_hart.specs.Reserving.{reserved_by, reserved_from, reserved_in}
use Rattle.dt_hart.specs.OwnWrites.{GoesOn, are_of, are_rising}
use Rattle.dt_hart.specs.Settings.{Setting, after, arch_of, key_in}
use Rattle.dt_hart.specs.Standing.{FencesAreEarlier}
use Rattle.dt_hart.proofs.Earlier.{is_its}

-- The reservation and the fences after one more record.

pub reserved_from-snoc : (seq : ℕ) (old : Option (ℕ × Key)) (records : List Record) (r : Record)
    → reserved_from seq old (records ++ r ∷ []) ≡ reserved_by (key_of (seq + length records) r) r.body (reserved_from seq old records)
reserved_from-snoc seq old [] r = ap (λ n. reserved_by (key_of n r) r.body old) (omega arith)
reserved_from-snoc seq old (x ∷ xs) r =
    let later : Option (ℕ × Key) = reserved_by (key_of seq x) x.body old in
    reserved_from-snoc (seq + 1) later xs r ∙ ap (λ n. reserved_by (key_of n r) r.body (reserved_from (seq + 1) later xs)) (omega arith)

pub reserved_after : (s : Setting) (r : Record) → reserved_in (s.before ++ r ∷ []) ≡ reserved_by (key_of (length s.before) r) r.body (reserved_in s.before)
reserved_after s r =
    reserved_from-snoc 0 _ s.before r ∙ ap (λ n. reserved_by (key_of n r) r.body (reserved_in s.before)) (omega arith)

pub fences_from-snoc : (a : Arch) (seq : ℕ) (records : List Record) (r : Record)
    → fences_from a seq (records ++ r ∷ []) ≡ fences_from a seq records ++ option_to_list (fence_by (state_from a records) (seq + length records) r)
fences_from-snoc a seq [] r = append-nil (option_to_list (fence_by a seq r)) ∙ ap (λ n. option_to_list (fence_by a n r)) (omega arith)
fences_from-snoc a seq (x ∷ xs) r =
    let first : List Fence = option_to_list (fence_by a seq x) in
    let last : ℕ → List Fence = λ n. option_to_list (fence_by (state_from (after_record a x) xs) n r) in
    ap (λ (l : List Fence). first ++ l) (fences_from-snoc (after_record a x) (seq + 1) xs r)
    ∙ sym (append_assoc first (fences_from (after_record a x) (seq + 1) xs) (last (seq + 1 + length xs)))
    ∙ ap (λ n. (first ++ fences_from (after_record a x) (seq + 1) xs) ++ last n) (omega arith)

fences_after : (s : Setting) (r : Record) (moment : ℕ) → fences_of (after s r moment) ≡ fences_of s ++ option_to_list (fence_by (arch_of s) (length s.before) r)
fences_after s r moment =
    fences_from-snoc (start_of s.hart s.wide) 0 s.before r ∙ ap (λ n. fences_of s ++ option_to_list (fence_by (arch_of s) n r)) (omega arith)

-- ---- the fences stand before the next record

-- records before another have no later stamps
not_later : (xs : List Record) (r : Record) (more : List Record) → are_rising (xs ++ r ∷ more) ≡ true → list_all (λ q. nat_le q.stamp r.stamp) xs ≡ true
not_later [] r more rising = refl
not_later (x ∷ xs) r more rising =
    let parts = and_parts (list_all (λ q. nat_le x.stamp q.stamp) (xs ++ r ∷ more)) (are_rising (xs ++ r ∷ more)) rising in
    let split = sym (list_all-append (λ q. nat_le x.stamp q.stamp) xs (r ∷ more)) ∙ parts.0 in
    let rest = (and_parts (list_all (λ q. nat_le x.stamp q.stamp) xs) (list_all (λ q. nat_le x.stamp q.stamp) (r ∷ more)) split).1 in
    let here = (and_parts (nat_le x.stamp r.stamp) (list_all (λ q. nat_le x.stamp q.stamp) more) rest).0 in
    and_from (nat_le x.stamp r.stamp) (list_all (λ q. nat_le q.stamp r.stamp) xs) here (not_later xs r more parts.1)

key_is_below : (seq : ℕ) (x r : Record) (next : Key) → nat_le x.stamp next.stamp ≡ true → (x.hart == next.hart) ≡ true → seq < next.seq → KeyBelow (key_of seq x) next
key_is_below seq x r next stamp hart less = grind (arith, nat_tests)

one_below : (plan : Option Planned) (key next : Key) → KeyBelow key next → list_all (λ f. key_below f.key next) (option_to_list (option_map (λ p. fence_at p key) plan)) ≡ true
one_below None key next below = refl
one_below (Some plan) key next below = and_from (key_below key next) true below refl

all_below : (a : Arch) (seq : ℕ) (records : List Record) (next : Key) → list_all (λ q. nat_le q.stamp next.stamp) records ≡ true → are_of next.hart records ≡ true
    → seq + length records ≤ next.seq → list_all (λ f. key_below f.key next) (fences_from a seq records) ≡ true
all_below a seq [] next stamps harts few = refl
all_below a seq (x ∷ xs) next stamps harts few =
    let stamp = and_parts (nat_le x.stamp next.stamp) (list_all (λ q. nat_le q.stamp next.stamp) xs) stamps in
    let hart = and_parts (x.hart == next.hart) (are_of next.hart xs) harts in
    list_all-append (λ f. key_below f.key next) (option_to_list (fence_by a seq x)) (fences_from (after_record a x) (seq + 1) xs)
    ∙ and_from (list_all (λ f. key_below f.key next) (option_to_list (fence_by a seq x))) (list_all (λ f. key_below f.key next) (fences_from (after_record a x) (seq + 1) xs))
    (one_below (fence_in a x.body) (key_of seq x) next (key_is_below seq x x next stamp.0 hart.0 (omega arith)))
    (all_below (after_record a x) (seq + 1) xs next stamp.1 hart.1 (omega arith))

pub fences_earlier : FencesAreEarlier
fences_earlier s r g =
    let split = sym (list_all-append (λ q. q.hart == s.hart) s.before (r ∷ g.more)) ∙ g.its in
    let own = (and_parts (are_of s.hart s.before) (are_of s.hart (r ∷ g.more)) split).0 in
    all_below (start_of s.hart s.wide) 0 s.before (key_in s r) (not_later s.before r g.more g.rising)
    (subst (λ n. are_of n s.before ≡ true) (sym (is_its s r g)) own) (omega arith)

-- what stands for the fences goes on standing for them
pub windows_after : (s : Setting) (r : Record) (moment : ℕ) (a : Arch) (seq : ℕ) (old new : WindowsView) → a ≡ arch_of s → seq ≡ length s.before → GoesOn s r
    → FollowsFences old new a seq r → FencesStand old (fences_of s) → FencesStand new (fences_of (after s r moment))
windows_after s r moment a seq old new arch count g follows keeps =
    let its : FollowsFences old new (arch_of s) (length s.before) r =
    subst (λ (b : Arch). FollowsFences old new b (length s.before) r) arch (subst (λ n. FollowsFences old new a n r) count follows) in
    subst (λ (l : List Fence). FencesStand new l) (sym (fences_after s r moment)) (its (fences_of s) (fences_earlier s r g) keeps)

-- Beginnings of a history, and the notes of one pass in it.
use Rattle.std.proofs.Common.{◌≡◌, ◌≢◌, ℕ, ◌==◌, cond, List, [], ◌∷◌, ◌++◌, map, filter, length, sym, refl, ap, ◌∙◌, subst, append_assoc, eq-eqb, ne_eqb, arith}
use Rattle.std.proofs.lemmas.List.{map-append, append-nil}
use Rattle.std.proofs.lemmas.List.Elements.{filter-append}
use mathlib.Core.List.{IsPrefix}
use Rattle.dt_record.specs.declared.writes.Note.{Note}
use Rattle.dt_shared.specs.declared.entries.Entry.{Entry}
use Rattle.dt_shared.specs.Records.{Extends}
use Rattle.dt_shared.specs.Entries.{notes_in, notes_of, entries_of}

pub prefix_itself : {A : Type 0} (xs : List A) → IsPrefix xs xs
prefix_itself xs = ([], append-nil xs)

pub prefix_none : {A : Type 0} (xs ys : List A) → xs ≡ [] → IsPrefix xs ys
prefix_none xs ys none-there = (ys, ap (λ l. l ++ ys) none-there)

pub prefix_longer : {A : Type 0} (xs ys zs : List A) → IsPrefix xs ys → IsPrefix xs (ys ++ zs)
prefix_longer xs ys zs p = (p.0 ++ zs, sym (append_assoc xs p.0 zs) ∙ ap (λ l. l ++ zs) p.1)

pub prefix_trans : {A : Type 0} (xs ys zs : List A) → IsPrefix xs ys → IsPrefix ys zs → IsPrefix xs zs
prefix_trans xs ys zs p q = subst (IsPrefix xs) q.1 (prefix_longer xs ys q.0 p)

pub prefix_map : {A B : Type 0} (f : A → B) (xs ys : List A) → IsPrefix xs ys → IsPrefix (map f xs) (map f ys)
prefix_map f xs ys p = (map f p.0, sym (map-append f xs p.0) ∙ ap (map f) p.1)

pub notes_of-append : (n : ℕ) (xs ys : List Entry) → notes_of n (xs ++ ys) ≡ notes_of n xs ++ notes_of n ys
notes_of-append n xs ys = ap notes_in (filter-append (λ e. e.pass == n) xs ys) ∙ map-append (λ (e : Entry). e.note) (filter (λ e. e.pass == n) xs) (filter (λ e. e.pass == n) ys)

pub notes_in-entries_of : (n : ℕ) (notes : List Note) → notes_in (entries_of n notes) ≡ notes
notes_in-entries_of n [] = refl
notes_in-entries_of n (x ∷ xs) = ap (λ l. x ∷ l) (notes_in-entries_of n xs)

-- what a pass adds is all its own
pub notes_of-entries_of : (n : ℕ) (notes : List Note) → notes_of n (entries_of n notes) ≡ notes
notes_of-entries_of n [] = refl
notes_of-entries_of n (x ∷ xs) =
    let rest : List Entry = filter (λ e. e.pass == n) (entries_of n xs) in let e : Entry = record { pass = n; note = x } in
    ap (λ b. notes_in (cond b (e ∷ rest) rest)) (eq-eqb n n refl) ∙ ap (λ l. x ∷ l) (notes_of-entries_of n xs)

-- and nothing of it another pass's
pub notes_of-others : (m n : ℕ) (notes : List Note) → m ≢ n → notes_of m (entries_of n notes) ≡ []
notes_of-others m n [] ne = refl
notes_of-others m n (x ∷ xs) ne =
    let rest : List Entry = filter (λ e. e.pass == m) (entries_of n xs) in let e : Entry = record { pass = n; note = x } in
    ap (λ b. notes_in (cond b (e ∷ rest) rest)) (ne_eqb n m (λ h. ne (sym h))) ∙ notes_of-others m n xs ne

pub length-entries_of : (n : ℕ) (notes : List Note) → length (entries_of n notes) ≡ length notes
length-entries_of n [] = refl
length-entries_of n (x ∷ xs) = let h = length-entries_of n xs in omega arith

-- a copy of what was seen stays a beginning of it, once more was seen
pub copy_begins : (copy : List Note) (earlier later last : List Entry) → IsPrefix copy (notes_in earlier) → Extends earlier later last → IsPrefix copy (notes_in later)
copy_begins copy earlier later last begins more =
    let longer : IsPrefix earlier later = subst (IsPrefix earlier) (sym more.1) (prefix_longer earlier (earlier ++ more.0) last (prefix_longer earlier earlier more.0 (prefix_itself earlier))) in
    prefix_trans copy (notes_in earlier) (notes_in later) begins (prefix_map (λ (e : Entry). e.note) earlier later longer)

-- after a look, the copy is all that was seen
pub copy_whole : (copy : List Note) (seen : List Entry) → copy ≡ notes_in seen → IsPrefix copy (notes_in seen)
copy_whole copy seen same = subst (IsPrefix copy) same (prefix_itself copy)

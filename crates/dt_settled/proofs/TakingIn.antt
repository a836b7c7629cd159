use Rattle.std.proofs.Common.{◌≡◌, ℕ, suc, ◌+◌, ◌-◌, ◌<◌, ◌≤◌, get_or, length-drop, ◌||◌, Bool, true, false, Option, Some, None, List, [], ◌∷◌, ◌++◌, length, take, drop, refl, sym, ap, ◌∙◌, zero-add, arith}
use Rattle.std.specs.List.{list_all, cons_option}
use Rattle.std.proofs.lemmas.Bool.{and_parts, and_from, cond-true}
use Rattle.std.proofs.lemmas.List.{append_assoc, append-nil, take_more, take_all, take-append-drop}
use Rattle.std.proofs.lemmas.List.Elements.{filter_map-append}
use Rattle.std.proofs.Math.Seq.{take-append_seam}
use Rattle.dt_record.specs.declared.writes.Write.{Write}
use Rattle.dt_record.specs.declared.writes.Note.{Note}
use Rattle.dt_record.specs.Keys.{key_below}
use Rattle.dt_record.specs.Writes.{insert_write, by_key}
use Rattle.dt_writes.specs.Apart.{keys_differ, are_apart}
use Rattle.dt_core.specs.Notes.{write_in, announced}
use Rattle.dt_settled.specs.Settling.{AreTold}
use Rattle.dt_settled.specs.Waiting.{waiting_with, waiting_after}
use Rattle.dt_settled.proofs.Orders.{list_all-parts}
use Rattle.dt_settled.proofs.Insertion.{list_all-by_key, by_key-middle, by_key-insert, by_key-behind}

-- What notes announce comes to the waiting writes.

either-way : (a b : Bool) → (a || b) ≡ (b || a)
either-way true true = refl
either-way true false = refl
either-way false true = refl
either-way false false = refl

-- where no two writes have one key, none has the key of one before it
apart-before : (xs : List Write) (w : Write) (ys : List Write) → are_apart (xs ++ w ∷ ys) ≡ true → list_all (λ v. keys_differ w.key v.key) xs ≡ true
apart-before [] w ys apart = refl
apart-before (x ∷ xs) w ys apart =
    let differs : Write → Bool = λ v. keys_differ x.key v.key in
    let parts = and_parts (list_all differs (xs ++ w ∷ ys)) (are_apart (xs ++ w ∷ ys)) apart in
    let here = and_parts (keys_differ x.key w.key) (list_all differs ys) (list_all-parts differs xs (w ∷ ys) parts.0).1 in
    and_from (keys_differ w.key x.key) (list_all (λ v. keys_differ w.key v.key) xs)
    (either-way (key_below w.key x.key) (key_below x.key w.key) ∙ here.0) (apart-before xs w ys parts.1)

takes : (settled mid first rest : List Write) (o : Option Write) → are_apart (first ++ cons_option o rest) ≡ true
    → by_key (settled ++ mid) ≡ by_key first → by_key (settled ++ waiting_with o mid) ≡ by_key (first ++ cons_option o [])
takes settled mid first rest None apart told = told ∙ ap by_key (sym (append-nil first))
takes settled mid first rest (Some w) apart told =
    let differs : Write → Bool = λ v. keys_differ w.key v.key in
    let before = apart-before first w rest apart in
    let both = list_all-parts differs settled mid (sym (list_all-by_key differs (settled ++ mid)) ∙ ap (list_all differs) told ∙ list_all-by_key differs first ∙ before) in
    ap (λ (ws : List Write). by_key (settled ++ ws)) (cond-true (list_all differs mid) (insert_write w mid) mid both.1)
    ∙ by_key-behind settled (insert_write w mid) (w ∷ mid) (by_key-insert w mid both.1)
    ∙ by_key-middle w settled mid both.0 ∙ ap (insert_write w) (told ∙ ap by_key (sym (append-nil first)))
    ∙ sym (by_key-middle w first [] before)

-- notes that come behind others
takes-all : (settled waiting : List Write) (before more after : List Note) → are_apart (announced (before ++ (more ++ after))) ≡ true
    → AreTold settled waiting before → AreTold settled (waiting_after waiting more) (before ++ more)
takes-all settled waiting before [] after apart told = told ∙ ap (λ (ns : List Note). by_key (announced ns)) (sym (append-nil before))
takes-all settled waiting before (n ∷ ns) after apart told =
    let split : announced (before ++ (n ∷ (ns ++ after))) ≡ announced before ++ cons_option (write_in n) (announced (ns ++ after)) =
    filter_map-append write_in before (n ∷ (ns ++ after)) in
    let pushed : announced (before ++ n ∷ []) ≡ announced before ++ cons_option (write_in n) [] = filter_map-append write_in before (n ∷ []) in
    let next : AreTold settled (waiting_with (write_in n) waiting) (before ++ n ∷ []) =
    takes settled waiting (announced before) (announced (ns ++ after)) (write_in n) (ap are_apart (sym split) ∙ apart) told ∙ ap by_key (sym pushed) in
    let whole : (before ++ n ∷ []) ++ (ns ++ after) ≡ before ++ (n ∷ (ns ++ after)) = append_assoc before (n ∷ []) (ns ++ after) in
    takes-all settled (waiting_with (write_in n) waiting) (before ++ n ∷ []) ns after (ap (λ (xs : List Note). are_apart (announced xs)) whole ∙ apart) next
    ∙ ap (λ (xs : List Note). by_key (announced xs)) (append_assoc before (n ∷ []) ns)

take-behind : (xs ys : List Note) (k : ℕ) → take (length xs + k) (xs ++ ys) ≡ xs ++ take k ys
take-behind [] ys k = ap (λ (n : ℕ). take n ys) (zero-add k)
take-behind (x ∷ xs) ys k =
    let long : length (x ∷ xs) + k ≡ suc (length xs + k) = omega arith in
    ap (λ (n : ℕ). take n (x ∷ (xs ++ ys))) long ∙ ap (λ ns. x ∷ ns) (take-behind xs ys k)

-- where no two announced writes have one key, waiting writes take in what the notes from one place to another announce
abbrev pub TakesIn : List Note → ℕ → ℕ → List Write → List Write → Type 0
TakesIn notes from to old new = are_apart (announced notes) ≡ true → (settled : List Write)
    → AreTold settled old (take from notes) → AreTold settled new (take to notes)

pub TakesIn-more : (before more : List Note) (k : ℕ) (old : List Write) → TakesIn (before ++ more) (length before) (length before + k) old (waiting_after old (take k more))
TakesIn-more before more k old apart settled told =
    let whole : before ++ (take k more ++ drop k more) ≡ before ++ more = ap (λ (ns : List Note). before ++ ns) (take-append-drop k more) in
    takes-all settled old before (take k more) (drop k more) (ap (λ (ns : List Note). are_apart (announced ns)) whole ∙ apart)
    (told ∙ ap (λ (ns : List Note). by_key (announced ns)) (take-append_seam before more))
    ∙ ap (λ (ns : List Note). by_key (announced ns)) (sym (take-behind before more k))

-- one note more
pub after-next : (waiting : List Write) (notes : List Note) (n : Note) → waiting_after waiting (notes ++ n ∷ []) ≡ waiting_with (write_in n) (waiting_after waiting notes)
after-next waiting [] n = refl
after-next waiting (m ∷ ms) n = after-next (waiting_with (write_in m) waiting) ms n

pub taken-next : (old mid new : List Write) (notes : List Note) (i : ℕ) (d : Note) → i < length notes → mid ≡ waiting_after old (take i notes)
    → new ≡ waiting_with (write_in (get_or notes i d)) mid → new ≡ waiting_after old (take (i + 1) notes)
taken-next old mid new notes i d within before held =
    held ∙ ap (waiting_with (write_in (get_or notes i d))) before ∙ sym (ap (waiting_after old) (take_more notes i d within) ∙ after-next old (take i notes) (get_or notes i d))

-- the notes behind the first ones
pub rest-behind : (notes : List Note) (n : ℕ) → n ≤ length notes → take n notes ++ take (length notes - n) (drop n notes) ≡ notes
rest-behind notes n within =
    ap (λ (ns : List Note). take n notes ++ ns) (take_all (length notes - n) (drop n notes) (omega (arith, length-drop n notes))) ∙ take-append-drop n notes

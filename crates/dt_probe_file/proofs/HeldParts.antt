-- Bytes that are held in a part of a longer list.
use Rattle.std.specs.Prelude.{◌==◌}
use Rattle.std.proofs.Common.{◌≡◌, ℕ, zero, suc, Bool, true, false, not, ◌+◌, ◌-◌, ◌<◌, ◌≤◌, List, [], ◌++◌, length, take, drop, Option, Some, None, option_map, IfSome, Result, Ok, Err, OnErr, refl, sym, ap, ◌∙◌, subst, append_assoc, arith}
use Rattle.std.proofs.lemmas.List.{drop-take, length-take, drop-drop, append-nil}
use Rattle.std.proofs.lemmas.Bool.{eqb-true}
use Rattle.std.proofs.Math.Seq.{take-add}
use Rattle.dt_source.specs.declared.traits.Failed.{Failed}
use Rattle.dt_source.specs.Known.{TakesFrom}
use Rattle.dt_probe_file.specs.Parts.{ReadsOn, part, whole}

pub taken_away : (bytes : List ℕ) (start end count : ℕ) (held : List ℕ) → part start end bytes ≡ held → count ≤ length held → part (start + count) end bytes ≡ drop count held
taken_away bytes start end count held is within =
    let long : count ≤ end - start = omega (arith, ap length is, length-take (end - start) (drop start bytes)) in
    let split : end - start ≡ count + (end - (start + count)) = omega arith in
    let behind : drop count held ≡ take (end - (start + count)) (drop count (drop start bytes)) =
    ap (drop count) (sym is) ∙ ap (λ (n : ℕ). drop count (take n (drop start bytes))) split ∙ drop-take count (end - (start + count)) (drop start bytes) in
    ap (take (end - (start + count))) (sym (drop-drop count start bytes)) ∙ sym behind

-- a part is of the bytes before its end
of_front : (bytes : List ℕ) (start end : ℕ) → start ≤ end → part start end bytes ≡ drop start (take end bytes)
of_front bytes start end order =
    let split : start + (end - start) ≡ end = omega arith in
    sym (ap (λ (n : ℕ). drop start (take n bytes)) (sym split) ∙ drop-take start (end - start) bytes)

pub part_stays : (bytes new : List ℕ) (start end : ℕ) → start ≤ end → take end new ≡ take end bytes → part start end new ≡ part start end bytes
part_stays bytes new start end order same = of_front new start end order ∙ ap (drop start) same ∙ sym (of_front bytes start end order)

pub part_grows : (bytes new : List ℕ) (start end count : ℕ) → start ≤ end → take end new ≡ take end bytes → part start (end + count) new ≡ part start end bytes ++ take count (drop end new)
part_grows bytes new start end count order same =
    let split : end + count - start ≡ (end - start) + count = omega arith in
    let place : start + (end - start) ≡ end = omega arith in
    ap (λ (n : ℕ). take n (drop start new)) split ∙ take-add (end - start) count (drop start new)
    ∙ ap (λ (z : List ℕ). z ++ take count (drop (end - start) (drop start new))) (part_stays bytes new start end order same)
    ∙ ap (λ (z : List ℕ). part start end bytes ++ take count z) (drop-drop (end - start) start new ∙ ap (λ (n : ℕ). drop n new) place)

pub whole_grows : (old new : Option (List ℕ)) (held grown taken : List ℕ) → grown ≡ held ++ taken → TakesFrom old taken new → whole grown new ≡ whole held old
whole_grows old None held grown taken is from = ap (whole held) (sym from)
whole_grows old (Some rest) held grown taken is from =
    ap (λ (z : List ℕ). Some (z ++ rest)) is ∙ ap Some (append_assoc held taken rest) ∙ ap (whole held) (sym from)

-- what holds of the held bytes at the end of the source holds of all
pub at_end : (P : List ℕ → Type 0) (held new : List ℕ) (left : Option (List ℕ)) → P held → new ≡ held → IfSome left (λ rest. rest ≡ []) → IfSome left (λ rest. P (new ++ rest))
at_end P held new None is same end = tt
at_end P held new (Some rest) is same end = subst P (sym (append-nil held) ∙ ap (λ (z : List ℕ). held ++ z) (sym end) ∙ ap (λ (z : List ℕ). z ++ rest) (sym same)) is

pub for_good : (P : List ℕ → Type 0) (held : List ℕ) (left : Option (List ℕ)) → ((more : List ℕ) → P (held ++ more)) → IfSome left (λ rest. P (held ++ rest))
for_good P held None is = tt
for_good P held (Some rest) is = is rest

pub some_more : (n : ℕ) → not (n == 0) ≡ true → 0 < n
some_more zero e = absurd cc
some_more (suc n) e = omega arith

not_back : (t : Bool) → not t ≡ false → t ≡ true
not_back true e = refl
not_back false e = absurd cc

pub no_more : (n : ℕ) → not (n == 0) ≡ false → n ≡ 0
no_more n e = eqb-true n 0 (not_back (n == 0) e)

pub part_same : (start end count : ℕ) (bytes : List ℕ) → count ≡ 0 → part start (end + count) bytes ≡ part start end bytes
part_same start end count bytes none = ap (λ (n : ℕ). part start n bytes) (let e : end + count ≡ end = omega arith in e)

-- Reads one after another.

pub reads_stay : (held grown : List ℕ) (before after : Option (List ℕ)) → grown ≡ held → after ≡ before → ReadsOn held before grown after
reads_stay held grown before None same left = ([], same ∙ sym (append-nil held), sym left)
reads_stay held grown before (Some rest) same left = ([], same ∙ sym (append-nil held), sym left)

pub stay_on_err : (r : Result Bool Failed) (held grown : List ℕ) (before after : Option (List ℕ)) → grown ≡ held → after ≡ before → OnErr r ((grown ≡ held) × (after ≡ before))
stay_on_err (Ok more) held grown before after same left = tt
stay_on_err (Err e) held grown before after same left = (same, left)

pub taken_twice : (before between after : Option (List ℕ)) (xs ys : List ℕ) → TakesFrom before xs between → TakesFrom between ys after → TakesFrom before (xs ++ ys) after
taken_twice before between None xs ys first second = first ∙ ap (option_map (λ rest. xs ++ rest)) second
taken_twice before between (Some rest) xs ys first second =
    first ∙ ap (option_map (λ rest. xs ++ rest)) second ∙ ap Some (sym (append_assoc xs ys rest))

pub reads_twice : (held middle grown : List ℕ) (before between after : Option (List ℕ)) → ReadsOn held before middle between → ReadsOn middle between grown after → ReadsOn held before grown after
reads_twice held middle grown before between after first second = (
  first.0 ++ second.0,
  second.1 ∙ ap (λ (z : List ℕ). z ++ second.0) first.1 ∙ append_assoc held first.0 second.0,
  taken_twice before between after first.0 second.0 first.2 second.2,
)

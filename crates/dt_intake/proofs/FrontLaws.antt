use Rattle.std.proofs.Common.{ℕ, ◌≡◌, ◌+◌, ◌-◌, ◌<◌, ◌≤◌, ◌==◌, ◌&&◌, true, false, suc, Some, None, List, [], ◌∷◌, ◌++◌, length, nat_lt, nat_le, refl, sym, ap, ◌∙◌, subst, inl, inr, arith, eq-eqb, eqb-true}
use Rattle.std.specs.Prelude.{All}
use Rattle.std.specs.List.{slice_get, list_all}
use Rattle.std.proofs.lemmas.Bool.{and_parts, and_from, both_ways, cases_Bool, cases_lt, cond-true, cond-false, ltb-true, lt-ltb, leb-true, le-leb}
use Rattle.std.proofs.lemmas.List.{append-nil, append_cancel_left, length-append, length_push, nil_from_length}
use Rattle.std.proofs.lemmas.List.Elements.{All-nil, All-cons}
use mathlib.Core.List.{IsPrefix}
use Rattle.dt_lists.proofs.Lists.{not_last}
use Rattle.dt_record.specs.declared.limits.TheConstants.{RECORD_LIMIT}
use Rattle.dt_record.specs.declared.records.Record.{Record}
use Rattle.dt_record.specs.Lawful.{is_lawful, IsLawful}
use Rattle.dt_intake.specs.Fronts.{stamp_after, MayBeNext, may_be_next, AreUsable, front_after, usable_front}
use Rattle.dt_intake.specs.Laws.{UsableFrontIsLongest}
use Rattle.dt_intake.proofs.Splits.{prefix-length, last-split, last-none}

-- The usable front of records.

pub last_stamp-push : (stamp : ℕ) (rs : List Record) (r : Record) → stamp_after stamp (rs ++ r ∷ []) ≡ r.stamp
last_stamp-push stamp [] r = refl
last_stamp-push stamp (q ∷ qs) r = last_stamp-push q.stamp qs r

pub last_stamp-some : (stamp : ℕ) (rs : List Record) (r : Record) → slice_get rs (length rs - 1) ≡ Some r → stamp_after stamp rs ≡ r.stamp
last_stamp-some stamp rs r found =
    let parts = last-split rs r found in
    ap (stamp_after stamp) parts.split ∙ last_stamp-push stamp parts.first r

pub last_stamp-none : (stamp : ℕ) (rs : List Record) → slice_get rs (length rs - 1) ≡ None → stamp_after stamp rs ≡ stamp
last_stamp-none stamp rs none = ap (stamp_after stamp) (last-none rs none)

-- the test says what it is to say

pub MayBeNext-test : (hart seq stamp : ℕ) (r : Record) → may_be_next hart seq stamp r ≡ true → MayBeNext hart seq stamp r
MayBeNext-test hart seq stamp r passes =
    let first = and_parts (nat_lt seq RECORD_LIMIT) (is_lawful r && ((r.hart == hart) && nat_le stamp r.stamp)) passes in
    let second = and_parts (is_lawful r) ((r.hart == hart) && nat_le stamp r.stamp) first.1 in
    let third = and_parts (r.hart == hart) (nat_le stamp r.stamp) second.1 in record {
      number = ltb-true seq RECORD_LIMIT first.0;
      lawful = second.0;
      its = eqb-true r.hart hart third.0;
      in_time = leb-true stamp r.stamp third.1;
    }

pub may_be_next-true : (hart seq stamp : ℕ) (r : Record) → MayBeNext hart seq stamp r → may_be_next hart seq stamp r ≡ true
may_be_next-true hart seq stamp r next =
    and_from (nat_lt seq RECORD_LIMIT) (is_lawful r && ((r.hart == hart) && nat_le stamp r.stamp)) (lt-ltb seq RECORD_LIMIT next.number)
    (and_from (is_lawful r) ((r.hart == hart) && nat_le stamp r.stamp) next.lawful
    (and_from (r.hart == hart) (nat_le stamp r.stamp) (eq-eqb r.hart hart next.its) (le-leb stamp r.stamp next.in_time)))

-- one record

pub front_after-pass : (hart seq stamp : ℕ) (r : Record) (rs : List Record) → may_be_next hart seq stamp r ≡ true
    → front_after hart seq stamp (r ∷ rs) ≡ r ∷ front_after hart (seq + 1) r.stamp rs
front_after-pass hart seq stamp r rs passes = cond-true (may_be_next hart seq stamp r) (r ∷ front_after hart (seq + 1) r.stamp rs) [] passes

pub front_after-stop : (hart seq stamp : ℕ) (r : Record) (rs : List Record) → may_be_next hart seq stamp r ≡ false
    → front_after hart seq stamp (r ∷ rs) ≡ []
front_after-stop hart seq stamp r rs stops = cond-false (may_be_next hart seq stamp r) (r ∷ front_after hart (seq + 1) r.stamp rs) [] stops

-- all of them

pub front_after-first : (hart seq stamp : ℕ) (rs : List Record) → IsPrefix (front_after hart seq stamp rs) rs
front_after-first hart seq stamp [] = let none : List Record = [] in (none, refl)
front_after-first hart seq stamp (r ∷ rs) = elim (cases_Bool (may_be_next hart seq stamp r)) [
  | inl passes ↦
      let rest = front_after-first hart (seq + 1) r.stamp rs in
      (rest.0, ap (λ (l : List Record). l ++ rest.0) (front_after-pass hart seq stamp r rs passes) ∙ ap (λ (l : List Record). r ∷ l) rest.1)
  | inr stops ↦ (r ∷ rs, ap (λ (l : List Record). l ++ r ∷ rs) (front_after-stop hart seq stamp r rs stops))
]

pub length-front_after : (hart seq stamp : ℕ) (rs : List Record) → length (front_after hart seq stamp rs) ≤ RECORD_LIMIT - seq
length-front_after hart seq stamp [] = omega arith
length-front_after hart seq stamp (r ∷ rs) = elim (cases_Bool (may_be_next hart seq stamp r)) [
  | inl passes ↦
      let next = MayBeNext-test hart seq stamp r passes in
      let few : seq < RECORD_LIMIT = next.number in
      let rest = length-front_after hart (seq + 1) r.stamp rs in
      let more = ap length (front_after-pass hart seq stamp r rs passes) in
      omega arith
  | inr stops ↦ let none = ap length (front_after-stop hart seq stamp r rs stops) in omega arith
]

pub lawful-front_after : (hart seq stamp : ℕ) (rs : List Record) → All (λ r. IsLawful r) (front_after hart seq stamp rs)
lawful-front_after hart seq stamp [] = All-nil (λ (r : Record). IsLawful r)
lawful-front_after hart seq stamp (r ∷ rs) = elim (cases_Bool (may_be_next hart seq stamp r)) [
  | inl passes ↦
      let next = MayBeNext-test hart seq stamp r passes in
      subst (λ (l : List Record). All (λ q. IsLawful q) l) (sym (front_after-pass hart seq stamp r rs passes))
      (All-cons (λ (q : Record). IsLawful q) r (front_after hart (seq + 1) r.stamp rs) next.lawful (lawful-front_after hart (seq + 1) r.stamp rs))
  | inr stops ↦
      subst (λ (l : List Record). All (λ q. IsLawful q) l) (sym (front_after-stop hart seq stamp r rs stops)) (All-nil (λ (q : Record). IsLawful q))
]

pub own-front_after : (hart seq stamp : ℕ) (rs : List Record) → list_all (λ (r : Record). r.hart == hart) (front_after hart seq stamp rs) ≡ true
own-front_after hart seq stamp [] = refl
own-front_after hart seq stamp (r ∷ rs) = elim (cases_Bool (may_be_next hart seq stamp r)) [
  | inl passes ↦
      let next = MayBeNext-test hart seq stamp r passes in
      ap (list_all (λ (q : Record). q.hart == hart)) (front_after-pass hart seq stamp r rs passes)
      ∙ and_from (r.hart == hart) (list_all (λ (q : Record). q.hart == hart) (front_after hart (seq + 1) r.stamp rs))
      (eq-eqb r.hart hart next.its) (own-front_after hart (seq + 1) r.stamp rs)
  | inr stops ↦ ap (list_all (λ (q : Record). q.hart == hart)) (front_after-stop hart seq stamp r rs stops)
]

pub late-front_after : (low hart seq stamp : ℕ) (rs : List Record) → low ≤ stamp
    → list_all (λ (r : Record). nat_le low r.stamp) (front_after hart seq stamp rs) ≡ true
late-front_after low hart seq stamp [] under = refl
late-front_after low hart seq stamp (r ∷ rs) under = elim (cases_Bool (may_be_next hart seq stamp r)) [
  | inl passes ↦
      let next = MayBeNext-test hart seq stamp r passes in
      let above : low ≤ r.stamp = let in_time = next.in_time in omega arith in
      ap (list_all (λ (q : Record). nat_le low q.stamp)) (front_after-pass hart seq stamp r rs passes)
      ∙ and_from (nat_le low r.stamp) (list_all (λ (q : Record). nat_le low q.stamp) (front_after hart (seq + 1) r.stamp rs))
      (le-leb low r.stamp above) (late-front_after low hart (seq + 1) r.stamp rs above)
  | inr stops ↦ ap (list_all (λ (q : Record). nat_le low q.stamp)) (front_after-stop hart seq stamp r rs stops)
]

-- more records behind

pub front_after-grows : (hart seq stamp : ℕ) (xs ys : List Record) → IsPrefix (front_after hart seq stamp xs) (front_after hart seq stamp (xs ++ ys))
front_after-grows hart seq stamp [] ys = (front_after hart seq stamp ys, refl)
front_after-grows hart seq stamp (x ∷ xs) ys = elim (cases_Bool (may_be_next hart seq stamp x)) [
  | inl passes ↦
      let rest = front_after-grows hart (seq + 1) x.stamp xs ys in (
        rest.0,
        ap (λ (l : List Record). l ++ rest.0) (front_after-pass hart seq stamp x xs passes) ∙ ap (λ (l : List Record). x ∷ l) rest.1
            ∙ sym (front_after-pass hart seq stamp x (xs ++ ys) passes),
      )
  | inr stops ↦
      let none : List Record = [] in
      (none, append-nil _ ∙ front_after-stop hart seq stamp x xs stops ∙ sym (front_after-stop hart seq stamp x (xs ++ ys) stops))
]

pub front_after-append : (hart seq stamp : ℕ) (xs ys : List Record) → front_after hart seq stamp xs ≡ xs
    → front_after hart seq stamp (xs ++ ys) ≡ xs ++ front_after hart (seq + length xs) (stamp_after stamp xs) ys
front_after-append hart seq stamp [] ys whole = ap (λ (n : ℕ). front_after hart n stamp ys) (let plain : seq ≡ seq + 0 = omega arith in plain)
front_after-append hart seq stamp (x ∷ xs) ys whole = elim (cases_Bool (may_be_next hart seq stamp x)) [
  | inl passes ↦
      let is : x ∷ front_after hart (seq + 1) x.stamp xs ≡ x ∷ xs = sym (front_after-pass hart seq stamp x xs passes) ∙ whole in
      let rest : front_after hart (seq + 1) x.stamp xs ≡ xs = cc in
      let count : seq + 1 + length xs ≡ seq + suc (length xs) = omega arith in
      front_after-pass hart seq stamp x (xs ++ ys) passes
      ∙ ap (λ (l : List Record). x ∷ l) (front_after-append hart (seq + 1) x.stamp xs ys rest
      ∙ ap (λ (n : ℕ). xs ++ front_after hart n (stamp_after x.stamp xs) ys) count)
  | inr stops ↦
      let bad : [] ≡ x ∷ xs = sym (front_after-stop hart seq stamp x xs stops) ∙ whole in
      absurd (let never : ⊥ = cc in never)
]

pub front_after-short : (hart seq stamp : ℕ) (xs ys : List Record) → length (front_after hart seq stamp xs) < length xs
    → front_after hart seq stamp (xs ++ ys) ≡ front_after hart seq stamp xs
front_after-short hart seq stamp [] ys short = absurd (omega arith)
front_after-short hart seq stamp (x ∷ xs) ys short = elim (cases_Bool (may_be_next hart seq stamp x)) [
  | inl passes ↦
      let more = ap length (front_after-pass hart seq stamp x xs passes) in
      front_after-pass hart seq stamp x (xs ++ ys) passes
      ∙ ap (λ (l : List Record). x ∷ l) (front_after-short hart (seq + 1) x.stamp xs ys (omega arith))
      ∙ sym (front_after-pass hart seq stamp x xs passes)
  | inr stops ↦ front_after-stop hart seq stamp x (xs ++ ys) stops ∙ sym (front_after-stop hart seq stamp x xs stops)
]

-- a front of as many records is all of them
pub front_after-whole : (hart seq stamp : ℕ) (rs : List Record) → length (front_after hart seq stamp rs) ≡ length rs → front_after hart seq stamp rs ≡ rs
front_after-whole hart seq stamp rs all =
    let front = front_after hart seq stamp rs in
    let first = front_after-first hart seq stamp rs in
    let count : length (front ++ first.0) ≡ length rs = ap length first.1 in
    let none : first.0 ≡ [] = nil_from_length first.0 (omega (arith, length-append front first.0)) in
    sym (append-nil front) ∙ ap (λ (l : List Record). front ++ l) (sym none) ∙ first.1

-- the first of records that are usable are
pub front_after-begins : (hart seq stamp : ℕ) (xs ys : List Record) → front_after hart seq stamp (xs ++ ys) ≡ xs ++ ys → front_after hart seq stamp xs ≡ xs
front_after-begins hart seq stamp [] ys whole = refl
front_after-begins hart seq stamp (x ∷ xs) ys whole = elim (cases_Bool (may_be_next hart seq stamp x)) [
  | inl passes ↦
      let is : x ∷ front_after hart (seq + 1) x.stamp (xs ++ ys) ≡ x ∷ (xs ++ ys) = sym (front_after-pass hart seq stamp x (xs ++ ys) passes) ∙ whole in
      let rest : front_after hart (seq + 1) x.stamp (xs ++ ys) ≡ xs ++ ys = cc in
      front_after-pass hart seq stamp x xs passes ∙ ap (λ (l : List Record). x ∷ l) (front_after-begins hart (seq + 1) x.stamp xs ys rest)
  | inr stops ↦
      let bad : [] ≡ x ∷ (xs ++ ys) = sym (front_after-stop hart seq stamp x (xs ++ ys) stops) ∙ whole in
      absurd (let never : ⊥ = cc in never)
]

-- and those behind them may come next after them
pub front_after-behind : (hart seq stamp : ℕ) (xs ys : List Record) → front_after hart seq stamp (xs ++ ys) ≡ xs ++ ys
    → front_after hart (seq + length xs) (stamp_after stamp xs) ys ≡ ys
front_after-behind hart seq stamp xs ys whole =
    append_cancel_left xs (front_after hart (seq + length xs) (stamp_after stamp xs) ys) ys
    (sym (front_after-append hart seq stamp xs ys (front_after-begins hart seq stamp xs ys whole)) ∙ whole)

-- one more record

pub usable_len-more : (hart : ℕ) (taken : List Record) (r : Record) (n : ℕ) → n ≡ length (usable_front hart taken)
    → ((n == length taken) && may_be_next hart n (stamp_after 0 taken) r) ≡ true → n + 1 ≡ length (usable_front hart (taken ++ r ∷ []))
usable_len-more hart taken r n is goes =
    let parts = and_parts (n == length taken) (may_be_next hart n (stamp_after 0 taken) r) goes in
    let all : n ≡ length taken = eqb-true n (length taken) parts.0 in
    let count : n ≡ 0 + length taken = omega arith in
    let passes : may_be_next hart (0 + length taken) (stamp_after 0 taken) r ≡ true = ap (λ (k : ℕ). may_be_next hart k (stamp_after 0 taken) r) (sym count) ∙ parts.1 in
    let grown = front_after-append hart 0 0 taken (r ∷ []) (front_after-whole hart 0 0 taken (sym is ∙ all))
    ∙ ap (λ (l : List Record). taken ++ l) (front_after-pass hart (0 + length taken) (stamp_after 0 taken) r [] passes) in
    let long : length (usable_front hart (taken ++ r ∷ [])) ≡ length (taken ++ r ∷ []) = ap length grown in
    omega (arith, length_push taken r)

pub usable_len-same : (hart : ℕ) (taken : List Record) (r : Record) (n : ℕ) → n ≡ length (usable_front hart taken)
    → ((n == length taken) && may_be_next hart n (stamp_after 0 taken) r) ≡ false → n ≡ length (usable_front hart (taken ++ r ∷ []))
usable_len-same hart taken r n is stays = elim (cases_lt n (length taken)) [
  | inl short ↦ is ∙ ap length (sym (front_after-short hart 0 0 taken (r ∷ []) (omega arith)))
  | inr full ↦
      let few = prefix-length (usable_front hart taken) taken (front_after-first hart 0 0 taken) in
      let all : n ≡ length taken = omega arith in
      let count : n ≡ 0 + length taken = omega arith in
      let stops : may_be_next hart (0 + length taken) (stamp_after 0 taken) r ≡ false = elim (cases_Bool (may_be_next hart n (stamp_after 0 taken) r)) [
        | inl passes ↦
            let goes = and_from (n == length taken) (may_be_next hart n (stamp_after 0 taken) r) (eq-eqb n (length taken) all) passes in
            absurd (both_ways ((n == length taken) && may_be_next hart n (stamp_after 0 taken) r) stays goes)
        | inr fails ↦ ap (λ (k : ℕ). may_be_next hart k (stamp_after 0 taken) r) (sym count) ∙ fails
      ] in
      let same = front_after-append hart 0 0 taken (r ∷ []) (front_after-whole hart 0 0 taken (sym is ∙ all))
      ∙ ap (λ (l : List Record). taken ++ l) (front_after-stop hart (0 + length taken) (stamp_after 0 taken) r [] stops) ∙ append-nil taken in
      all ∙ sym (ap length same)
]

-- the longest front

next-at : (hart seq stamp : ℕ) (rs before after : List Record) (r : Record) → front_after hart seq stamp rs ≡ before ++ r ∷ after
    → may_be_next hart (seq + length before) (stamp_after stamp before) r ≡ true
next-at hart seq stamp [] before after r is = absurd (not_last before after r is)
next-at hart seq stamp (q ∷ qs) [] after r is = elim (cases_Bool (may_be_next hart seq stamp q)) [
  | inl passes ↦
      let split : q ∷ front_after hart (seq + 1) q.stamp qs ≡ r ∷ after = sym (front_after-pass hart seq stamp q qs passes) ∙ is in
      let same : r ≡ q = cc in
      let plain : seq + 0 ≡ seq = omega arith in
      ap (λ (n : ℕ). may_be_next hart n stamp r) plain ∙ ap (may_be_next hart seq stamp) same ∙ passes
  | inr stops ↦ absurd (not_last [] after r (sym (front_after-stop hart seq stamp q qs stops) ∙ is))
]
next-at hart seq stamp (q ∷ qs) (b ∷ bs) after r is = elim (cases_Bool (may_be_next hart seq stamp q)) [
  | inl passes ↦
      let split : q ∷ front_after hart (seq + 1) q.stamp qs ≡ b ∷ (bs ++ r ∷ after) = sym (front_after-pass hart seq stamp q qs passes) ∙ is in
      let first : b ≡ q = cc in
      let rest : front_after hart (seq + 1) q.stamp qs ≡ bs ++ r ∷ after = cc in
      let count : seq + suc (length bs) ≡ seq + 1 + length bs = omega arith in
      ap (λ (n : ℕ). may_be_next hart n (stamp_after b.stamp bs) r) count
      ∙ ap (λ (p : Record). may_be_next hart (seq + 1 + length bs) (stamp_after p.stamp bs) r) first
      ∙ next-at hart (seq + 1) q.stamp qs bs after r rest
  | inr stops ↦ absurd (not_last (b ∷ bs) after r (sym (front_after-stop hart seq stamp q qs stops) ∙ is))
]

pub AreUsable-front : (hart : ℕ) (taken : List Record) → AreUsable hart (usable_front hart taken)
AreUsable-front hart taken before after r is =
    let plain : 0 + length before ≡ length before = omega arith in
    MayBeNext-test hart (length before) (stamp_after 0 before) r
    (ap (λ (n : ℕ). may_be_next hart n (stamp_after 0 before) r) (sym plain) ∙ next-at hart 0 0 taken before after r is)

front_after-each : (hart seq stamp : ℕ) (rs : List Record)
    → ((before after : List Record) (r : Record) → rs ≡ before ++ r ∷ after → may_be_next hart (seq + length before) (stamp_after stamp before) r ≡ true)
    → front_after hart seq stamp rs ≡ rs
front_after-each hart seq stamp [] each = refl
front_after-each hart seq stamp (q ∷ qs) each =
    let plain : seq ≡ seq + 0 = omega arith in
    let passes : may_be_next hart seq stamp q ≡ true = ap (λ (n : ℕ). may_be_next hart n stamp q) plain ∙ each [] qs q refl in
    front_after-pass hart seq stamp q qs passes
    ∙ ap (λ (l : List Record). q ∷ l) (front_after-each hart (seq + 1) q.stamp qs (λ before after r is.
    let count : seq + 1 + length before ≡ seq + suc (length before) = omega arith in
    ap (λ (n : ℕ). may_be_next hart n (stamp_after q.stamp before) r) count ∙ each (q ∷ before) after r (ap (λ (l : List Record). q ∷ l) is)))

longest : (hart : ℕ) (taken other : List Record) → IsPrefix other taken → AreUsable hart other → IsPrefix other (usable_front hart taken)
longest hart taken other first usable =
    let whole : front_after hart 0 0 other ≡ other = front_after-each hart 0 0 other (λ before after r is.
    let plain : 0 + length before ≡ length before = omega arith in
    ap (λ (n : ℕ). may_be_next hart n (stamp_after 0 before) r) plain
    ∙ may_be_next-true hart (length before) (stamp_after 0 before) r (usable before after r is)) in
    let rest = front_after hart (0 + length other) (stamp_after 0 other) first.0 in
    (rest, sym (front_after-append hart 0 0 other first.0 whole) ∙ ap (usable_front hart) first.1)

pub UsableFront-longest : UsableFrontIsLongest
UsableFront-longest hart taken = record {
  first = front_after-first hart 0 0 taken;
  usable = AreUsable-front hart taken;
  longest = λ other first usable. longest hart taken other first usable;
}

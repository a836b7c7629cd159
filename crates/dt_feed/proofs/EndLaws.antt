-- What a popped end of the feed says.
use Rattle.std.proofs.Common.{◌≡◌, ◌≢◌, ◌∙◌, ◌<◌, ◌==◌, ◌⊎◌, inl, inr, ℕ, Bool, true, false, cond, List, [], ◌∷◌, ◌++◌, Option, length, refl, sym, ap, subst, ◌&&◌, append_assoc, arith}
use Rattle.std.specs.Prelude.{All, nat_lt}
use Rattle.std.proofs.lemmas.List.{append-nil}
use Rattle.std.proofs.lemmas.List.Elements.{All-head, All-tail, All-cons, All-nil}
use Rattle.std.proofs.lemmas.Bool.{cases_Bool}
use Rattle.std.proofs.lemmas.Bool.Decides.{nat_tests}
use mathlib.Core.List.{IsPrefix}
use Rattle.dt_record.specs.declared.records.Record.{Record}
use Rattle.dt_record.specs.declared.streams.Next.{Next}
use Rattle.dt_record.specs.Keys.{records_of}
use Rattle.dt_record.specs.Streams.{Progress}
use Rattle.dt_intake.specs.Intakes.{is_beat, is_feed_end}
use Rattle.dt_reading.specs.Reading.{HasCome}
use Rattle.dt_feed.specs.Feeding.{ends_of, feed_end}
use Rattle.dt_feed.specs.Ends.{ArePoppedOf, HasTaken, PoppedEndMeansAll, WholeFeedEndsAll}

abbrev IsPlain : Record → Type 0
IsPlain r = is_feed_end r ≡ false

abbrev ArePlain : List Record → Type 0
ArePlain rs = All (λ r. is_feed_end r ≡ false) rs

-- one and the same record is no end and an end
both : (x y : Record) → x ≡ y → is_feed_end x ≡ false → is_feed_end y ≡ true → ⊥
both x y e off on = let bad : false ≡ true = sym off ∙ ap is_feed_end e ∙ on in cc

-- the first end parts a list in one way
first_end : (ys xs more rest : List Record) (e f : Record) → ArePlain ys → ArePlain xs → is_feed_end e ≡ true → is_feed_end f ≡ true
    → ys ++ e ∷ more ≡ xs ++ f ∷ rest → (ys ≡ xs) × (more ≡ rest)
first_end [] [] more rest e f py px one other is = (refl, cc)
first_end [] (x ∷ xs) more rest e f py px one other is = absurd (both x e (cc) (All-head IsPlain x xs px) one)
first_end (y ∷ ys) [] more rest e f py px one other is = absurd (both y f (cc) (All-head IsPlain y ys py) other)
first_end (y ∷ ys) (x ∷ xs) more rest e f py px one other is =
    let same : y ≡ x = cc in
    let r = first_end ys xs more rest e f (All-tail IsPlain y ys py) (All-tail IsPlain x xs px) one other (cc) in
    (cc (same, r.0), r.1)

-- a list without ends has none
no_end : (ys xs more : List Record) (e : Record) → ArePlain xs → is_feed_end e ≡ true → ys ++ e ∷ more ≡ xs → ⊥
no_end [] [] more e px one is = absurd (cc)
no_end [] (x ∷ xs) more e px one is = both x e (cc) (All-head IsPlain x xs px) one
no_end (y ∷ ys) [] more e px one is = absurd (cc)
no_end (y ∷ ys) (x ∷ xs) more e px one is = no_end ys xs more e (All-tail IsPlain x xs px) one (cc)

-- a list without ends that begins another one with an end begins what stands before the end
front : (ys xs more rest : List Record) (f : Record) → ArePlain ys → is_feed_end f ≡ true → ys ++ more ≡ xs ++ f ∷ rest → IsPrefix ys xs
front [] xs more rest f py other is = (xs, refl)
front (y ∷ ys) [] more rest f py other is = absurd (both y f (cc) (All-head IsPlain y ys py) other)
front (y ∷ ys) (x ∷ xs) more rest f py other is =
    let r = front ys xs more rest f (All-tail IsPlain y ys py) other (cc) in
    let same : y ≡ x = cc in
    (r.0, cc (same, r.1))

-- no record of a hart of a stream is an end
own-plain : (hart : ℕ) (given : List Record) → hart ≢ 255 → ArePlain (records_of hart given)
own-plain hart [] ne = All-nil IsPlain
own-plain hart (r ∷ rs) ne = elim (cases_Bool (r.hart == hart)) [
  | inl own ↦ subst (λ b. ArePlain (cond b (r ∷ records_of hart rs) (records_of hart rs))) (sym own) (All-cons IsPlain r (records_of hart rs) (off own) (own-plain hart rs ne))
  | inr other ↦ subst (λ b. ArePlain (cond b (r ∷ records_of hart rs) (records_of hart rs))) (sym other) (own-plain hart rs ne)
]
  where
    off : (r.hart == hart) ≡ true → is_feed_end r ≡ false
    off own = let no : (r.hart == 255) ≡ false = grind (arith, nat_tests) in ap (λ b. b && is_beat r.body) no

ends-cases : (ends hart : ℕ) → ((hart < ends) × (ends_of ends hart ≡ feed_end ∷ [])) ⊎ (ends_of ends hart ≡ [])
ends-cases ends hart = choice (nat_lt hart ends) refl
  where
    choice : (b : Bool) → nat_lt hart ends ≡ b → ((hart < ends) × (cond b (feed_end ∷ []) [] ≡ feed_end ∷ [])) ⊎ (cond b (feed_end ∷ []) [] ≡ [])
    choice true is = inl (grind (arith, nat_tests), refl)
    choice false is = inr refl

ends-all : (ends hart : ℕ) → hart < ends → ends_of ends hart ≡ feed_end ∷ []
ends-all ends hart h = grind (arith, nat_tests)

-- the same for one queue
one_queue : (told : Option (List Next)) (p : Progress) (harts : ℕ) (wide : Bool) (given : List Record) (ends hart : ℕ) (ended : Bool) (taken popped left : List Record)
    → hart ≢ 255 → (0 < ends → HasCome told p harts wide given) → popped ++ left ≡ records_of hart given ++ ends_of ends hart → ArePlain taken
    → ArePoppedOf ended taken popped → HasTaken told p harts wide given hart ended taken left
one_queue told p harts wide given ends hart ended taken popped left ne complete is plain pop = choice ended pop (ends-cases ends hart)
  where
    open_case : popped ≡ taken → ((hart < ends) × (ends_of ends hart ≡ feed_end ∷ [])) ⊎ (ends_of ends hart ≡ []) → IsPrefix taken (records_of hart given)
    open_case same (inl h) = front taken (records_of hart given) left [] feed_end plain refl
        (ap (λ (rs : List Record). rs ++ left) (sym same) ∙ is ∙ ap (λ (rs : List Record). records_of hart given ++ rs) h.1)
    open_case same (inr h) = (left, ap (λ (rs : List Record). rs ++ left) (sym same) ∙ is ∙ ap (λ (rs : List Record). records_of hart given ++ rs) h ∙ append-nil (records_of hart given))

    parted : (e : Record) → popped ≡ taken ++ e ∷ [] → taken ++ e ∷ left ≡ records_of hart given ++ ends_of ends hart
    parted e same = sym (append_assoc taken (e ∷ []) left) ∙ ap (λ (rs : List Record). rs ++ left) (sym same) ∙ is

    over_case : (e : Record) → is_feed_end e ≡ true → popped ≡ taken ++ e ∷ [] → ((hart < ends) × (ends_of ends hart ≡ feed_end ∷ [])) ⊎ (ends_of ends hart ≡ [])
        → HasCome told p harts wide given × (taken ≡ records_of hart given) × (left ≡ [])
    over_case e one same (inl h) =
        let r = first_end taken (records_of hart given) left [] e feed_end plain (own-plain hart given ne) one refl
        (parted e same ∙ ap (λ (rs : List Record). records_of hart given ++ rs) h.1) in
        (complete (let low = h.0 in omega arith), r.0, r.1)
    over_case e one same (inr h) =
        absurd (no_end taken (records_of hart given) left e (own-plain hart given ne) one
        (parted e same ∙ ap (λ (rs : List Record). records_of hart given ++ rs) h ∙ append-nil (records_of hart given)))

    choice : (b : Bool) → ArePoppedOf b taken popped → ((hart < ends) × (ends_of ends hart ≡ feed_end ∷ [])) ⊎ (ends_of ends hart ≡ [])
        → HasTaken told p harts wide given hart b taken left
    choice false same h = record { begins = open_case same h; all = λ on. let bad : false ≡ true = on in cc }
    choice true o h =
        let r = over_case o.0 o.1 o.2 h in
        record { begins = ([], append-nil taken ∙ r.1); all = λ on. r }

pub Popped-all : PoppedEndMeansAll
Popped-all end told p wide old new f hart d ended taken popped left h ne none is plain pop =
    one_queue told p (length old) wide f.given f.ends hart ended taken popped left ne f.complete
    (is ∙ f.parts.records hart d h ∙ ap (λ (rs : List Record). rs ++ (records_of hart f.given ++ ends_of f.ends hart)) none) plain pop

pub Whole-all : WholeFeedEndsAll
Whole-all told p wide old new f hart d h none =
    let w = f.whole refl in
    let all = w.1 in
    let low : hart < f.ends = omega arith in (
      w.0,
      f.parts.records hart d h ∙ ap (λ (rs : List Record). rs ++ (records_of hart f.given ++ ends_of f.ends hart)) none
          ∙ ap (λ (rs : List Record). records_of hart f.given ++ rs) (ends-all f.ends hart low),
    )

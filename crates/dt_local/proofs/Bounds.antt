use Rattle.std.proofs.Common.{◌≡◌, ◌&&◌, Bool, true, false, not, if◌then◌else◌, None, Some, refl, sym, ap, ◌∙◌, subst, inl, inr}
use Rattle.std.proofs.lemmas.Bool.{false≢true}
use Rattle.dt_record.specs.declared.keys.Key.{Key}
use Rattle.dt_record.specs.Keys.{key_below, KeyBelow}
use Rattle.dt_record.proofs.KeyLaws.{KeyBelow-chain, key_below-cases}
use Rattle.dt_local.specs.LocalMemory.{GreaterBoundsBoth}

pick : (below x y : Bool) → (below ≡ true → x ≡ true → y ≡ true) → (below ≡ false → y ≡ true → x ≡ true)
    → not (if below then y else x) ≡ (not x && not y)
pick true true true up down = refl
pick true true false up down = absurd (false≢true (up refl refl))
pick true false y up down = refl
pick false true y up down = refl
pick false false true up down = absurd (false≢true (down refl refl))
pick false false false up down = refl

key_below-pick : (below : Bool) (key a b : Key) → key_below key (if below then b else a) ≡ (if below then key_below key b else key_below key a)
key_below-pick true key a b = refl
key_below-pick false key a b = refl

-- what stands below the lesser of two keys stands below the other
below_both : (key a b : Key) → key_below a b ≡ false → KeyBelow key b → KeyBelow key a
below_both key a b under below = elim (key_below-cases a b) [
  | inl rises ↦ absurd (false≢true (sym under ∙ rises))
  | inr others ↦ elim others [
    | inl same ↦ subst (λ k. KeyBelow key k) (sym same) below
    | inr falls ↦ KeyBelow-chain key b a below falls
  ]
]

pub is_at_least-greater : GreaterBoundsBoth
is_at_least-greater key None b = refl
is_at_least-greater key (Some a) None = and-true (not (key_below key a))
  where
    and-true : (b : Bool) → b ≡ (b && true)
    and-true true = refl
    and-true false = refl
is_at_least-greater key (Some a) (Some b) =
    ap not (key_below-pick (key_below a b) key a b)
    ∙ pick (key_below a b) (key_below key a) (key_below key b)
    (λ rises below. KeyBelow-chain key a b below rises) (λ falls below. below_both key a b falls below)

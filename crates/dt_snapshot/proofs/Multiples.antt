-- Multiples of an interval.
use Rattle.std.proofs.Common.{◌≡◌, ℕ, ◌+◌, ◌*◌, ◌/◌, ◌%◌, ◌<◌, ◌≤◌, true, Option, None, Some, refl, sym, ap, ◌∙◌, subst, inl, inr, arith, eq-eqb, eqb-true}
use Rattle.std.proofs.lemmas.Bool.{cases_lt, lt-ltb, ltb-true, leb-false, lt-leb}
use Rattle.std.proofs.lemmas.Nat.{le-div, div_below, mod-mul-add, mul-le}
use native.Mathlib.Nat.{div-add-mod'}
use Rattle.dt_snapshot.specs.Cuts.{is_cut, newer_cut, reaches_new}
use Rattle.dt_snapshot.specs.Laws.{NewerCutIsGreatest, IsBetween, NewCutsAreBetween}

pub newer-within : (interval stamp : ℕ) → newer_cut interval stamp ≤ stamp
newer-within interval stamp = omega (arith, div-add-mod' stamp interval)

multiple-cut : (interval n : ℕ) → 1 ≤ interval → is_cut interval (n * interval) ≡ true
multiple-cut interval n some =
    let none : n * interval + 0 ≡ n * interval = omega arith in
    eq-eqb (n * interval % interval) 0 (ap (λ m. m % interval) (sym none) ∙ mod-mul-add n interval 0 some)

cut-multiple : (interval cut : ℕ) → is_cut interval cut ≡ true → cut / interval * interval ≡ cut
cut-multiple interval cut is = let none : cut % interval ≡ 0 = eqb-true (cut % interval) 0 is in omega (arith, div-add-mod' cut interval)

-- more cycles hold no fewer intervals
pub intervals-rise : (interval low high : ℕ) → 1 ≤ interval → low ≤ high → low / interval ≤ high / interval
intervals-rise interval low high some up = let within = newer-within interval low in le-div (low / interval) high interval some (omega arith)

pub newer-greatest : (interval stamp other : ℕ) → 1 ≤ interval → is_cut interval other ≡ true → other ≤ stamp → other ≤ newer_cut interval stamp
newer-greatest interval stamp other some is within =
    let same = cut-multiple interval other is in
    let fewer = intervals-rise interval other stamp some within in
    let all = mul-le (other / interval) interval (stamp / interval) interval fewer (omega arith) in
    omega arith

pub greatest : NewerCutIsGreatest
greatest interval stamp some = record {
  is = multiple-cut interval (stamp / interval) some;
  within = newer-within interval stamp;
  greatest = λ other is within. newer-greatest interval stamp other some is within;
}

-- a cycle with more intervals than another is later
pub later : (interval low high : ℕ) → 1 ≤ interval → low / interval < high / interval → low < high
later interval low high some fewer = elim (cases_lt low high) [
  | inl below ↦ below
  | inr above ↦ let rise = intervals-rise interval high low some above in absurd (omega arith)
]

between-new : (interval : ℕ) (last : Option ℕ) (stamp : ℕ) → 1 ≤ interval → reaches_new interval last stamp ≡ true → (cut : ℕ) × IsBetween interval last stamp cut
between-new interval None stamp some new = (0, record { is = subst (λ (n : ℕ). is_cut interval n ≡ true) start (multiple-cut interval 0 some); new = refl; within = omega arith })
  where
    start : 0 * interval ≡ 0
    start = omega arith
between-new interval (Some last) stamp some new =
    let cut = newer_cut interval stamp in
    let fewer = ltb-true (last / interval) (stamp / interval) new in
    let above : last < cut = elim (cases_lt last cut) [
      | inl below ↦ below
      | inr high ↦ let rise = le-div (stamp / interval) last interval some high in absurd (omega arith)
    ] in
    (cut, record { is = multiple-cut interval (stamp / interval) some; new = lt-leb cut last above; within = newer-within interval stamp })

pub new-between : (interval : ℕ) (last : Option ℕ) (stamp cut : ℕ) → 1 ≤ interval → IsBetween interval last stamp cut → reaches_new interval last stamp ≡ true
new-between interval None stamp cut some between = refl
new-between interval (Some last) stamp cut some between =
    let same = cut-multiple interval cut between.is in
    let above : last < cut = leb-false cut last between.new in
    let within = between.within in
    let fewer = div_below last interval (cut / interval) some (omega arith) in
    let rise = le-div (cut / interval) stamp interval some (omega arith) in
    lt-ltb (last / interval) (stamp / interval) (omega arith)

pub new-cuts : NewCutsAreBetween
new-cuts interval last stamp some = (between-new interval last stamp some, λ (cut, between). new-between interval last stamp cut some between)

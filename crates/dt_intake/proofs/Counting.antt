use Rattle.std.proofs.Common.{ℕ, ◌≡◌, ◌≤◌, List, [], ◌∷◌, ◌++◌, length, take, sym, ap, ◌∙◌, subst, arith}
use Rattle.std.specs.Prelude.{All}
use Rattle.dt_record.specs.declared.limits.TheConstants.{RECORD_LIMIT}
use Rattle.dt_record.specs.declared.records.Record.{Record}
use Rattle.dt_record.specs.Lawful.{IsLawful}
use Rattle.dt_intake.specs.Fronts.{usable_front}
use Rattle.dt_intake.specs.Intakes.{IsCounted}
use Rattle.dt_intake.proofs.FrontLaws.{front_after-first, front_after-grows, lawful-front_after, length-front_after}
use Rattle.dt_intake.proofs.Splits.{prefix-length, prefix-take}

-- What is counted of the taken records.

pub IsCounted-front : (hart : ℕ) (taken items : List Record) (n told : ℕ) → IsCounted hart taken n told → items ≡ taken → take n items ≡ usable_front hart taken
IsCounted-front hart taken items n told counted same =
    ap (take n) same ∙ ap (λ (k : ℕ). take k taken) counted.count ∙ prefix-take (usable_front hart taken) taken (front_after-first hart 0 0 taken)

pub IsCounted-len : (hart : ℕ) (taken items : List Record) (n told : ℕ) → IsCounted hart taken n told → items ≡ taken → n ≡ length (take n items)
IsCounted-len hart taken items n told counted same = counted.count ∙ ap length (sym (IsCounted-front hart taken items n told counted same))

pub IsCounted-lawful : (hart : ℕ) (taken items : List Record) (n told : ℕ) → IsCounted hart taken n told → items ≡ taken → All (λ r. IsLawful r) (take n items)
IsCounted-lawful hart taken items n told counted same =
    subst (λ (rs : List Record). All (λ r. IsLawful r) rs) (sym (IsCounted-front hart taken items n told counted same)) (lawful-front_after hart 0 0 taken)

pub IsCounted-few : (hart : ℕ) (taken items : List Record) (n told : ℕ) → IsCounted hart taken n told → items ≡ taken → length (take n items) ≤ RECORD_LIMIT
IsCounted-few hart taken items n told counted same =
    let size = ap length (IsCounted-front hart taken items n told counted same) in
    let few = length-front_after hart 0 0 taken in
    omega arith

-- one more record
pub IsCounted-more : (hart : ℕ) (taken items next : List Record) (r : Record) (n m told : ℕ) → IsCounted hart taken n told → items ≡ taken
    → next ≡ taken ++ r ∷ [] → m ≡ length (usable_front hart (items ++ r ∷ [])) → IsCounted hart next m told
IsCounted-more hart taken items next r n m told counted same grown is =
    let whole : items ++ r ∷ [] ≡ next = ap (λ (l : List Record). l ++ r ∷ []) same ∙ sym grown in
    let more = prefix-length (usable_front hart taken) (usable_front hart (taken ++ r ∷ [])) (front_after-grows hart 0 0 taken (r ∷ [])) in
    let size : m ≡ length (usable_front hart (taken ++ r ∷ [])) = is ∙ ap (λ (l : List Record). length (usable_front hart (l ++ r ∷ []))) same in
    record {
      count = is ∙ ap (λ (l : List Record). length (usable_front hart l)) whole;
      within = let low = counted.within in let count = counted.count in omega arith;
    }

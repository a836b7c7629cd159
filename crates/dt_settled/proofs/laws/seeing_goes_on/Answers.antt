use Rattle.std.proofs.Common.{ℕ, List, ◌++◌, take, sym, ap, ◌∙◌, subst}
use Rattle.std.proofs.Math.Seq.{take-append_seam}
use Rattle.dt_record.specs.declared.writes.Note.{Note}
use Rattle.dt_settled.specs.Settling.{Stands}
use Rattle.dt_settled.proofs.laws.seeing_goes_on.Goals as goal

pub returns : goal.returns
returns c = λ v notes more all seen stands.
    subst (λ (ns : List Note). Stands v ns all) (sym (ap (λ (n : ℕ). take n (notes ++ more)) seen ∙ take-append_seam notes more)) stands

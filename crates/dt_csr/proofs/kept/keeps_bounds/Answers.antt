use Rattle.std.proofs.Common.{ℕ, ◌^◌, ◌<◌, List, get_or, sym, ◌∙◌, subst}
use Rattle.dt_csr.specs.Kept.{KeepsBounds}
use Rattle.dt_csr.proofs.Bounds.{KeepsBounds-tested, tested-KeepsBounds}
use Rattle.dt_csr.proofs.kept.keeps_bounds.Goals as goal

pub returns : goal.returns
returns c =
    let made = c.with_values.result in
    let fits = subst (λ (v : List ℕ). (i : ℕ) → get_or v i 0 < 2 ^ 64) (sym c.with_values.ensures) c.fits-v in (
      λ passes. subst (λ (v : List ℕ). KeepsBounds v c.args.wide) c.with_values.ensures (KeepsBounds-tested made c.args.wide fits (sym c.are_within_bounds.ensures ∙ passes)),
      λ keeps. c.are_within_bounds.ensures ∙ tested-KeepsBounds made c.args.wide (subst (λ (v : List ℕ). KeepsBounds v c.args.wide) (sym c.with_values.ensures) keeps),
    )

-- Where a read was called for.
use Rattle.std.proofs.Common.{◌≡◌, ◌⊎◌, inl, inr, ℕ, List, [], ◌++◌, drop, Option, sym, ap, ◌∙◌, subst}
use Rattle.std.proofs.lemmas.List.{append-nil}
use Rattle.dt_source.specs.Known.{TakesFrom}
use Rattle.dt_record.specs.Spelling.{end_bytes}
use Rattle.dt_probe_file.specs.declared.reading.Opened.{Opened}
use Rattle.dt_probe_file.specs.declared.fronts.Front.TheVariants as fronts
use Rattle.dt_probe_file.specs.Asking.{LeaveOpen, HadToRead}
use Rattle.dt_probe_file.specs.Fronts.{reading_of, IsFront}
use Rattle.dt_probe_file.specs.Parts.{ReadsOn}

-- a read that failed, over what was held then
pub had_to_read : (opened : Option Opened) (held grown : List ℕ) (before between after : Option (List ℕ)) → ReadsOn held before grown between → after ≡ between → LeaveOpen opened grown → HadToRead opened held before after
had_to_read opened held grown before between after reads same leaves = (
  reads.0,
  subst (λ (z : Option (List ℕ)). TakesFrom before reads.0 z) (sym same) reads.2,
  subst (λ (z : List ℕ). LeaveOpen opened z) reads.1 leaves,
)

-- an end behind which nothing is held is all that was held
pub only_end : (o : Opened) (held behind : List ℕ) → IsFront (reading_of o) held fronts.End → behind ≡ drop 9 held → behind ≡ [] → held ≡ end_bytes o.events
only_end o held behind front is none =
    front.0 ∙ ap (λ (z : List ℕ). end_bytes o.events ++ z) (sym is ∙ none) ∙ append-nil (end_bytes o.events)

-- where nothing was read before, what is held now was held at first
pub still_open : {S : Type 0} (opened : Option Opened) (first now next : S) (held grown more : List ℕ) → ((now ≡ first) × (grown ≡ held)) ⊎ LeaveOpen opened held → LeaveOpen opened grown → ((next ≡ first) × (more ≡ held)) ⊎ LeaveOpen opened held
still_open opened first now next held grown more (inl same) leaves = inr (subst (λ (z : List ℕ). LeaveOpen opened z) same.1 leaves)
still_open opened first now next held grown more (inr was) leaves = inr was

use Rattle.std.proofs.Common.{List, ap, ◌∙◌, refl}
use Rattle.dt_stores.specs.declared.lines.Line.{Line}
use Rattle.dt_stores.specs.Lines.{places_in, taken_in}
use Rattle.dt_stores.proofs.RamLines.{places-grown, taken-grown}
use Rattle.dt_stores.proofs.lines.grow.Goals as goal

pub loop-lines-preserved : goal.loop-lines-preserved
loop-lines-preserved c =
    let l : Line = record { places = c.new-places.result; taken = 0 } in
    record {
      places = λ other. ap (λ (ls : List Line). places_in ls other) c.in_ok-push.ensures.items ∙ places-grown c.loop-lines.lines.items l other c.new-places.ensures.items ∙ c.loop-lines.invariant.places other;
      taken = λ other. ap (λ (ls : List Line). taken_in ls other) c.in_ok-push.ensures.items ∙ taken-grown c.loop-lines.lines.items l other refl ∙ c.loop-lines.invariant.taken other;
    }

pub returns-in_err-push-clause-places : goal.returns-in_err-push-clause-places
returns-in_err-push-clause-places c = λ other. ap (λ (ls : List Line). places_in ls other) c.in_err-push.ensures.items ∙ c.loop-lines.invariant.places other

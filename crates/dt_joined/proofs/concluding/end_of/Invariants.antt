use Rattle.std.specs.Prelude.{◌≡◌, ◌==◌, false}
use Rattle.std.specs.List.{AllWithin}
use Rattle.dt_joined.proofs.concluding.end_of.Given as goal

-- none of the ends before is the hart's
abbrev pub invariant-loop-end : goal.invariant-loop-end
invariant-loop-end l = AllWithin (λ e. (e.hart == l.hart) ≡ false) l.ends 0 l.end-index

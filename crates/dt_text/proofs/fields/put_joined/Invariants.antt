use Rattle.std.proofs.Common.{◌≡◌, ◌++◌, ◌∷◌, take}
use Rattle.std.specs.List.{flat_map}
use Rattle.dt_text.specs.Line.{sixteen_digits}
use Rattle.dt_text.proofs.fields.put_joined.Given as goal

-- the numbers so far are written, each behind a comma
abbrev pub invariant-loop-number : goal.invariant-loop-number
invariant-loop-number l = l.out.items ≡ l.initial.out.items ++ flat_map (λ n. 44 ∷ sixteen_digits n) (take l.number-index l.rest)

use Rattle.std.specs.Prelude.{◌≡◌, [], ◌∷◌, Err, refl}
use Rattle.dt_record.specs.declared.reasons.Reason.TheVariants.{Refill as NotRefilled}
use Rattle.dt_rules.specs.Checks.{misfit, first_difference}

-- A worked example of the definitions (this project's own).

-- the first byte of a refill that differs
second_byte_differs : first_difference NotRefilled (7 ∷ 8 ∷ []) (7 ∷ 9 ∷ []) ≡ Err (misfit NotRefilled 8 9)
second_byte_differs = refl

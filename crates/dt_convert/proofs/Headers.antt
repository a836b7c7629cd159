-- The sixteen bytes of a header.
use Rattle.std.proofs.Common.{◌≡◌, ℕ, Bool, cond, [], ◌∷◌, refl}
use Rattle.dt_record.specs.Spelling.{half, word}
use Rattle.dt_record.specs.ProbeFile.{header_bytes, version_number}
use Rattle.dt_convert.specs.declared.versions.FileVersion.{FileVersion}
use Rattle.dt_convert.specs.declared.versions.FileVersion.TheVariants as asked
use Rattle.dt_convert.specs.Convert.{version_of}

pub header_is : (version : FileVersion) (number harts : ℕ) (wide : Bool) → number ≡ version_number (version_of version)
    → 83 ∷ 77 ∷ 80 ∷ 68 ∷ 73 ∷ 70 ∷ 70 ∷ 0 ∷ number ∷ 0 ∷ harts ∷ cond wide 1 0 ∷ 0 ∷ 0 ∷ 0 ∷ 0 ∷ [] ≡ header_bytes (version_of version) harts wide
unfolding header_bytes half word
header_is asked.One number harts wide is = rw is refl
header_is asked.Two number harts wide is = rw is refl

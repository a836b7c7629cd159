use Rattle.std.specs.Prelude.{◌≡◌, ℕ, List, [], ◌∷◌, refl}
use Rattle.dt_record.specs.declared.keys.Key.{Key}
use Rattle.dt_record.specs.declared.origins.Origin.{Origin}
use Rattle.dt_record.specs.declared.origins.Origin.TheVariants.{Image, Write, Store}
use Rattle.dt_report.specs.Runs.{run, runs_from}

-- Sources of loads that the definition puts into runs.

abbrev key : ℕ → ℕ → ℕ → Key
key stamp hart seq = record { stamp = stamp; hart = hart; seq = seq }

abbrev eight : Origin → List Origin
eight o = o ∷ o ∷ o ∷ o ∷ o ∷ o ∷ o ∷ o ∷ []

-- all bytes from one write
pub one_run : runs_from 0 (eight (Write (key 10 0 5))) ≡ run 0 7 (Write (key 10 0 5)) ∷ []
one_run = refl

-- a store over the low half of a double word
pub two_runs : runs_from 0 (Store 2 ∷ Store 2 ∷ Store 2 ∷ Store 2 ∷ Image ∷ Image ∷ Image ∷ Image ∷ [])
    ≡ run 0 3 (Store 2) ∷ run 4 7 Image ∷ []
two_runs = refl

-- what comes back later is a run of its own
pub runs_are_adjacent : runs_from 0 (Image ∷ Write (key 10 0 5) ∷ Image ∷ Image ∷ [])
    ≡ run 0 0 Image ∷ run 1 1 (Write (key 10 0 5)) ∷ run 2 3 Image ∷ []
runs_are_adjacent = refl

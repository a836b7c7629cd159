use Rattle.std.specs.Prelude.{ℕ, ◌+◌, ◌==◌, ◌&&◌, Bool, true, false, if◌then◌else◌, List, [], ◌∷◌, ◌++◌, codes, map, take}
use Rattle.std.specs.Fmt.{decimal}
use Rattle.std.specs.List.{join_with_byte}
use Rattle.dt_record.specs.declared.keys.Key.{Key}
use Rattle.dt_record.specs.declared.origins.Origin.{Origin}
use Rattle.dt_record.specs.declared.origins.Origin.TheVariants.{Image, Write, Store}
use Rattle.dt_record.specs.declared.origins.Sources.{Sources}
use Rattle.dt_text.specs.Line.{key_text}

-- Where the bytes of a load come from, as a report says it (this project's own).

abbrev pub same_key : Key → Key → Bool
same_key a b = (a.stamp == b.stamp) && ((a.hart == b.hart) && (a.seq == b.seq))

abbrev pub same_origin : Origin → Origin → Bool
same_origin Image Image = true
same_origin Image (Write key) = false
same_origin Image (Store seq) = false
same_origin (Write a) Image = false
same_origin (Write a) (Write b) = same_key a b
same_origin (Write a) (Store seq) = false
same_origin (Store a) Image = false
same_origin (Store a) (Write key) = false
same_origin (Store a) (Store b) = a == b

-- adjacent bytes that come from one place: the first and the last of them
pub record Run : Type 0 where
  pub first : ℕ
  pub last : ℕ
  pub origin : Origin

abbrev pub run : ℕ → ℕ → Origin → Run
run first last origin = record { first = first; last = last; origin = origin }

-- a byte before some runs: it joins the first of them where both come from one place
abbrev pub with_byte : ℕ → Origin → List Run → List Run
with_byte n o [] = run n n o ∷ []
with_byte n o (r ∷ rs) = if same_origin o r.origin then (run n r.last o ∷ rs) else (run n n o ∷ r ∷ rs)

-- the maximal runs of bytes that are numbered from one on
abbrev pub runs_from : ℕ → List Origin → List Run
runs_from n [] = []
runs_from n (o ∷ os) = with_byte n o (runs_from (n + 1) os)

abbrev pub origin_text : Origin → List ℕ
origin_text Image = codes "image"
origin_text (Write key) = key_text key
origin_text (Store seq) = codes "store." ++ decimal seq

unfoldable pub run_text : Run → List ℕ
run_text r = decimal r.first ++ codes "-" ++ decimal r.last ++ codes "=" ++ origin_text r.origin

-- the runs joined by commas
abbrev pub runs_text : List Run → List ℕ
runs_text runs = join_with_byte 44 (map run_text runs)

-- the runs of the bytes that were read from RAM, numbered from 0, or a dash where there are none
abbrev pub sources_text : Sources → List ℕ
sources_text s = if s.count == 0 then codes "-" else (runs_text (runs_from 0 (take s.count s.from)))

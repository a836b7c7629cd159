use Rattle.std.specs.Prelude.{ℕ, zero, suc, ◌+◌, ◌-◌, ◌<◌, ◌^◌, ◌==◌, ◌&&◌, if◌then◌else◌, None, List, [], ◌∷◌, length, take, slice_get, nat_lt}
use Rattle.std.specs.Option.{option_map_or}
use Rattle.std.specs.VecDeque.{deque_len, deque_capacity}
use Rattle.dt_record.specs.Actions.{Held, is_on}
use Rattle.dt_stores.specs.declared.late.Late.{Late}
use Rattle.dt_stores.specs.declared.steps.Step.{Step}
use Rattle.dt_stores.specs.declared.steps.Step.TheVariants.{Commit, Drain}
use Rattle.dt_stores.specs.declared.steps.Steps.{Steps}
use Rattle.dt_stores.specs.Kept.{Kept}

-- What was kept before some steps.

-- the stores, the place of the oldest that waits, and what that was before each drain
pub record Buffer : Type 0 where
  pub held : List Held
  pub first : ℕ
  pub late : List Late

abbrev pub buffer_of : List Held → (first : ℕ) → List Late → Buffer
buffer_of held first late = record { held = held; first = first; late = late }

abbrev pub without_last : {X : Type 0} → List X → List X
without_last xs = take (length xs - 1) xs

-- so many stores of a line, behind the first of them that are skipped, wait again
abbrev pub released : (line skipped count : ℕ) → List Held → List Held
released line skipped count [] = []
released line zero count (h ∷ hs) =
    if is_on line h.store && nat_lt 0 count
    then record h { drained = None } ∷ released line 0 (count - 1) hs
    else h ∷ released line 0 count hs
released line (suc skipped) count (h ∷ hs) = h ∷ released line (if is_on line h.store then skipped else suc skipped) count hs

-- what waited first before the last drain
abbrev pub last_first : List Late → ℕ → ℕ
last_first late first = option_map_or (λ l. l.first) (slice_get late (length late - 1)) first

abbrev pub before_step : Buffer → Step → Buffer
before_step b Commit = record b { held = without_last b.held }
before_step b (Drain line taken count) = record {
  held = released line taken count b.held;
  first = last_first b.late b.first;
  late = without_last b.late;
}

-- what was kept before some steps, which are in the order in which they came
abbrev pub before_steps : Buffer → List Step → Buffer
before_steps b [] = b
before_steps b (s ∷ ss) = before_step (before_steps b ss) s

-- how many of the first stores on a line were drained before some steps
abbrev pub taken_before : (ℕ → ℕ) → List Step → ℕ → ℕ
taken_before taken [] line = taken line
taken_before taken (Commit ∷ ss) line = taken_before taken ss line
taken_before taken (Drain on first count ∷ ss) line = if line == on then taken_before taken ss on - count else taken_before taken ss line

-- the stores before each of some steps
abbrev pub past_of : Buffer → List Step → List (List Held)
past_of b [] = []
past_of b (s ∷ ss) = (before_steps b (s ∷ ss)).held ∷ past_of b ss

-- what stores and fences, and the steps that led to the stores, stand for
abbrev pub kept_of : Buffer → (ww wr : ℕ) → Steps → Kept
kept_of b ww wr steps = record {
  held = b.held;
  ww = ww;
  wr = wr;
  keeps = steps.keeps;
  from = steps.from;
  past = past_of b steps.kept.items;
}

-- there is room for one more step, and it can be counted
pub record HasSpare (steps : Steps) : Type 0 where
  pub room : deque_len steps.kept < deque_capacity steps.kept
  pub counted : steps.from + (deque_len steps.kept + 1) < 2 ^ 64

use Rattle.std.specs.Prelude.{◌≡◌, ℕ, ◌+◌, ◌<◌, ◌^◌, false, List, [], length, drop, nat_le, IsTrue}
use Rattle.std.specs.List.{list_all, position_or_len}
use Rattle.std.specs.List.Sorted.{IsNonDecreasingBy}
use Rattle.std.specs.VecDeque.{deque_len}
use Rattle.dt_record.specs.Actions.{Held, is_waiting, is_undrained}
use Rattle.dt_stores.specs.declared.late.Late.{Late}
use Rattle.dt_stores.specs.declared.lines.Line.{Line}
use Rattle.dt_stores.specs.declared.steps.Step.{Step}
use Rattle.dt_stores.specs.declared.steps.Steps.{Steps}
use Rattle.dt_stores.specs.Indexed.{on_line, places_on, splits, rises}
use Rattle.dt_stores.specs.Late.{first_at, is_drained_by}
use Rattle.dt_stores.specs.Lines.{places_in, taken_in}
use Rattle.dt_stores.specs.Past.{Buffer, before_steps, taken_before}
use Rattle.dt_stores.specs.Places.{is_store_place}

-- What holds of stores, whatever finds them: they are in their order among the fences, and those of a line are drained
-- in their order.
pub record AreInOrder (held : List Held) (ww wr : ℕ) : Type 0 where
  pub placed : IsTrue (list_all (λ h. is_store_place h.store) held)
  pub barriers : IsTrue (rises (λ h. h.barrier) 0 ww held)
  pub readers : IsTrue (rises (λ h. h.readers) 0 wr held)
  pub drained : (line at : ℕ) → (n : ℕ) × IsTrue (splits (is_undrained at) n (on_line line held))

-- What is kept beside the stores finds the oldest that waits, now and in earlier cycles.
pub record FindsFirst (held : List Held) (first : ℕ) (late : List Late) : Type 0 where
  pub now : first ≡ position_or_len is_waiting held
  pub earlier : (at : ℕ) → first_at late first at ≡ position_or_len (is_undrained at) held
  pub rising : IsNonDecreasingBy (λ l. l.stamp) late
  pub ended : (at : ℕ) → IsTrue (list_all (is_drained_by at) held) → IsTrue (list_all (λ l. nat_le l.stamp at) late)

-- It finds the stores of each line, of which the first so many are drained and the others wait.
pub record FindsLines (held : List Held) (lines : List Line) : Type 0 where
  pub places : (line : ℕ) → places_in lines line ≡ places_on line held
  pub taken : (line : ℕ) → IsTrue (splits is_waiting (taken_in lines line) (on_line line held))

-- What is kept of a hart can be searched.
pub record IsSound (held : List Held) (ww wr first : ℕ) (late : List Late) (lines : List Line) : Type 0 where
  pub order : AreInOrder held ww wr
  pub firsts : FindsFirst held first late
  pub by_line : FindsLines held lines

-- What was kept could be searched, where so many of the first stores on each line were drained.
pub record WasSound (b : Buffer) (ww wr : ℕ) (numbers : ℕ → ℕ) : Type 0 where
  pub order : AreInOrder b.held ww wr
  pub firsts : FindsFirst b.held b.first b.late
  pub taken : (line : ℕ) → IsTrue (splits is_waiting (numbers line) (on_line line b.held))

-- So could it before each of some steps, whatever fences there were then.
abbrev pub WereSound : Buffer → (ℕ → ℕ) → List Step → Type 0
WereSound b taken steps = (n : ℕ) → n < length steps
    → (ww : ℕ) × (wr : ℕ) × WasSound (before_steps b (drop n steps)) ww wr (taken_before taken (drop n steps))

-- What is kept of a hart can be searched, now and after its last steps are undone.
pub record HasPast (b : Buffer) (ww wr : ℕ) (lines : List Line) (steps : Steps) : Type 0 where
  pub now : IsSound b.held ww wr b.first b.late lines
  pub past : WereSound b (taken_in lines) steps.kept.items
  pub idle : steps.keeps ≡ false → steps.kept.items ≡ []
  pub counted : steps.from + deque_len steps.kept < 2 ^ 64

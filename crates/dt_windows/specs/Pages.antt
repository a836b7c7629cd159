use Rattle.std.specs.Prelude.{ℕ, ◌≡◌, ◌+◌, ◌<◌, ◌≤◌, ◌^◌, true, false, Option, List, [], ◌++◌, option_map, IsSome, All}
use Rattle.std.specs.Ordering.{nat_cmp}
use Rattle.std.specs.List.{filter_map}
use Rattle.std.specs.Map.{lookup}
use Rattle.std.specs.BTreeMap.{BTreeMap, get, is_at, IsOrdered}
use Rattle.std.specs.VecDeque.{deque_len, deque_capacity}
use Rattle.dt_record.specs.declared.keys.Key.{Key}
use Rattle.dt_record.specs.Undoing.{earlier_state, earlier_views, put_back}
use Rattle.dt_windows.specs.declared.steps.Step.{Step}
use Rattle.dt_windows.specs.declared.steps.Steps.{Steps}
use Rattle.dt_windows.specs.Kept.{WindowsView}

-- The slots of pages, by their numbers: each page that was ever fenced alone has one, which is empty where such a fence was
-- undone.

abbrev pub Entries : Type 0
Entries = List (ℕ × Option Key)

-- the pages that have a key
abbrev pub present : Entries → List (ℕ × Key)
present entries = filter_map (λ e. option_map (λ key. (e.0, key)) e.1) entries

-- the slots before a step
abbrev pub slots_before : Entries → Step → Entries
slots_before = put_back (λ s. s.page) (λ s. s.key)

-- the slots before some steps, which are in the order in which they came
abbrev pub before_steps : Entries → List Step → Entries
before_steps entries steps = earlier_state slots_before entries steps

-- the pages before each of some steps
abbrev pub past_of : Entries → List Step → List (List (ℕ × Key))
past_of entries steps = earlier_views slots_before present entries steps

-- what the last fences, the slots of pages and the steps that led to these stand for
abbrev pub windows_of : Option Key → Option Key → Entries → Steps → WindowsView
windows_of instructions all entries steps = record {
  instructions = instructions;
  all = all;
  pages = present entries;
  keeps = steps.keeps;
  from = steps.from;
  past = past_of entries steps.kept.items;
}

-- the slots stand in order, and each is of a page that there is
pub record AreSlots (slots : BTreeMap ℕ (Option Key)) : Type 0 where
  pub ordered : IsOrdered nat_cmp slots
  pub within : (page : ℕ) → IsSome (get nat_cmp slots page) → page < 2 ^ 52

-- each page of these steps has a slot
abbrev pub HaveSlots : Entries → List Step → Type 0
HaveSlots entries steps = All (λ s. IsSome (lookup (is_at (nat_cmp s.page)) entries)) steps

-- slots were added, and nothing else: the pages are the same, and so were those before any steps
pub record IsWidened (old new : Entries) : Type 0 where
  pub pages : present new ≡ present old
  pub past : (steps : List Step) → HaveSlots old steps → past_of new steps ≡ past_of old steps
  pub kept : (page : ℕ) → IsSome (lookup (is_at (nat_cmp page)) old) → IsSome (lookup (is_at (nat_cmp page)) new)

-- the steps that came behind others lead back to the slots before them
pub record LeadsBack (old new : Entries) (before after : List Step) : Type 0 where
  pub added : List Step
  pub items : after ≡ before ++ added
  pub undone : before_steps new added ≡ old

-- a slot was set by a step, which is kept where steps are
pub record IsStepped (old new : Entries) (before after : Steps) : Type 0 where
  pub keeps : after.keeps ≡ before.keeps
  pub from : after.from ≡ before.from
  pub counted : deque_len after.kept ≤ deque_len before.kept + 1
  pub idle : before.keeps ≡ false → after.kept.items ≡ before.kept.items
  pub led : before.keeps ≡ true → LeadsBack old new before.kept.items after.kept.items
  pub slots : HaveSlots old before.kept.items → HaveSlots new after.kept.items

-- there is room for one more step, and it can be counted
pub record HasSpare (steps : Steps) : Type 0 where
  pub room : deque_len steps.kept < deque_capacity steps.kept
  pub counted : steps.from + (deque_len steps.kept + 1) < 2 ^ 64

-- what is kept: the slots, and the steps that led to them
pub record IsSound (slots : BTreeMap ℕ (Option Key)) (steps : Steps) : Type 0 where
  pub are_slots : AreSlots slots
  pub have : HaveSlots slots.entries steps.kept.items
  pub idle : steps.keeps ≡ false → steps.kept.items ≡ []
  pub counted : steps.from + deque_len steps.kept < 2 ^ 64

use Rattle.std.specs.Prelude.{ℕ, ◌≡◌, ◌/◌, ◌^◌, Bool, false, if◌then◌else◌, Option, None, Some, List, [], ◌∷◌, ◌++◌, IsTrue, nat_lt}
use Rattle.std.specs.BTreeMap.{is_at}
use Rattle.std.specs.List.{list_all}
use Rattle.std.specs.List.Sorted.{IsStrictlySortedBy}
use Rattle.std.specs.Map.{lookup, keys_of}
use Rattle.std.specs.Ordering.{nat_cmp}
use Rattle.dt_record.specs.declared.keys.Key.{Key}
use Rattle.dt_record.specs.Keys.{key_below}
use Rattle.dt_step.specs.declared.plans.Planned.{Planned}
use Rattle.dt_windows.specs.Fences.{Fence, fence_at, is_instruction_fence, covers_all, covers_page, last_fence}

-- What is kept of a hart's fences (this project's own).

-- The key of the last fence of instructions, of the last of all pages, and of the last of each page that was fenced alone,
-- by rising numbers. Whether the past is kept, how many steps came before it, and the pages before each step since then,
-- oldest first.
pub record WindowsView : Type 0 where
  pub instructions : Option Key
  pub all : Option Key
  pub pages : List (ℕ × Key)
  pub keeps : Bool
  pub from : ℕ
  pub past : List (List (ℕ × Key))

-- one without a past
abbrev pub windows_view : Option Key → Option Key → List (ℕ × Key) → WindowsView
windows_view instructions all pages = record { instructions = instructions; all = all; pages = pages; keeps = false; from = 0; past = [] }

-- numbers of pages in order, below the limit on them, each with the key of a fence
pub record ArePages (pages : List (ℕ × Key)) : Type 0 where
  pub rising : IsStrictlySortedBy nat_cmp (keys_of pages)
  pub within : IsTrue (list_all (λ page. nat_lt page (2 ^ 52)) (keys_of pages))

-- the greater of two keys, where both are there
abbrev pub later_of : Option Key → Option Key → Option Key
later_of None b = b
later_of (Some a) None = Some a
later_of (Some a) (Some b) = Some (if key_below a b then b else a)

-- the key of the last fence that covers the page of an address
abbrev pub page_key : WindowsView → ℕ → Option Key
page_key w va = later_of w.all (lookup (is_at (nat_cmp (va / 4096))) w.pages)

-- what is kept stands for the fences of a hart: each key is that of the last of its kind
pub record FencesStand (w : WindowsView) (fences : List Fence) : Type 0 where
  pub all : w.all ≡ last_fence covers_all fences
  pub pages : (va : ℕ) → page_key w va ≡ last_fence (covers_page va) fences
  pub instructions : w.instructions ≡ last_fence is_instruction_fence fences

-- whatever fences the old value stands for, the new one stands for them and a plan with a key above theirs
abbrev pub TakesFence : WindowsView → WindowsView → Planned → Key → Type 0
TakesFence old new plan key = (fences : List Fence) → IsTrue (list_all (λ f. key_below f.key key) fences)
    → FencesStand old fences → FencesStand new (fences ++ fence_at plan key ∷ [])

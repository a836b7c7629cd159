use Rattle.std.specs.Prelude.{ℕ, ◌+◌, ◌*◌, ◌^◌, ◌==◌, Bool, true, false, List, Option}
use Rattle.dt_access.specs.Reaching.{reached}
use Rattle.dt_record.specs.declared.writes.Write.{Write}
use Rattle.dt_record.specs.Memory.{memory_at}
use Rattle.dt_versions.specs.declared.moments.Span.{Span}
use Rattle.dt_walk.specs.declared.arguments.WalkArgs.{WalkArgs}
use Rattle.dt_walk.specs.declared.arguments.WalkAnswer.{WalkAnswer}
use Rattle.dt_walk.specs.declared.arguments.WalkAnswer.TheVariants.{Page, PageFault, AccessFault}
use Rattle.dt_walk.specs.Walk.{walk_of}
use Rattle.dt_translate.specs.Newest.{newest}

-- What a translation gives over the memory of one moment (this project's own, beside the walk
-- itself).

-- the halfword at an address of RAM after the first k writes, its low byte first
unfoldable pub half_at : List ℕ → List Write → ℕ → ℕ → ℕ
half_at image writes k addr = memory_at image writes k addr + 2 ^ 8 * memory_at image writes k (addr + 1)

-- the word of 32 bits, its low half first
abbrev pub word_at : List ℕ → List Write → ℕ → ℕ → ℕ
word_at image writes k addr = half_at image writes k addr + 2 ^ 16 * half_at image writes k (addr + 2)

-- the page-table entry of 64 bits, its low word first (The RISC-V Instruction Set Manual, Volume II,
-- 20211203, section 4.4.1)
unfoldable pub entry_at : List ℕ → List Write → ℕ → ℕ → ℕ
entry_at image writes k addr = word_at image writes k addr + 2 ^ 32 * word_at image writes k (addr + 4)

-- the outcome of a translation after the first k writes
unfoldable pub outcome_at : List ℕ → List Write → ℕ → WalkArgs → Bool → WalkAnswer
outcome_at image writes k a ram_only = reached ram_only (walk_of (entry_at image writes k) a)

-- whether an outcome is the wanted one
abbrev pub is_answer : WalkAnswer → WalkAnswer → Bool
is_answer (Page wanted) (Page addr) = addr == wanted
is_answer PageFault PageFault = true
is_answer AccessFault AccessFault = true
is_answer _ _ = false

-- the newest moment of a window that gives the wanted outcome
unfoldable pub allowed_moment : List ℕ → List Write → Span → WalkArgs → Bool → WalkAnswer → Option ℕ
allowed_moment image writes window a ram_only wanted =
    newest (λ k. is_answer wanted (outcome_at image writes k a ram_only)) window

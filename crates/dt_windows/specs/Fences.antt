use Rattle.std.specs.Prelude.{ℕ, ◌/◌, ◌==◌, ◌||◌, Bool, true, false, Option, None, Some, option_map, List, reverse, find}
use Rattle.std.specs.Option.{option_map_or}
use Rattle.dt_record.specs.declared.keys.Key.{Key}
use Rattle.dt_record.specs.declared.writes.Write.{Write}
use Rattle.dt_step.specs.declared.plans.Planned.{Planned}
use Rattle.dt_step.specs.declared.plans.Planned.TheVariants.{FenceI, FencesPages}
use Rattle.dt_versions.specs.declared.moments.Span.{Span}
use Rattle.dt_versions.specs.Spans.{first_visible, last_visible}

-- Which moments a hart's translations and instructions may come from (this project's own): those from
-- its last fence on.

-- What one commit of a hart planned, and its key. A list of these has the commits of a hart, the oldest
-- first; those whose plan is no fence do not count.
pub record Fence : Type 0 where
  pub plan : Planned
  pub key : Key

abbrev pub fence_at : Planned → Key → Fence
fence_at plan key = record { plan = plan; key = key }

-- FENCE.I (Volume I, chapter 3)
abbrev pub is_instruction_fence : Planned → Bool
is_instruction_fence FenceI = true
is_instruction_fence plan = false

-- SFENCE.VMA of all pages or of the 4 KiB page of an address (Volume II, section 4.2.1)
abbrev pub covers_page : ℕ → Planned → Bool
covers_page va (FencesPages None all) = all
covers_page va (FencesPages (Some fenced) all) = all || (fenced / 4096 == va / 4096)
covers_page va plan = false

-- SFENCE.VMA of all pages (Volume II, section 4.2.1)
abbrev pub covers_all : Planned → Bool
covers_all (FencesPages va all) = all
covers_all plan = false

-- a fence of either kind, whatever it covers
abbrev pub is_fence : Planned → Bool
is_fence FenceI = true
is_fence (FencesPages va all) = true
is_fence plan = false

-- the key of the last whose plan passes a test
abbrev pub last_fence : (Planned → Bool) → List Fence → Option Key
last_fence test fences = option_map (λ f. f.key) (find (λ f. test f.plan) (reverse fences))

-- the least moment that a hart could see at a fence, or the first of all where there was none
abbrev pub first_since : List Write → Option Key → ℕ
first_since writes fence = option_map_or (λ f. first_visible writes f f.stamp) fence 0

-- the moments from there to the greatest that it may see at a record with this key
abbrev pub span_since : List Write → Key → Option Key → Span
span_since writes key fence = record { first = first_since writes fence; last = last_visible writes key key.stamp }

-- the moments whose translation of an address a record may use
abbrev pub window_after : List Write → Key → List Fence → ℕ → Span
window_after writes key fences va = span_since writes key (last_fence (covers_page va) fences)

-- the moments whose memory a record may fetch from
abbrev pub since_after : List Write → Key → List Fence → Span
since_after writes key fences = span_since writes key (last_fence is_instruction_fence fences)

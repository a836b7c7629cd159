use Rattle.std.specs.Prelude.{◌≡◌, ℕ, ◌*◌, ◌^◌, true, false, List, [], ◌∷◌, ◌++◌, Some, None, replicate, refl}
use Rattle.dt_record.specs.declared.writes.Write.{Write}
use Rattle.dt_versions.specs.declared.moments.Span.{Span}
use Rattle.dt_walk.specs.declared.arguments.Access.TheVariants.{Load}
use Rattle.dt_walk.specs.declared.arguments.WalkArgs.{WalkArgs}
use Rattle.dt_walk.specs.declared.arguments.WalkAnswer.TheVariants.{Page, PageFault}
use Rattle.dt_walk.specs.Walk.{walk_from, walk_of}
use Rattle.dt_translate.specs.Fetches.{fetch_moments}
use Rattle.dt_translate.specs.Newest.{newest}
use Rattle.dt_translate.specs.Outcomes.{allowed_moment, entry_at, half_at, outcome_at}

-- Moments that the definitions compute: one write maps the gigapage at 80000000 to itself, and S
-- loads from it.

abbrev mapping : List Write
mapping = record {
  key = record { stamp = 20; hart = 0; seq = 9 };
  line = 0x8000_2000;
  mask = 255 * 2 ^ 16;
  bytes = replicate 16 0 ++ 0xcf ∷ 0 ∷ 0 ∷ 0x20 ∷ replicate 44 0;
} ∷ []

abbrev load : WalkArgs
load = record {
  va = 0x8000_3000;
  root = 0x8000_2000;
  on = true;
  levels = 3;
  access = Load;
  mode = 1;
  sum = false;
  mxr = false;
}

abbrev span : ℕ → ℕ → Span
span first last = record { first = first; last = last }

pub stale_fault : allowed_moment [] mapping (span 0 1) load false PageFault ≡ Some 0
unfolding allowed_moment newest outcome_at entry_at half_at walk_of walk_from
stale_fault = refl

pub new_page : allowed_moment [] mapping (span 0 1) load false (Page 0x8000_3000) ≡ Some 1
unfolding allowed_moment newest outcome_at entry_at half_at walk_of walk_from
new_page = refl

pub no_fault_after_the_fence : allowed_moment [] mapping (span 1 1) load false PageFault ≡ None
unfolding allowed_moment newest outcome_at entry_at half_at walk_of walk_from
no_fault_after_the_fence = refl

-- with no translation, the low half of the entry at its own address: 0 before the write, cf after
pub stale_half : fetch_moments [] mapping (span 0 1) (span 0 1) (record load { va = 0x8000_2010; on = false }) 0 ≡ Some (1, 0)
unfolding fetch_moments newest outcome_at entry_at half_at walk_of
stale_half = refl

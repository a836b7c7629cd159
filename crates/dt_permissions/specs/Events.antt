-- Events of permissions: which hart was given which line, and when. All of it is this project's own.
use Rattle.std.specs.Prelude.{ℕ, ◌≤◌, ◌&&◌, Bool, nat_le, nat_lt, List, [], ◌∷◌, length, IsTrue}
use Rattle.dt_record.specs.declared.limits.TheConstants.{HART_LIMIT}
use Rattle.dt_record.specs.Lawful.{is_ram_line}
use Rattle.dt_permissions.specs.declared.events.PermEvent.{PermEvent}
use Rattle.dt_permissions.specs.declared.perms.TheConstants.{EVENT_LIMIT}

-- the number of harts, and the events in the order of their cycles
pub record PermsView : Type 0 where
  pub harts : ℕ
  pub events : List PermEvent

-- an event of one of the kinds, of one of so many harts, on a line of RAM
abbrev pub is_event_of : ℕ → PermEvent → Bool
is_event_of harts e = (nat_le 1 e.op && nat_le e.op 3) && (nat_lt e.hart harts && is_ram_line e.line)

-- each is such an event, and the stamps never fall, from this one on
abbrev pub AreEvents : (harts least : ℕ) → List PermEvent → Type 0
AreEvents harts least [] = Unit {0}
AreEvents harts least (e ∷ es) = IsTrue (is_event_of harts e) × (least ≤ e.stamp) × AreEvents harts e.stamp es

-- what a permission file may say
pub record ArePerms (harts : ℕ) (events : List PermEvent) : Type 0 where
  pub some_hart : 1 ≤ harts
  pub few_harts : harts ≤ HART_LIMIT
  pub few_events : length events ≤ EVENT_LIMIT
  pub each : AreEvents harts 0 events

use Rattle.std.specs.Prelude.{◌≡◌, ◌-◌, ◌≤◌, true, false, None, [], take, drop}
use Rattle.dt_local.specs.LocalMemory.{LocalMemory}
use Rattle.dt_local.specs.Marks.{keys_at, IsLive as IsLiveLocal, KeepsMarks as KeepsLocalMarks}
use Rattle.dt_step.specs.State.{IsArch, IsReachable}
use Rattle.dt_stores.specs.Marks.{undone as stores_undone, forgotten as stores_forgotten, IsLive as IsLiveStores, KeepsMarks as KeepsStoresMarks}
use Rattle.dt_windows.specs.Marks.{undone as windows_undone, forgotten as windows_forgotten, IsLive as IsLiveWindows, KeepsMarks as KeepsWindowsMarks}
use Rattle.dt_hart.specs.declared.accesses.Accesses.{Accesses}
use Rattle.dt_hart.specs.declared.marks.HartMark.{HartMark}
use Rattle.dt_hart.specs.Counting.{IsCounted}
use Rattle.dt_hart.specs.Following.{known_in}
use Rattle.dt_hart.specs.HartView.{HartView}
use Rattle.dt_hart.specs.Settings.{Setting}
use Rattle.dt_hart.specs.Standing.{HartStands}

-- A mark of a hart has the marks of its parts, and what changes without a step (this project's own).

-- what the hart knows of each byte, with its past
abbrev pub local_in : HartView → LocalMemory
local_in h = record { keys = h.keys; reserved = None; keeps = h.keeps; from = h.from; past = h.past }

-- the mark can be undone to
pub record IsLive (h : HartView) (m : HartMark) : Type 0 where
  pub stores : IsLiveStores h.stores m.stores
  pub local : IsLiveLocal (local_in h) m.local
  pub windows : IsLiveWindows h.windows m.windows

-- the hart for which a live mark stands: what it is once that is undone to
abbrev pub stood_at : HartView → HartMark → HartView
stood_at h m = record {
  arch = m.arch;
  seq = m.seq;
  stamp = m.stamp;
  stores = stores_undone h.stores m.stores;
  keys = keys_at (local_in h) m.local;
  floor = m.floor;
  last_read = m.last_read;
  reserved = m.reserved;
  windows = windows_undone h.windows m.windows;
  keeps = h.keeps;
  from = h.from;
  past = take (m.local.at - h.from) h.past;
}

-- the hart after what came before a live mark is forgotten
abbrev pub forgotten : HartView → HartMark → HartView
forgotten h m = record h {
  stores = stores_forgotten h.stores m.stores;
  windows = windows_forgotten h.windows m.windows;
  from = m.local.at;
  past = drop (m.local.at - h.from) h.past;
}

-- the hart from its first mark on
abbrev pub marked : HartView → HartView
marked h = record h { stores = record h.stores { keeps = true }; windows = record h.windows { keeps = true }; keeps = true }

abbrev pub without_past : HartView → HartView
without_past h = record h {
  stores = record h.stores { keeps = false; from = 0; past = [] };
  windows = record h.windows { keeps = false; from = 0; past = [] };
  keeps = false;
  from = 0;
  past = [];
}

-- what a hart keeps to, whatever it stands for
pub record IsSound (h : HartView) : Type 0 where
  pub arch : IsArch h.arch
  pub reachable : IsReachable h.arch
  pub counted : IsCounted h.stores (record { stamp = h.stamp; hart = h.arch.hart; seq = h.seq })

-- two are the same but for their pasts
pub record AreAlike (h other : HartView) : Type 0 where
  pub arch : other.arch ≡ h.arch
  pub seq : other.seq ≡ h.seq
  pub stamp : other.stamp ≡ h.stamp
  pub held : other.stores.held ≡ h.stores.held
  pub ww : other.stores.ww ≡ h.stores.ww
  pub wr : other.stores.wr ≡ h.stores.wr
  pub keys : other.keys ≡ h.keys
  pub floor : other.floor ≡ h.floor
  pub last_read : other.last_read ≡ h.last_read
  pub reserved : other.reserved ≡ h.reserved
  pub instructions : other.windows.instructions ≡ h.windows.instructions
  pub all : other.windows.all ≡ h.windows.all
  pub pages : other.windows.pages ≡ h.windows.pages

-- each live mark of the accesses stays live, and stands for the same
pub record KeepsAccessMarks (old new : Accesses) : Type 0 where
  pub stores : KeepsStoresMarks old.stores new.stores
  pub local : KeepsLocalMarks (known_in old.local) (known_in new.local)

-- so does each of the hart
pub record KeepsMarks (old new : HartView) : Type 0 where
  pub stores : KeepsStoresMarks old.stores new.stores
  pub local : KeepsLocalMarks (local_in old) (local_in new)
  pub windows : KeepsWindowsMarks old.windows new.windows

-- a mark that is not later than another
pub record IsNotLater (m to : HartMark) : Type 0 where
  pub stores : m.stores.at ≤ to.stores.at
  pub local : m.local.at ≤ to.local.at
  pub windows : m.windows.at ≤ to.windows.at

-- A law: marks stay live and go on standing for the same, by a record, where another is undone to and where what came
-- before another is forgotten; and harts that are alike stand for the same.
pub record MarksGoOn : Type 0 where
  pub kept : (old new : HartView) (m : HartMark) → KeepsMarks old new → IsLive old m
      → IsLive new m × AreAlike (stood_at old m) (stood_at new m)
  pub undone_to : (h : HartView) (to m : HartMark) → IsLive h to → IsLive h m → IsNotLater m to
      → IsLive (stood_at h to) m × AreAlike (stood_at h m) (stood_at (stood_at h to) m)
  pub forgotten_before : (h : HartView) (to m : HartMark) → IsLive h to → IsLive h m → IsNotLater to m
      → IsLive (forgotten h to) m × AreAlike (stood_at h m) (stood_at (forgotten h to) m)
  pub stands : (h other : HartView) (s : Setting) → AreAlike h other → HartStands h s → HartStands other s
  pub sound : (h other : HartView) → AreAlike h other → IsSound h → IsSound other

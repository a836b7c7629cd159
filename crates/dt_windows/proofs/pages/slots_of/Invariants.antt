use Rattle.std.proofs.Common.{◌≡◌, map, take}
use Rattle.dt_windows.specs.Pages.{AreSlots}
use Rattle.dt_windows.proofs.Numbers.{slot_of}
use Rattle.dt_windows.proofs.pages.slots_of.Given as goal

abbrev pub invariant-loop-page : goal.invariant-loop-page
invariant-loop-page l = record {
  entries : l.slots.entries ≡ map slot_of (take l.page-index l.pages);
  slots : AreSlots l.slots;
}

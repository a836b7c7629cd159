use Rattle.std.proofs.Common.{ℕ, ◌≡◌, List, sym, subst}
use Rattle.dt_hart.specs.HartView.{HartView}
use Rattle.dt_loads.specs.Reading.{IsPast}
use Rattle.dt_local.specs.LocalMemory.{LocalMemory}
use Rattle.dt_record.specs.declared.keys.Key.{Key}
use Rattle.dt_record.specs.Actions.{Action}
use Rattle.dt_stores.specs.Kept.{Kept}
use Rattle.dt_stores.specs.Standing.{StoresStand}
use Rattle.dt_versions.specs.History.{History}
use Rattle.dt_judge.specs.Keeping.{Remembers}
use Rattle.dt_judge.proofs.Leading.{same_knowing}
use Rattle.dt_judge.proofs.Readings.{read_with_p}
use Rattle.dt_judge.proofs.loads.sourced.Goals as goal

-- what the hart remembers is the past of a load
past : (stores : Kept) (local : LocalMemory) (h : HartView) (m : History) (key : Key) (actions : List Action) (moments : ℕ → ℕ) → stores ≡ h.stores → local.keys ≡ h.keys
    → Remembers h m key actions moments → IsPast m stores local key actions moments
past stores local h m key actions moments same_stores same_keys known = record {
  stores = subst (λ (k : Kept). StoresStand k actions) (sym same_stores) known.stores;
  knows = same_knowing local h.keys m.writes actions moments key same_keys known.knows;
  judged = known.judged;
  in_order = known.in_order;
  chosen = known.chosen;
}

pub returns-clause-finds : goal.returns-clause-finds
returns-clause-finds c = λ last actions moments known.
    let before = past c.stores.result.now c.local.result.now c.args.h.now c.args.m.now c.args.ask.key actions moments c.stores.ensures c.local.ensures known in
    (c.ram_load.result, c.with_p.ensures.places, c.ram_load.ensures actions moments before, c.with_p.ensures.value)

pub returns-clause-read : goal.returns-clause-read
returns-clause-read c =
    read_with_p c.args.h.now c.args.m.now c.args.p c.ram_load.result c.with_p.result c.args.ask c.args.signed c.args.value c.with_p.ensures.value
    (λ actions moments known.
    c.ram_load.ensures actions moments (past c.stores.result.now c.local.result.now c.args.h.now c.args.m.now c.args.ask.key actions moments c.stores.ensures c.local.ensures known))

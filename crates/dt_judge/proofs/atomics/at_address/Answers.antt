use Rattle.std.proofs.Common.{ℕ, Option, List, Result, Ok, Err, IsTrue, sym, subst}
use Rattle.std.specs.Prelude.{IfOk}
use Rattle.dt_atomics.specs.declared.accesses.AtomicAccess.{AtomicAccess}
use Rattle.dt_atomics.specs.Answers.{IsAtomicAnswer}
use Rattle.dt_atomics.specs.Asking.{reads}
use Rattle.dt_atomics.specs.Grounds.{atomic_grounds}
use Rattle.dt_atomics.specs.Laws.{AllowedAtomicsAreExact}
use Rattle.dt_hart.specs.HartView.{HartView}
use Rattle.dt_hart.specs.Taking.{ReadsAtKey}
use Rattle.dt_rules.specs.declared.misfits.Passed.{Passed}
use Rattle.dt_record.specs.declared.keys.Key.{Key}
use Rattle.dt_record.specs.declared.origins.Sources.{Sources}
use Rattle.dt_record.specs.Actions.{Action}
use Rattle.dt_rules.specs.declared.misfits.Misfit.{Misfit}
use Rattle.dt_stores.specs.Kept.{Kept}
use Rattle.dt_stores.specs.Standing.{StoresStand}
use Rattle.dt_versions.specs.History.{History}
use Rattle.dt_judge.specs.Keeping.{Remembers}
use Rattle.dt_judge.proofs.AtomicReads.{reads_at_key, sources_stay}
use Rattle.dt_judge.proofs.Leading.{same_knowing}
use Rattle.dt_judge.proofs.atomics.at_address.Goals as goal

-- it has an answer, where the hart remembers its actions
abbrev IsAnswered : HartView → History → Key → AtomicAccess → Result Passed Misfit → Type 0
IsAnswered h m key x r = (actions : List Action) (moments : ℕ → ℕ) → Remembers h m key actions moments → IsAtomicAnswer (atomic_grounds m actions moments h.reserved) key x r

-- where it is allowed, it read
abbrev Reads : HartView → History → Key → AtomicAccess → Sources → Type 0
Reads h m key x sources =
    (actions : List Action) (moments : ℕ → ℕ) → Remembers h m key actions moments → IsTrue (reads x.op) → ReadsAtKey m.writes key x.paddr x.said_width sources

read_where_allowed : AllowedAtomicsAreExact → (h : HartView) (m : History) (key : Key) (x : AtomicAccess) (r : Result Passed Misfit) → IsAnswered h m key x r → IfOk r (λ y. Reads h m key x y.sources)
read_where_allowed law h m key x (Ok y) answered = λ actions moments known reading. reads_at_key law (atomic_grounds m actions moments h.reserved) key x y (answered actions moments known) reading
read_where_allowed law h m key x (Err refused) answered = tt

pub returns-clause-finds : goal.returns-clause-finds
returns-clause-finds c = λ last actions moments known.
    let knows = same_knowing c.local.result.now c.args.h.now.keys c.args.m.now.writes actions moments c.args.key c.local.ensures known.knows in
    let stores = subst (λ (k : Kept). StoresStand k actions) (sym c.stores.ensures) known.stores in
    let answer = subst (λ (r : Option (ℕ × Key)). IsAtomicAnswer (atomic_grounds c.args.m.now actions moments r) c.args.key c.args.x c.atomic.result) c.reserved.ensures (c.atomic.ensures actions moments stores knows) in
    (c.atomic.result, answer, c.with_p.ensures.value)

pub returns-clause-read : goal.returns-clause-read
returns-clause-read c =
    let answered : IsAnswered c.args.h.now c.args.m.now c.args.key c.args.x c.atomic.result = λ actions moments known.
    let knows = same_knowing c.local.result.now c.args.h.now.keys c.args.m.now.writes actions moments c.args.key c.local.ensures known.knows in
    let stores = subst (λ (k : Kept). StoresStand k actions) (sym c.stores.ensures) known.stores in
    subst (λ (r : Option (ℕ × Key)). IsAtomicAnswer (atomic_grounds c.args.m.now actions moments r) c.args.key c.args.x c.atomic.result) c.reserved.ensures (c.atomic.ensures actions moments stores knows) in
    sources_stay (Reads c.args.h.now c.args.m.now c.args.key c.args.x) c.args.p c.atomic.result c.with_p.result c.with_p.ensures.value
    (read_where_allowed c.allowed_atomics_are_exact.ensures c.args.h.now c.args.m.now c.args.key c.args.x c.atomic.result answered)

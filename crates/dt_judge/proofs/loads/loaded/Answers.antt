use Rattle.std.proofs.Common.{◌≡◌, ◌||◌, Bool, true, sym, ap, subst, ◌∙◌}
use Rattle.dt_record.specs.declared.accesses.LoadAsk.{LoadAsk}
use Rattle.dt_judge.specs.Kinds.{LoadsRam}
use Rattle.dt_judge.specs.Keeping.{Remembers, grounds_kept}
use Rattle.dt_judge.proofs.Placing.{only_load}
use Rattle.dt_judge.proofs.Readings.{loads_by, reads_by}
use Rattle.dt_judge.proofs.loads.loaded.Goals as goal
use Rattle.dt_judge.proofs.loads.loaded.Goals.{then-st, else-st}

pub returns-then-is_in_ram-clause-finds : goal.returns-then-is_in_ram-clause-finds
returns-then-is_in_ram-clause-finds c = λ actions moments known.
    let h = c.args.sight.now.hart.now in
    let m = c.args.sight.now.moments.now in
    let g = grounds_kept h m c.args.sight.now.last actions moments in
    let p : (c.args.st.stale || c.in_ok-older-in-NeedsLoad.older) ≡ c.if-st.p =
    elim c.if-st.branch [
      | then-st w ↦ ap (λ (b : Bool). b || c.in_ok-older-in-NeedsLoad.older) w.if-st.true ∙ sym (w.p-is ∙ w.if-st.true)
      | else-st w ↦ ap (λ (b : Bool). b || c.in_ok-older-in-NeedsLoad.older) w.if-st.false ∙ sym w.p-is
    ] in
    let ram = sym c.is_in_ram.ensures ∙ c.if-is_in_ram.true in
    let asked = subst (λ (a : LoadAsk). Remembers h m a.key actions moments) (sym c.load_ask-ask.ensures) known in
    let loads = subst (λ (a : LoadAsk). LoadsRam g c.if-st.p a c.in-NeedsLoad.signed c.args.value c.from_ram.result) c.load_ask-ask.ensures (c.from_ram.ensures.finds c.args.sight.now.last actions moments asked) in
    loads_by g c.args.key c.args.st.stale c.args.st.plan
    c.in-NeedsLoad.va c.in-NeedsLoad.width c.in-NeedsLoad.signed c.in-NeedsLoad.rd c.args.value c.args.at c.args.paddr
    c.in_ok-older-in-NeedsLoad.older c.if-st.p true c.from_ram.result c.in-NeedsLoad.is c.in_ok-older-in-NeedsLoad.ensures.value p ram loads

pub returns-then-is_in_ram-clause-read : goal.returns-then-is_in_ram-clause-read
returns-then-is_in_ram-clause-read c =
    reads_by c.args.sight.now.hart.now c.args.sight.now.moments.now c.from_ram.result c.args.key c.load_ask-ask.result c.args.st.plan
    c.in-NeedsLoad.va c.in-NeedsLoad.width c.in-NeedsLoad.signed c.in-NeedsLoad.rd c.args.value c.args.at c.args.paddr c.in-NeedsLoad.is c.load_ask-ask.ensures c.from_ram.ensures.read

pub returns-in_default : goal.returns-in_default
returns-in_default c = absurd (only_load c.args.st.plan c.requires.due c.in_default.not-NeedsLoad)

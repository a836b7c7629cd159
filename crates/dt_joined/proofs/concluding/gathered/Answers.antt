use Rattle.std.proofs.Common.{ℕ, Bool, List, ◌++◌, ap, ◌∙◌, subst, arith}
use Rattle.std.proofs.lemmas.List.Elements.{All-contains}
use Rattle.dt_record.specs.declared.records.Record.{Record}
use Rattle.dt_record.specs.Writes.{writes_of}
use Rattle.dt_versions.specs.History.{history}
use Rattle.dt_verdict.specs.declared.tallies.Noted.{Noted}
use Rattle.dt_writes.specs.FileRecords.{AreFileRecords}
use Rattle.dt_lane.specs.declared.ends.HartEnd.{HartEnd}
use Rattle.dt_pass.specs.Running.{AreRunsOf}
use Rattle.dt_pass.proofs.AllHarts.{none_yet, one_more}
use Rattle.dt_joined.specs.Ends.{AreEndsOf}
use Rattle.dt_joined.specs.Joined.{IsJudgedHart}
use Rattle.dt_joined.proofs.concluding.gathered.Goals as goal

pub loop-hart-init : goal.loop-hart-init
loop-hart-init c = λ image wide file are ends.
    none_yet (history image (writes_of file)) wide file c.new-outcomes.result.items c.args.notes.now.items c.new-outcomes.ensures.items c.requires.no_notes

pub loop-hart-preserved : goal.loop-hart-preserved
loop-hart-preserved c = λ image wide file are ends.
    let hart = c.loop-hart.hart in
    let end = c.end_of-end.result.now in
    let of_hart : ℕ → HartEnd → Type 0 = λ h e. IsJudgedHart image wide file h e.outcome e.notes.items in
    let judged : of_hart end.hart end = All-contains (λ (e : HartEnd). of_hart e.hart e) c.args.ends.now end ends.judged c.end_of-end.ensures.one in
    let its : of_hart hart end = subst (λ h. of_hart h end) c.end_of-end.ensures.its judged in
    one_more (history image (writes_of file)) wide hart file c.loop-hart.outcomes.items c.push.new.self.items end.outcome
    c.loop-hart.notes.items end.notes.items c.extend_from_slice.new.self.items
    (c.loop-hart.invariant image wide file are ends)
    (c.judged_harts_have_runs.ensures image wide file hart end.outcome end.notes.items are its)
    c.in_ok-push.ensures.items
    (c.in_ok-extend_from_slice.ensures.items ∙ ap (λ (ns : List Noted). c.loop-hart.notes.items ++ ns) c.deref.ensures.value)

pub returns : goal.returns
returns c =
    subst
    (λ h. (image : List ℕ) (wide : Bool) (file : List Record) → AreFileRecords file → AreEndsOf image wide file c.args.ends.now
    → AreRunsOf (history image (writes_of file)) wide h file c.loop-hart.outcomes.items c.loop-hart.notes.items)
    (omega (arith, c.loop-hart.auto.hart-end, c.loop-hart-test.false)) c.loop-hart.invariant

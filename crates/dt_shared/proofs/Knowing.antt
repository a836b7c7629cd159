-- What contracts see of a pass after each call.
use Rattle.std.proofs.Common.{◌≡◌, ℕ, Result, Ok, Err, MatchResult, OnOk, OnErr, List, [], ◌∷◌, ◌++◌, sym, refl, ap, ◌∙◌, subst}
use mathlib.Core.List.{IsPrefix}
use Rattle.atomic_table.specs.Seated.{TableId}
use Rattle.dt_record.specs.declared.writes.Note.{Note}
use Rattle.dt_shared.specs.declared.entries.Entry.{Entry}
use Rattle.dt_shared.specs.declared.views.Known.{Known}
use Rattle.dt_shared.specs.Entries.{notes_in, notes_of, entries_of}
use Rattle.dt_shared.specs.Views.{at_rest}
use Rattle.dt_shared.specs.Steps.{Seated, Agrees}
use Rattle.dt_shared.specs.Turns.{Rests, appended, caught_up}
use Rattle.dt_shared.specs.Passes.{PassState, pass_state, first_known}
use Rattle.dt_shared.specs.Replicas.{ReplicaState}
use Rattle.dt_shared.specs.Records.{Extends}
use Rattle.dt_shared.proofs.Histories.{notes_of-append, notes_of-entries_of}

-- a seat at rest for one pass
pub first_is : (me : Seated) (k : Known) (made : ℕ) → Rests k made me → first_known me.0.passes ≡ k
first_is me k made e = ap (λ (x : Seated). first_known x.0.passes) e

pub still_rests : (me : Seated) (k : Known) (made : ℕ) → Rests k made me → Rests (first_known me.0.passes) me.0.made me
still_rests me k made e = e ∙ (λ i. (at_rest (sym (first_is me k made e) i ∷ []) (sym (ap (λ (x : Seated). x.0.made) e) i), []))

pub record AppendFacts (before : PassState) (notes : List Note) (id : TableId) (k : Known) : Type 0 where
  pub seen : Extends before.seen k.seen (entries_of before.number notes)
  pub own : k.own ≡ before.own ++ notes
  pub mine : notes_of before.number k.seen ≡ k.own
  pub same : pass_state id k ≡ record before { seen = k.seen; own = k.own }

pub append_facts : (before : PassState) (id : TableId) (k k' : Known) (history : List Entry) (notes : List Note) → pass_state id k ≡ before → k' ≡ appended k history notes → Agrees history k → AppendFacts before notes id k'
append_facts before id k k' history notes was now fits =
    let new : List Entry = entries_of k.number notes in
    subst (λ (p : PassState). AppendFacts p notes id k') was (subst (AppendFacts (pass_state id k) notes id) (sym now) record {
      seen = (fits.seen.0, ap (λ l. l ++ new) (sym fits.seen.1));
      own = refl;
      mine = notes_of-append k.number history new ∙ (ap (λ l. l ++ notes_of k.number new) (sym fits.own) ∙ ap (λ l. k.own ++ l) (notes_of-entries_of k.number notes));
      same = refl;
    })

pub record LookFacts {E : Type 0} (result : Result (Unit {0}) E) (before : PassState) (id : TableId) (k : Known) (old new : ReplicaState) : Type 0 where
  pub seen : OnOk result (IsPrefix before.seen k.seen)
  pub mine : OnOk result (notes_of before.number k.seen ≡ k.own)
  pub same : OnOk result (pass_state id k ≡ record before { seen = k.seen })
  pub replica : OnOk result (new ≡ record old { notes = notes_in k.seen })
  pub err : OnErr result ((pass_state id k ≡ before) × (new ≡ old))

pub look_facts : {E : Type 0} (result : Result (Unit {0}) E) (before : PassState) (id : TableId) (k : Known) (made : ℕ) (me : Seated) (old new : ReplicaState) → pass_state id k ≡ before
    → MatchResult result (λ _. (history : List Entry) × Agrees history k × Rests (caught_up k history) made me × (new ≡ record old { notes = notes_in history })) (λ _. Rests k made me × (new ≡ old)) → LookFacts result before id (first_known me.0.passes) old new
look_facts {E = E} (Ok x) before id k made me old new was told =
    let result : Result (Unit {0}) E = Ok x in let k' : Known = caught_up k told.0 in
    subst (λ (p : PassState). LookFacts result p id (first_known me.0.passes) old new) was (subst (λ (l : Known). LookFacts result (pass_state id k) id l old new) (sym (first_is me k' made told.2)) record {
      seen = told.1.seen;
      mine = sym told.1.own;
      same = refl;
      replica = told.3;
      err = tt;
    })
look_facts {E = E} (Err e) before id k made me old new was told =
    let result : Result (Unit {0}) E = Err e in
    subst (λ (l : Known). LookFacts result before id l old new) (sym (first_is me k made told.0)) record {
      seen = tt;
      mine = tt;
      same = tt;
      replica = tt;
      err = (was, told.1);
    }

-- the seat still stands for the pass
pub look_rests : {E : Type 0} (result : Result (Unit {0}) E) (k : Known) (made : ℕ) (me : Seated) (number : ℕ) (old new : ReplicaState) → k.number ≡ number
    → MatchResult result (λ _. (history : List Entry) × Agrees history k × Rests (caught_up k history) made me × (new ≡ record old { notes = notes_in history })) (λ _. Rests k made me × (new ≡ old))
    → Rests (first_known me.0.passes) me.0.made me × ((first_known me.0.passes).number ≡ number)
look_rests (Ok x) k made me number old new is told = let k' : Known = caught_up k told.0 in (still_rests me k' made told.2, ap (λ (l : Known). l.number) (first_is me k' made told.2) ∙ is)
look_rests (Err e) k made me number old new is told = (still_rests me k made told.0, ap (λ (l : Known). l.number) (first_is me k made told.0) ∙ is)

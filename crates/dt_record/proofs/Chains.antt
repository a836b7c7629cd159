-- One more answer behind others.
use Rattle.std.proofs.Common.{◌≡◌, ◌≢◌, ◌+◌, Bool, true, false, if◌then◌else◌, Option, IsNone, List, [], ◌∷◌, ◌++◌, length, filter, refl, ap, sym, subst, ◌∙◌, arith}
use Rattle.std.proofs.lemmas.Bool.{false≢true}
use Rattle.std.proofs.lemmas.List.{map-append}
use Rattle.dt_record.specs.declared.records.Record.{Record}
use Rattle.dt_record.specs.declared.streams.Next.{Next}
use Rattle.dt_record.specs.declared.streams.Next.TheVariants.{Event, ReadFault}
use Rattle.dt_record.specs.Streams.{Progress, Continues, TakesAnswer}
use Rattle.dt_record.specs.Writes.{writes_memory}
use Rattle.dt_record.specs.Filling.{ContinuesBy, TakesAnswers, events_of, AnswersGoOn, TakenAnswersGoOn, AreCounted, RecordsAreCounted, TakenRecordsWereLeft}

pub answers-go_on : AnswersGoOn
answers-go_on old mid new [] ys first more = subst (λ (p : Progress). ContinuesBy p ys new) first more
answers-go_on old mid new (x ∷ xs) ys first more = (first.0, first.1, answers-go_on first.0 mid new xs ys first.2 more)

pub taken-go_on : TakenAnswersGoOn
taken-go_on old mid new [] ys first more = subst (λ (p : Option (List Next)). TakesAnswers p ys new) first more
taken-go_on old mid new (x ∷ xs) ys first more = (first.0, first.1, taken-go_on first.0 mid new xs ys first.2 more)

pub continues-one : (old mid new : Progress) (xs : List Next) (x : Next) → ContinuesBy old xs mid → Continues mid x new → ContinuesBy old (xs ++ x ∷ []) new
continues-one old mid new xs x first step = answers-go_on old mid new xs (x ∷ []) first (new, step, refl)

pub takes-one : (old mid new : Option (List Next)) (xs : List Next) (x : Next) → TakesAnswers old xs mid → TakesAnswer mid x new → TakesAnswers old (xs ++ x ∷ []) new
takes-one old mid new xs x first step = taken-go_on old mid new xs (x ∷ []) first (new, step, refl)

events-more : (rs qs : List Record) (r : Record) → qs ≡ rs ++ r ∷ [] → events_of qs ≡ events_of rs ++ Event r ∷ []
events-more rs qs r same = ap events_of same ∙ map-append (λ (q : Record). Event q) rs (r ∷ [])

-- one record more
pub continues-record : (old mid new : Progress) (rs qs : List Record) (r : Record) → qs ≡ rs ++ r ∷ []
    → ContinuesBy old (events_of rs) mid → Continues mid (Event r) new → ContinuesBy old (events_of qs) new
continues-record old mid new rs qs r same first step =
    subst (λ (xs : List Next). ContinuesBy old xs new) (sym (events-more rs qs r same)) (continues-one old mid new (events_of rs) (Event r) first step)

pub takes-record : (old mid new : Option (List Next)) (rs qs : List Record) (r : Record) → qs ≡ rs ++ r ∷ []
    → TakesAnswers old (events_of rs) mid → TakesAnswer mid (Event r) new → TakesAnswers old (events_of qs) new
takes-record old mid new rs qs r same first step =
    subst (λ (xs : List Next). TakesAnswers old xs new) (sym (events-more rs qs r same)) (takes-one old mid new (events_of rs) (Event r) first step)

counted-one : (b : Bool) (r : Record) (rs : List Record) → length (if b then r ∷ rs else rs) ≡ (if b then 1 else 0) + length rs
counted-one true r rs = omega arith
counted-one false r rs = omega arith

nothing-counted : (p : Progress) → AreCounted p [] p
nothing-counted p = record {
  harts_stay = refl;
  wide_stays = refl;
  events_are = omega arith;
  writes_are = omega arith;
  few_events = λ h. h;
  few_writes = λ h. h;
  open_still = λ h. h;
}

pub records-are_counted : RecordsAreCounted
records-are_counted old new [] same = subst (λ (p : Progress). AreCounted old [] p) (sym same) (nothing-counted old)
records-are_counted old new (r ∷ rs) (mid, step, more) =
    let rest = records-are_counted mid new rs more in
    record {
      harts_stay = rest.harts_stay ∙ step.harts_stay;
      wide_stays = rest.wide_stays ∙ step.wide_stays;
      events_are = omega (arith, rest.events_are, step.one_event);
      writes_are = omega (arith, rest.writes_are, step.one_write, counted-one (writes_memory r) r (filter writes_memory rs));
      few_events = λ _. rest.few_events step.few_events;
      few_writes = λ _. rest.few_writes step.few_writes;
      open_still = λ _. rest.open_still (subst (λ (o : Option Next). IsNone o) (sym step.open_still) refl);
    }

pub taken-were_left : TakenRecordsWereLeft
taken-were_left answers [] after taken = (answers, refl, taken)
taken-were_left answers (r ∷ rs) after (mid, first, more) =
    let told = taken-were_left first.0 rs after (subst (λ (m : Option (List Next)). TakesAnswers m (events_of rs) after) first.2 more) in
    (told.0, first.1 ∙ ap (λ (xs : List Next). Event r ∷ xs) told.1, told.2)

-- whether an answer is a failed read
is_failed : Next → Bool
is_failed ReadFault = true
is_failed _ = false

pub event_did_not_fail : (r : Record) → Event r ≢ ReadFault
unfolding is_failed
event_did_not_fail r e = false≢true (ap is_failed e)

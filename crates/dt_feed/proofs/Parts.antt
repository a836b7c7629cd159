-- What is pushed in two steps.
use Rattle.std.proofs.Common.{◌≡◌, ◌≢◌, ◌∙◌, ◌<◌, ◌==◌, ℕ, Bool, true, false, cond, List, [], ◌∷◌, ◌++◌, Option, length, get_or, refl, sym, ap, append_assoc, arith}
use Rattle.std.proofs.lemmas.List.{append-nil}
use Rattle.std.proofs.lemmas.Bool.Decides.{nat_tests}
use Rattle.std.proofs.lemmas.List.Elements.{filter-append}
use Rattle.dt_record.specs.declared.records.Record.{Record}
use Rattle.dt_record.specs.declared.streams.Next.{Next}
use Rattle.dt_record.specs.declared.streams.Next.TheVariants.{Event}
use Rattle.dt_record.specs.Keys.{records_of}
use Rattle.dt_record.specs.Streams.{Progress, TakesRecord, TakesAnswer}
use Rattle.dt_queue.specs.declared.ends.Feed.{Feed}
use Rattle.dt_queue.specs.Queue.{fed}
use Rattle.dt_reading.specs.Reading.{HasCome, with_header}
use Rattle.dt_reading.specs.Underway.{HaveBegun, IsBehindHeader, IsUnderway}
use Rattle.dt_reading.proofs.Underway.{after_record, come_has_begun, starts_behind}
use Rattle.dt_feed.specs.declared.feeding.FeedEnd.{FeedEnd}
use Rattle.dt_feed.specs.declared.feeding.FeedEnd.TheVariants.{Whole}
use Rattle.dt_feed.specs.Feeding.{ends_of, one_at, AreFed, IsFeeding}

pub none_fed : (old : List Feed) → AreFed (λ k. []) old old
none_fed old = record { size = refl; queues = λ k d h. refl; records = λ k d h. sym (append-nil (fed (get_or old k d))) }

-- two steps in one, where `part` has for each hart what the two have
pub fed_further : (first then part : ℕ → List Record) (old mid new : List Feed) → ((k : ℕ) → first k ++ then k ≡ part k)
    → AreFed first old mid → AreFed then mid new → AreFed part old new
fed_further first then part old mid new is a b = record {
  size = b.size ∙ a.size;
  queues = λ k d h. b.queues k d (there k h) ∙ a.queues k d h;
  records = λ k d h.
      b.records k d (there k h) ∙ ap (λ (rs : List Record). rs ++ then k) (a.records k d h) ∙ append_assoc (fed (get_or old k d)) (first k) (then k)
      ∙ ap (λ (rs : List Record). fed (get_or old k d) ++ rs) (is k);
}
  where
    there : (k : ℕ) → k < length old → k < length mid
    there k h = let size = a.size in omega arith

-- what of one record goes to a hart
own-one : (r : Record) (k : ℕ) → one_at r.hart (r ∷ []) k ≡ records_of k (r ∷ [])
own-one r k = ap (λ b. cond b (r ∷ []) []) flip
  where
    flip : (k == r.hart) ≡ (r.hart == k)
    flip = grind arith

-- nothing goes to a hart
no-one : (hart k : ℕ) → one_at hart [] k ≡ []
no-one hart k = both (k == hart)
  where
    both : (b : Bool) → cond {A = List Record} b [] [] ≡ []
    both true = refl
    both false = refl

-- the records of a stream that were given so far are fed
pub record AreFeeding (told left : Option (List Next)) (harts : ℕ) (wide : Bool) (p : Progress) (old new : List Feed) : Type 0 where
  pub given : List Record
  pub underway : IsUnderway told left harts wide given p
  pub parts : AreFed (λ k. records_of k given) old new

pub feeding-starts : (harts : ℕ) (wide : Bool) (left : Option (List Next)) (p : Progress) (old : List Feed) → IsBehindHeader harts wide p
    → AreFeeding (with_header harts wide left) left harts wide p old old
feeding-starts harts wide left p old b = record { given = []; underway = starts_behind harts wide left p b; parts = none_fed old }

-- one more record
pub feeding-more : (told left after : Option (List Next)) (harts : ℕ) (wide : Bool) (p q : Progress) (old mid new : List Feed) (r : Record)
    → AreFeeding told left harts wide p old mid → TakesAnswer left (Event r) after → TakesRecord p r q → AreFed (one_at r.hart (r ∷ [])) mid new
    → AreFeeding told after harts wide q old new
feeding-more told left after harts wide p q old mid new r f takes t one = record {
  given = f.given ++ r ∷ [];
  underway = after_record told left after harts wide f.given p q r f.underway takes t;
  parts = fed_further (λ k. records_of k f.given) (one_at r.hart (r ∷ [])) (λ k. records_of k (f.given ++ r ∷ [])) old mid new
      (λ k. ap (λ (rs : List Record). records_of k f.given ++ rs) (own-one r k) ∙ sym (filter-append (λ (s : Record). s.hart == k) f.given (r ∷ [])))
      f.parts one;
}

-- a record that was not pushed
pub none_more : (given : List Record) (hart : ℕ) (old mid new : List Feed) → AreFed (λ k. records_of k given) old mid → AreFed (one_at hart []) mid new
    → AreFed (λ k. records_of k given) old new
none_more given hart old mid new parts none =
    fed_further (λ k. records_of k given) (one_at hart []) (λ k. records_of k given) old mid new
    (λ k. ap (λ (rs : List Record). records_of k given ++ rs) (no-one hart k) ∙ append-nil (records_of k given)) parts none

-- before the first end
no_ends : (k : ℕ) → ends_of 0 k ≡ []
no_ends k = grind (arith, nat_tests)

-- a feed that gave up before its ends
pub gave_up : (end : FeedEnd) (told : Option (List Next)) (p : Progress) (wide : Bool) (given : List Record) (old new : List Feed) → end ≢ Whole
    → HaveBegun told (length old) wide given → AreFed (λ k. records_of k given) old new → IsFeeding end told p wide old new
gave_up end told p wide given old new not begun parts = record {
  given = given;
  ends = 0;
  parts = fed_further (λ k. records_of k given) (λ k. []) (λ k. records_of k given ++ ends_of 0 k) old new new
      (λ k. ap (λ (rs : List Record). records_of k given ++ rs) (sym (no_ends k))) parts (none_fed new);
  begun = begun;
  complete = λ some. absurd (omega arith);
  whole = λ is. absurd (not is);
}

-- a feed that gave so many ends
pub gave_ends : (end : FeedEnd) (told : Option (List Next)) (p : Progress) (wide : Bool) (given : List Record) (ends : ℕ) (old mid new : List Feed)
    → (end ≡ Whole → ends ≡ length old) → HasCome told p (length old) wide given → AreFed (λ k. records_of k given) old mid → AreFed (ends_of ends) mid new
    → IsFeeding end told p wide old new
gave_ends end told p wide given ends old mid new all came a b = record {
  given = given;
  ends = ends;
  parts = fed_further (λ k. records_of k given) (ends_of ends) (λ k. records_of k given ++ ends_of ends k) old mid new (λ k. refl) a b;
  begun = come_has_begun told p (length old) wide given came;
  complete = λ some. came;
  whole = λ is. (came, all is);
}

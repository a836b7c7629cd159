-- Queues whose ends are brought together.
use Rattle.std.proofs.Common.{◌≡◌, ◌<◌, ℕ, List, ◌++◌, length, get_or, set, refl, sym, ap, ◌∙◌, subst, inl, inr, arith, get_or-set_other, get_or-set_same}
use Rattle.std.proofs.lemmas.Bool.{cases_eq}
use Rattle.std.proofs.Math.ListN.{length-set}
use Rattle.dt_record.specs.declared.records.Record.{Record}
use Rattle.dt_queue.specs.declared.ends.Feed.{Feed}
use Rattle.dt_queue.specs.declared.ends.Take.{Take}
use Rattle.dt_queue.specs.Queue.{fed, feed_queue, taken}
use Rattle.dt_pool.specs.Joining.{AreSameFeeds, IsMet, IsPaired}

pub same_feeds : (feeds : List Feed) → AreSameFeeds feeds feeds
same_feeds feeds = record { size = refl; queues = λ k f within. refl; records = λ k f within. refl }

pub same_further : (old mid new : List Feed) → AreSameFeeds old mid → AreSameFeeds mid new → AreSameFeeds old new
same_further old mid new first then = record {
  size = then.size ∙ first.size;
  queues = λ k f within. then.queues k f (omega (arith, within, first.size)) ∙ first.queues k f within;
  records = λ k f within. then.records k f (omega (arith, within, first.size)) ∙ first.records k f within;
}

-- one of them was looked at alone
pub same_but_one : (feeds : List Feed) (hart : ℕ) (old new : Feed) → hart < length feeds → ((d : Feed) → get_or feeds hart d ≡ old)
    → feed_queue new ≡ feed_queue old → fed new ≡ fed old → AreSameFeeds feeds (set feeds hart new)
same_but_one feeds hart old new within is queue records = record {
  size = length-set feeds hart new;
  queues = λ k f k_in. elim (cases_eq k hart) [
    | inl its ↦
        subst (λ n. feed_queue (get_or (set feeds hart new) n f) ≡ feed_queue (get_or feeds n f)) (sym its)
        (ap feed_queue (get_or-set_same feeds hart new f within) ∙ queue ∙ ap feed_queue (sym (is f)))
    | inr other ↦ ap feed_queue (get_or-set_other feeds hart k new f other)
  ];
  records = λ k f k_in. elim (cases_eq k hart) [
    | inl its ↦
        subst (λ n. fed (get_or (set feeds hart new) n f) ≡ fed (get_or feeds n f)) (sym its)
        (ap fed (get_or-set_same feeds hart new f within) ∙ records ∙ ap fed (sym (is f)))
    | inr other ↦ ap fed (get_or-set_other feeds hart k new f other)
  ];
}

pub still_paired : (old new : List Feed) (t : ℕ × Take) → AreSameFeeds old new → IsPaired old t → IsPaired new t
still_paired old new t same pair = record {
  within = omega (arith, pair.within, same.size);
  queue = λ f. pair.queue f ∙ sym (same.queues t.0 f pair.within);
}

pub met_before : (old new : List Feed) (t : ℕ × Take) → AreSameFeeds old new → t.0 < length old → IsMet new t → IsMet old t
met_before old new t same within met = λ f. let left = met f in (left.0, left.1 ∙ same.records t.0 f within)

-- the ends of one queue came together
pub met_one : (initial feeds : List Feed) (hart k : ℕ) (old new : Feed) (take after : Take) (left : List Record) → AreSameFeeds initial feeds
    → k ≡ hart → hart < length initial → ((d : Feed) → get_or feeds k d ≡ old) → taken after ++ left ≡ fed new → fed new ≡ fed old
    → taken after ≡ taken take → IsMet initial (hart, take)
met_one initial feeds hart k old new take after left same at within is all records took = λ f.
    let here : fed (get_or feeds k f) ≡ fed (get_or initial hart f) = ap (λ n. fed (get_or feeds n f)) at ∙ same.records hart f within in
    (left, ap (λ rs. rs ++ left) (sym took) ∙ all ∙ records ∙ sym (ap fed (is f)) ∙ here)

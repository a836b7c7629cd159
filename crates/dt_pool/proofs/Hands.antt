-- The queues of the first harts, in the hands of the workers.
use Rattle.std.proofs.Common.{◌≡◌, ◌≢◌, ◌<◌, ◌+◌, ◌%◌, ℕ, List, [], ◌∷◌, ◌++◌, length, get_or, refl, sym, ap, ◌∙◌, subst, inl, inr, arith, length-append}
use Rattle.std.specs.Prelude.{All, Any}
use Rattle.std.proofs.lemmas.Bool.{cases_eq, cases_lt}
use Rattle.std.proofs.lemmas.List.{get_or_append_left, get_or_push, length_push}
use Rattle.std.proofs.lemmas.List.Elements.{All-nil, All-push, All-weaker}
use Rattle.dt_queue.specs.declared.ends.Feed.{Feed}
use Rattle.dt_queue.specs.declared.ends.Take.{Take}
use Rattle.dt_queue.specs.Queue.{ArePair, fed, feed_queue, taken}
use Rattle.dt_worker.specs.Workers.{AreOfDifferentHarts}
use Rattle.dt_pool.specs.Opening.{AreHands, Hand, IsGiven, IsHand, IsHanded}

-- an end of a queue has its queue where there is one more
still_handed : (workers harts number : ℕ) (feeds : List Feed) (feed : Feed) (t : ℕ × Take) → length feeds ≡ harts
    → IsHanded workers harts feeds number t → IsHanded workers (harts + 1) (feeds ++ feed ∷ []) number t
still_handed workers harts number feeds feed t size h = record {
  within = omega (arith, h.within);
  its = h.its;
  untaken = h.untaken;
  queue = λ f. h.queue f ∙ ap feed_queue (sym (get_or_append_left feeds (feed ∷ []) f t.0 (omega (arith, h.within, size))));
}

newly_handed : (workers harts number : ℕ) (feeds : List Feed) (feed : Feed) (take : Take) → length feeds ≡ harts
    → harts % workers ≡ number → ArePair feed take → taken take ≡ []
    → IsHanded workers (harts + 1) (feeds ++ feed ∷ []) number (harts, take)
newly_handed workers harts number feeds feed take size its pair untaken = record {
  within = omega arith;
  its = its;
  untaken = untaken;
  queue = λ f. pair ∙ ap feed_queue (sym (get_or_push feeds feed f harts size));
}

Any-append_left : {X : Type 0} (P : X → Type 0) (xs ys : List X) → Any P xs → Any P (xs ++ ys)
Any-append_left P xs ys (k, x, within, is, holds) =
    (k, x, omega (arith, within, length-append xs ys), get_or_append_left xs ys x k within ∙ is, holds)

Any-push : {X : Type 0} (P : X → Type 0) (xs : List X) (x : X) → P x → Any P (xs ++ x ∷ [])
Any-push P xs x holds = (length xs, x, omega (arith, length_push xs x), get_or_push xs x x (length xs) refl, holds)

-- which hart an end is of, of those before and the new one
hart_there : (harts : ℕ) (takes : List (ℕ × Take)) (t : ℕ × Take) (k : ℕ) (d : ℕ × Take) → k < length takes
    → (get_or (takes ++ t ∷ []) k d).0 ≡ (get_or takes k d).0
hart_there harts takes t k d within = ap (λ (t : ℕ × Take). t.0) (get_or_append_left takes (t ∷ []) d k within)

hart_last : (takes : List (ℕ × Take)) (t : ℕ × Take) (k : ℕ) (d : ℕ × Take) → length takes ≡ k → (get_or (takes ++ t ∷ []) k d).0 ≡ t.0
hart_last takes t k d last = ap (λ (t : ℕ × Take). t.0) (get_or_push takes t d k last)

-- the ends stay those of different harts where one of a greater hart is added
different_more : (harts : ℕ) (takes : List (ℕ × Take)) (take : Take) → All (λ t. t.0 < harts) takes → AreOfDifferentHarts takes
    → AreOfDifferentHarts (takes ++ (harts, take) ∷ [])
different_more harts takes take below different = record {
  each = λ j k d j_in k_in apart same.
      let t : ℕ × Take = (harts, take) in
      let size = length_push takes t in
      elim (cases_lt j (length takes)) [
        | inl j_old ↦
            elim (cases_lt k (length takes)) [
              | inl k_old ↦ different.each j k d j_old k_old apart (sym (hart_there harts takes t j d j_old) ∙ same ∙ hart_there harts takes t k d k_old)
              | inr k_new ↦
                  let at : length takes ≡ k = omega (arith, size, k_in, k_new) in
                  let lower : (get_or takes j d).0 < harts = below j d j_old in
                  let its : (get_or takes j d).0 ≡ harts = sym (hart_there harts takes t j d j_old) ∙ same ∙ hart_last takes t k d at in
                  omega (arith, lower, its)
            ]
        | inr j_new ↦
            let at : length takes ≡ j = omega (arith, size, j_in, j_new) in
            elim (cases_lt k (length takes)) [
              | inl k_old ↦
                  let lower : (get_or takes k d).0 < harts = below k d k_old in
                  let its : (get_or takes k d).0 ≡ harts = sym (hart_there harts takes t k d k_old) ∙ sym same ∙ hart_last takes t j d at in
                  omega (arith, lower, its)
              | inr k_new ↦ apart (omega (arith, at, size, k_in, k_new))
            ]
      ];
}

-- a hand to which the new hart does not go
same_hand : (workers harts number : ℕ) (feeds : List Feed) (feed : Feed) (takes : List (ℕ × Take)) → length feeds ≡ harts
    → harts % workers ≢ number → IsHand workers harts feeds number takes → IsHand workers (harts + 1) (feeds ++ feed ∷ []) number takes
same_hand workers harts number feeds feed takes size other h = record {
  each = All-weaker (IsHanded workers harts feeds number) (IsHanded workers (harts + 1) (feeds ++ feed ∷ []) number)
      (λ t. still_handed workers harts number feeds feed t size) takes h.each;
  all = λ hart within its. elim (cases_lt hart harts) [
    | inl below ↦ h.all hart below its
    | inr above ↦
        let at : harts ≡ hart = omega (arith, within, above) in
        absurd (other (ap (λ h. h % workers) at ∙ its))
  ];
  different = h.different;
}

-- and the one to which it goes
fuller_hand : (workers harts number : ℕ) (feeds : List Feed) (feed : Feed) (take : Take) (takes : List (ℕ × Take)) → length feeds ≡ harts
    → harts % workers ≡ number → ArePair feed take → taken take ≡ [] → IsHand workers harts feeds number takes
    → IsHand workers (harts + 1) (feeds ++ feed ∷ []) number (takes ++ (harts, take) ∷ [])
fuller_hand workers harts number feeds feed take takes size its pair untaken h =
    let t : ℕ × Take = (harts, take) in
    let P : ℕ × Take → Type 0 = IsHanded workers (harts + 1) (feeds ++ feed ∷ []) number in
    record {
      each = All-push P takes t
          (All-weaker (IsHanded workers harts feeds number) P (λ t. still_handed workers harts number feeds feed t size) takes h.each)
          (newly_handed workers harts number feeds feed take size its pair untaken);
      all = λ hart within goes. elim (cases_lt hart harts) [
        | inl below ↦ Any-append_left (λ (t : ℕ × Take). t.0 ≡ hart) takes (t ∷ []) (h.all hart below goes)
        | inr above ↦ Any-push (λ (t : ℕ × Take). t.0 ≡ hart) takes t (omega (arith, within, above))
      ];
      different = different_more harts takes take
          (All-weaker (IsHanded workers harts feeds number) (λ (t : ℕ × Take). t.0 < harts) (λ t handed. handed.within) takes h.each) h.different;
    }

-- nothing is handed to anyone
pub no_hands : (workers : ℕ) (hands : List Hand) → length hands ≡ workers → All (λ hand. hand.items ≡ []) hands → AreHands workers 0 [] hands
no_hands workers hands size empty = record {
  queues = refl;
  unfed = All-nil (λ (f : Feed). fed f ≡ []);
  size = size;
  each = λ number hand within.
      let none : (get_or hands number hand).items ≡ [] = empty number hand (omega (arith, within, size)) in
      subst (IsHand workers 0 [] number) (sym none)
      (record {
        each = All-nil (IsHanded workers 0 [] number);
        all = λ hart below its. absurd (omega (arith, below));
        different = record { each = λ j k d j_in k_in apart same. omega (arith, j_in) };
      });
}

-- the queue of the next hart is handed over
pub one_more_hand : (workers harts : ℕ) (feeds more : List Feed) (feed : Feed) (take : Take) (old new : List Hand)
    → AreHands workers harts feeds old → fed feed ≡ [] → ArePair feed take → taken take ≡ [] → more ≡ feeds ++ feed ∷ []
    → IsGiven (harts % workers) (harts, take) old new → AreHands workers (harts + 1) more new
one_more_hand workers harts feeds more feed take old new are unfed pair untaken pushed given =
    subst (λ (fs : List Feed). AreHands workers (harts + 1) fs new) (sym pushed)
    (record {
      queues = length_push feeds feed ∙ ap (λ n. n + 1) are.queues;
      unfed = All-push (λ (f : Feed). fed f ≡ []) feeds feed are.unfed unfed;
      size = given.size ∙ are.size;
      each = λ number hand within. elim (cases_eq number (harts % workers)) [
        | inl its ↦
            let items : (get_or new number hand).items ≡ (get_or old number hand).items ++ (harts, take) ∷ []
            = subst (λ n. (get_or new n hand).items ≡ (get_or old n hand).items ++ (harts, take) ∷ []) (sym its) (given.its hand) in
            subst (IsHand workers (harts + 1) (feeds ++ feed ∷ []) number) (sym items)
            (fuller_hand workers harts number feeds feed take _ are.queues (sym its) pair untaken (are.each number hand within))
        | inr other ↦
            subst (λ (h : Hand). IsHand workers (harts + 1) (feeds ++ feed ∷ []) number h.items) (sym (given.others number hand other))
            (same_hand workers harts number feeds feed _ are.queues (λ same. other (sym same)) (are.each number hand within))
      ];
    })

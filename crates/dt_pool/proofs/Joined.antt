-- From what the threads of a run left to the joined harts of its file.
use Rattle.std.proofs.Common.{◌≡◌, ◌≢◌, ◌<◌, ◌≤◌, ◌+◌, ◌%◌, ◌&&◌, not, ℕ, zero, suc, Bool, true, false, Option, List, [], ◌∷◌, ◌++◌, length, get_or, map, refl, sym, ap, ◌∙◌, subst, arith, length-append}
use Rattle.std.specs.Prelude.{All, Any, Contains, IsTrue}
use Rattle.std.specs.List.{flat_map}
use Rattle.std.proofs.lemmas.List.{get_or-append-add, get_or-map, get_or_append_left, get_or_default, length-map}
use Rattle.std.proofs.Math.Nat.{mod-lt}
use Rattle.std.proofs.lemmas.List.Elements.{All-append, All-map, All-nil, All-push, Contains-append_left}
use Rattle.atomic_table.specs.Seated.{TableId}
use Rattle.dt_record.specs.declared.records.Record.{Record}
use Rattle.dt_record.specs.declared.streams.Next.{Next}
use Rattle.dt_record.specs.declared.writes.Write.{Write}
use Rattle.dt_record.specs.Streams.{Progress}
use Rattle.dt_intake.specs.Intakes.{has_news}
use Rattle.dt_intake.specs.Told.{own_notes, IsTold}
use Rattle.dt_queue.specs.declared.ends.Feed.{Feed}
use Rattle.dt_reading.specs.Reading.{HasCome}
use Rattle.dt_queue.specs.declared.ends.Take.{Take}
use Rattle.dt_queue.specs.Queue.{fed, feed_queue, taken, take_queue}
use Rattle.dt_runs.specs.RunView.{outcome_in}
use Rattle.dt_feed.specs.declared.feeding.FeedEnd.TheVariants.{Whole}
use Rattle.dt_feed.specs.Ends.{ArePoppedOf, PoppedEndMeansAll}
use Rattle.dt_lane.specs.declared.ends.HartEnd.{HartEnd}
use Rattle.dt_lane.specs.Lanes.{IsJudgedBy, IsLane, IsPopped, LaneView, is_done, is_judged}
use Rattle.dt_settled.specs.AllWrites.{AreAllWrites}
use Rattle.dt_shared.specs.Entries.{notes_in}
use Rattle.dt_shared.specs.Passes.{PassState, new_pass}
use Rattle.dt_joined.specs.Ends.{AreJoinedHarts, IsJoinedHart}
use Rattle.dt_worker.specs.declared.ends.WorkerEnd.{WorkerEnd}
use Rattle.dt_worker.specs.Ends.{IsHartEnd, IsWorkerEnd, has_finished}
use Rattle.dt_worker.specs.Workers.{IsNewLane, IsNewWorker, WorkerView}
use Rattle.dt_pool.specs.Joining.{HaveRun, IsMet, IsPaired}
use Rattle.dt_pool.specs.Opening.{AreOpened, IsHand, IsHanded}
use Rattle.dt_pool.specs.Starting.{AreEnds}
use Rattle.dt_pool.proofs.Ended.{as_many_ends, end_at}

-- ---- lists of lists

some_of : {X : Type 0} (xs : List X) (k : ℕ) → k < length xs → X
some_of [] k within = absurd (omega (arith, within))
some_of (x ∷ xs) k within = x

All-flat_map : {X Y : Type 0} (P : Y → Type 0) (f : X → List Y) (xs : List X)
    → ((k : ℕ) (x : X) → k < length xs → All P (f (get_or xs k x))) → All P (flat_map f xs)
All-flat_map P f [] each = All-nil P
All-flat_map P f (x ∷ xs) each =
    All-append P (f x) (flat_map f xs) (each zero x (omega arith))
    (All-flat_map P f xs (λ k y within. each (suc k) y (omega (arith, within))))

Any-left : {X : Type 0} (P : X → Type 0) (xs ys : List X) → Any P xs → Any P (xs ++ ys)
Any-left P xs ys (k, x, within, is, holds) =
    (k, x, omega (arith, within, length-append xs ys), get_or_append_left xs ys x k within ∙ is, holds)

Any-right : {X : Type 0} (P : X → Type 0) (xs ys : List X) → Any P ys → Any P (xs ++ ys)
Any-right P xs ys (k, x, within, is, holds) =
    (length xs + k, x, omega (arith, within, length-append xs ys), get_or-append-add xs ys k x ∙ is, holds)

Any-flat_map : {X Y : Type 0} (P : Y → Type 0) (f : X → List Y) (xs : List X) (k : ℕ) (x : X) → k < length xs
    → Any P (f (get_or xs k x)) → Any P (flat_map f xs)
Any-flat_map P f [] k x within any = absurd (omega (arith, within))
Any-flat_map P f (y ∷ xs) zero x within any = Any-left P (f y) (flat_map f xs) any
Any-flat_map P f (y ∷ xs) (suc k) x within any =
    Any-right P (f y) (flat_map f xs) (Any-flat_map P f xs k x (omega (arith, within)) any)

-- ---- one worker

-- a new worker with this number, and its end
pub record IsEndOf (image : List ℕ) (wide : Bool) (harts : ℕ) (id : TableId) (workers : ℕ) (first : List Feed) (number : ℕ)
    (e : WorkerEnd) : Type 0 where
  pub worker : WorkerView
  pub handed : List (ℕ × Take)
  pub hand : IsHand workers harts first number handed
  pub new : IsNewWorker harts wide image (new_pass id number) handed worker
  pub ended : IsWorkerEnd worker e

pub end_of : (image : List ℕ) (wide : Bool) (harts : ℕ) (id : TableId) (workers : ℕ) (first : List Feed) (made : List WorkerView)
    (ends : List WorkerEnd) → AreOpened image wide harts id workers first made → AreEnds made ends
    → (number : ℕ) (e : WorkerEnd) → number < workers → IsEndOf image wide harts id workers first number (get_or ends number e)
end_of image wide harts id workers first made ends o are number e within =
    let passes_in : number < length o.passes = omega (arith, within, o.in_order.size) in
    let hands_in : number < length o.hands = omega (arith, within, o.are_hands.size) in
    let made_in : number < length made = omega (arith, passes_in, o.are_made.size) in
    let w = some_of made number made_in in
    let p = some_of o.passes number passes_in in
    let hand = some_of o.hands number hands_in in
    record {
      worker = get_or made number w;
      handed = (get_or o.hands number hand).items;
      hand = o.are_hands.each number hand within;
      new = subst (λ (q : PassState). IsNewWorker harts wide image q (get_or o.hands number hand).items (get_or made number w))
          (o.in_order.each number p within) (o.are_made.each number p hand w passes_in);
      ended = end_at made ends are number w e made_in;
    }

-- the pass of a worker has its number
number_is : (image : List ℕ) (wide : Bool) (harts : ℕ) (id : TableId) (workers : ℕ) (first : List Feed) (number : ℕ) (e : WorkerEnd)
    → IsEndOf image wide harts id workers first number e → e.pass.number ≡ number
number_is image wide harts id workers first number e b = b.ended.pass.number ∙ ap (λ (p : PassState). p.number) b.new.pass_is

pass_of : (image : List ℕ) (wide : Bool) (harts : ℕ) (id : TableId) (workers : ℕ) (first : List Feed) (number : ℕ) (e : WorkerEnd)
    → IsEndOf image wide harts id workers first number e → e.pass.of ≡ id
pass_of image wide harts id workers first number e b = b.ended.pass.of ∙ ap (λ (p : PassState). p.of) b.new.pass_is

-- a worker tells nothing of a hart that does not go to it
silent_worker : (image : List ℕ) (wide : Bool) (harts : ℕ) (id : TableId) (workers : ℕ) (first : List Feed) (number : ℕ) (e : WorkerEnd)
    → IsEndOf image wide harts id workers first number e → (hart : ℕ) → (hart < harts → hart % workers ≡ number → ⊥)
    → own_notes hart e.pass.own ≡ []
silent_worker image wide harts id workers first number e b hart other =
    b.ended.no_other hart (λ k l within same.
    let k_in : k < length b.handed = omega (arith, within, b.new.lanes.size) in
    let t = some_of b.handed k k_in in
    let handed : IsHanded workers harts first number (get_or b.handed k t) = b.hand.each k t k_in in
    let new : IsNewLane (get_or b.handed k t) (get_or b.worker.lanes k l) = b.new.lanes.each k t l k_in in
    let its : (get_or b.handed k t).0 ≡ hart = sym (ap (λ v. v.hart) new.intake) ∙ same in
    other (subst (λ h. h < harts) its handed.within) (ap (λ h. h % workers) (sym its) ∙ handed.its))

-- ---- one hart

-- what came of one hart of a worker, with the end of its queue
pub record IsHartOf (image : List ℕ) (wide : Bool) (harts workers : ℕ) (first : List Feed) (number : ℕ) (finished : Bool)
    (pass : PassState) (t : ℕ × Take) (e : HartEnd) : Type 0 where
  pub lane : LaneView
  pub is_lane : IsLane lane
  pub within : lane.intake.hart < harts
  pub its : lane.intake.hart % workers ≡ number
  pub take_hart : t.0 ≡ lane.intake.hart
  pub queue : (f : Feed) → take_queue t.1 ≡ feed_queue (get_or first lane.intake.hart f)
  pub popped : taken t.1 ≡ lane.popped
  pub hart : e.hart ≡ lane.intake.hart
  pub taken_are : e.taken.items ≡ lane.intake.taken
  pub told : IsTold lane.intake pass.own
  pub judged : (all : List Write) → AreAllWrites image harts (notes_in pass.seen) all → IsJudgedBy lane image wide all
  pub outcome_is : e.outcome ≡ outcome_in lane.run
  pub notes_are : e.notes.items ≡ lane.run.notes
  pub done : finished ≡ true → IsTrue (is_done lane)

judged_of_file : (w : WorkerView) (image : List ℕ) (wide : Bool) (harts : ℕ) (pass : PassState) (l : LaneView)
    → w.image ≡ image → w.harts ≡ harts → w.wide ≡ wide
    → ((all : List Write) → AreAllWrites w.image w.harts (notes_in pass.seen) all → IsJudgedBy l w.image w.wide all)
    → (all : List Write) → AreAllWrites image harts (notes_in pass.seen) all → IsJudgedBy l image wide all
judged_of_file w image wide harts pass l image_is harts_are wide_is judged all are =
    subst (λ i. IsJudgedBy l i wide all) image_is
    (subst (λ (b : Bool). IsJudgedBy l w.image b all) wide_is
    (judged all
    (subst (λ i. AreAllWrites i w.harts (notes_in pass.seen) all) (sym image_is)
    (subst (λ h. AreAllWrites image h (notes_in pass.seen) all) (sym harts_are) are))))

hart_of : (image : List ℕ) (wide : Bool) (harts : ℕ) (id : TableId) (workers : ℕ) (first : List Feed) (number : ℕ) (e : WorkerEnd)
    → IsEndOf image wide harts id workers first number e → (k : ℕ) (t : ℕ × Take) (h : HartEnd) → k < length e.harts.items
    → IsHartOf image wide harts workers first number (has_finished e) e.pass (get_or e.takes.items k t) (get_or e.harts.items k h)
hart_of image wide harts id workers first number e b k t h within =
    let lane_in : k < length b.worker.lanes = omega (arith, within, b.ended.harts) in
    let hand_in : k < length b.handed = omega (arith, lane_in, b.new.lanes.size) in
    let l = some_of b.worker.lanes k lane_in in
    let t0 = get_or b.handed k t in
    let l0 = get_or b.worker.lanes k l in
    let handed : IsHanded workers harts first number t0 = b.hand.each k t hand_in in
    let new : IsNewLane t0 l0 = b.new.lanes.each k t l hand_in in
    let end : IsHartEnd b.worker e.pass (has_finished e) l0 (get_or e.takes.items k t) (get_or e.harts.items k h) = b.ended.each k l t h lane_in in
    let same : end.lane.intake.hart ≡ t0.0 = end.same_hart ∙ ap (λ v. v.hart) new.intake in
    record {
      lane = end.lane;
      is_lane = end.is_lane;
      within = subst (λ n. n < harts) (sym same) handed.within;
      its = ap (λ n. n % workers) same ∙ handed.its;
      take_hart = end.take_hart ∙ sym end.same_hart;
      queue = λ f. end.queue ∙ new.queue ∙ handed.queue f ∙ ap (λ n. feed_queue (get_or first n f)) (sym same);
      popped = end.popped;
      hart = end.hart ∙ sym end.same_hart;
      taken_are = end.taken_are;
      told = end.told;
      judged = judged_of_file b.worker image wide harts e.pass end.lane b.new.image_is b.new.harts_are b.new.wide_is end.judged;
      outcome_is = end.outcome_is;
      notes_are = end.notes_are;
      done = end.done;
    }

-- ---- its queue

pub paired : (image : List ℕ) (wide : Bool) (harts : ℕ) (id : TableId) (told : Option (List Next)) (p : Progress) (feeds : List Feed)
    (ends : List WorkerEnd) (feeder : PassState) → HaveRun image wide harts id told p feeds ends feeder
    → All (λ e. All (IsPaired feeds) e.takes.items) ends
paired image wide harts id told p feeds ends feeder run number e within =
    let o = run.opened in
    let size = as_many_ends run.made ends run.ended in
    let number_in : number < run.workers = omega (arith, within, size, o.are_made.size, o.in_order.size) in
    let b = end_of image wide harts id run.workers run.first run.made ends o run.ended number e number_in in
    λ k t k_in.
    let end = get_or ends number e in
    let hart_in : k < length end.harts.items = omega (arith, k_in, b.ended.takes, b.ended.harts) in
    let h = some_of end.harts.items k hart_in in
    let j = hart_of image wide harts id run.workers run.first number end b k t h hart_in in
    let take = get_or end.takes.items k t in
    let there : j.lane.intake.hart < length run.first = omega (arith, j.within, o.are_hands.queues) in
    record {
      within = subst (λ n. n < length feeds) (sym j.take_hart) (omega (arith, there, run.whole.parts.size));
      queue = λ f.
          j.queue f ∙ sym (run.whole.parts.queues j.lane.intake.hart f there) ∙ ap (λ n. feed_queue (get_or feeds n f)) (sym j.take_hart);
    }

are_popped : (ended : Bool) (taken popped : List Record) → IsPopped ended taken popped → ArePoppedOf ended taken popped
are_popped false taken popped is = is.open_still refl
are_popped true taken popped is = is.over refl

ended_of_done : (ended whole news judged : Bool) → IsTrue ((ended && whole) && (not news && judged)) → ended ≡ true
ended_of_done true whole news judged done = refl
ended_of_done false whole news judged done = cc

-- ---- and together

-- all passes: those of the workers, and the feeder's
abbrev pub all_passes : List WorkerEnd → PassState → List PassState
all_passes ends feeder = map (λ (e : WorkerEnd). e.pass) ends ++ feeder ∷ []

-- what holds of each worker's end and of the feeder's pass
of_passes : (P : PassState → Type 0) (ends : List WorkerEnd) (feeder : PassState)
    → ((k : ℕ) (e : WorkerEnd) → k < length ends → P (get_or ends k e).pass) → P feeder → All P (all_passes ends feeder)
of_passes P ends feeder each last = All-push P (map (λ (e : WorkerEnd). e.pass) ends) feeder (All-map P (λ (e : WorkerEnd). e.pass) ends each) last

pass_there : (ends : List WorkerEnd) (feeder : PassState) (k : ℕ) (e : WorkerEnd) → k < length ends
    → Contains (all_passes ends feeder) (get_or ends k e).pass
pass_there ends feeder k e within =
    Contains-append_left (map (λ (e : WorkerEnd). e.pass) ends) (feeder ∷ []) (get_or ends k e).pass
    (k, omega (arith, within, length-map ends (λ (e : WorkerEnd). e.pass)), get_or-map (λ (e : WorkerEnd). e.pass) ends k e (get_or ends k e).pass within)

pub joined_harts : PoppedEndMeansAll → (image : List ℕ) (wide : Bool) (harts : ℕ) (id : TableId) (told : Option (List Next)) (p : Progress)
    (feeds : List Feed) (ends : List WorkerEnd) (feeder : PassState) → harts ≤ 8
    → (run : HaveRun image wide harts id told p feeds ends feeder) → All (λ e. has_finished e ≡ true) ends
    → All (λ e. All (IsMet feeds) e.takes.items) ends
    → AreJoinedHarts image wide harts run.whole.given (all_passes ends feeder) (flat_map (λ e. e.harts.items) ends)
joined_harts law image wide harts id told p feeds ends feeder few run finished met =
    let o = run.opened in
    let given = run.whole.given in
    let passes = all_passes ends feeder in
    let workers = run.workers in
    let size = as_many_ends run.made ends run.ended in
    let count : length ends ≡ workers = size ∙ o.are_made.size ∙ o.in_order.size in
    let end_at : (number : ℕ) (e : WorkerEnd) → number < length ends → IsEndOf image wide harts id workers run.first number (get_or ends number e)
    = λ number e within. end_of image wide harts id workers run.first run.made ends o run.ended number e (omega (arith, within, count)) in
    let idle : (hart : ℕ) → own_notes hart feeder.own ≡ [] = λ hart. ap (λ (q : PassState). own_notes hart q.own) run.idle in
    record {
      each = All-flat_map (IsJoinedHart image wide harts given passes) (λ e. e.harts.items) ends (λ number e within k h k_in.
          let end = get_or ends number e in
          let b : IsEndOf image wide harts id workers run.first number end = end_at number e within in
          let take_in : k < length end.takes.items = omega (arith, k_in, b.ended.takes, b.ended.harts) in
          let t = some_of end.takes.items k take_in in
          let j : IsHartOf image wide harts workers run.first number (has_finished end) end.pass (get_or end.takes.items k t) (get_or end.harts.items k h)
          = hart_of image wide harts id workers run.first number end b k t h k_in in
          let l = j.lane in
          let hart = l.intake.hart in
          let there : hart < length run.first = omega (arith, j.within, o.are_hands.queues) in
          let f = some_of run.first hart there in
          let done : IsTrue (is_done l) = j.done (finished number e within) in
          let left = met number e within k t take_in f in
          let all : l.popped ++ left.0 ≡ fed (get_or feeds hart f)
          = ap (λ rs. rs ++ left.0) (sym j.popped) ∙ left.1 ∙ ap (λ n. fed (get_or feeds n f)) j.take_hart in
          let has = law Whole told p wide run.first feeds run.whole hart f l.intake.ended l.intake.taken l.popped left.0 there
          (λ same. omega (arith, same, j.within, few)) (o.are_hands.unfed hart f there) all j.is_lane.popped.plain
          (are_popped l.intake.ended l.intake.taken l.popped j.is_lane.popped) in
          record {
            lane = l;
            pass = end.pass;
            its_pass = pass_there ends feeder number e within;
            is_lane = j.is_lane;
            hart = j.hart;
            all_taken = (has.all (ended_of_done l.intake.ended _ (has_news l.intake) (is_judged l) done)).1;
            taken_are = j.taken_are;
            told = j.told;
            others = of_passes (λ q. q.number ≢ end.pass.number → own_notes hart q.own ≡ []) ends feeder
                (λ m d m_in apart.
                let c : IsEndOf image wide harts id workers run.first m (get_or ends m d) = end_at m d m_in in
                silent_worker image wide harts id workers run.first m (get_or ends m d) c hart (λ below its.
                apart (number_is image wide harts id workers run.first m (get_or ends m d) c ∙ sym its ∙ j.its
                ∙ sym (number_is image wide harts id workers run.first number end b))))
                (λ apart. idle hart);
            judged = j.judged;
            outcome_is = j.outcome_is;
            notes_are = j.notes_are;
            done = done;
          });
      all_harts = λ hart below.
          let number = hart % workers in
          let number_in : number < length ends = omega (arith, count, o.some, mod-lt hart {m = workers} (omega (arith, o.some))) in
          let e = some_of ends number number_in in
          let end = get_or ends number e in
          let b : IsEndOf image wide harts id workers run.first number end = end_at number e number_in in
          let one = b.hand.all hart below refl in
          let k = one.0 in
          let k_in : k < length end.harts.items = omega (arith, one.2, b.ended.harts, b.new.lanes.size) in
          let lane_in : k < length b.worker.lanes = omega (arith, k_in, b.ended.harts) in
          let h = some_of end.harts.items k k_in in
          let l = some_of b.worker.lanes k lane_in in
          let ended = b.ended.each k l one.1 h lane_in in
          let new : IsNewLane (get_or b.handed k one.1) (get_or b.worker.lanes k l) = b.new.lanes.each k one.1 l one.2 in
          let its : (get_or end.harts.items k h).hart ≡ hart
          = ended.hart ∙ ap (λ v. v.hart) new.intake ∙ ap (λ (t : ℕ × Take). t.0) one.3 ∙ one.4 in
          Any-flat_map (λ (e : HartEnd). e.hart ≡ hart) (λ (e : WorkerEnd). e.harts.items) ends number e number_in
          (k, get_or end.harts.items k h, k_in, get_or_default end.harts.items k (get_or end.harts.items k h) h k_in, its);
      no_other = λ hart above. of_passes (λ q. own_notes hart q.own ≡ []) ends feeder
          (λ m d m_in.
          silent_worker image wide harts id workers run.first m (get_or ends m d) (end_at m d m_in) hart (λ below its. omega (arith, below, above)))
          (idle hart);
    }

-- the passes are all of the shared record
pub all_of_this : (image : List ℕ) (wide : Bool) (harts : ℕ) (id : TableId) (told : Option (List Next)) (p : Progress) (feeds : List Feed)
    (ends : List WorkerEnd) (feeder : PassState) → HaveRun image wide harts id told p feeds ends feeder
    → All (λ q. q.of ≡ id) (all_passes ends feeder)
all_of_this image wide harts id told p feeds ends feeder run =
    let o = run.opened in
    let count : length ends ≡ run.workers = as_many_ends run.made ends run.ended ∙ o.are_made.size ∙ o.in_order.size in
    of_passes (λ q. q.of ≡ id) ends feeder
    (λ k e within.
    pass_of image wide harts id run.workers run.first k (get_or ends k e)
    (end_of image wide harts id run.workers run.first run.made ends o run.ended k e (omega (arith, within, count))))
    (ap (λ (q : PassState). q.of) run.idle)

-- all records of the file came, and each to its hart
pub came_of : (image : List ℕ) (wide : Bool) (harts : ℕ) (id : TableId) (told : Option (List Next)) (p : Progress) (feeds : List Feed)
    (ends : List WorkerEnd) (feeder : PassState) → (run : HaveRun image wide harts id told p feeds ends feeder)
    → HasCome told p harts wide run.whole.given
came_of image wide harts id told p feeds ends feeder run =
    subst (λ n. HasCome told p n wide run.whole.given) run.opened.are_hands.queues (run.whole.whole refl).0

-- the workers are of the shared record
pub made_of_this : (image : List ℕ) (wide : Bool) (harts : ℕ) (id : TableId) (workers : ℕ) (first : List Feed) (made : List WorkerView)
    → AreOpened image wide harts id workers first made → All (λ w. w.pass.of ≡ id) made
made_of_this image wide harts id workers first made o k w within =
    let passes_in : k < length o.passes = omega (arith, within, o.are_made.size) in
    let workers_in : k < workers = omega (arith, passes_in, o.in_order.size) in
    let hands_in : k < length o.hands = omega (arith, workers_in, o.are_hands.size) in
    let p = some_of o.passes k passes_in in
    let new = o.are_made.each k p (some_of o.hands k hands_in) w passes_in in
    ap (λ (p : PassState). p.of) (new.pass_is ∙ o.in_order.each k p workers_in)

-- there is an end for each of them
pub ends_count : (image : List ℕ) (wide : Bool) (harts : ℕ) (id : TableId) (workers : ℕ) (first : List Feed) (made : List WorkerView)
    (ends : List WorkerEnd) → AreOpened image wide harts id workers first made → AreEnds made ends → length ends ≡ workers
ends_count image wide harts id workers first made ends o are = as_many_ends made ends are ∙ o.are_made.size ∙ o.in_order.size

-- the joined harts of the lists that were gathered
pub gathered_harts : PoppedEndMeansAll → (image : List ℕ) (wide : Bool) (harts : ℕ) (id : TableId) (told : Option (List Next)) (p : Progress)
    (feeds : List Feed) (ends : List WorkerEnd) (feeder : PassState) (passes : List PassState) (of_harts : List HartEnd) → harts ≤ 8
    → (run : HaveRun image wide harts id told p feeds ends feeder) → All (λ e. has_finished e ≡ true) ends
    → All (λ e. All (IsMet feeds) e.takes.items) ends → passes ≡ all_passes ends feeder → of_harts ≡ flat_map (λ e. e.harts.items) ends
    → AreJoinedHarts image wide harts run.whole.given passes of_harts
gathered_harts law image wide harts id told p feeds ends feeder passes of_harts few run finished met passes_are harts_are =
    subst (λ (ps : List PassState). AreJoinedHarts image wide harts run.whole.given ps of_harts) (sym passes_are)
    (subst (λ (hs : List HartEnd). AreJoinedHarts image wide harts run.whole.given (all_passes ends feeder) hs) (sym harts_are)
    (joined_harts law image wide harts id told p feeds ends feeder few run finished met))

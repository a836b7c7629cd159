-- Each kind of atomic step is allowed by the table, since it keeps the rule.
use Rattle.std.proofs.Common.{◌≡◌, ◌≢◌, ℕ, ◌+◌, ◌%◌, ◌^◌, ◌<◌, ◌≤◌, ◌==◌, ◌||◌, ◌⊎◌, not, Bool, true, false, List, [], ◌∷◌, ◌++◌, All, drop, set, get_or, length, sym, refl, ap, ◌∙◌, subst, inl, inr, arith, length-append, bit_or, eq-eqb}
use Rattle.std.proofs.lemmas.List.{append-nil}
use Rattle.std.proofs.lemmas.List.Elements.{All-head}
use Rattle.std.proofs.Math.Seq.{drop-append_seam}
use Rattle.std.proofs.lemmas.Nat.{le_or_r}
use mathlib.Core.Logic.{dite}
use mathlib.Core.Option.{some, none}
use mathlib.Core.List.{IsPrefix}
use native.Mathlib.Decide.{ℕ_discrete}
use lib.ListN.{get_elem?}
use Rattle.atomic_table.specs.Table.{State, Act, keeps, takes, gives, Valid, carried_after, stepped, Allows, Splits, Joins}
use Rattle.atomic_table.proofs.Lists.{set_again, set_else}
use Rattle.dt_record.specs.declared.writes.Note.{Note}
use Rattle.dt_shared.specs.declared.entries.Entry.{Entry}
use Rattle.dt_shared.specs.declared.views.Known.{Known}
use Rattle.dt_shared.specs.declared.views.View.{View}
use Rattle.dt_shared.specs.Entries.{notes_in, entries_of}
use Rattle.dt_shared.specs.Views.{newcomer, one_if, at_rest, waiting, holding, total, tally, in_line}
use Rattle.dt_shared.specs.Moments.{Stored, Home, Words, word_list, Lined, AccountStands, Moment, Holds}
use Rattle.dt_shared.specs.Turns.{Rests, HasTurn}
use Rattle.dt_shared.specs.Steps.{Seated, Agrees, Draws, Comes, published, Publishes, looked, Looks, Leaves, maker, made_pass, joined, spent, halted, Stops, asked, Asks}
use Rattle.dt_shared.proofs.Totals.{total_below, tally_count}
use Rattle.dt_shared.proofs.Histories.{prefix_itself, notes_in-entries_of, length-entries_of}
use Rattle.dt_shared.proofs.Lines.{draws, comes_up, takes_slot, leaves, holds_on, rests_on, more_rest}
use Rattle.dt_shared.proofs.Accounts.{same_passes, one_step, stopped_halts, makes_pass, joins}

abbrev board : Words → Home → List View → State Stored View
board w home views = record { words = word_list w; homes = home ∷ []; views = views }

-- what holds of every board that keeps the rule holds of every table that keeps it
on_board : (P : State Stored View → Type 0) (most : ℕ) (s : State Stored View) → Holds most s → ((w : Words) (home : Home) (views : List View) → Moment most w home views → P (board w home views)) → P s
on_board P most s h all = let e : board h.words h.home s.views ≡ s = λ i. record { words = sym h.has_words i; homes = sym h.has_slot i; views = s.views } in subst P e (all h.words h.home s.views h.moment)

kept_board : (most : ℕ) (w : Words) (home : Home) (views : List View) → Moment most w home views → Holds most (board w home views)
kept_board most w home views m = record { words = w; home = home; has_words = refl; has_slot = refl; moment = m }

-- what a step at a board has to show
abbrev Goes : ℕ → State Stored View → ℕ → ℕ → Seated → (ℕ → ℕ) → (ℕ → Seated → Type 0) → Type 0
Goes most s i id me f then = get_elem? s.views id ≡ some me.0 → (w : View) × (a : Act Stored) × Valid s.homes me.1 a × Holds most (stepped s i (f (get_or s.words i 0)) id me.1 w a) × then (get_or s.words i 0) (w, carried_after me.1 a)

allowed : (most slots id i : ℕ) (me : Seated) (f : ℕ → ℕ) (then : ℕ → Seated → Type 0) → ((w : Words) (home : Home) (views : List View) → Moment most w home views → Goes most (board w home views) i id me f then)
    → Allows (Holds most) slots id me i f then
allowed most slots id i me f then all s h sized at small = on_board (λ x. Goes most x i id me f then) most s h all at

-- fewer than 2^64 seats stand in the line
few_in_line : (most : ℕ) (w : Words) (home : Home) (views : List View) → Moment most w home views → total in_line views < 2 ^ 64
few_in_line most w home views m =
    let a = total_below in_line (λ v. tally (λ _. 1) v.passes) views (λ seat v at. let h = m.line.in_person seat v at in let c = tally_count v.passes in omega arith) in
    let b = m.kept.all_made in let f = m.kept.few in let f0 = f.0 in let f1 = f.1 in omega arith

-- a seat draws a ticket
pub draws_allowed : (most slots id : ℕ) (passes : List Known) (made : ℕ) → 0 < length passes
    → Allows (Holds most) slots id (at_rest passes made, []) 0 (λ n. (n + 1) % 2 ^ 64) (Draws (at_rest passes made, []))
draws_allowed most slots id passes made some_pass = allowed most slots id 0 (at_rest passes made, []) (λ n. (n + 1) % 2 ^ 64) (Draws (at_rest passes made, []))
    (λ w home views m at. let t : ℕ = m.front + total in_line views in let v : View = waiting passes made t in (
      v,
      keeps,
      tt,
      kept_board most (record w { ticket = (w.ticket + 1) % 2 ^ 64 }) home (set views id v) record {
        front = m.front;
        history = m.history;
        made = m.made;
        line = draws m.front m.history w.ticket w.serving home views id passes made m.line at some_pass;
        kept = same_passes most m.made m.history w.count w.halt views id (at_rest passes made) at m.kept v refl refl;
      },
      (t, refl, m.line.drawn),
    ))

-- a step that changes nothing
unmoved : (most : ℕ) (w : Words) (home : Home) (views : List View) (id : ℕ) (v : View) → get_elem? views id ≡ some v → Moment most w home views → Holds most (board w home (set views id v))
unmoved most w home views id v at m = subst (λ (vs : List View). Holds most (board w home vs)) (sym (set_again views id v at)) (kept_board most w home views m)

-- what the passes of a seat know is true of the history
fits_all : (most : ℕ) (w : Words) (home : Home) (views : List View) (m : Moment most w home views) (id : ℕ) (v : View) → get_elem? views id ≡ some v → All (Agrees m.history) v.passes
fits_all most w home views m id v at i d l = record { seen = m.kept.seen id v at i d l; own = m.kept.own id v at i d l }

-- a seat that waits reads which ticket is served, and takes the slot where it is its own
pub comes_allowed : (most slots id : ℕ) (passes : List Known) (made t : ℕ) → Allows (Holds most) slots id (waiting passes made t, []) 1 (λ n. n) (Comes (waiting passes made t, []))
comes_allowed most slots id passes made t = allowed most slots id 1 (waiting passes made t, []) (λ n. n) (Comes (waiting passes made t, []))
    (λ w home views m at. dite (ℕ_discrete w.serving (t % 2 ^ 64))
    (λ served. let up = comes_up m.front m.history w.ticket w.serving home views id passes made m.line t at served (few_in_line most w home views m) in
    let list : Stored = up.1.0 in let is : home ≡ some list = up.1.1 in let v : View = holding passes made t list.items in (
      v,
      takes 0 list,
      ap some is,
      kept_board most w none (set views id v) record {
        front = m.front;
        history = m.history;
        made = m.made;
        line = subst (λ (xs : List Entry). Lined m.front m.history w.ticket w.serving none (set views id (holding passes made t xs))) (sym up.1.2)
            (takes_slot m.front m.history w.ticket w.serving home views id passes made m.line t list at up.0 is);
        kept = same_passes most m.made m.history w.count w.halt views id (waiting passes made t) at m.kept v refl refl;
      },
      ((λ _. (list, refl, subst (λ (xs : List Entry). All (Agrees xs) passes) (sym up.1.2) (fits_all most w home views m id (waiting passes made t) at))), (λ other. absurd (other served))),
    ))
    (λ other. (waiting passes made t, keeps, tt, unmoved most w home views id (waiting passes made t) at m, ((λ served. absurd (other served)), λ _. refl))))

-- the one that has the slot makes what it added part of the history
pub publishes_allowed : (most slots id : ℕ) (k : Known) (made t : ℕ) (xs : List Entry) (list : Stored) (notes : List Note) (n : ℕ) → list.items ≡ xs ++ entries_of k.number notes → n ≡ length notes → length list.items < 2 ^ 64
    → Allows (Holds most) slots id (holding (k ∷ []) made t xs, (0, list) ∷ []) 2 (λ c. (c + n) % 2 ^ 64) (Publishes (holding (k ∷ []) made t xs, (0, list) ∷ []))
publishes_allowed most slots id k made t xs list notes n added many small =
    let me : Seated = (holding (k ∷ []) made t xs, (0, list) ∷ []) in allowed most slots id 2 me (λ c. (c + n) % 2 ^ 64) (Publishes me)
    (λ w home views m at. let k' : Known = published me k in let v : View = holding (k' ∷ []) made t list.items in
    let line = holds_on m.front m.history w.ticket w.serving home views id (k ∷ []) made m.line t xs list.items (k' ∷ []) at (omega arith) in
    let all : list.items ≡ m.history ++ entries_of k.number notes = added ∙ ap (λ ys. ys ++ entries_of k.number notes) line.0 in
    let new : notes_in (drop (length xs) list.items) ≡ notes = ap (λ ys. notes_in (drop (length xs) ys)) added ∙ (ap notes_in (drop-append_seam xs (entries_of k.number notes)) ∙ notes_in-entries_of k.number notes) in
    let longer = ap length all in let sum = length-append m.history (entries_of k.number notes) in let own = length-entries_of k.number notes in let count = m.kept.counted in (
      v,
      keeps,
      tt,
      kept_board most (record w { count = (w.count + n) % 2 ^ 64 }) home (set views id v) record {
        front = m.front;
        history = list.items;
        made = m.made;
        line = line.1;
        kept = subst (λ (ys : List Entry). AccountStands most m.made ys ((w.count + n) % 2 ^ 64) w.halt (set views id v)) (sym all)
            (one_step most m.made m.history w.count w.halt views id (holding (k ∷ []) made t xs) at k k' refl refl m.kept notes ((w.count + n) % 2 ^ 64) w.halt v refl refl
            (omega arith) (subst (IsPrefix list.items) all (prefix_itself list.items)) (ap (λ ys. k.own ++ ys) new) (λ z. z) (All-head (λ (p : Known). p.saw_stop ≡ true → w.halt ≢ 0) k [] (m.kept.saw id (holding (k ∷ []) made t xs) at))
            (stopped_halts most m.made m.history w.count w.halt views id (holding (k ∷ []) made t xs) at k k' refl refl m.kept) (omega arith) (λ h. inl h));
      },
      refl,
    ))

-- a seat learns something, and no notes are added
learned : (most : ℕ) (w : Words) (home : Home) (views : List View) (m : Moment most w home views) (id : ℕ) (v u : View) (k k' : Known) (halt' : ℕ) → get_elem? views id ≡ some v → v.passes ≡ k ∷ [] → u.passes ≡ k' ∷ [] → u.made ≡ v.made
    → k'.number ≡ k.number → IsPrefix k'.seen m.history → k'.own ≡ k.own
    → (halt' ≡ 0 → w.halt ≡ 0) → (k'.saw_stop ≡ true → halt' ≢ 0) → (k'.stopped ≡ true → halt' ≢ 0) → one_if k.stopped ≤ one_if k'.stopped → (halt' ≢ 0 → (w.halt ≢ 0) ⊎ (one_if k'.stopped ≡ 1))
    → AccountStands most m.made m.history w.count halt' (set views id u)
learned most w home views m id v u k k' halt' at mine now makes number seen own runs saw stops stays why =
    let same : m.history ++ [] ≡ m.history = append-nil m.history in
    subst (λ (ys : List Entry). AccountStands most m.made ys w.count halt' (set views id u)) same
    (one_step most m.made m.history w.count w.halt views id v at k k' mine number m.kept [] w.count halt' u now makes (m.kept.counted ∙ ap length (sym same)) (subst (IsPrefix k'.seen) (sym same) seen)
    (own ∙ sym (append-nil k.own)) runs saw stops stays why)

-- the one that has the slot looks
pub looks_allowed : (most slots id : ℕ) (k : Known) (made t : ℕ) (xs : List Entry) (list : Stored)
    → Allows (Holds most) slots id (holding (k ∷ []) made t xs, (0, list) ∷ []) 2 (λ n. n) (Looks (holding (k ∷ []) made t xs, (0, list) ∷ []))
looks_allowed most slots id k made t xs list =
    let me : Seated = (holding (k ∷ []) made t xs, (0, list) ∷ []) in allowed most slots id 2 me (λ n. n) (Looks me)
    (λ w home views m at. let k' : Known = looked me k in let v : View = holding (k' ∷ []) made t xs in
    let line = holds_on m.front m.history w.ticket w.serving home views id (k ∷ []) made m.line t xs xs (k' ∷ []) at (omega arith) in (
      v,
      keeps,
      tt,
      kept_board most w home (set views id v) record {
        front = m.front;
        history = m.history;
        made = m.made;
        line = subst (λ (ys : List Entry). Lined m.front ys w.ticket w.serving home (set views id v)) line.0 line.1;
        kept = learned most w home views m id (holding (k ∷ []) made t xs) v k k' w.halt at refl refl refl refl (subst (IsPrefix xs) line.0 (prefix_itself xs)) refl (λ z. z)
            (All-head (λ (p : Known). p.saw_stop ≡ true → w.halt ≢ 0) k [] (m.kept.saw id (holding (k ∷ []) made t xs) at))
            (stopped_halts most m.made m.history w.count w.halt views id (holding (k ∷ []) made t xs) at k k' refl refl m.kept) (omega arith) (λ h. inl h);
      },
      refl,
    ))

-- the one that has the slot gives it back
pub leaves_allowed : (most slots id : ℕ) (passes : List Known) (made t : ℕ) (xs : List Entry) (list : Stored) → list.items ≡ xs
    → Allows (Holds most) slots id (holding passes made t xs, (0, list) ∷ []) 1 (λ n. (n + 1) % 2 ^ 64) (Leaves (holding passes made t xs, (0, list) ∷ []))
leaves_allowed most slots id passes made t xs list same =
    let me : Seated = (holding passes made t xs, (0, list) ∷ []) in allowed most slots id 1 me (λ n. (n + 1) % 2 ^ 64) (Leaves me)
    (λ w home views m at. let v : View = at_rest passes made in (
      v,
      gives,
      tt,
      kept_board most (record w { serving = (w.serving + 1) % 2 ^ 64 }) (some list) (set views id v) record {
        front = m.front + 1;
        history = m.history;
        made = m.made;
        line = leaves m.front m.history w.ticket w.serving home views id passes made m.line t xs list at same;
        kept = same_passes most m.made m.history w.count w.halt views id (holding passes made t xs) at m.kept v refl refl;
      },
      refl,
    ))

-- a pass stops
pub stops_allowed : (most slots id : ℕ) (k : Known) (made : ℕ) → Allows (Holds most) slots id (at_rest (k ∷ []) made, []) 3 (λ n. bit_or n 1) (Stops (at_rest (k ∷ []) made, []))
stops_allowed most slots id k made =
    let me : Seated = (at_rest (k ∷ []) made, []) in allowed most slots id 3 me (λ n. bit_or n 1) (Stops me)
    (λ w home views m at. let k' : Known = halted k in let v : View = at_rest (k' ∷ []) made in
    let set-now : bit_or w.halt 1 ≢ 0 = λ z. let one = le_or_r w.halt 1 in omega arith in (
      v,
      keeps,
      tt,
      kept_board most (record w { halt = bit_or w.halt 1 }) home (set views id v) record {
        front = m.front;
        history = m.history;
        made = m.made;
        line = rests_on m.front m.history w.ticket w.serving home views id (k ∷ []) made m.line (k' ∷ []) made at;
        kept = learned most w home views m id (at_rest (k ∷ []) made) v k k' (bit_or w.halt 1) at refl refl refl refl
            (All-head (λ (p : Known). IsPrefix p.seen m.history) k [] (m.kept.seen id (at_rest (k ∷ []) made) at)) refl
            (λ z. absurd (set-now z)) (λ _. set-now) (λ _. set-now) (one_if_one k.stopped) (λ _. inr refl);
      },
      refl,
    ))
  where
    one_if_one : (b : Bool) → one_if b ≤ 1
    one_if_one true = omega arith
    one_if_one false = omega arith

-- a pass asks whether one has stopped
pub asks_allowed : (most slots id : ℕ) (k : Known) (made : ℕ) → Allows (Holds most) slots id (at_rest (k ∷ []) made, []) 3 (λ n. n) (Asks (at_rest (k ∷ []) made, []))
asks_allowed most slots id k made =
    let me : Seated = (at_rest (k ∷ []) made, []) in allowed most slots id 3 me (λ n. n) (Asks me)
    (λ w home views m at. let k' : Known = asked w.halt k in let v : View = at_rest (k' ∷ []) made in (
      v,
      keeps,
      tt,
      kept_board most w home (set views id v) record {
        front = m.front;
        history = m.history;
        made = m.made;
        line = rests_on m.front m.history w.ticket w.serving home views id (k ∷ []) made m.line (k' ∷ []) made at;
        kept = learned most w home views m id (at_rest (k ∷ []) made) v k k' w.halt at refl refl refl refl
            (All-head (λ (p : Known). IsPrefix p.seen m.history) k [] (m.kept.seen id (at_rest (k ∷ []) made) at)) refl
            (λ z. z) (seen_stop w.halt k.saw_stop (All-head (λ (p : Known). p.saw_stop ≡ true → w.halt ≢ 0) k [] (m.kept.saw id (at_rest (k ∷ []) made) at)))
            (stopped_halts most m.made m.history w.count w.halt views id (at_rest (k ∷ []) made) at k k' refl refl m.kept) (omega arith) (λ h. inl h);
      },
      refl,
    ))
  where
    seen_stop : (halt : ℕ) (saw : Bool) → (saw ≡ true → halt ≢ 0) → (saw || not (halt == 0)) ≡ true → halt ≢ 0
    seen_stop halt true was now z = was refl z
    seen_stop halt false was now z = let off : not (halt == 0) ≡ false = ap (λ b. not b) (eq-eqb halt 0 z) in cc

-- a pass is made
pub makes_allowed : (most id : ℕ) (k : Known) (made : ℕ) → 0 < made → made < most → Splits (Holds most) id (at_rest (k ∷ []) made) (maker (at_rest (k ∷ []) made)) (made_pass (at_rest (k ∷ []) made))
makes_allowed most id k made some_made room s h at =
    let v : View = at_rest (k ∷ []) made in
    on_board (λ x. get_elem? x.views id ≡ some v → Holds most record { words = x.words; homes = x.homes; views = set x.views id (maker v) ++ made_pass v ∷ [] }) most s h
    (λ w home views m at'. kept_board most w home (set views id (maker v) ++ made_pass v ∷ []) record {
      front = m.front;
      history = m.history;
      made = m.made + 1;
      line = more_rest m.front m.history w.ticket w.serving home (set views id (maker v)) (newcomer made ∷ []) 0
          (rests_on m.front m.history w.ticket w.serving home views id (k ∷ []) made m.line (k ∷ []) (made + 1) at');
      kept = makes_pass most m.made m.history w.count w.halt views id v at' m.kept some_made room (maker v) (made_pass v) refl refl refl refl;
    }) at

-- a seat takes in another
pub joins_allowed : (most id : ℕ) (ks : List Known) (made other : ℕ) (ls : List Known) (made' : ℕ)
    → Joins (Holds most) id (at_rest ks made) other (at_rest ls made') (joined (at_rest ks made) (at_rest ls made')) spent
joins_allowed most id ks made other ls made' s h at apart there =
    let v : View = at_rest ks made in let u : View = at_rest ls made' in let both : View = joined v u in
    on_board (λ x. get_elem? x.views id ≡ some v → get_elem? (set x.views id both) other ≡ some u → Holds most record { words = x.words; homes = x.homes; views = set (set x.views id both) other spent }) most s h
    (λ w home views m at' there'. let was : get_elem? views other ≡ some u = sym (set_else views id other both apart) ∙ there' in kept_board most w home (set (set views id both) other spent) record {
      front = m.front;
      history = m.history;
      made = m.made;
      line = rests_on m.front m.history w.ticket w.serving home (set views id both) other ls made'
          (rests_on m.front m.history w.ticket w.serving home views id ks made m.line (ls ++ ks) (made + made') at') [] 0 there';
      kept = joins most m.made m.history w.count w.halt views id v at' m.kept other u apart was both spent refl refl refl refl;
    }) at there

-- the same for a seat that is known by an equation
pub draws_for : (most slots id : ℕ) (me : Seated) (k : Known) (made : ℕ) → Rests k made me → Allows (Holds most) slots id me 0 (λ n. (n + 1) % 2 ^ 64) (Draws me)
draws_for most slots id me k made rests = subst (λ (x : Seated). Allows (Holds most) slots id x 0 (λ n. (n + 1) % 2 ^ 64) (Draws x)) (sym rests) (draws_allowed most slots id (k ∷ []) made (omega arith))

pub comes_for : (most slots id : ℕ) (me : Seated) (passes : List Known) (made t : ℕ) → me ≡ (waiting passes made t, []) → Allows (Holds most) slots id me 1 (λ n. n) (Comes me)
comes_for most slots id me passes made t e = subst (λ (x : Seated). Allows (Holds most) slots id x 1 (λ n. n) (Comes x)) (sym e) (comes_allowed most slots id passes made t)

pub publishes_for : (most slots id : ℕ) (me : Seated) (k : Known) (made t : ℕ) (xs : List Entry) (list : Stored) (notes : List Note) (n : ℕ) → me ≡ (holding (k ∷ []) made t xs, (0, list) ∷ []) → list.items ≡ xs ++ entries_of k.number notes
    → n ≡ length notes → Allows (Holds most) slots id me 2 (λ c. (c + n) % 2 ^ 64) (Publishes me)
publishes_for most slots id me k made t xs list notes n e added many = subst (λ (x : Seated). Allows (Holds most) slots id x 2 (λ c. (c + n) % 2 ^ 64) (Publishes x)) (sym e)
    (publishes_allowed most slots id k made t xs list notes n added many (let ok = list.ok in let small = list.small in omega arith))

pub looks_for : (most slots id : ℕ) (me : Seated) (k : Known) (made t : ℕ) (xs : List Entry) → HasTurn k made t xs me → Allows (Holds most) slots id me 2 (λ n. n) (Looks me)
looks_for most slots id me k made t xs turn = subst (λ (x : Seated). Allows (Holds most) slots id x 2 (λ n. n) (Looks x)) (sym turn.2) (looks_allowed most slots id k made t xs turn.0)

pub leaves_for : (most slots id : ℕ) (me : Seated) (k : Known) (made t : ℕ) (xs : List Entry) → HasTurn k made t xs me → Allows (Holds most) slots id me 1 (λ n. (n + 1) % 2 ^ 64) (Leaves me)
leaves_for most slots id me k made t xs turn = subst (λ (x : Seated). Allows (Holds most) slots id x 1 (λ n. (n + 1) % 2 ^ 64) (Leaves x)) (sym turn.2) (leaves_allowed most slots id (k ∷ []) made t xs turn.0 turn.1)

pub stops_for : (most slots id : ℕ) (me : Seated) (k : Known) (made : ℕ) → Rests k made me → Allows (Holds most) slots id me 3 (λ n. bit_or n 1) (Stops me)
stops_for most slots id me k made rests = subst (λ (x : Seated). Allows (Holds most) slots id x 3 (λ n. bit_or n 1) (Stops x)) (sym rests) (stops_allowed most slots id k made)

pub asks_for : (most slots id : ℕ) (me : Seated) (k : Known) (made : ℕ) → Rests k made me → Allows (Holds most) slots id me 3 (λ n. n) (Asks me)
asks_for most slots id me k made rests = subst (λ (x : Seated). Allows (Holds most) slots id x 3 (λ n. n) (Asks x)) (sym rests) (asks_allowed most slots id k made)

pub makes_for : (most id : ℕ) (me : Seated) (k : Known) (made : ℕ) → Rests k made me → 0 < made → made < most → Splits (Holds most) id me.0 (maker me.0) (made_pass me.0)
makes_for most id me k made rests some_made room = subst (λ (x : Seated). Splits (Holds most) id x.0 (maker x.0) (made_pass x.0)) (sym rests) (makes_allowed most id k made some_made room)

pub joins_for : (most id : ℕ) (me : Seated) (ks : List Known) (made other : ℕ) (you : Seated) (ls : List Known) (made' : ℕ) → me ≡ (at_rest ks made, []) → you ≡ (at_rest ls made', [])
    → Joins (Holds most) id me.0 other you.0 (joined me.0 you.0) spent
joins_for most id me ks made other you ls made' e e' =
    subst (λ (x : Seated × Seated). Joins (Holds most) id x.0.0 other x.1.0 (joined x.0.0 x.1.0) spent) (λ i. (sym e i, sym e' i)) (joins_allowed most id ks made other ls made')

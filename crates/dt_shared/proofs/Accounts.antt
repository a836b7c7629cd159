-- Each step keeps the rule of what the passes know.
use Rattle.std.proofs.Common.{◌≡◌, ◌≢◌, ℕ, ◌+◌, ◌<◌, ◌≤◌, ◌==◌, Bool, true, false, nat_lt, cond, List, [], ◌∷◌, ◌++◌, filter, All, get_or, set, length, sym, refl, ap, ◌∙◌, subst, inl, inr, ⊎_elim, ◌⊎◌, arith, eq-eqb, ne_eqb}
use Rattle.std.proofs.lemmas.List.{append-nil}
use Rattle.std.proofs.lemmas.List.Elements.{All-cons, All-nil, All-append, All-weaker, All-head, All-tail}
use Rattle.std.proofs.lemmas.Bool.Decides.{nat_tests}
use mathlib.Core.Option.{some}
use mathlib.Core.List.{IsPrefix}
use lib.ListN.{get_elem?}
use Rattle.dt_record.specs.declared.writes.Note.{Note}
use Rattle.dt_shared.specs.declared.entries.Entry.{Entry}
use Rattle.dt_shared.specs.declared.views.Known.{Known}
use Rattle.dt_shared.specs.declared.views.View.{View}
use Rattle.dt_shared.specs.Entries.{notes_in, notes_of, entries_of}
use Rattle.atomic_table.proofs.Lists.{set_else}
use Rattle.dt_shared.specs.Views.{newcomer, EachPass, one_if, total, tally, over_passes, is_numbered, has_stopped}
use Rattle.dt_shared.specs.Moments.{AccountStands}
use Rattle.dt_shared.proofs.Totals.{each_set, each_more, total_set, total_same, total_more, total_part, total_parts, tally-append, none_numbered}
use Rattle.dt_shared.proofs.Histories.{prefix_longer, notes_of-append, notes_of-entries_of, notes_of-others}

one_if_le : (b : Bool) → one_if b ≤ 1
one_if_le true = omega arith
one_if_le false = omega arith

below_if : (n m : ℕ) → 1 ≤ one_if (nat_lt n m) → n < m
below_if n m h = grind (arith, nat_tests)

-- what another pass adds leaves a pass's own notes
own_longer : (p : Known) (history : List Entry) (n : ℕ) (notes : List Note) → p.own ≡ notes_of p.number history → p.number ≢ n → p.own ≡ notes_of p.number (history ++ entries_of n notes)
own_longer p history n notes own ne =
    own ∙ sym (notes_of-append p.number history (entries_of n notes) ∙ (ap (λ m. notes_of p.number history ++ m) (notes_of-others p.number n notes ne) ∙ append-nil (notes_of p.number history)))

module _ (most made : ℕ) (history : List Entry) (count halt : ℕ) (views : List View) (id : ℕ) (v : View) (at : get_elem? views id ≡ some v) where
  -- a step that leaves what passes know
  pub same_passes : AccountStands most made history count halt views → (w : View) → w.passes ≡ v.passes → w.made ≡ v.made → AccountStands most made history count halt (set views id w)
  same_passes k w passes makes =
      let same : (f : Known → ℕ) → over_passes f (set views id w) ≡ over_passes f views = λ f. total_same (λ u. tally f u.passes) views id v w at (ap (tally f) (sym passes)) in record {
        counted = k.counted;
        seen = each_set (λ u. All (λ p. IsPrefix p.seen history) u.passes) views id w (subst (All (λ (p : Known). IsPrefix p.seen history)) (sym passes) (k.seen id v at)) (λ seat u ne there. k.seen seat u there);
        own = each_set (λ u. All (λ p. p.own ≡ notes_of p.number history) u.passes) views id w (subst (All (λ (p : Known). p.own ≡ notes_of p.number history)) (sym passes) (k.own id v at)) (λ seat u ne there. k.own seat u there);
        numbered = λ n. same (is_numbered n) ∙ k.numbered n;
        all_made = same (λ _. 1) ∙ k.all_made;
        entered = k.entered;
        makers = each_set (λ u. (u.made ≡ 0) ⊎ (u.made ≡ made)) views id w (subst (λ (n : ℕ). (n ≡ 0) ⊎ (n ≡ made)) (sym makes) (k.makers id v at)) (λ seat u ne there. k.makers seat u there);
        one_maker = total_same (λ u. u.made) views id v w at (sym makes) ∙ k.one_maker;
        few = k.few;
        halts = λ h. let e = same has_stopped in let p = k.halts h in omega arith;
        runs = λ h. same has_stopped ∙ k.runs h;
        saw = each_set (λ u. All (λ p. p.saw_stop ≡ true → halt ≢ 0) u.passes) views id w (subst (All (λ (p : Known). p.saw_stop ≡ true → halt ≢ 0)) (sym passes) (k.saw id v at)) (λ seat u ne there. k.saw seat u there);
      }

  -- a step in which one pass appends notes (or none), sees more, stops or sees a stop
  module _ (k k' : Known) (mine : v.passes ≡ k ∷ []) (number : k'.number ≡ k.number) where
    alone : AccountStands most made history count halt views → tally (is_numbered k.number) v.passes ≡ 1
    alone kept = ap (tally (is_numbered k.number)) mine ∙ (ap (λ b. one_if b + 0) (eq-eqb k.number k.number refl))

    -- no other seat stands for this pass
    others : AccountStands most made history count halt views → (seat : ℕ) (u : View) → seat ≢ id → get_elem? views seat ≡ some u → All (λ p. p.number ≢ k.number) u.passes
    others kept seat u ne there =
        let two = total_parts (λ (x : View). tally (is_numbered k.number) x.passes) views seat id u v ne there at in
        let one = alone kept in let most-one = one_if_le (nat_lt k.number made) in let all = kept.numbered k.number in
        none_numbered k.number u.passes (omega arith)

    -- its number is one that was given
    pub below_made : AccountStands most made history count halt views → k.number < made
    below_made kept =
        let part = total_part (λ (x : View). tally (is_numbered k.number) x.passes) views id v at in
        let one = alone kept in let all = kept.numbered k.number in
        below_if k.number made (omega arith)

    -- a pass that has stopped has set `halt`
    pub stopped_halts : AccountStands most made history count halt views → k.stopped ≡ true → halt ≢ 0
    stopped_halts kept is runs =
        let part = total_part (λ (x : View). tally has_stopped x.passes) views id v at in
        let none-stopped = kept.runs runs in let one : one_if k.stopped ≡ 1 = ap one_if is in
        let this : tally has_stopped v.passes ≡ one_if k.stopped + 0 = ap (tally has_stopped) mine in omega arith

    all_below : (notes : List Note) (n : ℕ) → n < made → All (λ e. e.pass < made) (entries_of n notes)
    all_below [] n below = All-nil (λ (e : Entry). e.pass < made)
    all_below (x ∷ xs) n below = All-cons (λ (e : Entry). e.pass < made) (record { pass = n; note = x }) (entries_of n xs) below (all_below xs n below)

    pub one_step : (kept : AccountStands most made history count halt views) (notes : List Note) (count' halt' : ℕ) (w : View) → w.passes ≡ k' ∷ [] → w.made ≡ v.made
        → count' ≡ length (history ++ entries_of k.number notes) → IsPrefix k'.seen (history ++ entries_of k.number notes) → k'.own ≡ k.own ++ notes
        → (halt' ≡ 0 → halt ≡ 0) → (k'.saw_stop ≡ true → halt' ≢ 0) → (k'.stopped ≡ true → halt' ≢ 0) → has_stopped k ≤ has_stopped k' → (halt' ≢ 0 → (halt ≢ 0) ⊎ (has_stopped k' ≡ 1))
        → AccountStands most made (history ++ entries_of k.number notes) count' halt' (set views id w)
    one_step kept notes count' halt' w now makes counted seen own runs saw stops stays why =
        let new : List Entry = entries_of k.number notes in let all : List Entry = history ++ new in
        let numbers : (n : ℕ) → tally (is_numbered n) v.passes ≡ tally (is_numbered n) w.passes =
        λ n. ap (tally (is_numbered n)) mine ∙ (ap (λ (m : ℕ). one_if (m == n) + 0) (sym number) ∙ ap (tally (is_numbered n)) (sym now)) in
        let ones : tally (λ _. 1) v.passes ≡ tally (λ _. 1) w.passes = ap (tally (λ _. 1)) mine ∙ ap (tally (λ _. 1)) (sym now) in
        let stop = total_set (λ (x : View). tally has_stopped x.passes) views id v w at in
        let part = total_part (λ (x : View). tally has_stopped x.passes) views id v at in
        let before : tally has_stopped v.passes ≡ has_stopped k + 0 = ap (tally has_stopped) mine in
        let after : tally has_stopped w.passes ≡ has_stopped k' + 0 = ap (tally has_stopped) now in
        let mine_own : k'.own ≡ notes_of k'.number all =
        own ∙ (ap (λ l. l ++ notes) (All-head (λ p. p.own ≡ notes_of p.number history) k [] (subst (All (λ (p : Known). p.own ≡ notes_of p.number history)) mine (kept.own id v at)))
        ∙ (ap (λ l. notes_of k.number history ++ l) (sym (notes_of-entries_of k.number notes)) ∙ (sym (notes_of-append k.number history new) ∙ ap (λ (n : ℕ). notes_of n all) (sym number)))) in
        record {
          counted = counted;
          seen = each_set (λ u. All (λ p. IsPrefix p.seen all) u.passes) views id w
              (subst (All (λ (p : Known). IsPrefix p.seen all)) (sym now) (All-cons (λ p. IsPrefix p.seen all) k' [] seen (All-nil (λ (p : Known). IsPrefix p.seen all))))
              (λ seat u ne there. All-weaker (λ p. IsPrefix p.seen history) (λ p. IsPrefix p.seen all) (λ p h. prefix_longer p.seen history new h) u.passes (kept.seen seat u there));
          own = each_set (λ u. All (λ p. p.own ≡ notes_of p.number all) u.passes) views id w
              (subst (All (λ (p : Known). p.own ≡ notes_of p.number all)) (sym now) (All-cons (λ p. p.own ≡ notes_of p.number all) k' [] mine_own (All-nil (λ (p : Known). p.own ≡ notes_of p.number all))))
              (λ seat u ne there i d l. own_longer (get_or u.passes i d) history k.number notes (kept.own seat u there i d l) (others kept seat u ne there i d l));
          numbered = λ n. total_same (λ (x : View). tally (is_numbered n) x.passes) views id v w at (numbers n) ∙ kept.numbered n;
          all_made = total_same (λ (x : View). tally (λ _. 1) x.passes) views id v w at ones ∙ kept.all_made;
          entered = All-append (λ e. e.pass < made) history new kept.entered (all_below notes k.number (below_made kept));
          makers = each_set (λ u. (u.made ≡ 0) ⊎ (u.made ≡ made)) views id w (subst (λ (n : ℕ). (n ≡ 0) ⊎ (n ≡ made)) (sym makes) (kept.makers id v at)) (λ seat u ne there. kept.makers seat u there);
          one_maker = total_same (λ (x : View). x.made) views id v w at (sym makes) ∙ kept.one_maker;
          few = kept.few;
          halts = λ h. ⊎_elim (λ (old : halt ≢ 0). let p = kept.halts old in omega arith) (λ (one : has_stopped k' ≡ 1). omega arith) (why h);
          runs = λ h. let old = kept.runs (runs h) in let none-now : has_stopped k' ≡ 0 = unstopped k'.stopped (λ e. stops e h) in omega arith;
          saw = each_set (λ u. All (λ p. p.saw_stop ≡ true → halt' ≢ 0) u.passes) views id w
              (subst (All (λ (p : Known). p.saw_stop ≡ true → halt' ≢ 0)) (sym now) (All-cons (λ p. p.saw_stop ≡ true → halt' ≢ 0) k' [] saw (All-nil (λ (p : Known). p.saw_stop ≡ true → halt' ≢ 0))))
              (λ seat u ne there. All-weaker (λ p. p.saw_stop ≡ true → halt ≢ 0) (λ p. p.saw_stop ≡ true → halt' ≢ 0) (λ p h e z. h e (runs z)) u.passes (kept.saw seat u there));
        }
      where
        unstopped : (b : Bool) → (b ≡ true → ⊥) → one_if b ≡ 0
        unstopped true h = absurd (h refl)
        unstopped false h = refl

-- no entry has a number that was not given
none_of : (n : ℕ) (history : List Entry) → All (λ e. e.pass < n) history → notes_of n history ≡ []
none_of n [] all = refl
none_of n (e ∷ es) all =
    let here : e.pass < n = All-head (λ (x : Entry). x.pass < n) e es all in
    ap (λ b. notes_in (cond b (e ∷ filter (λ x. x.pass == n) es) (filter (λ x. x.pass == n) es))) (ne_eqb e.pass n (λ h. omega arith)) ∙ none_of n es (All-tail (λ (x : Entry). x.pass < n) e es all)

one_more : (n made : ℕ) → one_if (nat_lt n made) + one_if (made == n) ≡ one_if (nat_lt n (made + 1))
one_more n made = grind (arith, nat_tests)

module _ (most made : ℕ) (history : List Entry) (count halt : ℕ) (views : List View) (id : ℕ) (v : View) (at : get_elem? views id ≡ some v) where
  -- a pass is made: it gets the number made so far
  pub makes_pass : AccountStands most made history count halt views → 0 < v.made → v.made < most → (left right : View) → left.passes ≡ v.passes → left.made ≡ v.made + 1 → right.passes ≡ newcomer v.made ∷ [] → right.made ≡ 0
      → AccountStands most (made + 1) history count halt (set views id left ++ right ∷ [])
  makes_pass kept some_made room left right same one_up fresh no_maker =
      let is : v.made ≡ made = ⊎_elim (λ (z : v.made ≡ 0). absurd (omega arith)) (λ (e : v.made ≡ made). e) (kept.makers id v at) in
      let over : (f : Known → ℕ) → over_passes f (set views id left ++ right ∷ []) ≡ over_passes f views + f (newcomer v.made) =
      λ f. let a = total_more (λ u. tally f u.passes) (set views id left) right in
      let b = total_same (λ u. tally f u.passes) views id v left at (ap (tally f) (sym same)) in
      let c : tally f right.passes ≡ f (newcomer v.made) + 0 = ap (tally f) fresh in omega arith in
      let each : (P : Known → Type 0) → EachPass views P → P (newcomer v.made) → EachPass (set views id left ++ right ∷ []) P =
      λ P old new. each_more (λ u. All P u.passes) (set views id left) right
      (each_set (λ u. All P u.passes) views id left (subst (All P) (sym same) (old id v at)) (λ seat u ne there. old seat u there))
      (subst (All P) (sym fresh) (All-cons P (newcomer v.made) [] new (All-nil P))) in
      let makers_total = total_set (λ (u : View). u.made) views id v left at in
      let makers_more = total_more (λ (u : View). u.made) (set views id left) right in
      record {
        counted = kept.counted;
        seen = each (λ p. IsPrefix p.seen history) kept.seen (history, refl);
        own = each (λ p. p.own ≡ notes_of p.number history) kept.own (sym (none_of v.made history (subst (λ (n : ℕ). All (λ e. e.pass < n) history) (sym is) kept.entered)));
        numbered = λ n. over (is_numbered n) ∙ (ap (λ (x : ℕ). x + one_if (v.made == n)) (kept.numbered n) ∙ (ap (λ (m : ℕ). one_if (nat_lt n made) + one_if (m == n)) is ∙ one_more n made));
        all_made = over (λ _. 1) ∙ ap (λ (x : ℕ). x + 1) kept.all_made;
        entered = All-weaker (λ e. e.pass < made) (λ e. e.pass < made + 1) (λ e h. omega arith) history kept.entered;
        makers = each_more (λ u. (u.made ≡ 0) ⊎ (u.made ≡ made + 1)) (set views id left) right
            (each_set (λ u. (u.made ≡ 0) ⊎ (u.made ≡ made + 1)) views id left (inr (omega arith))
            (λ seat u ne there. ⊎_elim (λ (z : u.made ≡ 0). inl z)
            (λ (e : u.made ≡ made). let two = total_parts (λ (x : View). x.made) views seat id u v ne there at in let all = kept.one_maker in absurd (omega arith))
            (kept.makers seat u there)))
            (inl no_maker);
        one_maker = let all = kept.one_maker in omega arith;
        few = let f = kept.few.1 in (omega arith, f);
        halts = λ h. let p = kept.halts h in let e = over has_stopped in omega arith;
        runs = λ h. let p = kept.runs h in let e = over has_stopped in omega arith;
        saw = each (λ p. p.saw_stop ≡ true → halt ≢ 0) kept.saw (λ e. cc);
      }

  -- passes are given back to another seat
  pub joins : AccountStands most made history count halt views → (other : ℕ) (u : View) → other ≢ id → get_elem? views other ≡ some u → (both spent : View) → both.passes ≡ u.passes ++ v.passes → both.made ≡ v.made + u.made
      → spent.passes ≡ [] → spent.made ≡ 0 → AccountStands most made history count halt (set (set views id both) other spent)
  joins kept other u ne there both spent all_passes all_made no_passes no_maker =
      let there' : get_elem? (set views id both) other ≡ some u = set_else views id other both ne ∙ there in
      let sums : (f : View → ℕ) → f both ≡ f v + f u → f spent ≡ 0 → total f (set (set views id both) other spent) ≡ total f views =
      λ f two zero. let a = total_set f views id v both at in let b = total_set f (set views id both) other u spent there' in omega arith in
      let over : (f : Known → ℕ) → over_passes f (set (set views id both) other spent) ≡ over_passes f views =
      λ f. sums (λ x. tally f x.passes) (ap (tally f) all_passes ∙ let e = tally-append f u.passes v.passes in omega arith) (ap (tally f) no_passes) in
      let each : (P : Known → Type 0) → EachPass views P → EachPass (set (set views id both) other spent) P =
      λ P old. each_set (λ x. All P x.passes) (set views id both) other spent (subst (All P) (sym no_passes) (All-nil P))
      (λ seat w _ at'. each_set (λ x. All P x.passes) views id both (subst (All P) (sym all_passes) (All-append P u.passes v.passes (old other u there) (old id v at))) (λ i x _ h. old i x h) seat w at') in
      record {
        counted = kept.counted;
        seen = each (λ p. IsPrefix p.seen history) kept.seen;
        own = each (λ p. p.own ≡ notes_of p.number history) kept.own;
        numbered = λ n. over (is_numbered n) ∙ kept.numbered n;
        all_made = over (λ _. 1) ∙ kept.all_made;
        entered = kept.entered;
        makers = each_set (λ x. (x.made ≡ 0) ⊎ (x.made ≡ made)) (set views id both) other spent (inl no_maker)
            (λ seat w _ at'. each_set (λ x. (x.made ≡ 0) ⊎ (x.made ≡ made)) views id both (one_of (kept.makers id v at) (kept.makers other u there)) (λ i x _ h. kept.makers i x h) seat w at');
        one_maker = sums (λ x. x.made) all_made no_maker ∙ kept.one_maker;
        few = kept.few;
        halts = λ h. let p = kept.halts h in let e = over has_stopped in omega arith;
        runs = λ h. over has_stopped ∙ kept.runs h;
        saw = each (λ p. p.saw_stop ≡ true → halt ≢ 0) kept.saw;
      }
    where
      one_of : (v.made ≡ 0) ⊎ (v.made ≡ made) → (u.made ≡ 0) ⊎ (u.made ≡ made) → (both.made ≡ 0) ⊎ (both.made ≡ made)
      one_of (inl a) (inl b) = inl (omega arith)
      one_of (inl a) (inr b) = inr (omega arith)
      one_of (inr a) (inl b) = inr (omega arith)
      one_of (inr a) (inr b) = let two = total_parts (λ (x : View). x.made) views other id u v ne there at in let all = kept.one_maker in inl (omega arith)

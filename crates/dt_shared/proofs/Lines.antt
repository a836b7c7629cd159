-- Each step keeps the rule of the line before the slot.
use Rattle.std.proofs.Common.{◌≡◌, ◌≢◌, ℕ, ◌+◌, ◌%◌, ◌^◌, ◌<◌, ◌≤◌, Option, Some, None, IfSome, List, [], ◌∷◌, ◌++◌, set, length, sym, refl, ap, ◌∙◌, subst, ⊎_elim, arith}
use mathlib.Core.Logic.{dite}
use mathlib.Core.Option.{some, none, some-injective, some-ne-none}
use native.Mathlib.Decide.{ℕ_discrete}
use lib.ListN.{get_elem?}
use Rattle.atomic_table.proofs.Lists.{at_set, at_snoc, set_here, set_else, at_longer, one_turn}
use Rattle.dt_shared.specs.declared.entries.Entry.{Entry}
use Rattle.dt_shared.specs.declared.views.Known.{Known}
use Rattle.dt_shared.specs.declared.views.View.{View}
use Rattle.dt_shared.specs.Views.{at_rest, waiting, holding, total, in_line}
use Rattle.dt_shared.specs.Moments.{Stored, Home, Lined}
use Rattle.dt_shared.proofs.Totals.{each_set, each_more, at_inside, total_set, total_same, total_more}

if_some : {A : Type 0} (P Q : A → Type 0) (o : Option A) → ((x : A) → o ≡ Some x → P x → Q x) → IfSome o P → IfSome o Q
if_some P Q None step p = tt
if_some P Q (Some x) step p = step x refl p

of_some : {A : Type 0} (P : A → Type 0) (o : Option A) (x : A) → o ≡ Some x → IfSome o P → P x
of_some {A} P o x e p = subst (λ (y : Option A). IfSome y P) e p

none_is_some : {A : Type 0} (x : A) → None ≡ Some x → ⊥
none_is_some x e = cc

-- two numbers with one remainder, one more each
next_mod : (a b : ℕ) → a ≡ b % 2 ^ 64 → (a + 1) % 2 ^ 64 ≡ (b + 1) % 2 ^ 64
next_mod a b e = omega arith

-- the ticket of the seat that is served, of a seat in the line
abbrev ticketed : List View → ℕ → ℕ → Type 0
ticketed views seat t = (v : View) × (get_elem? views seat ≡ some v) × (v.ticket ≡ Some t)

-- two seats with one ticket are one seat, after one seat changed its ticket
apart_set : (views : List View) (id : ℕ) (w : View) → ((i j : ℕ) (v u : View) (t : ℕ) → get_elem? views i ≡ some v → get_elem? views j ≡ some u → v.ticket ≡ Some t → u.ticket ≡ Some t → i ≡ j)
    → ((seat : ℕ) (v : View) (t : ℕ) → seat ≢ id → get_elem? views seat ≡ some v → v.ticket ≡ Some t → w.ticket ≡ Some t → ⊥)
    → (i j : ℕ) (v u : View) (t : ℕ) → get_elem? (set views id w) i ≡ some v → get_elem? (set views id w) j ≡ some u → v.ticket ≡ Some t → u.ticket ≡ Some t → i ≡ j
apart_set views id w apart fresh i j v u t at there has has' =
    ⊎_elim
    (λ (a : (i ≡ id) × (w ≡ v)). ⊎_elim
    (λ (b : (j ≡ id) × (w ≡ u)). a.0 ∙ sym b.0)
    (λ (b : (j ≢ id) × (get_elem? views j ≡ some u)). absurd (fresh j u t b.0 b.1 has' (ap (λ (x : View). x.ticket) a.1 ∙ has)))
    (at_set views id j w u there))
    (λ (a : (i ≢ id) × (get_elem? views i ≡ some v)). ⊎_elim
    (λ (b : (j ≡ id) × (w ≡ u)). absurd (fresh i v t a.0 a.1 has (ap (λ (x : View). x.ticket) b.1 ∙ has')))
    (λ (b : (j ≢ id) × (get_elem? views j ≡ some u)). apart i j v u t a.1 b.1 has has')
    (at_set views id j w u there))
    (at_set views id i w v at)

module _ (front : ℕ) (history : List Entry) (ticket serving : ℕ) (home : Home) (views : List View) (id : ℕ) (passes : List Known) (made : ℕ) where
  -- a seat draws a ticket
  pub draws : Lined front history ticket serving home views → get_elem? views id ≡ some (at_rest passes made) → 0 < length passes
      → Lined front history ((ticket + 1) % 2 ^ 64) serving home (set views id (waiting passes made (front + total in_line views)))
  draws l at some_pass =
      let t : ℕ = front + total in_line views in let w : View = waiting passes made t in let more = total_set in_line views id (at_rest passes made) w at in record {
        served = l.served;
        drawn = let d = l.drawn in omega arith;
        tickets = each_set (λ v. IfSome v.ticket (λ s. (front ≤ s) × (s < front + total in_line (set views id w)))) views id w (omega arith, omega arith)
            (λ seat v ne there. if_some (λ s. (front ≤ s) × (s < t)) (λ s. (front ≤ s) × (s < front + total in_line (set views id w))) v.ticket (λ s _ h. let a = h.0 in let b = h.1 in (omega arith, omega arith)) (l.tickets seat v there));
        apart = apart_set views id w l.apart
            (λ seat v s ne there has mine. let h = of_some (λ s. (front ≤ s) × (s < t)) v.ticket s has (l.tickets seat v there) in let b = h.1 in let e : t ≡ s = cc in omega arith);
        in_person = each_set (λ v. in_line v ≤ length v.passes) views id w (omega arith) (λ seat v ne there. l.in_person seat v there);
        at_home = l.at_home;
        away = λ out. let h = l.away out in let seat : ℕ = h.0 in let v : View = h.1 in (
          seat,
          v,
          set_else views id seat w (λ e. none_is_some front (ap (λ (x : View). x.ticket) (some-injective (at_rest passes made) v (sym at ∙ (ap (get_elem? views) (sym e) ∙ h.2))) ∙ h.3)) ∙ h.2,
          h.3,
          h.4,
        );
        holder = each_set (λ v. IfSome v.held (λ xs. (xs ≡ history) × (v.ticket ≡ Some front) × (home ≡ none))) views id w tt (λ seat v ne there. l.holder seat v there);
      }

  -- the one that waits and is served: its ticket is the front one, and the slot is at home with the history
  pub comes_up : Lined front history ticket serving home views → (t : ℕ) → get_elem? views id ≡ some (waiting passes made t) → serving ≡ t % 2 ^ 64 → total in_line views < 2 ^ 64
      → (front ≡ t) × ((list : Stored) × (home ≡ some list) × (list.items ≡ history))
  comes_up l t at same few =
      let bounds = l.tickets id (waiting passes made t) at in let low = bounds.0 in let high = bounds.1 in
      let e : front ≡ t = one_turn front t (2 ^ 64) low (omega arith) (sym l.served ∙ same) in (e, here home refl)
    where
      here : (h : Home) → home ≡ h → (list : Stored) × (home ≡ some list) × (list.items ≡ history)
      here (some list) is = (list, is, l.at_home list is)
      here none is =
          let out = l.away is in
          let low = (l.tickets id (waiting passes made t) at).0 in
          let high = (l.tickets id (waiting passes made t) at).1 in
          let e : front ≡ t = one_turn front t (2 ^ 64) low (omega arith) (sym l.served ∙ same) in
          let seat : out.0 ≡ id = l.apart out.0 id out.1 (waiting passes made t) t out.2 at (out.3 ∙ ap Some e) refl in
          let view : out.1 ≡ waiting passes made t = some-injective out.1 (waiting passes made t) (sym out.2 ∙ (ap (get_elem? views) seat ∙ at)) in
          absurd (none_is_some history (ap (λ (x : View). x.held) (sym view) ∙ out.4))

  -- it takes the slot
  pub takes_slot : Lined front history ticket serving home views → (t : ℕ) (list : Stored) → get_elem? views id ≡ some (waiting passes made t) → front ≡ t → home ≡ some list
      → Lined front history ticket serving none (set views id (holding passes made t history))
  takes_slot l t list at e is =
      let w : View = holding passes made t history in let same = total_same in_line views id (waiting passes made t) w at refl in record {
        served = l.served;
        drawn = let d = l.drawn in omega arith;
        tickets = each_set (λ v. IfSome v.ticket (λ s. (front ≤ s) × (s < front + total in_line (set views id w)))) views id w
            (let h = l.tickets id (waiting passes made t) at in let a = h.0 in let b = h.1 in (omega arith, omega arith))
            (λ seat v ne there. if_some (λ s. (front ≤ s) × (s < front + total in_line views)) (λ s. (front ≤ s) × (s < front + total in_line (set views id w))) v.ticket (λ s _ h. let a = h.0 in let b = h.1 in (omega arith, omega arith)) (l.tickets seat v there));
        apart = apart_set views id w l.apart (λ seat v s ne there has mine. ne (l.apart seat id v (waiting passes made t) s there at has mine));
        in_person = each_set (λ v. in_line v ≤ length v.passes) views id w (l.in_person id (waiting passes made t) at) (λ seat v ne there. l.in_person seat v there);
        at_home = λ x h. absurd (some-ne-none x (sym h));
        away = λ _. (id, w, set_here views id w (at_inside views id (waiting passes made t) at), ap Some (sym e), refl);
        holder = each_set (λ v. IfSome v.held (λ xs. (xs ≡ history) × (v.ticket ≡ Some front) × (none ≡ none))) views id w (refl, ap Some (sym e), refl)
            (λ seat v ne there. if_some (λ xs. (xs ≡ history) × (v.ticket ≡ Some front) × (home ≡ none)) (λ xs. (xs ≡ history) × (v.ticket ≡ Some front) × (none ≡ none)) v.held
            (λ xs _ h. absurd (some-ne-none list (sym is ∙ h.2))) (l.holder seat v there));
      }

  -- it gives the slot back, with the history, and the next ticket is served
  pub leaves : Lined front history ticket serving home views → (t : ℕ) (xs : List Entry) (list : Stored) → get_elem? views id ≡ some (holding passes made t xs) → list.items ≡ xs
      → Lined (front + 1) history ticket ((serving + 1) % 2 ^ 64) (some list) (set views id (at_rest passes made))
  leaves l t xs list at same =
      let v : View = holding passes made t xs in let w : View = at_rest passes made in let less = total_set in_line views id v w at in
      let mine = l.holder id v at in let front_is : Some t ≡ Some front = mine.1 in record {
        served = next_mod serving front l.served;
        drawn = let d = l.drawn in omega arith;
        tickets = each_set (λ u. IfSome u.ticket (λ s. (front + 1 ≤ s) × (s < (front + 1) + total in_line (set views id w)))) views id w tt
            (λ seat u ne there. if_some (λ s. (front ≤ s) × (s < front + total in_line views)) (λ s. (front + 1 ≤ s) × (s < (front + 1) + total in_line (set views id w))) u.ticket
            (λ s has h. let a = h.0 in let b = h.1 in dite (ℕ_discrete s front)
            (λ e. absurd (ne (l.apart seat id u v front there at (has ∙ ap Some e) front_is)))
            (λ other. (omega arith, omega arith)))
            (l.tickets seat u there));
        apart = apart_set views id w l.apart (λ seat u s ne there has gone. none_is_some s gone);
        in_person = each_set (λ u. in_line u ≤ length u.passes) views id w (omega arith) (λ seat u ne there. l.in_person seat u there);
        at_home = λ x h. ap (λ (y : Stored). y.items) (sym (some-injective list x h)) ∙ (same ∙ mine.0);
        away = λ h. absurd (some-ne-none list h);
        holder = each_set (λ u. IfSome u.held (λ ys. (ys ≡ history) × (u.ticket ≡ Some (front + 1)) × (some list ≡ none))) views id w tt
            (λ seat u ne there. if_some (λ ys. (ys ≡ history) × (u.ticket ≡ Some front) × (home ≡ none)) (λ ys. (ys ≡ history) × (u.ticket ≡ Some (front + 1)) × (some list ≡ none)) u.held
            (λ ys _ h. absurd (ne (l.apart seat id u v front there at h.1 front_is))) (l.holder seat u there));
      }

  -- the one that has the slot goes on, with another history
  pub holds_on : Lined front history ticket serving home views → (t : ℕ) (xs ys : List Entry) (now : List Known) → get_elem? views id ≡ some (holding passes made t xs) → 0 < length now
      → (xs ≡ history) × Lined front ys ticket serving home (set views id (holding now made t ys))
  holds_on l t xs ys now at some_pass =
      let v : View = holding passes made t xs in let w : View = holding now made t ys in let same = total_same in_line views id v w at refl in
      let mine = l.holder id v at in let front_is : Some t ≡ Some front = mine.1 in (
        mine.0,
        record {
          served = l.served;
          drawn = let d = l.drawn in omega arith;
          tickets = each_set (λ u. IfSome u.ticket (λ s. (front ≤ s) × (s < front + total in_line (set views id w)))) views id w
              (let h = l.tickets id v at in let a = h.0 in let b = h.1 in (omega arith, omega arith))
              (λ seat u ne there. if_some (λ s. (front ≤ s) × (s < front + total in_line views)) (λ s. (front ≤ s) × (s < front + total in_line (set views id w))) u.ticket (λ s _ h. let a = h.0 in let b = h.1 in (omega arith, omega arith)) (l.tickets seat u there));
          apart = apart_set views id w l.apart (λ seat u s ne there has is. ne (l.apart seat id u v s there at has is));
          in_person = each_set (λ u. in_line u ≤ length u.passes) views id w (omega arith) (λ seat u ne there. l.in_person seat u there);
          at_home = λ x h. absurd (some-ne-none x (sym h ∙ mine.2));
          away = λ _. (id, w, set_here views id w (at_inside views id v at), front_is, refl);
          holder = each_set (λ u. IfSome u.held (λ zs. (zs ≡ ys) × (u.ticket ≡ Some front) × (home ≡ none))) views id w (refl, front_is, mine.2)
              (λ seat u ne there. if_some (λ zs. (zs ≡ history) × (u.ticket ≡ Some front) × (home ≡ none)) (λ zs. (zs ≡ ys) × (u.ticket ≡ Some front) × (home ≡ none)) u.held
              (λ zs _ h. absurd (ne (l.apart seat id u v front there at h.1 front_is))) (l.holder seat u there));
        },
      )

  -- a seat that is at rest learns something, or is joined to another
  pub rests_on : Lined front history ticket serving home views → (now : List Known) (now_made : ℕ) → get_elem? views id ≡ some (at_rest passes made)
      → Lined front history ticket serving home (set views id (at_rest now now_made))
  rests_on l now now_made at =
      let v : View = at_rest passes made in let w : View = at_rest now now_made in let same = total_same in_line views id v w at refl in record {
        served = l.served;
        drawn = let d = l.drawn in omega arith;
        tickets = each_set (λ u. IfSome u.ticket (λ s. (front ≤ s) × (s < front + total in_line (set views id w)))) views id w tt
            (λ seat u ne there. if_some (λ s. (front ≤ s) × (s < front + total in_line views)) (λ s. (front ≤ s) × (s < front + total in_line (set views id w))) u.ticket (λ s _ h. let a = h.0 in let b = h.1 in (omega arith, omega arith)) (l.tickets seat u there));
        apart = apart_set views id w l.apart (λ seat u s ne there has gone. none_is_some s gone);
        in_person = each_set (λ u. in_line u ≤ length u.passes) views id w (omega arith) (λ seat u ne there. l.in_person seat u there);
        at_home = l.at_home;
        away = λ out. let h = l.away out in let seat : ℕ = h.0 in let u : View = h.1 in (
          seat,
          u,
          set_else views id seat w (λ e. none_is_some front (ap (λ (x : View). x.ticket) (some-injective v u (sym at ∙ (ap (get_elem? views) (sym e) ∙ h.2))) ∙ h.3)) ∙ h.2,
          h.3,
          h.4,
        );
        holder = each_set (λ u. IfSome u.held (λ xs. (xs ≡ history) × (u.ticket ≡ Some front) × (home ≡ none))) views id w tt (λ seat u ne there. l.holder seat u there);
      }

-- a new seat is at rest
pub more_rest : (front : ℕ) (history : List Entry) (ticket serving : ℕ) (home : Home) (views : List View) (passes : List Known) (made : ℕ) → Lined front history ticket serving home views
    → Lined front history ticket serving home (views ++ at_rest passes made ∷ [])
more_rest front history ticket serving home views passes made l =
    let w : View = at_rest passes made in let same = total_more in_line views w in record {
      served = l.served;
      drawn = let d = l.drawn in omega arith;
      tickets = each_more (λ u. IfSome u.ticket (λ s. (front ≤ s) × (s < front + total in_line (views ++ w ∷ [])))) views w
          (λ seat u there. if_some (λ s. (front ≤ s) × (s < front + total in_line views)) (λ s. (front ≤ s) × (s < front + total in_line (views ++ w ∷ []))) u.ticket (λ s _ h. let a = h.0 in let b = h.1 in (omega arith, omega arith)) (l.tickets seat u there)) tt;
      apart = λ i j u v t at there has has'. l.apart i j u v t (was i u t at has) (was j v t there has') has has';
      in_person = each_more (λ u. in_line u ≤ length u.passes) views w l.in_person (omega arith);
      at_home = l.at_home;
      away = λ out. let h = l.away out in (h.0, h.1, at_longer views (w ∷ []) h.0 h.1 h.2, h.3, h.4);
      holder = each_more (λ u. IfSome u.held (λ xs. (xs ≡ history) × (u.ticket ≡ Some front) × (home ≡ none))) views w l.holder tt;
    }
  where
    was : (i : ℕ) (u : View) (t : ℕ) → get_elem? (views ++ at_rest passes made ∷ []) i ≡ some u → u.ticket ≡ Some t → get_elem? views i ≡ some u
    was i u t at has = ⊎_elim (λ (old : get_elem? views i ≡ some u). old) (λ (new : at_rest passes made ≡ u). absurd (none_is_some t (ap (λ (x : View). x.ticket) new ∙ has))) (at_snoc views (at_rest passes made) u i at)

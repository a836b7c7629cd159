-- The rule at the start, and what it says at the end.
use Rattle.std.proofs.Common.{◌≡◌, ◌≢◌, ℕ, ◌+◌, ◌<◌, ◌≤◌, ◌==◌, ◌⊎◌, true, nat_lt, Some, None, IfSome, List, [], ◌∷◌, All, Any, length, sym, refl, ap, ◌∙◌, subst, inr, arith, eqb-true}
use Rattle.std.proofs.lemmas.List.Elements.{All-cons, All-nil, All-weaker}
use Rattle.std.proofs.lemmas.Bool.Decides.{nat_tests}
use mathlib.Core.Logic.{dite}
use mathlib.Core.Option.{some, none, some-injective, some-ne-none}
use mathlib.Core.List.{IsPrefix}
use native.Mathlib.Decide.{ℕ_discrete}
use lib.ListN.{get_elem?}
use Rattle.atomic_table.specs.Table.{opening, Final, Seen}
use Rattle.dt_shared.specs.declared.entries.Entry.{Entry}
use Rattle.dt_shared.specs.declared.views.Known.{Known}
use Rattle.dt_shared.specs.declared.views.View.{View}
use Rattle.dt_shared.specs.Entries.{notes_of}
use Rattle.dt_shared.specs.Views.{newcomer, at_rest, EachView, one_if, total, tally, over_passes, in_line, is_numbered, has_stopped}
use Rattle.dt_shared.specs.Moments.{Stored, Home, Moment, Holds}
use Rattle.dt_shared.specs.Closing.{Accounts}
use Rattle.dt_shared.proofs.Totals.{each_more, total_parts, total_only, tally_count, some_counted}

-- one pass, an empty list, and all words 0
pub opens : (most : ℕ) (list : Stored) → 0 < most → most < 256 → list.items ≡ [] → Holds most (opening (0 ∷ 0 ∷ 0 ∷ 0 ∷ []) (list ∷ []) (at_rest (newcomer 0 ∷ []) 1))
opens most list some_pass few empty =
    let v : View = at_rest (newcomer 0 ∷ []) 1 in
    let each : (P : View → Type 0) → P v → EachView (v ∷ []) P = λ P p. each_more P [] v (λ seat u at. absurd (some-ne-none u (sym at))) p in
    let one : (P : Known → Type 0) → P (newcomer 0) → All P (newcomer 0 ∷ []) = λ P p. All-cons P (newcomer 0) [] p (All-nil P) in record {
      words = record { ticket = 0; serving = 0; count = 0; halt = 0 };
      home = some list;
      has_words = refl;
      has_slot = refl;
      moment = record {
        front = 0;
        history = [];
        made = 1;
        line = record {
          served = refl;
          drawn = refl;
          tickets = each (λ u. IfSome u.ticket (λ t. (0 ≤ t) × (t < 0 + total in_line (v ∷ [])))) tt;
          apart = λ i j u w t at there has has'. absurd (first i u t at has);
          in_person = each (λ u. in_line u ≤ length u.passes) (omega arith);
          at_home = λ x e. ap (λ (y : Stored). y.items) (sym (some-injective list x e)) ∙ empty;
          away = λ e. absurd (some-ne-none list e);
          holder = each (λ u. IfSome u.held (λ xs. (xs ≡ []) × (u.ticket ≡ Some 0) × (some list ≡ none))) tt;
        };
        kept = record {
          counted = refl;
          seen = each (λ u. All (λ k. IsPrefix k.seen []) u.passes) (one (λ k. IsPrefix k.seen []) ([], refl));
          own = each (λ u. All (λ k. k.own ≡ notes_of k.number []) u.passes) (one (λ k. k.own ≡ notes_of k.number []) refl);
          numbered = λ n. number n;
          all_made = refl;
          entered = All-nil (λ (e : Entry). e.pass < 1);
          makers = each (λ u. (u.made ≡ 0) ⊎ (u.made ≡ 1)) (inr refl);
          one_maker = refl;
          few = (omega arith, few);
          halts = λ h. absurd (h refl);
          runs = λ _. refl;
          saw = let halt : ℕ = 0 in each (λ u. All (λ k. k.saw_stop ≡ true → halt ≢ 0) u.passes) (one (λ k. k.saw_stop ≡ true → halt ≢ 0) (λ e. cc));
        };
      };
    }
  where
    first : (i : ℕ) (u : View) (t : ℕ) → get_elem? (at_rest (newcomer 0 ∷ []) 1 ∷ []) i ≡ some u → u.ticket ≡ Some t → ⊥
    first i u t at has = each_more (λ w. w.ticket ≡ Some t → ⊥) [] (at_rest (newcomer 0 ∷ []) 1) (λ seat w there. absurd (some-ne-none w (sym there))) (λ e. cc) i u at has

    number : (n : ℕ) → (one_if (0 == n) + 0) + 0 ≡ one_if (nat_lt n 1)
    number n = grind (arith, nat_tests)

-- once all passes are in one seat, the list is at home, and it is the history
pub closes : (most id : ℕ) (ks : List Known) (made : ℕ) (ws : List ℕ) (xs : List Stored) (list : Stored) → length ks ≡ most → Final (Seen (Holds most) id (at_rest ks made)) ws xs → get_elem? xs 0 ≡ some list → Accounts ks list.items
closes most id ks made ws xs list all final first = ended final.1.0.home refl
  where
    h : Holds most final.0
    h = final.1.0

    m : Moment most h.words h.home final.0.views
    m = h.moment

    v : View
    v = at_rest ks made

    -- no other seat stands for a pass
    emptied : (seat : ℕ) (u : View) → seat ≢ id → get_elem? final.0.views seat ≡ some u → length u.passes ≡ 0
    emptied seat u ne at =
        let two = total_parts (λ (x : View). tally (λ _. 1) x.passes) final.0.views seat id u (at_rest ks made) ne at final.1.1 in
        let a = tally_count u.passes in let b = tally_count ks in let c = m.kept.all_made in let d = m.kept.few.0 in omega arith

    empty : (f : Known → ℕ) (ls : List Known) → length ls ≡ 0 → tally f ls ≡ 0
    empty f [] e = refl
    empty f (l ∷ ls) e = absurd (omega arith)

    only : (f : Known → ℕ) → over_passes f final.0.views ≡ tally f ks
    only f = total_only (λ (x : View). tally f x.passes) final.0.views id (at_rest ks made) final.1.1 (λ seat u ne at. empty f u.passes (emptied seat u ne at))

    accounts : Accounts ks m.history
    accounts = record {
      seen = m.kept.seen id (at_rest ks made) final.1.1;
      own = m.kept.own id (at_rest ks made) final.1.1;
      numbers = All-weaker (λ e. e.pass < m.made) (λ e. Any (λ k. k.number ≡ e.pass) ks)
          (λ e below. let one = m.kept.numbered e.pass in let here = only (is_numbered e.pass) in let true' : one_if (nat_lt e.pass m.made) ≡ 1 = grind (arith, nat_tests) in
          let found = some_counted (λ k. k.number == e.pass) ks (omega arith) in (found.0, found.1, found.2, found.3, eqb-true found.1.number e.pass found.4))
          m.history m.kept.entered;
      stops = λ saw. let k : Known = saw.1 in
          let halted = subst (λ (l : Known). l.saw_stop ≡ true → h.words.halt ≢ 0) saw.3 (m.kept.saw id (at_rest ks made) final.1.1 saw.0 k saw.2) saw.4 in
          let stopped = m.kept.halts halted in let here = only has_stopped in some_counted (λ l. l.stopped) ks (omega arith);
    }

    ended : (home : Home) → h.home ≡ home → Accounts ks list.items
    ended none is =
        let out = m.line.away is in let seat : ℕ = out.0 in let u : View = out.1 in
        dite (ℕ_discrete seat id)
        (λ e. let same : at_rest ks made ≡ u = some-injective (at_rest ks made) u (sym final.1.1 ∙ (ap (get_elem? final.0.views) (sym e) ∙ out.2)) in
        let gone : None ≡ Some m.front = ap (λ (x : View). x.ticket) same ∙ out.3 in absurd cc)
        (λ ne. let none-left = emptied seat u ne out.2 in let person = m.line.in_person seat u out.2 in
        let ticket : in_line u ≡ 1 = ap (λ o. one_if (Rattle.std.proofs.Common.is_some o)) out.3 in absurd (omega arith))
    ended (some l) is =
        let there : get_elem? final.0.homes 0 ≡ some (some l) = ap (λ hs. get_elem? hs 0) h.has_slot ∙ ap some is in
        let same : l ≡ list = some-injective l list (sym (final.4 0 l there) ∙ first) in
        subst (Accounts ks) (sym (m.line.at_home l is) ∙ ap (λ (y : Stored). y.items) same) accounts

use Rattle.std.proofs.Common.{◌≡◌, ℕ, ◌+◌, ◌-◌, ◌≤◌, arith, true, Option, None, Result, Ok, Err, OnErr, List, ◌++◌, filter, length, take, sym, ap, ◌∙◌, subst}
use Rattle.std.proofs.lemmas.List.{append_assoc}
use Rattle.std.proofs.lemmas.List.Elements.{filter-append}
use Rattle.std.proofs.Math.Seq.{take-length}
use mathlib.Core.List.{IsPrefix}
use Rattle.dt_core.proofs.Insertion.{filter-by_key}
use Rattle.dt_lists.proofs.Lists.{filter-all}
use Rattle.dt_record.specs.declared.writes.Write.{Write}
use Rattle.dt_record.specs.declared.writes.Note.{Note}
use Rattle.dt_record.specs.Writes.{by_key}
use Rattle.dt_versions.specs.History.{History, history, are_in_order, IsKept}
use Rattle.dt_core.specs.Machine.{usable_below}
use Rattle.dt_core.specs.Notes.{announced}
use Rattle.dt_settled.specs.Waiting.{waiting_after}
use Rattle.dt_settled.specs.Settling.{SettledView, first_below, AreTold, Stands, Continues, ArePromised, Settles, StaysTrue, Moves}
use Rattle.dt_settled.proofs.Orders.{is_early, usable-early, in_order-filter, in_order-behind, early-first, early-none, IsKept-front}
use Rattle.dt_settled.proofs.Insertion.{by_key-in_order, by_key-rest}
use Rattle.dt_settled.proofs.TakingIn.{TakesIn, TakesIn-more}

-- Where the notes tell all writes below a mark, what moves are the next of all writes.

-- the waiting writes below the mark are those of the writes behind the settled ones
same_early : (least : Option ℕ) (settled waited later told : List Write) → are_in_order (settled ++ later) ≡ true → are_in_order waited ≡ true
    → by_key (settled ++ waited) ≡ by_key told → usable_below least (by_key told) ≡ usable_below least (settled ++ later)
    → filter (is_early least) waited ≡ filter (is_early least) later
same_early least settled waited later told ordered in_order whole exact =
    let p = is_early least in
    let split = filter-append p settled later in
    let sorted = ap by_key (sym (filter-append p settled waited)) ∙ sym (filter-by_key p (settled ++ waited)) ∙ ap (filter p) whole
    ∙ sym (usable-early least (by_key told)) ∙ exact ∙ usable-early least (settled ++ later) ∙ split in
    sym (by_key-in_order (filter p waited) (in_order-filter p waited in_order))
    ∙ by_key-rest (filter p settled) (filter p waited) (filter p later) (ap are_in_order (sym split) ∙ in_order-filter p (settled ++ later) ordered) sorted

-- what holds after the moves
pub record HasMoved (least : Option ℕ) (notes : List Note) (all : List Write) (new : History) (waiting : List Write) : Type 0 where
  pub front : IsPrefix new.writes all
  pub told : AreTold new.writes waiting notes
  pub continues : first_below least waiting ≡ None → Continues new.writes least all

pub HasMoved-from : (least : Option ℕ) (notes : List Note) (all : List Write) (old : History) (waited : List Write) (new : History) (waiting : List Write)
    → ArePromised old.image notes least all → IsPrefix old.writes all → AreTold old.writes waited notes → are_in_order waited ≡ true
    → Moves least old waited new waiting → HasMoved least notes all new waiting
HasMoved-from least notes all old waited new waiting promised front told in_order moves =
    let p = is_early least in
    let later = front.0 in
    let moved = moves.moved in
    let ordered : are_in_order (old.writes ++ later) ≡ true = ap are_in_order front.1 ∙ promised.kept.in_order in
    let same = same_early least old.writes waited later (announced notes) ordered in_order told (promised.exact ∙ ap (usable_below least) (sym front.1)) in
    let parts : filter p waited ≡ moved ++ filter p waiting =
    ap (filter p) moves.left ∙ filter-append p moved waiting ∙ ap (λ (ws : List Write). ws ++ filter p waiting) (filter-all p moved moves.below) in
    let cut = early-first least later (in_order-behind old.writes later ordered) in
    let rest = filter p waiting ++ cut.0 in
    let next : later ≡ moved ++ rest =
    cut.1 ∙ ap (λ (ws : List Write). ws ++ cut.0) (sym same ∙ parts) ∙ append_assoc moved (filter p waiting) cut.0 in
    let whole : all ≡ (old.writes ++ moved) ++ rest =
    sym front.1 ∙ ap (λ (ws : List Write). old.writes ++ ws) next ∙ sym (append_assoc old.writes moved rest) in
    let kept = IsKept-front old.image (old.writes ++ moved) rest (subst (λ (ws : List Write). IsKept (history old.image ws)) whole promised.kept) in
    let writes : new.writes ≡ old.writes ++ moved = ap (λ (h : History). h.writes) (moves.added kept) in
    let still : are_in_order waiting ≡ true = in_order-behind moved waiting (ap are_in_order (sym moves.left) ∙ in_order) in
    record {
      front = (rest, ap (λ (ws : List Write). ws ++ rest) writes ∙ sym whole);
      told = ap (λ (ws : List Write). by_key (ws ++ waiting)) writes ∙ ap by_key (append_assoc old.writes moved waiting ∙ ap (λ (ws : List Write). old.writes ++ ws) (sym moves.left)) ∙ told;
      continues = λ done. record {
        later = cut.0;
        are = whole ∙ ap (λ (ws : List Write). ws ++ rest) (sym writes) ∙ ap (λ (ws : List Write). new.writes ++ (ws ++ cut.0)) (early-none least waiting still done);
        after = cut.2;
      };
    }

-- a look, from what it kept to what it keeps

abbrev pub view_of : History → List Write → ℕ → SettledView
view_of h waiting seen = record { image = h.image; writes = h.writes; waiting = waiting; seen = seen }

module _ (least : Option ℕ) (notes : List Note) (old : SettledView) (h : History) (waited taken : List Write) (from to : ℕ) (new : History) (waiting : List Write)
    (is : view_of h waited from ≡ old) (takes : TakesIn notes from to waited taken) (all_taken : to ≡ length notes) (in_order : are_in_order taken ≡ true)
    (moves : Moves least h taken new waiting) where
  moved : (all : List Write) → ArePromised h.image notes least all → Stands (view_of h waited from) (take from notes) all → HasMoved least notes all new waiting
  moved all promised stands =
      let told : AreTold h.writes taken (take to notes) = takes promised.apart h.writes stands.told in
      let whole : take to notes ≡ notes = ap (λ (n : ℕ). take n notes) all_taken ∙ take-length notes in
      HasMoved-from least notes all h taken new waiting promised stands.front (subst (λ (ns : List Note). AreTold h.writes taken ns) whole told) in_order moves

  pub Settles-moved : first_below least waiting ≡ None → Settles old (view_of new waiting to) notes least
  Settles-moved done =
      subst (λ (v : SettledView). Settles v (view_of new waiting to) notes least) is
      (λ all promised stands. let has = moved all promised stands in (record { front = has.front; told = has.told }, has.continues done))

  pub StaysTrue-moved : StaysTrue old (view_of new waiting to) notes least
  StaysTrue-moved =
      subst (λ (v : SettledView). StaysTrue v (view_of new waiting to) notes least) is
      (λ all promised stands.
      let has = moved all promised stands in
      let whole : take to notes ≡ notes = ap (λ (n : ℕ). take n notes) all_taken ∙ take-length notes in
      record { front = has.front; told = subst (λ (ns : List Note). AreTold new.writes waiting ns) (sym whole) has.told })

-- where only some of the notes were taken in, what has settled is as before
pub StaysTrue-taken : (least : Option ℕ) (notes : List Note) (old : SettledView) (h : History) (waited taken : List Write) (from to : ℕ)
    → view_of h waited from ≡ old → TakesIn notes from to waited taken → StaysTrue old (view_of h taken to) notes least
StaysTrue-taken least notes old h waited taken from to is takes =
    subst (λ (v : SettledView). StaysTrue v (view_of h taken to) notes least) is
    (λ all promised stands. record { front = stands.front; told = takes promised.apart h.writes stands.told })

-- the same of the notes that come behind

pub taken-more : (before more : List Note) (from to : ℕ) (waited taken : List Write) → from ≡ length before → from ≤ to
    → taken ≡ waiting_after waited (take (to - from) more) → TakesIn (before ++ more) from to waited taken
taken-more before more from to waited taken count rise is =
    let end : length before + (to - from) ≡ to = omega arith in
    subst (λ (ws : List Write). TakesIn (before ++ more) from to waited ws) (sym is)
    (subst (λ (n : ℕ). TakesIn (before ++ more) n to waited (waiting_after waited (take (to - from) more))) (sym count)
    (subst (λ (n : ℕ). TakesIn (before ++ more) (length before) n waited (waiting_after waited (take (to - from) more))) end
    (TakesIn-more before more (to - from) waited)))

pub on_err_always : {T E P : Type 0} (r : Result T E) → P → OnErr r P
on_err_always (Ok x) holds = tt
on_err_always (Err e) holds = holds

pub on_err_weaker : {T E P Q : Type 0} (r : Result T E) → (P → Q) → OnErr r P → OnErr r Q
on_err_weaker (Ok x) weaker holds = tt
on_err_weaker (Err e) weaker holds = weaker holds

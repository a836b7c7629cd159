-- What the steps of a seat come to.
use Rattle.std.proofs.Common.{◌≡◌, ℕ, Result, Ok, Err, MatchResult, ◌%◌, ◌^◌, List, [], ◌∷◌, ◌++◌, All, drop, length, sym, ap, ◌∙◌, subst}
use Rattle.std.proofs.lemmas.List.Elements.{All-head}
use Rattle.std.proofs.Math.Seq.{drop-append_seam}
use Rattle.atomic_table.specs.Table.{rest}
use Rattle.dt_record.specs.declared.writes.Note.{Note}
use Rattle.dt_shared.specs.declared.entries.Entry.{Entry}
use Rattle.dt_shared.specs.declared.views.Known.{Known}
use Rattle.dt_shared.specs.Entries.{notes_in, entries_of}
use Rattle.dt_shared.specs.Views.{waiting, holding}
use Rattle.dt_shared.specs.Moments.{Stored}
use Rattle.dt_shared.specs.Steps.{Seated, list_of, Agrees, Comes, Publishes, Looks, Leaves, halted, Stops, asked, Asks}
use Rattle.dt_shared.specs.Turns.{Rests, HasTurn, appended, caught_up}
use Rattle.dt_shared.proofs.Histories.{notes_in-entries_of}

-- a seat whose ticket is served has the slot
pub takes_turn : (start before after : Seated) (t found ticket : ℕ) → before ≡ (waiting start.0.passes start.0.made t, []) → ticket ≡ t % 2 ^ 64 → found ≡ ticket → Comes before found after
    → (k : Known) (made : ℕ) → Rests k made start → (n : ℕ) × (history : List Entry) × Agrees history k × HasTurn k made n history after
takes_turn start before after t found ticket e drawn served told k made rests =
    let c : Comes (waiting start.0.passes start.0.made t, []) found after = subst (λ (x : Seated). Comes x found after) e told in
    let got = c.0 (served ∙ drawn) in let list : Stored = got.0 in (
      t,
      list.items,
      All-head (Agrees list.items) k [] (subst (λ (x : Seated). All (Agrees list.items) x.0.passes) rests got.2),
      (list, (λ _. list.items), got.1 ∙ ap (λ (x : Seated). (holding x.0.passes x.0.made t list.items, (0, list) ∷ [])) rests),
    )

-- what was added to the list became part of the history
pub appends : (before after : Seated) (k : Known) (made t : ℕ) (history : List Entry) (list : Stored) (notes : List Note) → list.items ≡ history ++ entries_of k.number notes
    → before ≡ (holding (k ∷ []) made t history, (0, list) ∷ []) → Publishes before 0 after → HasTurn (appended k history notes) made t (history ++ entries_of k.number notes) after
appends before after k made t history list notes added e told =
    let p : Publishes (holding (k ∷ []) made t history, (0, list) ∷ []) 0 after = subst (λ (x : Seated). Publishes x 0 after) e told in
    let new : notes_in (drop (length history) list.items) ≡ notes =
    ap (λ (ys : List Entry). notes_in (drop (length history) ys)) added ∙ (ap notes_in (drop-append_seam history (entries_of k.number notes)) ∙ notes_in-entries_of k.number notes) in
    let same : (holding (record k { seen = list.items; own = k.own ++ notes_in (drop (length history) list.items) } ∷ []) made t list.items, (0, list) ∷ [])
    ≡ (holding (appended k history notes ∷ []) made t (history ++ entries_of k.number notes), (0, list) ∷ []) =
    λ i. (holding (record k { seen = added i; own = k.own ++ new i } ∷ []) made t (added i), (0, list) ∷ []) in
    (list, added, p ∙ same)

-- the history was seen
pub catches_up : (before after : Seated) (k : Known) (made t : ℕ) (history : List Entry) → HasTurn k made t history before → Looks before 0 after → HasTurn (caught_up k history) made t history after
catches_up before after k made t history turn told = (turn.0, turn.1, subst (λ (x : Seated). Looks x 0 after) turn.2 told)

-- the slot was given back
pub rests : (before after : Seated) (k : Known) (made t : ℕ) (history : List Entry) → HasTurn k made t history before → Leaves before 0 after → Rests k made after
rests before after k made t history turn told = subst (λ (x : Seated). Leaves x 0 after) turn.2 told

-- the list in the slot is the history
pub slot_of : (me : Seated) (k : Known) (made t : ℕ) (history : List Entry) → HasTurn k made t history me → (old : Stored) × (me.1 ≡ (0, old) ∷ rest me.1)
slot_of me k made t history turn = let e : me.1 ≡ (0, turn.0) ∷ [] = ap (λ (x : Seated). x.1) turn.2 in (turn.0, e ∙ ap (λ (l : List (ℕ × Stored)). (0, turn.0) ∷ rest l) (sym e))

pub lent_items : (me : Seated) (k : Known) (made t : ℕ) (history : List Entry) (lent : Stored) → HasTurn k made t history me → me.1 ≡ (0, lent) ∷ rest me.1 → lent.items ≡ history
lent_items me k made t history lent turn is = ap list_of (sym is ∙ ap (λ (x : Seated). x.1) turn.2) ∙ turn.1

-- the seat once something was written to the list
pub with_list : (me : Seated) (k : Known) (made t : ℕ) (history : List Entry) (list : Stored) → HasTurn k made t history me → ◌≡◌ {A = Seated} (me.0, (0, list) ∷ rest me.1) (holding (k ∷ []) made t history, (0, list) ∷ [])
with_list me k made t history list turn = ap (λ (x : Seated). (x.0, (0, list) ∷ rest x.1)) turn.2

-- whether or not memory was there, the seat has the slot
pub either_turn : {E : Type 0} (result : Result (Unit {0}) E) (k later : Known) (made t : ℕ) (history all : List Entry) (me : Seated)
    → MatchResult result (λ _. HasTurn later made t all me) (λ _. HasTurn k made t history me) → (j : Known) × (n : ℕ) × (u : ℕ) × (xs : List Entry) × HasTurn j n u xs me
either_turn (Ok _) k later made t history all me told = (later, made, t, all, told)
either_turn (Err _) k later made t history all me told = (k, made, t, history, told)

-- the pass has stopped
pub stops : (before after : Seated) (k : Known) (made : ℕ) → Rests k made before → Stops before 0 after → Rests (halted k) made after
stops before after k made rests told = subst (λ (x : Seated). Stops x 0 after) rests told

-- the pass saw a stop, or none
pub asks : (before after : Seated) (k : Known) (made found : ℕ) → Rests k made before → Asks before found after → Rests (asked found k) made after
asks before after k made found rests told = subst (λ (x : Seated). Asks x found after) rests told

-- the seat once the list was read
pub lent_turn : (me : Seated) (k : Known) (made t : ℕ) (history : List Entry) (lent : Stored) → HasTurn k made t history me → me.1 ≡ (0, lent) ∷ rest me.1 → HasTurn k made t history (me.0, (0, lent) ∷ rest me.1)
lent_turn me k made t history lent turn is = (lent, lent_items me k made t history lent turn is, with_list me k made t history lent turn)

pub both_told : {E : Type 0} (A B C D : Type 0) (result : Result (Unit {0}) E) → MatchResult result (λ _. A) (λ _. B) → MatchResult result (λ _. C) (λ _. D) → MatchResult result (λ _. A × C) (λ _. B × D)
both_told A B C D (Ok _) p q = (p, q)
both_told A B C D (Err _) p q = (p, q)

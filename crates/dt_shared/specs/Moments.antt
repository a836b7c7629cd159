-- The rule of the shared record: what holds at every moment between two atomic steps.
-- The words count tickets and entries, one slot has the stored history, and each seat has a view. All of it is this project's own.
use Rattle.std.specs.Prelude.{◌≡◌, ◌≢◌, ℕ, ◌+◌, ◌%◌, ◌^◌, ◌<◌, ◌≤◌, ◌⊎◌, nat_lt, true, Some, IfSome, List, [], ◌∷◌, length, All, Vec}
use mathlib.Core.Option.{some, none}
use mathlib.Core.List.{IsPrefix}
use lib.ListN.{get_elem?}
use Rattle.std.specs.declared.alloc.Global.{Global}
use Rattle.atomic_table.specs.Table.{State}
use Rattle.dt_shared.specs.declared.entries.Entry.{Entry}
use Rattle.dt_shared.specs.declared.views.View.{View}
use Rattle.dt_shared.specs.Entries.{notes_of}
use Rattle.dt_shared.specs.Views.{EachView, EachPass, one_if, total, over_passes, in_line, is_numbered, has_stopped}

-- what the slot holds
abbrev pub Stored : Type 0
Stored = Vec Entry Global

-- the slot: at home with its value, or out with a seat
abbrev pub Home : Type 0
Home = mathlib.Core.Option.Option Stored

pub record Words : Type 0 where
  pub ticket : ℕ  -- the ticket that the next comer draws
  pub serving : ℕ  -- the ticket that is served
  pub count : ℕ  -- how many entries the history has
  pub halt : ℕ  -- not 0 once a pass has stopped

abbrev pub word_list : Words → List ℕ
word_list w = w.ticket ∷ w.serving ∷ w.count ∷ w.halt ∷ []

-- the line before the slot. `front` is how many tickets were served so far
pub record Lined (front : ℕ) (history : List Entry) (ticket serving : ℕ) (home : Home) (views : List View) : Type 0 where
  -- each seat in line has a ticket, the served one or one of those right behind it, and no two have the same; the next comer
  -- draws the one behind all of these. The two words wrap at 2^64
  pub served : serving ≡ front % 2 ^ 64
  pub drawn : ticket ≡ (front + total in_line views) % 2 ^ 64
  pub tickets : EachView views (λ v. IfSome v.ticket (λ t. (front ≤ t) × (t < front + total in_line views)))
  pub apart : (i j : ℕ) (v w : View) (t : ℕ) → get_elem? views i ≡ some v → get_elem? views j ≡ some w
      → v.ticket ≡ Some t → w.ticket ≡ Some t → i ≡ j
  -- a seat that stands for no pass has no ticket
  pub in_person : EachView views (λ v. in_line v ≤ length v.passes)
  -- the history lies in the slot, or with the one seat that may take it out: the seat that is served
  pub at_home : (list : Stored) → home ≡ some list → list.items ≡ history
  pub away : home ≡ none → (seat : ℕ) × (v : View) × (get_elem? views seat ≡ some v) × (v.ticket ≡ Some front) × (v.held ≡ Some history)
  pub holder : EachView views (λ v. IfSome v.held (λ xs. (xs ≡ history) × (v.ticket ≡ Some front) × (home ≡ none)))

-- what the passes know. `most` is how many passes there are to be, and `made` how many were made so far
pub record AccountStands (most made : ℕ) (history : List Entry) (count halt : ℕ) (views : List View) : Type 0 where
  -- the history has `count` entries. What the seat that has the slot puts behind the list is no part of it before it is counted
  pub counted : count ≡ length history
  -- what a pass has seen is how the history begins
  pub seen : EachPass views (λ k. IsPrefix k.seen history)
  -- the notes of a pass are those that the history has under its number; giving it back changes nothing in this
  pub own : EachPass views (λ k. k.own ≡ notes_of k.number history)
  -- a number below `made` belongs to one pass, and any other to none; no entry stands under a number without a pass
  pub numbered : (n : ℕ) → over_passes (is_numbered n) views ≡ one_if (nat_lt n made)
  pub all_made : over_passes (λ k. 1) views ≡ made
  pub entered : All (λ e. e.pass < made) history
  -- the seat from which passes are cut knows how many were made, and the number of each fits the key of the table
  pub makers : EachView views (λ v. (v.made ≡ 0) ⊎ (v.made ≡ made))
  pub one_maker : total (λ v. v.made) views ≡ made
  pub few : (made ≤ most) × (most < 256)
  -- the word `halt` tells whether any pass has stopped. Nobody saw a stop before the word told it
  pub halts : halt ≢ 0 → 0 < over_passes has_stopped views
  pub runs : halt ≡ 0 → over_passes has_stopped views ≡ 0
  pub saw : EachPass views (λ k. k.saw_stop ≡ true → halt ≢ 0)

-- the rule over words, slot and views. Where one seat took in the pass of another, the pass is among the first one's from then
-- on, and the other has none
pub record Moment (most : ℕ) (w : Words) (home : Home) (views : List View) : Type 0 where
  pub front : ℕ
  pub history : List Entry
  pub made : ℕ
  pub line : Lined front history w.ticket w.serving home views
  pub kept : AccountStands most made history w.count w.halt views

-- the rule over the table
pub record Holds (most : ℕ) (s : State Stored View) : Type 0 where
  pub words : Words
  pub home : Home
  pub has_words : s.words ≡ word_list words
  pub has_slot : s.homes ≡ home ∷ []
  pub moment : Moment most words home s.views

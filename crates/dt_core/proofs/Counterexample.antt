use Rattle.std.proofs.Common.{ℕ, ◌≡◌, ◌<◌, ◌≤◌, ◌⊎◌, true, false, List, [], ◌∷◌, length, refl, sym, ap, subst, inl, inr, arith}
use Rattle.std.proofs.Common.{lit<, lit≤}
use Rattle.std.proofs.lemmas.List.{append-nil}
use mathlib.Core.List.{IsPrefix}
use Rattle.dt_lists.proofs.Lists.{not_last}
use Rattle.dt_record.specs.declared.records.Record.{Record}
use Rattle.dt_record.specs.declared.records.Retire.{Retire}
use Rattle.dt_record.specs.declared.records.Body.TheVariants.{Atomic, Beat}
use Rattle.dt_record.specs.declared.writes.Note.{Note}
use Rattle.dt_record.specs.declared.writes.Note.TheVariants.{Mark, End}
use Rattle.dt_record.specs.Keys.{records_of}
use Rattle.dt_record.specs.ProbeFile.{AreRecords, no_stamps}
use Rattle.dt_record.specs.Writes.{by_key, writes_of}
use Rattle.dt_versions.specs.History.{writes_until}
use Rattle.dt_core.specs.Laws.{WritesUntilMarkAreAll, EqualMarkIsEnough}
use Rattle.dt_record.specs.Marks.{mark_of, has_ended}
use Rattle.dt_core.specs.Notes.{announced, hart_writes, writes_below}
use Rattle.dt_core.specs.Sound.{Lists, IsSound, writes_by}
use Rattle.dt_core.proofs.Places.{push-split}

-- One hart has a beat in cycle 5 and then, in the same cycle, a record that writes. Only the beat
-- was fed, taken and marked.

abbrev beat : Record
beat = record { stamp = 5; hart = 0; body = Beat }

abbrev swap_of : Retire
swap_of = record { pc = 0x8000_0000; bits = 0x0050_0093; value = 0 }

abbrev swap : Record
swap = record { stamp = 5; hart = 0; body = Atomic swap_of 0x8000_0000 8 true 7 }

abbrev both : List Record
both = beat ∷ swap ∷ []

abbrev marked : List Note
marked = Mark 0 5 ∷ []

abbrev half_way : Lists
half_way = record { fed = beat ∷ []; is_ended = false; taken = λ hart. records_of hart (beat ∷ []); queue = λ hart. []; history = marked }

both-each : AreRecords 1 no_stamps both
both-each = (
  record { fits = record { stamp = lit< tt; hart = lit< tt; body = tt }; lawful = refl; hart = lit< tt; stamp = lit≤ tt },
  (
    record {
      fits = record { stamp = lit< tt; hart = lit< tt; body = (record { pc = lit< tt; bits = lit< tt; value = lit< tt }, lit< tt, lit< tt, lit< tt) };
      lawful = refl;
      hart = lit< tt;
      stamp = lit≤ tt;
    },
    tt,
  ),
)

half_way-mark : (hart stamp : ℕ) (before : List Note) → [] ≡ before → Mark 0 5 ≡ Mark hart stamp
    → writes_below stamp (hart_writes hart (announced before)) ≡ writes_below stamp (writes_by (records_of hart both))
half_way-mark hart stamp before none is =
    let own : 0 ≡ hart = cc in
    let five : 5 ≡ stamp = cc in
    subst (λ (h : ℕ). writes_below stamp (hart_writes h (announced before)) ≡ writes_below stamp (writes_by (records_of h both))) own
    (subst (λ (s : ℕ). writes_below s (hart_writes 0 (announced before)) ≡ writes_below s (writes_by (records_of 0 both))) five
    (ap (λ ns. writes_below 5 (hart_writes 0 (announced ns))) (sym none)))

half_way-sound : IsSound both half_way
half_way-sound = record {
  fed = record { front = (swap ∷ [], refl); whole = λ ended. absurd (let bad : false ≡ true = ended in let never : ⊥ = cc in never) };
  kept = λ hart. append-nil (records_of hart (beat ∷ []));
  harts = λ hart. record {
    wrote = (writes_by (records_of hart (beat ∷ [])), refl);
    marks = λ before after stamp is. elim (push-split [] before after (Mark 0 5) (Mark hart stamp) is) [
      | inl end ↦ half_way-mark hart stamp before end.0 end.1
      | inr inside ↦ absurd (not_last before inside.after (Mark hart stamp) inside.split)
    ];
    ends = λ before after is. elim (push-split [] before after (Mark 0 5) (End hart) is) [
      | inl end ↦ let bad : Mark 0 5 ≡ End hart = end.1 in absurd (let never : ⊥ = cc in never)
      | inr inside ↦ absurd (not_last before inside.after (End hart) inside.split)
    ];
  };
}

whole_front : IsPrefix marked marked
whole_front = ([], refl)

none_is_one : (n m : ℕ) → n ≡ 0 → m ≡ 1 → n ≡ m → ⊥
none_is_one n m none one same = omega arith

-- the notes announce no write, and the file has one
not_all : writes_until 5 (by_key (announced marked)) ≡ writes_until 5 (writes_of both) → ⊥
not_all all = none_is_one (length (writes_until 5 (by_key (announced marked)))) (length (writes_until 5 (writes_of both))) refl refl (ap length all)

pub below-needed : WritesUntilMarkAreAll → ⊥
below-needed all = not_all (all 1 both half_way marked 5 both-each half_way-sound whole_front refl)

pub strict-needed : EqualMarkIsEnough → ⊥
strict-needed all =
    let reached : (hart : ℕ) → hart < 1 → (has_ended hart marked ≡ true) ⊎ (5 ≤ mark_of hart marked) = λ hart one.
    let first : 0 ≡ hart = omega arith in
    inr (subst (λ (h : ℕ). 5 ≤ mark_of h marked) first (lit≤ tt)) in
    not_all (all 1 both half_way marked 5 both-each half_way-sound whole_front reached)

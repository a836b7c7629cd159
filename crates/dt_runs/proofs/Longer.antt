-- What is said of a hart's first records holds of them among more of its records.
use Rattle.std.proofs.Common.{ℕ, ◌≡◌, ◌≤◌, ◌+◌, Bool, Some, List, [], ◌∷◌, ◌++◌, length, take, drop, refl, sym, ap, ◌∙◌, subst, arith, Ok}
use Rattle.std.specs.List.{slice_get}
use Rattle.std.specs.Option.{option_to_list}
use Rattle.std.proofs.lemmas.List.{append-nil, append_assoc, take-append-drop, take-append-le}
use Rattle.std.proofs.lemmas.Option.{slice_get_within}
use Rattle.dt_lists.proofs.Lists.{slice_get-append_left}
use Rattle.dt_record.specs.declared.records.Record.{Record}
use Rattle.dt_record.specs.declared.writes.Write.{Write}
use Rattle.dt_record.specs.Actions.{Action}
use Rattle.dt_record.specs.Keys.{key_of}
use Rattle.dt_rules.specs.declared.misfits.Passed.{Passed}
use Rattle.dt_reference.specs.HartActions.{action_of, actions_from, actions_of}
use Rattle.dt_record.specs.LoadSources.{AreLeastSources}
use Rattle.dt_judge.specs.Judgement.{Finds}
use Rattle.dt_judge.specs.Runs.{AreAllowed, setting_at}
use Rattle.dt_verdict.specs.declared.tallies.Noted.{Noted}
use Rattle.dt_runs.specs.Noting.{note_of, notes_from}
use Rattle.dt_runs.specs.Runs.{setting_after}

-- ---- actions

actions_from-append : (seq : ℕ) (xs ys : List Record) → actions_from seq (xs ++ ys) ≡ actions_from seq xs ++ actions_from (seq + length xs) ys
actions_from-append seq [] ys = ap (λ n. actions_from n ys) (omega arith)
actions_from-append seq (x ∷ xs) ys =
    let own : List Action = option_to_list (action_of seq x) in
    ap (λ (later : List Action). own ++ later) (actions_from-append (seq + 1) xs ys ∙ ap (λ n. actions_from (seq + 1) xs ++ actions_from n ys) (omega arith))
    ∙ sym (append_assoc own (actions_from (seq + 1) xs) (actions_from (seq + length (x ∷ xs)) ys))

-- an action of the first records is one of all, at its place
pub earlier_action : (records : List Record) (n place : ℕ) (a : Action) → slice_get (actions_of (take n records)) place ≡ Some a → slice_get (actions_of records) place ≡ Some a
earlier_action records n place a there =
    let first = take n records in
    let rest = drop n records in
    ap (λ rs. slice_get (actions_of rs) place) (sym (take-append-drop n records))
    ∙ ap (λ (actions : List Action). slice_get actions place) (actions_from-append 0 first rest)
    ∙ slice_get-append_left (actions_of first) (actions_from (0 + length first) rest) place (slice_get_within (actions_of first) place a there)
    ∙ there

-- ---- settings and allowed records

pub setting_longer : (image : List ℕ) (writes : List Write) (wide : Bool) (hart : ℕ) (records more : List Record) (moments : ℕ → ℕ) (n : ℕ) → n ≤ length records
    → setting_at image writes wide hart records moments n ≡ setting_at image writes wide hart (records ++ more) moments n
setting_longer image writes wide hart records more moments n within =
    ap (λ rs. setting_after image writes wide hart rs moments) (sym (take-append-le n records more within))

pub allowed_longer : (image : List ℕ) (writes : List Write) (wide : Bool) (hart : ℕ) (records more : List Record) (moments : ℕ → ℕ) (allowed : List Passed) → length allowed ≤ length records
    → AreAllowed image writes wide hart records moments allowed → AreAllowed image writes wide hart (records ++ more) moments allowed
allowed_longer image writes wide hart records more moments allowed few are = record {
  chosen = subst (λ rs. AreLeastSources image writes (actions_of rs) moments) (sym (take-append-le (length allowed) records more few)) are.chosen;
  each = λ n p there.
      let at = are.each n p there in
      let within = slice_get_within allowed n p there in
      (at.0, slice_get-append_left records more n (omega arith) ∙ at.1, subst (λ s. Finds s at.0 (Ok p)) (setting_longer image writes wide hart records more moments n (omega arith)) at.2);
}

-- ---- notes

notes_from-none : (seq : ℕ) (records : List Record) → notes_from seq records [] ≡ []
notes_from-none seq [] = refl
notes_from-none seq (r ∷ rs) = refl

pub notes_longer : (seq : ℕ) (records more : List Record) (allowed : List Passed) → length allowed ≤ length records → notes_from seq (records ++ more) allowed ≡ notes_from seq records allowed
notes_longer seq [] more [] few = notes_from-none seq more
notes_longer seq [] more (p ∷ ps) few = absurd (omega arith)
notes_longer seq (r ∷ rs) more [] few = refl
notes_longer seq (r ∷ rs) more (p ∷ ps) few = ap (λ (later : List Noted). note_of (key_of seq r) p ++ later) (notes_longer (seq + 1) rs more ps (omega arith))

pub notes_push : (seq : ℕ) (records : List Record) (allowed : List Passed) (r : Record) (p : Passed) → length allowed ≡ length records
    → notes_from seq (records ++ r ∷ []) (allowed ++ p ∷ []) ≡ notes_from seq records allowed ++ note_of (key_of (seq + length allowed) r) p
notes_push seq [] [] r p same = append-nil (note_of (key_of seq r) p) ∙ ap (λ n. note_of (key_of n r) p) (omega arith)
notes_push seq [] (a ∷ later) r p same = absurd (omega arith)
notes_push seq (q ∷ qs) [] r p same = absurd (omega arith)
notes_push seq (q ∷ qs) (a ∷ later) r p same =
    ap (λ (ns : List Noted). note_of (key_of seq q) a ++ ns) (notes_push (seq + 1) qs later r p (omega arith) ∙ ap (λ n. notes_from (seq + 1) qs later ++ note_of (key_of n r) p) (omega arith))
    ∙ sym (append_assoc (note_of (key_of seq q) a) (notes_from (seq + 1) qs later) (note_of (key_of (seq + length (a ∷ later)) r) p))

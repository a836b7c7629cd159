use Rattle.std.proofs.Common.{ℕ, ◌≡◌, ◌+◌, Bool, Option, None, List, [], ◌∷◌, ◌++◌, length, max, sym, ap, ◌∙◌, subst, IsTrue}
use Rattle.std.specs.Option.{option_to_list}
use Rattle.std.proofs.lemmas.List.{length-append}
use Rattle.dt_record.specs.declared.keys.Key.{Key}
use Rattle.dt_record.specs.declared.origins.Sources.{Sources}
use Rattle.dt_record.specs.declared.records.Record.{Record}
use Rattle.dt_record.specs.Actions.{Action, last_read, order_floor}
use Rattle.dt_record.specs.Keys.{key_of}
use Rattle.dt_record.specs.LoadSources.{AreLeastSources}
use Rattle.dt_local.specs.LocalMemory.{LocalMemory, local_memory}
use Rattle.dt_reference.specs.HartActions.{action_of, actions_of}
use Rattle.dt_reference.specs.Run.{after_record, state_after}
use Rattle.dt_sources.specs.Knowing.{Knows, AreJudged, KnowingGoesOn, NotesAreAdded}
use Rattle.dt_judged.specs.GoingOn.{JudgedGoesOn}
use Rattle.dt_step.specs.declared.state.Arch.{Arch}
use Rattle.dt_stores.specs.Standing.{StoresStand}
use Rattle.dt_hart.specs.declared.accesses.Accesses.{Accesses}
use Rattle.dt_windows.specs.Kept.{WindowsView}
use Rattle.dt_hart.specs.Following.{Follows, FollowsFences, floor_asked}
use Rattle.dt_hart.specs.HartView.{HartView}
use Rattle.dt_hart.specs.OwnWrites.{GoesOn}
use Rattle.dt_hart.specs.Reserving.{reserved_by}
use Rattle.dt_hart.specs.Settings.{Setting, after, did, does, key_in, moments_after, next_key}
use Rattle.dt_hart.specs.Standing.{HartStands}
use Rattle.dt_hart.specs.Taking.{WasJudged, is_placed}
use Rattle.dt_hart.proofs.Earlier.{key_after}
use Rattle.dt_hart.proofs.FencesOn.{reserved_after, windows_after}
use Rattle.dt_hart.proofs.Floors.{last_read_after, order_floor_after_one}
use Rattle.dt_hart.proofs.JudgedOn.{judged_after}
use Rattle.dt_hart.proofs.RecordKinds.{Kind, kind_of}
use Rattle.dt_hart.proofs.KnowingOn.{ChoiceLaws, known_next, known_after, chosen_after}
use Rattle.dt_hart.proofs.OwnKeys.{stamp_from-snoc}

-- What is kept of a hart goes on standing for its records.

-- what is kept, by its parts
abbrev pub kept : (a : Arch) (seq stamp : ℕ) → Accesses → Option (ℕ × Key) → WindowsView → HartView
kept a seq stamp accesses reserved windows = record {
  arch = a;
  seq = seq;
  stamp = stamp;
  stores = accesses.stores;
  keys = accesses.local.keys;
  floor = accesses.floor;
  last_read = accesses.last_read;
  reserved = reserved;
  windows = windows;
  keeps = accesses.local.keeps;
  from = accesses.local.from;
  past = accesses.local.past;
}

-- the laws of the reference that this rests on
pub record Laws : Type 0 where
  pub state : (hart : ℕ) (wide : Bool) (records : List Record) (r : Record) → state_after hart wide (records ++ r ∷ []) ≡ after_record (state_after hart wide records) r
  pub actions : (records : List Record) (r : Record) → actions_of (records ++ r ∷ []) ≡ actions_of records ++ option_to_list (action_of (length records) r)
  pub knowing : KnowingGoesOn
  pub added : NotesAreAdded
  pub choice : ChoiceLaws
  pub judging : JudgedGoesOn

next_after : (s : Setting) (r : Record) (moment : ℕ) → next_key (after s r moment) ≡ key_after s r
next_after s r moment =
    let long = length-append s.before (r ∷ []) in
    let with_stamp : ℕ → ℕ → Key = λ stamp seq. record { stamp = stamp; hart = s.hart; seq = seq } in
    ap (λ stamp. with_stamp stamp (length (s.before ++ r ∷ []))) (stamp_from-snoc 0 s.before r) ∙ ap (with_stamp r.stamp) long

pub goes_on : Laws → (a b : Arch) (seq stamp : ℕ) (old new : Accesses) (reserved leaves : Option (ℕ × Key)) (windows next : WindowsView) (r : Record) (sources : Sources)
    → IsTrue (is_placed (action_of seq r)) → b ≡ after_record a r → Follows old new (key_of seq r) r.body sources → leaves ≡ reserved_by (key_of seq r) r.body reserved
    → FollowsFences windows next a seq r
    → (s : Setting) (moment : ℕ) → HartStands (kept a seq stamp old reserved windows) s → GoesOn s r → WasJudged s r moment sources
    → HartStands (kept b (seq + 1) r.stamp new leaves next) (after s r moment)
goes_on laws a b seq stamp old new reserved leaves windows next r sources placed state follow reserves fences s moment stands g known =
    let kind : Kind (key_in s r) r.body = kind_of (key_in s r) r.body in
    let h : HartView = kept a seq stamp old reserved windows in
    let follows : Follows old new (key_in s r) r.body sources = subst (λ n. Follows old new (key_of n r) r.body sources) stands.seq follow in
    let long = length-append s.before (r ∷ []) in
    let acts : did (after s r moment) ≡ did s ++ option_to_list (does s r) = laws.actions s.before r in
    let next_is : next_key (after s r moment) ≡ key_after s r = next_after s r moment in
    let moments : ℕ → ℕ = moments_after s (does s r) moment in
    let l : LocalMemory = local_memory new.local.keys None in
    let place : IsTrue (is_placed (does s r)) = subst (λ n. IsTrue (is_placed (action_of n r))) stands.seq placed in
    let knows = known_after laws.knowing laws.added old.local new.local s r g moment sources (known_next laws.knowing h s r stands g) follows.keys known.is_read place kind in
    let chosen = chosen_after laws.choice s r moment sources g.in_order stands.chosen known.is_read kind in
    let judged = judged_after laws.judging h s r g stands known.is_drained place kind in
    record {
      seq = ap (λ n. n + 1) stands.seq ∙ sym long;
      stamp = sym (stamp_from-snoc 0 s.before r);
      arch = state ∙ ap (λ (x : Arch). after_record x r) stands.arch ∙ sym (laws.state s.hart s.wide s.before r);
      stores = subst (λ (xs : List Action). StoresStand new.stores xs) (sym acts) (follows.stores (did s) stands.stores known.is_drained);
      knows = subst (λ (k : Key). Knows l s.writes (did (after s r moment)) moments k) (sym next_is)
          (subst (λ (xs : List Action). Knows l s.writes xs moments (key_after s r)) (sym acts) knows);
      chosen = subst (λ (xs : List Action). AreLeastSources s.image s.writes xs moments) (sym acts) chosen;
      judged = subst (λ (k : Key). AreJudged s.writes (did (after s r moment)) k) (sym next_is)
          (subst (λ (xs : List Action). AreJudged s.writes xs (key_after s r)) (sym acts) judged);
      floor = follows.floor ∙ ap (λ n. max n (floor_asked old.last_read (does s r))) stands.floor
          ∙ ap (λ n. max (order_floor (did s)) (floor_asked n (does s r))) stands.last_read
          ∙ sym (ap order_floor acts ∙ order_floor_after_one (did s) (does s r));
      last_read = follows.last_read ∙ ap (λ n. max n (last_read (option_to_list (does s r)))) stands.last_read
          ∙ sym (ap last_read acts ∙ last_read_after (did s) (does s r));
      reserved = reserves ∙ ap (λ n. reserved_by (key_of n r) r.body reserved) stands.seq ∙ ap (reserved_by (key_in s r) r.body) stands.reserved ∙ sym (reserved_after s r);
      windows = windows_after s r moment a seq windows next stands.arch stands.seq g fences stands.windows;
    }

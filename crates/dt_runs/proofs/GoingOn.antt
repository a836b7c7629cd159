-- A run goes on by one more record.
use Rattle.std.proofs.Common.{ℕ, ◌≡◌, ◌<◌, ◌≤◌, ◌+◌, ◌==◌, Bool, Option, Some, None, List, [], ◌∷◌, ◌++◌, length, take, drop, refl, sym, ap, ◌∙◌, subst, inl, inr, arith, Ok, Err}
use Rattle.std.specs.List.{slice_get}
use Rattle.std.proofs.lemmas.Bool.{cond-false, ne_eqb}
use Rattle.std.proofs.lemmas.List.{append_assoc, drop-append-le, length-append, length-drop, take_all, take_at}
use Rattle.std.proofs.lemmas.Option.{slice_get_within}
use Rattle.dt_lists.proofs.Lists.{slice_get-append_left, slice_get-append_seam, slice_get-push}
use Rattle.dt_record.specs.declared.accesses.LoadAsk.{LoadAsk}
use Rattle.dt_record.specs.declared.records.Record.{Record}
use Rattle.dt_record.specs.declared.writes.Write.{Write}
use Rattle.dt_record.specs.Actions.{Action, Stored, Drained, Fenced, Loaded, Atomic}
use Rattle.dt_record.specs.Keys.{key_of}
use Rattle.dt_record.specs.Lawful.{is_lawful}
use Rattle.dt_versions.specs.History.{History}
use Rattle.dt_rules.specs.declared.misfits.Misfit.{Misfit}
use Rattle.dt_rules.specs.declared.misfits.Passed.{Passed}
use Rattle.dt_reference.specs.HartActions.{action_of, actions_of}
use Rattle.dt_record.specs.LoadSources.{AreLeastSources}
use Rattle.dt_sources.specs.Choice.{with_moment}
use Rattle.dt_hart.specs.HartView.{HartView}
use Rattle.dt_hart.specs.Settings.{Setting, did, moments_after}
use Rattle.dt_hart.specs.Standing.{HartStands}
use Rattle.dt_judge.specs.Judgement.{Finds}
use Rattle.dt_judge.specs.Judging.{Meets}
use Rattle.dt_judge.specs.Laws.{AgreeAtLoads, EarlierMomentsDecide}
use Rattle.dt_judge.specs.Runs.{AreAllowed, setting_at}
use Rattle.dt_verdict.specs.declared.tallies.Noted.{Noted}
use Rattle.dt_verdict.specs.declared.verdicts.Failure.{Failure}
use Rattle.dt_runs.specs.Noting.{failure_at, note_of, notes_from}
use Rattle.dt_runs.specs.RunView.{RunView}
use Rattle.dt_runs.specs.Runs.{AreOwn, EndsWith, HoldsUntil, LastFails, RunsOn, setting_after}
use Rattle.dt_runs.specs.Stepping.{Allows, IsStep, Refuses}
use Rattle.dt_runs.proofs.Longer.{allowed_longer, earlier_action, notes_longer, notes_push, setting_longer}
use Rattle.dt_runs.proofs.Places.{all_front}

-- ---- moments

with_other : (moments : ℕ → ℕ) (place k n : ℕ) → n < place → with_moment moments place k n ≡ moments n
with_other moments place k n below = cond-false (n == place) k (moments n) (ne_eqb n place (λ e. omega arith))

-- the moments after one more record are those before at the loads before
next_agrees : (s : Setting) (a : Option Action) (k : ℕ) → AgreeAtLoads (did s) s.moments (moments_after s a k)
next_agrees s None k place ask there = refl
next_agrees s (Some (Stored store)) k place ask there = refl
next_agrees s (Some (Drained key line count)) k place ask there = refl
next_agrees s (Some (Fenced ww wr rr)) k place ask there = refl
next_agrees s (Some (Atomic key addr width reads acquires)) k place ask there = refl
next_agrees s (Some (Loaded load)) k place ask there = with_other s.moments (length (did s)) k place (slice_get_within (did s) place (Loaded ask) there)

-- ---- the hart before the record

meets : (held : History) (writes : List Write) (wide : Bool) (before more : List Record) (h : HartView) (r : Record) (moments : ℕ → ℕ)
    → AreOwn writes h.arch.hart (before ++ r ∷ more) → HoldsUntil held.writes r.stamp writes
    → HartStands h (setting_after held.image writes wide h.arch.hart before moments) → Meets h held (setting_after held.image writes wide h.arch.hart before moments) r
meets held writes wide before more h r moments own until stands = record {
  stands = stands;
  goes_on = record { more = more; its = own.its; rising = own.rising; in_order = own.in_order; own = own.same };
  lawful = all_front is_lawful before (r ∷ more) own.lawful;
  image = refl;
  later = until.later;
  writes = until.are;
  after = until.after;
}

-- the setting of the record behind those before
setting_there : (image : List ℕ) (writes : List Write) (wide : Bool) (hart : ℕ) (before more : List Record) (moments : ℕ → ℕ) (n : ℕ) → n ≡ length before
    → setting_after image writes wide hart before moments ≡ setting_at image writes wide hart (before ++ more) moments n
setting_there image writes wide hart before more moments n is = ap (λ rs. setting_after image writes wide hart rs moments) (sym (take_at before more n (sym is)))

-- ---- an allowed record

allowed_push : EarlierMomentsDecide → (image : List ℕ) (writes : List Write) (wide : Bool) (hart : ℕ) (before : List Record) (r : Record) (moments next : ℕ → ℕ) (allowed : List Passed) (p : Passed)
    → length allowed ≡ length before → AgreeAtLoads (actions_of before) moments next → AreAllowed image writes wide hart before moments allowed
    → Finds (setting_after image writes wide hart before moments) r (Ok p) → AreLeastSources image writes (actions_of (before ++ r ∷ [])) next
    → AreAllowed image writes wide hart (before ++ r ∷ []) next (allowed ++ p ∷ [])
allowed_push decide image writes wide hart before r moments next allowed p count agree are finds chosen = record {
  chosen =
      subst (λ rs. AreLeastSources image writes (actions_of rs) next)
      (sym (take_all (length (allowed ++ p ∷ [])) (before ++ r ∷ []) (omega (arith, count, length-append allowed (p ∷ []), length-append before (r ∷ [])))))
      chosen;
  each = λ n q there. elim (slice_get-push allowed p n q there) [
    | inl earlier ↦
        let at = are.each n q earlier in
        let within = slice_get_within allowed n q earlier in
        let same = λ (place : ℕ) (ask : LoadAsk) (here : slice_get (actions_of (take n before)) place ≡ Some (Loaded ask)).
        agree place ask (earlier_action before n place (Loaded ask) here) in (
          at.0,
          slice_get-append_left before (r ∷ []) n (omega arith) ∙ at.1,
          subst (λ s. Finds s at.0 (Ok q)) (setting_longer image writes wide hart before (r ∷ []) next n (omega arith))
              (decide (setting_at image writes wide hart before moments n) next at.0 (Ok q) same at.2),
        )
    | inr now ↦ (
      r,
      ap (slice_get (before ++ r ∷ [])) (now.0 ∙ count) ∙ slice_get-append_seam before r [],
      subst (λ s. Finds s r (Ok q)) (setting_there image writes wide hart before (r ∷ []) next n (now.0 ∙ count))
          (decide (setting_after image writes wide hart before moments) next r (Ok q) agree (subst (λ z. Finds (setting_after image writes wide hart before moments) r (Ok z)) now.1 finds)),
    )
  ];
}

-- what is noted behind earlier records goes on by an allowed one
notes_behind : (earlier before : List Record) (allowed : List Passed) (r : Record) (p : Passed) (notes more : List Noted) (seq : ℕ) → length allowed ≡ length (earlier ++ before) → seq ≡ length allowed
    → notes ≡ notes_from (length earlier) before (drop (length earlier) allowed) → more ≡ notes ++ note_of (key_of seq r) p
    → more ≡ notes_from (length earlier) (before ++ r ∷ []) (drop (length earlier) (allowed ++ p ∷ []))
notes_behind earlier before allowed r p notes more seq count is were noted =
    let n = length earlier in
    let behind = drop n allowed in
    let long = length-append earlier before in
    let cut = length-drop n allowed in
    let same : length behind ≡ length before = omega arith in
    let place : seq ≡ n + length behind = omega arith in
    let within : n ≤ length allowed = omega arith in
    noted
    ∙ ap (λ (ns : List Noted). ns ++ note_of (key_of seq r) p) were
    ∙ ap (λ k. notes_from n before behind ++ note_of (key_of k r) p) place
    ∙ sym (notes_push n before behind r p same)
    ∙ ap (notes_from n (before ++ r ∷ [])) (sym (drop-append-le n allowed (p ∷ []) within))

pub on_allowed : EarlierMomentsDecide → (old new : RunView) (held : History) (r : Record) (p : Passed) → old.failure ≡ None → new.failure ≡ None
    → Allows old.hart new.hart held r p → new.notes ≡ old.notes ++ note_of (key_of old.hart.seq r) p → RunsOn old new held r
on_allowed decide old new held r p none still allows noted writes wide earlier before more own until run =
    let hart = old.hart.arch.hart in
    let all : List Record = earlier ++ before in
    let at = subst (EndsWith old.hart held.image writes wide all run.moments (length run.allowed)) none run.ends in
    let s = setting_after held.image writes wide hart all run.moments in
    let ready = meets held writes wide all more old.hart r run.moments own until at.1 in
    let gone = allows.goes_on s ready in
    let next = moments_after s (action_of (length all) r) gone.0 in
    let number : hart ≡ new.hart.arch.hart = sym allows.hart in
    let joined : all ++ r ∷ [] ≡ earlier ++ (before ++ r ∷ []) = append_assoc earlier before (r ∷ []) in
    record {
      allowed = run.allowed ++ p ∷ [];
      moments = next;
      are_allowed =
          subst (λ rs. AreAllowed held.image writes wide new.hart.arch.hart rs next (run.allowed ++ p ∷ [])) joined
          (subst (λ h. AreAllowed held.image writes wide h (all ++ r ∷ []) next (run.allowed ++ p ∷ [])) number
          (allowed_push decide held.image writes wide hart all r run.moments next run.allowed p at.0 (next_agrees s (action_of (length all) r) gone.0) run.are_allowed (allows.finds s ready)
          gone.1.chosen));
      ends =
          subst (λ rs. EndsWith new.hart held.image writes wide rs next (length (run.allowed ++ p ∷ [])) new.failure) joined
          (subst (EndsWith new.hart held.image writes wide (all ++ r ∷ []) next (length (run.allowed ++ p ∷ []))) (sym still) (
            omega (arith, at.0, length-append run.allowed (p ∷ []), length-append all (r ∷ [])),
            subst (λ h. HartStands new.hart (setting_after held.image writes wide h (all ++ r ∷ []) next)) number gone.1,
          ));
      notes = notes_behind earlier before run.allowed r p old.notes new.notes old.hart.seq at.0 (omega (arith, at.0, at.1.seq)) run.notes noted;
    }

-- ---- a record that is not

pub on_refused : (old new : RunView) (held : History) (r : Record) (m : Misfit) (f : Failure) → old.failure ≡ None → new.failure ≡ Some f
    → Refuses old.hart new.hart held r m → f ≡ failure_at (key_of old.hart.seq r) m → new.notes ≡ old.notes → RunsOn old new held r
on_refused old new held r m f none fails refuses is noted writes wide earlier before more own until run =
    let hart = old.hart.arch.hart in
    let all : List Record = earlier ++ before in
    let at = subst (EndsWith old.hart held.image writes wide all run.moments (length run.allowed)) none run.ends in
    let s = setting_after held.image writes wide hart all run.moments in
    let finds = refuses.finds s (meets held writes wide all more old.hart r run.moments own until at.1) in
    let number : hart ≡ new.hart.arch.hart = ap (λ (h : HartView). h.arch.hart) (sym refuses.stays) in
    let last : LastFails held.image writes wide hart (all ++ r ∷ []) run.moments (length run.allowed) f = record {
      misfit = m;
      own = r;
      there = ap (slice_get (all ++ r ∷ [])) at.0 ∙ slice_get-append_seam all r [];
      last = omega (arith, at.0, length-append all (r ∷ []));
      finds = subst (λ z. Finds z r (Err m)) (setting_there held.image writes wide hart all (r ∷ []) run.moments (length run.allowed) at.0) finds;
      failure = is ∙ ap (λ n. failure_at (key_of n r) m) (omega (arith, at.0, at.1.seq));
    } in
    let at_count = setting_there held.image writes wide hart all (r ∷ []) run.moments (length run.allowed) at.0 in
    let Ends : HartView → Type 0 = λ h.
    LastFails held.image writes wide h.arch.hart (all ++ r ∷ []) run.moments (length run.allowed) f
    × HartStands h (setting_at held.image writes wide h.arch.hart (all ++ r ∷ []) run.moments (length run.allowed)) in
    let joined : all ++ r ∷ [] ≡ earlier ++ (before ++ r ∷ []) = append_assoc earlier before (r ∷ []) in
    let behind = drop (length earlier) run.allowed in
    let few : length behind ≤ length before = omega (arith, at.0, length-append earlier before, length-drop (length earlier) run.allowed) in
    let ends : Ends old.hart = (last, subst (λ s. HartStands old.hart s) at_count at.1) in
    record {
      allowed = run.allowed;
      moments = run.moments;
      are_allowed =
          subst (λ rs. AreAllowed held.image writes wide new.hart.arch.hart rs run.moments run.allowed) joined
          (subst (λ h. AreAllowed held.image writes wide h (all ++ r ∷ []) run.moments run.allowed) number
          (allowed_longer held.image writes wide hart all (r ∷ []) run.moments run.allowed (omega (arith, at.0)) run.are_allowed));
      ends =
          subst (λ rs. EndsWith new.hart held.image writes wide rs run.moments (length run.allowed) new.failure) joined
          (subst (EndsWith new.hart held.image writes wide (all ++ r ∷ []) run.moments (length run.allowed)) (sym fails)
          (subst Ends (sym refuses.stays) ends));
      notes = noted ∙ run.notes ∙ sym (notes_longer (length earlier) before (r ∷ []) behind few);
    }

-- ---- either

pub on_step : EarlierMomentsDecide → (old new : RunView) (held : History) (r : Record) (failure : Option Failure) → old.failure ≡ None → new.failure ≡ failure
    → IsStep old.hart new.hart held r old.notes new.notes failure → RunsOn old new held r
on_step decide old new held r None none still step = on_allowed decide old new held r step.0 none still step.1 step.2
on_step decide old new held r (Some f) none fails step = on_refused old new held r step.0 f none fails step.1 step.2 step.3

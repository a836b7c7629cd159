-- A run before the first record that it judges.
use Rattle.std.proofs.Common.{ℕ, ◌≡◌, Bool, None, List, [], ◌++◌, length, refl, sym, ap, ◌∙◌, subst}
use Rattle.std.proofs.lemmas.List.{append-nil}
use Rattle.dt_record.specs.declared.records.Record.{Record}
use Rattle.dt_record.specs.declared.writes.Write.{Write}
use Rattle.dt_hart.specs.Settings.{at_first}
use Rattle.dt_hart.specs.Standing.{HartStands}
use Rattle.dt_judge.specs.Runs.{AreAllowed}
use Rattle.dt_runs.specs.RunView.{RunView}
use Rattle.dt_runs.specs.Runs.{EndsWith, Runs, RunsBehind, setting_after, StandsBehind}

pub starts : (v : RunView) (number : ℕ) (wide : Bool) → ((image : List ℕ) (writes : List Write) (moments : ℕ → ℕ) → HartStands v.hart (at_first image writes number wide moments))
    → v.hart.arch.hart ≡ number → v.failure ≡ None → v.notes ≡ [] → (image : List ℕ) (writes : List Write) → Runs v image writes wide []
starts v number wide stands is none no_notes image writes =
    let first : ℕ → ℕ = λ n. 0 in
    let at = stands image writes first in
    record {
      allowed = [];
      moments = first;
      are_allowed = record { chosen = at.chosen; each = λ n p there. absurd (cc) };
      ends =
          subst (EndsWith v.hart image writes wide [] first 0) (sym none)
          (refl, subst (λ h. HartStands v.hart (setting_after image writes wide h [] first)) (sym is) at);
      notes = no_notes;
    }

pub starts_behind : (v : RunView) (earlier : List Record) (image : List ℕ) (writes : List Write) (wide : Bool) → v.failure ≡ None → v.notes ≡ []
    → StandsBehind v.hart image writes wide earlier → RunsBehind earlier v image writes wide []
starts_behind v earlier image writes wide none no_notes behind =
    let whole : earlier ≡ earlier ++ [] = sym (append-nil earlier) in
    record {
      allowed = behind.allowed;
      moments = behind.moments;
      are_allowed = subst (λ rs. AreAllowed image writes wide v.hart.arch.hart rs behind.moments behind.allowed) whole behind.are_allowed;
      ends =
          subst (EndsWith v.hart image writes wide (earlier ++ []) behind.moments (length behind.allowed)) (sym none) (
            behind.count ∙ ap length whole,
            subst (λ rs. HartStands v.hart (setting_after image writes wide v.hart.arch.hart rs behind.moments)) whole behind.stands,
          );
      notes = no_notes;
    }

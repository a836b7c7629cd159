-- What a run over some records comes to over all of its hart's.
use Rattle.std.proofs.Common.{ℕ, ◌≡◌, Bool, Option, Some, None, option_map, List, [], ◌++◌, length, refl, sym, ap, ◌∙◌, subst, arith, Err}
use Rattle.std.specs.List.{slice_get}
use Rattle.std.proofs.lemmas.List.{append-nil}
use Rattle.dt_lists.proofs.Lists.{slice_get-append_left}
use Rattle.dt_record.specs.declared.records.Record.{Record}
use Rattle.dt_record.specs.declared.writes.Write.{Write}
use Rattle.dt_record.specs.Keys.{key_of}
use Rattle.dt_judge.specs.Judgement.{Finds}
use Rattle.dt_verdict.specs.declared.verdicts.Failure.{Failure}
use Rattle.dt_runs.specs.Laws.{ComesTo, RunsComeToAnEnd}
use Rattle.dt_runs.specs.Noting.{failure_at}
use Rattle.dt_runs.specs.RunView.{RunView}
use Rattle.dt_runs.specs.Runs.{EndsWith, Runs}
use Rattle.dt_runs.proofs.Longer.{allowed_longer, notes_longer, setting_longer}

ended : (v : RunView) (image : List ℕ) (writes : List Write) (wide : Bool) (records more : List Record) (run : Runs v image writes wide records) (failure : Option Failure) → v.failure ≡ failure
    → (failure ≡ None → more ≡ []) → EndsWith v.hart image writes wide records run.moments (length run.allowed) failure → ComesTo v image writes wide (records ++ more)
ended v image writes wide records more run None is over at =
    let whole : records ≡ records ++ more = sym (ap (λ (rs : List Record). records ++ rs) (over refl) ∙ append-nil records) in
    record {
      allowed = run.allowed;
      refused = None;
      runs = record {
        moments = run.moments;
        are_allowed = allowed_longer image writes wide v.hart.arch.hart records more run.moments run.allowed (omega (arith, at.0)) run.are_allowed;
        ends = at.0 ∙ ap length whole;
      };
      failure = is;
      notes = run.notes ∙ sym (notes_longer 0 records more run.allowed (omega (arith, at.0)));
    }
ended v image writes wide records more run (Some f) is over both =
    let at = both.0 in
    let hart = v.hart.arch.hart in
    let here : slice_get (records ++ more) (length run.allowed) ≡ Some at.own = slice_get-append_left records more (length run.allowed) (omega (arith, at.last)) ∙ at.there in
    record {
      allowed = run.allowed;
      refused = Some at.misfit;
      runs = record {
        moments = run.moments;
        are_allowed = allowed_longer image writes wide hart records more run.moments run.allowed (omega (arith, at.last)) run.are_allowed;
        ends = (at.own, here, subst (λ s. Finds s at.own (Err at.misfit)) (setting_longer image writes wide hart records more run.moments (length run.allowed) (omega (arith, at.last))) at.finds);
      };
      failure = is ∙ ap (λ (g : Failure). Some g) at.failure ∙ sym (ap (option_map (λ (r : Record). failure_at (key_of (length run.allowed) r) at.misfit)) here);
      notes = run.notes ∙ sym (notes_longer 0 records more run.allowed (omega (arith, at.last)));
    }

pub come_to_an_end : RunsComeToAnEnd
come_to_an_end v image writes wide records more run over = ended v image writes wide records more run v.failure refl over run.ends

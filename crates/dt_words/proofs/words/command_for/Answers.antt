use Rattle.std.proofs.Common.{◌≡◌, codes}
use Rattle.std.proofs.lemmas.Result.{IfOk-weaker}
use Rattle.clap.specs.Simple.{app_of, new_app, with_rule}
use Rattle.dt_words.specs.Table.{app_of_task, path_rule, sources_rule, version_rule, workers_rule}
use Rattle.dt_words.proofs.Parsing.{one_more}
use Rattle.dt_words.proofs.words.command_for.Goals as goal

pub returns-in_ok-arg-in-Pass-2 : goal.returns-in_ok-arg-in-Pass-2
unfolding app_of_task
returns-in_ok-arg-in-Pass-2 c =
    let one : app_of c.in_ok-arg-in-Pass.field-0 ≡ with_rule (new_app (codes "pass")) sources_rule
    = one_more _ _ _ _ _ c.in_ok-arg-in-Pass.ensures c.sources.ensures.local c.new.ensures.app c.sources.ensures.rule in
    let two : app_of c.in_ok-arg-in-Pass-2.field-0 ≡ with_rule (with_rule (new_app (codes "pass")) sources_rule) (path_rule (codes "image"))
    = one_more _ _ _ _ _ c.in_ok-arg-in-Pass-2.ensures c.path.ensures.local one c.path.ensures.rule in
    rw c.in-Pass.is (IfOk-weaker c.arg-in-Pass-2.result _ _ (λ command adds. one_more _ _ _ _ _ adds c.path-in-Pass.ensures.local two c.path-in-Pass.ensures.rule) c.arg-in-Pass-2.ensures)

pub returns-in_ok-arg-in-Check-3 : goal.returns-in_ok-arg-in-Check-3
unfolding app_of_task
returns-in_ok-arg-in-Check-3 c =
    let one : app_of c.in_ok-arg-in-Check.field-0 ≡ with_rule (new_app (codes "check")) workers_rule
    = one_more _ _ _ _ _ c.in_ok-arg-in-Check.ensures c.workers.ensures.local c.new-in-Check.ensures.app c.workers.ensures.rule in
    let two : app_of c.in_ok-arg-in-Check-2.field-0 ≡ with_rule (with_rule (new_app (codes "check")) workers_rule) sources_rule
    = one_more _ _ _ _ _ c.in_ok-arg-in-Check-2.ensures c.sources-in-Check.ensures.local one c.sources-in-Check.ensures.rule in
    let three : app_of c.in_ok-arg-in-Check-3.field-0 ≡ with_rule (with_rule (with_rule (new_app (codes "check")) workers_rule) sources_rule) (path_rule (codes "image"))
    = one_more _ _ _ _ _ c.in_ok-arg-in-Check-3.ensures c.path-in-Check.ensures.local two c.path-in-Check.ensures.rule in
    rw c.in-Check.is (IfOk-weaker c.arg-in-Check-4.result _ _ (λ command adds. one_more _ _ _ _ _ adds c.path-in-Check-2.ensures.local three c.path-in-Check-2.ensures.rule) c.arg-in-Check-4.ensures)

pub returns-in-Dump : goal.returns-in-Dump
unfolding app_of_task
returns-in-Dump c =
    rw c.in-Dump.is (IfOk-weaker c.arg-in-Dump.result _ _ (λ command adds. one_more _ _ _ _ _ adds c.path-in-Dump.ensures.local c.new-in-Dump.ensures.app c.path-in-Dump.ensures.rule) c.arg-in-Dump.ensures)

pub returns-in_ok-arg-in-Convert : goal.returns-in_ok-arg-in-Convert
unfolding app_of_task
returns-in_ok-arg-in-Convert c =
    let one : app_of c.in_ok-arg-in-Convert.field-0 ≡ with_rule (new_app (codes "convert")) version_rule
    = one_more _ _ _ _ _ c.in_ok-arg-in-Convert.ensures c.version.ensures.local c.new-in-Convert.ensures.app c.version.ensures.rule in
    rw c.in-Convert.is (IfOk-weaker c.arg-in-Convert-2.result _ _ (λ command adds. one_more _ _ _ _ _ adds c.path-in-Convert.ensures.local one c.path-in-Convert.ensures.rule) c.arg-in-Convert-2.ensures)

use Rattle.dt_report.proofs.RunLemmas.{written_first}
use Rattle.dt_report.proofs.notes.put_runs.Goals as goal

pub loop-next-init : goal.loop-next-init
loop-next-init c = record {
  within = c.in_ok-next.ensures.next.1;
  written = written_first c.args.bytes.now c.in_ok-next.next c.args.out.now.items c.put_run_at.new.out.items c.in_ok-next.ensures.text;
}

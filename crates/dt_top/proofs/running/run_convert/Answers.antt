use Rattle.std.proofs.Common.{Some, rules, refl, sym, ap, ◌∙◌}
use Rattle.dt_dump.specs.Dump.{memory_line, read_fault_line}
use Rattle.dt_top.specs.Answer.{version_named}
use Rattle.dt_top.proofs.Filing.{convert_ran}
use Rattle.dt_top.proofs.Replying.{of_memory, ran_of_reply}
use Rattle.dt_top.proofs.running.run_convert.Goals as goal

pub returns-clause-ran : goal.returns-clause-ran
returns-clause-ran g c = λ asked image is to.
    let d = c.convert_probes-status.ensures in
    convert_ran asked image _ _ _ _ _ _ _ _ _ is (c.version_named.ensures ∙ sym (ap version_named to)) c.within-stream.ensures.told
    (record {
      first = c.within-stream.ensures.faults;
      last = search rules;
      left_is = search rules;
    })
    (record {
      whole = d.whole;
      ended = d.ended;
      read_fault = d.read_fault;
      read_fault_text = λ five. (read_fault_line, refl, d.read_fault_text five);
      memory = λ seven. (memory_line, refl, d.memory seven);
      write_fault = d.write_fault;
      write_fault_front = d.write_fault_front;
    })
    (λ five. c.into_source.ensures.left_open _ (d.needed five _ c.within-stream.ensures.origin))

pub returns-in_default-clause-ran : goal.returns-in_default-clause-ran
returns-in_default-clause-ran g c = λ asked image is to. ran_of_reply _ _ _ _ _ c.put_reply.result (of_memory (Some asked) image _) c.put_reply.ensures.put

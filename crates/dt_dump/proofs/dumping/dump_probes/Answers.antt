use Rattle.std.proofs.Common.{◌≡◌, ◌∙◌, ◌≤◌, ◌++◌, ℕ, ap, inl, inr, sym, subst, arith}
use Rattle.dt_source.specs.Faults.{Rose}
use Rattle.dt_source.specs.Known.{Appends}
use Rattle.dt_record.specs.declared.streams.Next.{Next}
use Rattle.dt_dump.specs.Dump.{last_line, last_status, memory_line, read_fault_line, record_lines}
use Rattle.dt_dump.proofs.Texts.{Appends-append}
use Rattle.dt_dump.proofs.Endings.{comes_whole, cut_short, front_of_last, some_last, status_of_read_fault}
use Rattle.dt_dump.proofs.dumping.dump_probes.Goals as goal

-- a count that rose in the later of two steps rose in both
Rose-later : (before middle after : ℕ) → before ≤ middle → Rose middle after → Rose before after
Rose-later before middle after h (inl risen) = inl (omega arith)
Rose-later before middle after h (inr at_end) = inr at_end

pub returns-in-Ok-clause-whole : goal.returns-in-Ok-clause-whole
returns-in-Ok-clause-whole g c = λ read write memory.
    let came = c.in-Ok.ensures.came in
    let last = c.put_last.ensures.whole write memory in
    comes_whole _ _ _ _ came.0 c.in-Ok.last c.put_last.result (λ e. read (last.0 ∙ ap last_status e)) (λ e. memory (last.0 ∙ ap last_status e)) came.2 came.1 last.0 last.1

pub returns-in-Ok-clause-calm : goal.returns-in-Ok-clause-calm
returns-in-Ok-clause-calm g c = λ probes out memory.
    let came = c.in-Ok.ensures.came in
    let write = λ (e : c.put_last.result ≡ 6). out (Rose-later _ _ _ c.in-Ok.ensures.out_never_falls (c.put_last.ensures.write_fault e)) in
    let last = c.put_last.ensures.whole write memory in
    comes_whole _ _ _ _ came.0 c.in-Ok.last c.put_last.result (λ e. probes (c.in-Ok.ensures.read_fault e)) (λ e. memory (last.0 ∙ ap last_status e)) came.2 came.1 last.0 last.1

pub returns-in-Ok-clause-ended : goal.returns-in-Ok-clause-ended
returns-in-Ok-clause-ended g c = λ write memory.
    let last = c.put_last.ensures.whole write memory in
    some_last _ c.in-Ok.last c.put_last.result (c.in-Ok.ensures.ended (λ e. memory (last.0 ∙ ap last_status e))) last.0

pub returns-in-Ok-clause-read_fault : goal.returns-in-Ok-clause-read_fault
returns-in-Ok-clause-read_fault g c = λ five.
    let last = c.put_last.ensures.whole (λ e. cc) (λ e. cc) in
    c.in-Ok.ensures.read_fault (status_of_read_fault c.in-Ok.last (sym last.0 ∙ five))

pub returns-in-Ok-clause-needed : goal.returns-in-Ok-clause-needed
returns-in-Ok-clause-needed g c = λ five.
    let last = c.put_last.ensures.whole (λ e. cc) (λ e. cc) in
    c.in-Ok.ensures.needed (status_of_read_fault c.in-Ok.last (sym last.0 ∙ five))

pub returns-in-Ok-clause-read_fault_text : goal.returns-in-Ok-clause-read_fault_text
returns-in-Ok-clause-read_fault_text g c = λ five.
    let came = c.in-Ok.ensures.came in
    let last = c.put_last.ensures.whole (λ e. cc) (λ e. cc) in
    let is = status_of_read_fault c.in-Ok.last (sym last.0 ∙ five) in (
      record_lines came.0 ++ read_fault_line,
      cut_short _ came.0 c.in-Ok.last read_fault_line came.2,
      Appends-append _ _ _ _ _ came.1 (subst (λ (l : Next). Appends (g.O.Sink.written c.put_records.new.out) (last_line l) (g.O.Sink.written c.put_last.new.out)) is last.1),
    )

pub returns-in-Ok-clause-memory : goal.returns-in-Ok-clause-memory
returns-in-Ok-clause-memory g c = λ seven.
    let came = c.in-Ok.ensures.came in (
      record_lines came.0 ++ memory_line,
      cut_short _ came.0 c.in-Ok.last memory_line came.2,
      Appends-append _ _ _ _ _ came.1 (c.put_last.ensures.memory seven),
    )

pub returns-in-Ok-clause-write_fault_front : goal.returns-in-Ok-clause-write_fault_front
returns-in-Ok-clause-write_fault_front g c = λ six.
    let came = c.in-Ok.ensures.came in
    front_of_last _ _ _ _ _ came.0 c.in-Ok.last c.in-Ok.ensures.read_fault came.2 came.1 (c.put_last.ensures.write_fault_front six)

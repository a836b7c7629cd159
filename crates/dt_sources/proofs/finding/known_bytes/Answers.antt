use Rattle.std.proofs.Common.{◌≡◌, ◌+◌, ap, sym, ◌∙◌, arith}
use Rattle.std.proofs.lemmas.List.{length-set}
use Rattle.std.proofs.lemmas.Option.{slice_get_within, get_or_from_slice_get}
use Rattle.dt_local.specs.LocalMemory.{newest_of}
use Rattle.dt_stores.specs.Draining.{forward_after}
use Rattle.dt_sources.specs.declared.tries.LoadByte.{LoadByte}
use Rattle.dt_sources.proofs.Places.{more_written}
use Rattle.dt_sources.proofs.finding.known_bytes.Goals as goal

pub loop-i-preserved : goal.loop-i-preserved
loop-i-preserved c = record {
  long = length-set c.loop-i.bytes c.loop-i.i c.known_byte.result ∙ c.loop-i.invariant.long;
  own = λ actions stands. more_written (λ j b. b.own ≡ forward_after actions (c.args.ask.addr + j) c.args.ask.at) c.loop-i.bytes c.loop-i.i c.known_byte.result (omega arith)
      (c.loop-i.invariant.own actions stands) (c.known_byte.ensures.own actions stands);
  newest = more_written (λ j b. b.newest ≡ newest_of c.args.l.now (c.args.ask.addr + j)) c.loop-i.bytes c.loop-i.i c.known_byte.result (omega arith)
      c.loop-i.invariant.newest c.known_byte.ensures.newest;
}

pub returns-clause-own : goal.returns-clause-own
returns-clause-own c = λ actions stands i b is.
    let within = slice_get_within c.loop-i.bytes i b is in
    ap (λ (d : LoadByte). d.own) (sym (get_or_from_slice_get c.loop-i.bytes i b b is)) ∙ c.loop-i.invariant.own actions stands i b (omega arith)

pub returns-clause-newest : goal.returns-clause-newest
returns-clause-newest c = λ i b is.
    let within = slice_get_within c.loop-i.bytes i b is in
    ap (λ (d : LoadByte). d.newest) (sym (get_or_from_slice_get c.loop-i.bytes i b b is)) ∙ c.loop-i.invariant.newest i b (omega arith)

use Rattle.std.proofs.Common.{sym, ◌∙◌}
use Rattle.dt_record.specs.Keys.{key_of}
use Rattle.dt_hart.proofs.AccessLaws.{load_follows, atomic_follows, drain_follows, store_counts}
use Rattle.dt_hart.proofs.accesses.Accesses.take.Goals as goal

pub returns-in-Load-clause-follows : goal.returns-in-Load-clause-follows
returns-in-Load-clause-follows c =
    load_follows c.take_load.result c.args.self.now c.take_load.new.self (key_of c.args.seq c.args.event.now) c.args.event.now.body c.args.sources c.in-Load.retire c.in-Load.at c.in-Load.paddr c.width_of.result
    c.loads_keep_stores.ensures c.in-Load.is (sym c.is_in_ram.ensures ∙ c.if-is_in_ram.true) c.width_of.ensures
    c.take_load.ensures.stores c.take_load.ensures.noted c.take_load.ensures.floor c.take_load.ensures.last_read

pub returns-in-Atomic-clause-follows : goal.returns-in-Atomic-clause-follows
returns-in-Atomic-clause-follows c =
    atomic_follows c.take_atomic.result c.args.self.now c.take_atomic.new.self (key_of c.args.seq c.args.event.now) c.args.event.now.body c.args.sources c.in-Atomic.retire c.in-Atomic.paddr c.in-Atomic.width c.in-Atomic.wrote c.in-Atomic.new
    c.order_of.result.reads c.order_of.result.acquires c.write_of.result c.atomics_keep_stores.ensures c.in-Atomic.is c.order_of.ensures.reads c.order_of.ensures.acquires c.write_of.ensures
    c.take_atomic.ensures.stores c.take_atomic.ensures.noted c.take_atomic.ensures.floor c.take_atomic.ensures.last_read

pub returns-in-Drain-clause-follows : goal.returns-in-Drain-clause-follows
returns-in-Drain-clause-follows c =
    drain_follows c.take_drain.result c.args.self.now c.take_drain.new.self (key_of c.args.seq c.args.event.now) c.args.event.now.body c.args.sources c.in-Drain.line c.in-Drain.mask c.in-Drain.count c.in-Drain.bytes
    c.in-Drain.is c.take_drain.ensures.stores c.take_drain.ensures.noted c.take_drain.ensures.floor c.take_drain.ensures.last_read

pub returns-in-Store-clause-counted : goal.returns-in-Store-clause-counted
returns-in-Store-clause-counted c =
    store_counts c.drains_stay_below.ensures c.commit.result c.args.self.now.stores c.commit.new.self (key_of c.args.seq c.args.event.now) _ c.commit.ensures.ok

use Rattle.std.proofs.Common.{◌-◌, ◌≡◌, ◌∙◌, ap, refl, take, arith}
use Rattle.dt_shared.specs.Records.{identity}
use Rattle.dt_pool.proofs.Making.{first_passes, last_pass}
use Rattle.dt_pool.proofs.opening.open_run.Goals as goal

pub returns-clause-opened : goal.returns-clause-opened
returns-clause-opened c =
    let made = c.in_ok-shared in
    let count : made.passes.len - 1 ≡ c.args.workers = omega (arith, made.ensures.numbered.size, made.passes.ok.0) in
    record {
      hands = c.in_ok-feeds.hands.items;
      passes = c.pop.new.self.items;
      some = c.requires.some_worker;
      are_hands = c.in_ok-feeds.ensures;
      in_order = first_passes (identity made.shared) c.args.workers _ made.passes.items c.pop.new.self.items made.ensures.numbered refl
          (c.pop.ensures.rest ∙ ap (λ n. take n made.passes.items) count);
      are_made = c.in_ok-workers.ensures;
    }

pub returns-clause-pass : goal.returns-clause-pass
returns-clause-pass c =
    let made = c.in_ok-shared in
    last_pass (identity made.shared) c.args.workers _ made.passes.len made.passes.items c.in-Some.pass made.ensures.numbered refl
    (omega (arith, made.ensures.numbered.size, made.passes.ok.0)) c.in-Some.ensures.value

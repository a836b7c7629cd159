use Rattle.std.proofs.Common.{subst}
use Rattle.std.specs.Prelude.{ℕ, take, drop, ◌≡◌}
use Rattle.dt_record.specs.Spelling.{double}
use Rattle.dt_probe_file.proofs.Deciding.{end_is, end_isnt}
use Rattle.dt_probe_file.proofs.fronts.end_front.Goals as goal

pub returns-then-count_of-events : goal.returns-then-count_of-events
returns-then-count_of-events c = (
  end_is c.args.bytes.now c.args.events c.requires.tag c.if-bytes-lt-END_LEN.false
      (subst (λ (n : ℕ). double n ≡ take 8 (drop 1 c.args.bytes.now)) c.if-count_of-events.true c.count_of.ensures.spelled),
  c.if-bytes-lt-END_LEN.false,
)

pub returns-else-count_of-events : goal.returns-else-count_of-events
returns-else-count_of-events c =
    end_isnt c.args.bytes.now c.count_of.result c.args.events c.if-bytes-lt-END_LEN.false c.count_of.ensures.spelled c.count_of.ensures.fits c.requires.few c.if-count_of-events.false

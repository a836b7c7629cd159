use Rattle.dt_record_bytes.proofs.Answering.{read_again}
use Rattle.dt_record_bytes.proofs.wide_laws.read_back.Goals as goal

pub returns : goal.returns
returns c rest answer is = read_again c.args.event.now rest answer c.fits.ensures c.requires is

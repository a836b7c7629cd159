use Rattle.std.proofs.Common.{subst, sym, slice_index, arith}
use Rattle.dt_record.specs.declared.spellings.Version.{Version}
use Rattle.dt_record.specs.Versions.{version_of}
use Rattle.dt_probe_file.specs.Fronts.{IsDecoded}
use Rattle.dt_probe_file.proofs.Deciding.{short_decoded}
use Rattle.dt_probe_file.proofs.fronts.decode_in.Goals as goal

pub returns-in-Two : goal.returns-in-Two
returns-in-Two c =
    subst (λ (v : Version). IsDecoded (version_of v) (λ hart. slice_index c.args.last.now hart) c.args.bytes.now c.decode2.result) (sym c.in-Two.is)
    (short_decoded (λ hart. slice_index c.args.last.now hart) c.last_of.result c.args.bytes.now c.decode2.result c.last_of.ensures.named c.last_of.ensures.unnamed
    (λ r len e. (c.decode2.ensures.got r len).0 e) (λ r len e. let h = c.decode2.ensures.got_len r len e in (omega (arith, h.2), h.1))
    (λ e. let h = c.decode2.ensures.short_len e in omega (arith, h)) c.decode2.ensures.short.0 c.decode2.ensures.not_yet c.decode2.ensures.for_good)

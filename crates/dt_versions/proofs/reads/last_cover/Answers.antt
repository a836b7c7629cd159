use Rattle.std.proofs.Common.{◌≡◌, ◌%◌, sym, ap, ◌∙◌, subst}
use Rattle.dt_versions.specs.Chains.{IsLastCover, chain_of, line_place, newest_until, number_at}
use Rattle.dt_versions.proofs.Covers.{last_covering-numbered}
use Rattle.dt_versions.proofs.reads.last_cover.Goals as goal

pub returns : goal.returns
returns c =
    let writes = c.args.writes.now in
    let rows = c.args.rows.now in
    let place = c.args.addr % 64 in
    let newest : c.newest_at-newest.result ≡ newest_until (chain_of c.args.lines.now (line_place c.args.addr)) c.args.k =
    c.newest_at-newest.ensures ∙ ap (λ p. newest_until (chain_of c.args.lines.now p) c.args.k) c.line_place.ensures in
    let number = c.number_at-number.ensures ∙ ap (λ n. number_at rows n place) newest in
    let last = subst (IsLastCover writes c.args.k c.args.addr) (sym number) (c.requires.chained.exact c.args.addr c.args.k c.requires.in_ram c.requires.within) in
    c.numbered_write.ensures ∙ sym (last_covering-numbered writes c.args.k c.args.addr c.number_at-number.result c.requires.within last)

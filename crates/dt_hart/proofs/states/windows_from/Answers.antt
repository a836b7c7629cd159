use Rattle.std.proofs.Common.{List, map, nat_lt, ◌^◌, subst, sym, ap, ◌∙◌}
use Rattle.dt_record.specs.declared.states.PageMark.{PageMark}
use Rattle.dt_windows.specs.Kept.{ArePages}
use Rattle.dt_hart.specs.HartData.{kept_values, page_pair}
use Rattle.dt_hart.specs.Replaying.{numbered_key}
use Rattle.dt_hart.proofs.KeptValues.{kept_all, kept_sorted}
use Rattle.dt_hart.proofs.states.windows_from.Goals as goal

pub of-requires : goal.of-requires
of-requires c =
    let value = numbered_key c.args.before.now in
    let marks = map page_pair c.args.s.now.pages in
    let are : ArePages (kept_values value marks) = record {
      rising = kept_sorted value marks c.requires.pages;
      within = kept_all value (λ page. nat_lt page (2 ^ 52)) marks c.requires.exist;
    } in
    subst ArePages (sym (c.deref.ensures.value ∙ c.in_ok-pages.ensures ∙ ap (λ (ms : List PageMark). kept_values value (map page_pair ms)) c.items.ensures)) are

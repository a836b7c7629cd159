use Rattle.std.proofs.Common.{ℕ, Some, get_or, ◌∙◌, ap, arith}
use Rattle.std.specs.Ordering.{nat_cmp}
use Rattle.std.specs.BTreeMap.{insert_entry}
use Rattle.std.proofs.lemmas.List.{take_all}
use Rattle.dt_record.specs.declared.keys.Key.{Key}
use Rattle.dt_windows.specs.Pages.{Entries, present}
use Rattle.dt_windows.proofs.Numbers.{insert_next, page_within, present-map, within_inserted}
use Rattle.dt_windows.proofs.pages.slots_of.Goals as goal

abbrev none : ℕ × Key
none = (0, record { stamp = 0; hart = 0; seq = 0 })

pub loop-page-preserved : goal.loop-page-preserved
loop-page-preserved c =
    let pages = c.args.pages.now in
    let i = c.loop-page.page-index in
    let pair = get_or pages i none in
    record {
      entries = c.in_ok-insert.ensures.entries ∙ ap (λ (es : Entries). insert_entry nat_cmp es pair.0 (Some pair.1)) c.loop-page.invariant.entries
          ∙ insert_next pages i none c.requires c.loop-page-test.true;
      slots = record {
        ordered = c.insert.ensures.ordered;
        within = within_inserted c.loop-page.slots c.insert.new.self pair.0 (Some pair.1) c.in_ok-insert.ensures.updates (page_within pages i none c.requires c.loop-page-test.true)
            c.loop-page.invariant.slots.within;
      };
    }

pub returns-clause-pages : goal.returns-clause-pages
returns-clause-pages c =
    ap present c.loop-page.invariant.entries ∙ present-map _ ∙ take_all c.loop-page.page-index c.args.pages.now (omega arith)

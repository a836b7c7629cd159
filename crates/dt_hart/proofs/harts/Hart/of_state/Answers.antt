use Rattle.std.proofs.Common.{◌≡◌, ◌==◌, List, map, true, IsTrue, refl, sym, ap, subst, ◌∙◌}
use Rattle.std.specs.Map.{lookup}
use Rattle.dt_record.specs.declared.records.Record.{Record}
use Rattle.dt_record.specs.declared.states.KnownByte.{KnownByte}
use Rattle.dt_local.specs.LocalMemory.{pair_of}
use Rattle.dt_windows.specs.Kept.{windows_view}
use Rattle.dt_hart.specs.HartData.{kept_values, page_pair}
use Rattle.dt_hart.specs.OwnWrites.{are_of, are_rising}
use Rattle.dt_hart.specs.Replaying.{IsReplayed, numbered_key}
use Rattle.dt_hart.proofs.OfData.{hart_of_data}
use Rattle.dt_hart.proofs.harts.Hart.of_state.Goals as goal

pub replay-requires-clause-its : goal.replay-requires-clause-its
replay-requires-clause-its c = subst (λ n. IsTrue (are_of n c.args.before.now)) (sym c.arch_from-arch.ensures.hart) c.requires.its

pub returns-clause-stands : goal.returns-clause-stands
returns-clause-stands c = λ t over front given.
    let a = c.arch_from-arch in
    let v = c.in_ok-replayed.replayed in
    let d = c.args.s.now in
    let same : c.args.before.now ≡ t.before = sym over.before in
    let its : are_of t.hart t.before ≡ true = subst (λ n. are_of n t.before ≡ true) (sym over.hart) (subst (λ (rs : List Record). are_of c.args.number rs ≡ true) same c.requires.its) in
    let rising : are_rising t.before ≡ true = subst (λ (rs : List Record). are_rising rs ≡ true) same c.requires.rising in
    hart_of_data t d a.result v c.in_ok-local.local _ its rising front given a.ensures.data (a.ensures.hart ∙ sym over.hart) (a.ensures.wide ∙ sym over.wide)
    (subst (IsReplayed a.result.hart v) same c.in_ok-replayed.ensures)
    (λ byte. c.in_ok-local.ensures byte ∙ ap (λ (ks : List KnownByte). lookup (λ x. x == byte) (map pair_of ks)) c.items.ensures)
    refl refl refl refl refl refl refl refl
    (c.in_ok-windows.ensures ∙ ap (λ (rs : List Record). windows_view v.instructions (numbered_key rs d.all_pages) (kept_values (numbered_key rs) (map page_pair d.pages))) same)

use Rattle.std.proofs.Common.{◌≡◌, Bool, false, List, ◌++◌, Option, Some, None, take, drop, refl, sym, ap, ◌∙◌, subst, IsTrue}
use Rattle.std.specs.List.{list_all, find}
use Rattle.std.specs.Option.{option_or, option_map}
use Rattle.std.specs.Prelude.{reverse}
use Rattle.std.proofs.lemmas.List.{take-append-drop, reverse-append}
use Rattle.std.proofs.lemmas.List.Folds.{find-append}
use Rattle.dt_lists.proofs.Lists.{found_passes}
use Rattle.dt_record.specs.declared.writes.Write.{Write}
use Rattle.dt_record.specs.Keys.{key_below}
use Rattle.dt_record.proofs.KeyLaws.{key_below-back, key_below-itself}
use Rattle.dt_record.specs.Memory.{covers, source_at}
use Rattle.dt_record.specs.LoadSources.{rank_below}
use Rattle.dt_versions.specs.History.{are_in_order}
use Rattle.dt_versions.specs.Laws.{source_rank, SourcesRise}
use Rattle.dt_versions.proofs.Orders.{in_order-seam, in_order-front}
use Rattle.dt_versions.proofs.Places.{list_all-reverse, take-take}

-- in the order of the keys, what is found among later writes stands above what is found among earlier ones
rising : (test : Write → Bool) (early late : List Write) → IsTrue (are_in_order (early ++ late))
    → rank_below (source_rank (option_map (λ w. w.key) (find test (reverse (early ++ late))))) (source_rank (option_map (λ w. w.key) (find test (reverse early)))) ≡ false
rising test early late ordered =
    rw (reverse-append early late, find-append test (reverse late) (reverse early))
    (found_cases (find test (reverse late)) (find test (reverse early)) refl refl)
  where
    by_keys : (w v : Write) → find test (reverse late) ≡ Some w → find test (reverse early) ≡ Some v → key_below w.key v.key ≡ false
    by_keys w v later earlier =
        let seam = in_order-seam early late ordered in
        let above = found_passes test (λ u. list_all (λ t. key_below u.key t.key) late) (reverse early) v earlier
        (list_all-reverse (λ u. list_all (λ t. key_below u.key t.key) late) v early seam) in
        let below = found_passes test (λ u. key_below v.key u.key) (reverse late) w later
        (list_all-reverse (λ u. key_below v.key u.key) w late above) in
        key_below-back v.key w.key below

    found_cases : (l e : Option Write) → find test (reverse late) ≡ l → find test (reverse early) ≡ e
        → rank_below (source_rank (option_map (λ w. w.key) (option_or l e))) (source_rank (option_map (λ w. w.key) e)) ≡ false
    found_cases None None later earlier = refl
    found_cases None (Some v) later earlier = key_below-itself v.key
    found_cases (Some w) None later earlier = refl
    found_cases (Some w) (Some v) later earlier = by_keys w v later earlier

pub rank_below-source_at : SourcesRise
rank_below-source_at writes addr j k ordered later =
    let whole : IsTrue (are_in_order (take k writes ++ drop k writes)) = rw take-append-drop ordered in
    let front = in_order-front (take k writes) (drop k writes) whole in
    let split : take j writes ++ drop j (take k writes) ≡ take k writes =
    ap (λ (xs : List Write). xs ++ drop j (take k writes)) (sym (take-take j k writes later)) ∙ take-append-drop j (take k writes) in
    let joined : IsTrue (are_in_order (take j writes ++ drop j (take k writes))) = rw split front in
    let P : List Write → Type 0 = λ xs. rank_below (source_rank (option_map (λ w. w.key) (find (covers addr) (reverse xs)))) (source_rank (source_at writes j addr)) ≡ false in
    subst P split (rising (covers addr) (take j writes) (drop j (take k writes)) joined)

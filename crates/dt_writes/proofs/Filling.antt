use Rattle.std.proofs.Common.{◌≡◌, ℕ, zero, suc, ◌<◌, true, List, [], ◌∷◌, length, get_or, take, refl, arith, length-take}
use Rattle.std.specs.List.{list_all}
use Rattle.std.proofs.lemmas.Bool.{and_parts, and_from}
use Rattle.dt_lists.proofs.Lists.{list_all-at}
use Rattle.dt_record.specs.declared.writes.Write.{Write}
use Rattle.dt_record.specs.Keys.{key_below}
use Rattle.dt_record.specs.Lawful.{is_ram_line}
use Rattle.dt_versions.specs.History.{history, are_in_order, IsKept, CanAdd}

-- A history that holds the first i of some writes can take the next.

-- the write that stands for one past the end
abbrev pub any_write : Write
any_write = record { key = record { stamp = 0; hart = 0; seq = 0 }; line = 0; mask = 0; bytes = [] }

below-place : (ws : List Write) (i : ℕ) (d : Write) → are_in_order ws ≡ true → i < length ws
    → list_all (λ v. key_below v.key (get_or ws i d).key) (take i ws) ≡ true
below-place [] i d ordered within = absurd (omega arith)
below-place (w ∷ ws) zero d ordered within = refl
below-place (w ∷ ws) (suc i) d ordered within =
    let parts = and_parts (list_all (λ v. key_below w.key v.key) ws) (are_in_order ws) ordered in
    and_from (key_below w.key (get_or ws i d).key) (list_all (λ v. key_below v.key (get_or ws i d).key) (take i ws))
    (list_all-at (λ v. key_below w.key v.key) ws i d parts.0 (omega arith)) (below-place ws i d parts.1 (omega arith))

pub CanAdd-place : (image : List ℕ) (ws : List Write) (i : ℕ) (d : Write) → IsKept (history image ws) → i < length ws
    → CanAdd (history image (take i ws)) (get_or ws i d)
CanAdd-place image ws i d kept within = record {
  above_all = below-place ws i d kept.in_order within;
  in_ram = list_all-at (λ w. is_ram_line w.line) ws i d kept.in_ram within;
  has_room = omega (arith, length-take i ws, kept.within_limit);
}

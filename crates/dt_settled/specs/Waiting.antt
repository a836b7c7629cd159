-- Writes that wait, and what notes bring to them. All of it is this project's own.
use Rattle.std.specs.Prelude.{◌≡◌, Option, Some, None, List, [], ◌∷◌, map, IsTrue, if◌then◌else◌}
use Rattle.std.specs.List.{list_all}
use Rattle.std.specs.Map.{keys_of, values_of}
use Rattle.dt_record.specs.declared.keys.Key.{Key}
use Rattle.dt_record.specs.declared.writes.Write.{Write}
use Rattle.dt_record.specs.declared.writes.Note.{Note}
use Rattle.dt_record.specs.Writes.{insert_write}
use Rattle.dt_versions.specs.History.{are_in_order}
use Rattle.dt_writes.specs.Apart.{keys_differ}
use Rattle.dt_core.specs.Notes.{write_in}

-- each write stands under its key, and the keys rise
pub record AreKeyed (entries : List (Key × Write)) : Type 0 where
  pub keyed : keys_of entries ≡ map (λ w. w.key) (values_of entries)
  pub in_order : IsTrue (are_in_order (values_of entries))

-- the waiting writes with one that comes to them: it goes to its place by key, and of two with one key the first stays
abbrev pub waiting_with : Option Write → List Write → List Write
waiting_with None waiting = waiting
waiting_with (Some w) waiting = if list_all (λ v. keys_differ w.key v.key) waiting then insert_write w waiting else waiting

-- the waiting writes with those that notes announce
abbrev pub waiting_after : List Write → List Note → List Write
waiting_after waiting [] = waiting
waiting_after waiting (n ∷ ns) = waiting_after (waiting_with (write_in n) waiting) ns

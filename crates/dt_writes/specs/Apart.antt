use Rattle.std.specs.Prelude.{◌&&◌, ◌||◌, Bool, true, List, [], ◌∷◌}
use Rattle.std.specs.List.{list_all}
use Rattle.dt_record.specs.declared.keys.Key.{Key}
use Rattle.dt_record.specs.declared.writes.Write.{Write}
use Rattle.dt_record.specs.Keys.{key_below}

-- whether two keys differ: one stands before the other (this project's own)
abbrev pub keys_differ : Key → Key → Bool
keys_differ a b = key_below a b || key_below b a

-- whether no two writes have the same key
abbrev pub are_apart : List Write → Bool
are_apart [] = true
are_apart (w ∷ ws) = list_all (λ v. keys_differ w.key v.key) ws && are_apart ws

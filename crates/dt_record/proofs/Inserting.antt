-- Where a write goes among others.
use Rattle.std.specs.Prelude.{◌≡◌, true, false, List, ◌∷◌}
use Rattle.std.proofs.lemmas.Bool.{cond-true, cond-false}
use Rattle.dt_record.specs.declared.writes.Write.{Write}
use Rattle.dt_record.specs.Keys.{key_below}
use Rattle.dt_record.specs.Writes.{insert_write}

-- before a write that it precedes
pub insert-first : (w v : Write) (vs : List Write) → key_below w.key v.key ≡ true → insert_write w (v ∷ vs) ≡ w ∷ v ∷ vs
insert-first w v vs below = cond-true (key_below w.key v.key) (w ∷ v ∷ vs) (v ∷ insert_write w vs) below

-- and else behind it
pub insert-later : (w v : Write) (vs : List Write) → key_below w.key v.key ≡ false → insert_write w (v ∷ vs) ≡ v ∷ insert_write w vs
insert-later w v vs above = cond-false (key_below w.key v.key) (w ∷ v ∷ vs) (v ∷ insert_write w vs) above

use Rattle.std.specs.Prelude.{ℕ, Option, List}
use Rattle.dt_record.specs.declared.keys.Key.{Key}
use Rattle.dt_record.specs.declared.writes.Write.{Write}
use Rattle.dt_record.specs.Actions.{Action}
use Rattle.dt_versions.specs.History.{History}

-- What an atomic is checked against (this project's own): the image and all writes; what its hart did before, and the
-- moments at which the hart's loads read; and the hart's reservation, by its line and the key of the LR that made it.
pub record AtomicGrounds : Type 0 where
  pub image : List ℕ
  pub writes : List Write
  pub actions : List Action
  pub moments : ℕ → ℕ
  pub reserved : Option (ℕ × Key)

-- those over this image and these writes
abbrev pub atomic_grounds : History → List Action → (ℕ → ℕ) → Option (ℕ × Key) → AtomicGrounds
atomic_grounds h actions moments reserved = record {
  image = h.image;
  writes = h.writes;
  actions = actions;
  moments = moments;
  reserved = reserved;
}

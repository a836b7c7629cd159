use Rattle.std.proofs.Common.{ℕ, ◌≡◌, ◌*◌, ◌<◌, ◌%◌, ◌^◌, ◌==◌, ◌&&◌, Some, inl, inr, w64, bit_or}
use Rattle.std.specs.Prelude.{if◌then◌else◌, is_some}
use Rattle.std.specs.Int.{bit_at}
use Rattle.std.proofs.lemmas.Bool.{cases_eq, eq-eqb, ne_eqb}
use Rattle.std.proofs.lemmas.Nat.Bits.{bit_at_set_same, bit_at_set_other}
use Rattle.dt_record.specs.declared.keys.Key.{Key}
use Rattle.dt_record.specs.declared.origins.Origin.{Origin}
use Rattle.dt_record.specs.declared.origins.Origin.TheVariants as origin
use Rattle.dt_sources.specs.Knowing.{write_key}

-- a mask with one bit more
pub written_bit : (mask place at : ℕ) (source : Origin) (key : Key) → place < 64 → source ≡ origin.Write key
    → bit_at (bit_or mask (1 * 2 ^ place % 2 ^ 64)) at ≡ (if (at == place) && is_some (write_key (Some source)) then 1 else bit_at mask at)
written_bit mask place at source key within is = elim (cases_eq at place) [
  | inl same ↦ rw (is, eq-eqb at place same, same) (bit_at_set_same w64 mask place within)
  | inr apart ↦ rw (is, ne_eqb at place apart) (bit_at_set_other w64 mask place within at apart)
]

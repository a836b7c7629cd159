use Rattle.std.specs.Prelude.{ℕ, ◌+◌, ◌*◌, ◌==◌, ◌&&◌, Bool, true, not, List, [], ◌∷◌}
use Rattle.std.specs.Option.{option_map_or}
use Rattle.dt_record.specs.declared.origins.Origin.{Origin}
use Rattle.dt_record.specs.declared.origins.Origin.TheVariants as origin
use Rattle.dt_record.specs.Memory.{memory_at, source_at}
use Rattle.dt_record.specs.LoadSources.{Rank, rank_below, store_rank, origin_of_key}
use Rattle.dt_versions.specs.History.{History}
use Rattle.dt_versions.specs.Laws.{source_rank}
use Rattle.dt_sources.specs.declared.tries.LoadByte.{LoadByte}

-- How one moment is tried, from what is known of each byte before.

-- the byte, its source and where that stands, at moment k
abbrev pub tried_byte : History → ℕ → ℕ → LoadByte → ℕ
tried_byte h k addr b = option_map_or (λ f. f.byte) b.own (memory_at h.image h.writes k addr)

abbrev pub tried_origin : History → ℕ → ℕ → LoadByte → Origin
tried_origin h k addr b = option_map_or (λ f. origin.Store f.seq) b.own (origin_of_key (source_at h.writes k addr))

abbrev pub tried_rank : History → ℕ → ℕ → LoadByte → Rank
tried_rank h k addr b = option_map_or (λ f. store_rank f.drained) b.own (source_rank (source_at h.writes k addr))

-- whether its source does not stand below the newest key that the hart knows for it
abbrev pub is_kept : History → ℕ → ℕ → LoadByte → Bool
is_kept h k addr b = not (rank_below (tried_rank h k addr b) (source_rank b.newest))

-- the number whose bytes are found from an address on, the low byte first
abbrev pub tried_value : History → ℕ → ℕ → List LoadByte → ℕ
tried_value h k addr [] = 0
tried_value h k addr (b ∷ bs) = tried_byte h k addr b + 256 * tried_value h k (addr + 1) bs

-- whether that holds of all bytes from an address on
abbrev pub are_kept : History → ℕ → ℕ → List LoadByte → Bool
are_kept h k addr [] = true
are_kept h k addr (b ∷ bs) = is_kept h k addr b && are_kept h k (addr + 1) bs

-- whether bytes from an address on are those of a number, and none comes from below its newest key
abbrev pub are_fit : History → ℕ → ℕ → ℕ → List LoadByte → Bool
are_fit h k addr raw bytes = (tried_value h k addr bytes == raw) && are_kept h k addr bytes

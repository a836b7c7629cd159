use Rattle.std.specs.Prelude.{ℕ, ◌≡◌, ◌+◌, ◌-◌, ◌*◌, ◌/◌, ◌%◌, ◌^◌, ◌<◌, ◌≤◌, true, false, List, slice_index_or}
use Rattle.dt_record.specs.declared.writes.Write.{Write}
use Rattle.dt_record.specs.Memory.{covers, memory_at, source_at}

-- Aligned words of 8 bytes over time (this project's own).

-- no write after the first `from`, up to the first k, covers a byte of the word that holds the address
pub record IsSteady (writes : List Write) (addr from k : ℕ) : Type 0 where
  pub none : (byte j : ℕ) (d : Write) → byte / 8 ≡ addr / 8 → from ≤ j → j < k → covers byte (slice_index_or writes j d) ≡ false

-- the write that leads to moment n covers a byte of the word that holds the address
pub record IsChange (writes : List Write) (addr n : ℕ) : Type 0 where
  pub byte : ℕ
  pub in_word : byte / 8 ≡ addr / 8
  pub after_start : 0 < n
  pub covered : (d : Write) → covers byte (slice_index_or writes (n - 1) d) ≡ true

-- the eight bytes from an address on after the first k writes, as a number, the low byte first
unfoldable pub double_at : List ℕ → List Write → (k addr : ℕ) → ℕ
double_at image writes k addr =
    let memory = memory_at image writes k in
    memory addr
    + 2 ^ 8 * memory (addr + 1)
    + 2 ^ 16 * memory (addr + 2)
    + 2 ^ 24 * memory (addr + 3)
    + 2 ^ 32 * memory (addr + 4)
    + 2 ^ 40 * memory (addr + 5)
    + 2 ^ 48 * memory (addr + 6)
    + 2 ^ 56 * memory (addr + 7)

-- over a stretch in which a word is steady, each of its bytes keeps its value and its source
abbrev pub SteadyBytesStay : Type 0
SteadyBytesStay = (image : List ℕ) (writes : List Write) (addr byte j k : ℕ) → IsSteady writes addr j k → j ≤ k → byte / 8 ≡ addr / 8
    → memory_at image writes k byte ≡ memory_at image writes j byte

abbrev pub SteadySourcesStay : Type 0
SteadySourcesStay = (writes : List Write) (addr byte j k : ℕ) → IsSteady writes addr j k → j ≤ k → byte / 8 ≡ addr / 8
    → source_at writes k byte ≡ source_at writes j byte

-- and so does the word as a number
abbrev pub SteadyWordsStay : Type 0
SteadyWordsStay = (image : List ℕ) (writes : List Write) (addr j k : ℕ) → IsSteady writes addr j k → j ≤ k → addr % 8 ≡ 0
    → double_at image writes k addr ≡ double_at image writes j addr

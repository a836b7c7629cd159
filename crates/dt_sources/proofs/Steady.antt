-- Whether a moment fits stays while the word of the bytes is steady.
use Rattle.std.proofs.Common.{ℕ, ◌≡◌, ◌+◌, ◌*◌, ◌/◌, ◌%◌, ◌==◌, ◌&&◌, ◌<◌, ◌≤◌, false, not, List, [], ◌∷◌, length, suc, refl, ap, ◌∙◌, arith}
use Rattle.std.specs.Option.{option_map_or}
use Rattle.dt_record.specs.declared.writes.Write.{Write}
use Rattle.dt_record.specs.Memory.{memory_at, source_at}
use Rattle.dt_record.specs.LoadSources.{rank_below, store_rank}
use Rattle.dt_versions.specs.History.{History}
use Rattle.dt_versions.specs.Laws.{source_rank}
use Rattle.dt_versions.specs.Words.{IsSteady, SteadyBytesStay, SteadySourcesStay}
use Rattle.dt_sources.specs.declared.tries.LoadByte.{LoadByte}
use Rattle.dt_sources.specs.Tries.{tried_byte, tried_value, is_kept, are_kept, are_fit}

-- at two moments each byte of a word is the same and has the same source
record IsAlike (h : History) (word j k : ℕ) : Type 0 where
  bytes : (byte : ℕ) → byte / 8 ≡ word / 8 → memory_at h.image h.writes k byte ≡ memory_at h.image h.writes j byte
  sources : (byte : ℕ) → byte / 8 ≡ word / 8 → source_at h.writes k byte ≡ source_at h.writes j byte

-- so many bytes from an address on lie in the word
abbrev AreInWord : (word addr count : ℕ) → Type 0
AreInWord word addr count = (i : ℕ) → i < count → (addr + i) / 8 ≡ word / 8

first-in_word : (word addr count : ℕ) → AreInWord word addr (suc count) → addr / 8 ≡ word / 8
first-in_word word addr count inside = omega (arith, inside 0 (omega arith))

rest-in_word : (word addr count : ℕ) → AreInWord word addr (suc count) → AreInWord word (addr + 1) count
rest-in_word word addr count inside i below = omega (arith, inside (suc i) (omega arith))

value-alike : (h : History) (word j k addr : ℕ) (bytes : List LoadByte) → IsAlike h word j k → AreInWord word addr (length bytes)
    → tried_value h k addr bytes ≡ tried_value h j addr bytes
value-alike h word j k addr [] alike inside = refl
value-alike h word j k addr (b ∷ bs) alike inside =
    let same = alike.bytes addr (first-in_word word addr (length bs) inside) in
    let here : tried_byte h k addr b ≡ tried_byte h j addr b = ap (λ (m : ℕ). option_map_or (λ f. f.byte) b.own m) same in
    let rest = value-alike h word j k (addr + 1) bs alike (rest-in_word word addr (length bs) inside) in
    ap (λ (n : ℕ). n + 256 * tried_value h k (addr + 1) bs) here ∙ ap (λ (n : ℕ). tried_byte h j addr b + 256 * n) rest

kept-alike : (h : History) (word j k addr : ℕ) (bytes : List LoadByte) → IsAlike h word j k → AreInWord word addr (length bytes)
    → are_kept h k addr bytes ≡ are_kept h j addr bytes
kept-alike h word j k addr [] alike inside = refl
kept-alike h word j k addr (b ∷ bs) alike inside =
    let same = alike.sources addr (first-in_word word addr (length bs) inside) in
    let here : is_kept h k addr b ≡ is_kept h j addr b =
    ap (λ s. not (rank_below (option_map_or (λ f. store_rank f.drained) b.own (source_rank s)) (source_rank b.newest))) same in
    let rest = kept-alike h word j k (addr + 1) bs alike (rest-in_word word addr (length bs) inside) in
    ap (λ t. t && are_kept h k (addr + 1) bs) here ∙ ap (λ t. is_kept h j addr b && t) rest

fit-alike : (h : History) (word j k addr raw : ℕ) (bytes : List LoadByte) → IsAlike h word j k → AreInWord word addr (length bytes)
    → are_fit h k addr raw bytes ≡ are_fit h j addr raw bytes
fit-alike h word j k addr raw bytes alike inside =
    ap (λ n. (n == raw) && are_kept h k addr bytes) (value-alike h word j k addr bytes alike inside)
    ∙ ap (λ t. (tried_value h j addr bytes == raw) && t) (kept-alike h word j k addr bytes alike inside)

steady-front : (writes : List Write) (addr j i n : ℕ) → i ≤ n → IsSteady writes addr j n → IsSteady writes addr j i
steady-front writes addr j i n early steady = record {
  none = λ byte m d same from below. steady.none byte m d same from (omega (arith, early, below));
}

-- where a moment does not fit, none does as long as the word is steady
pub none-while_steady : SteadyBytesStay → SteadySourcesStay → (h : History) (addr raw j n : ℕ) (bytes : List LoadByte) → addr % 8 + length bytes ≤ 8
    → IsSteady h.writes addr j n → are_fit h j addr raw bytes ≡ false → (i : ℕ) → j ≤ i → i ≤ n → are_fit h i addr raw bytes ≡ false
none-while_steady bytes-stay sources-stay h addr raw j n bytes inside steady unfit i from until =
    let still = steady-front h.writes addr j i n until steady in
    let alike : IsAlike h addr j i = record {
      bytes = λ byte same. bytes-stay h.image h.writes addr byte j i still from same;
      sources = λ byte same. sources-stay h.writes addr byte j i still from same;
    } in
    fit-alike h addr j i addr raw bytes alike (λ m below. omega (arith, inside, below)) ∙ unfit

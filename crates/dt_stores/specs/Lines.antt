use Rattle.std.specs.Prelude.{ℕ, ◌≡◌, ◌<◌, ◌-◌, ◌/◌, ◌==◌, if◌then◌else◌, Option, None, List, [], IsSomeAnd, slice_get, vec_len, vec_capacity}
use Rattle.std.specs.Option.{option_map_or}
use Rattle.dt_record.specs.declared.limits.TheConstants.{LINE_SIZE, RAM_START}
use Rattle.dt_record.specs.Lawful.{is_ram_line}
use Rattle.dt_record.specs.Actions.{Held}
use Rattle.dt_stores.specs.declared.lines.Line.{Line}
use Rattle.dt_stores.specs.Indexed.{places_on}

-- How the stores of a line are found by its place in RAM.

abbrev pub line_place : ℕ → ℕ
line_place line = (line - RAM_START) / LINE_SIZE

abbrev pub line_in : List Line → ℕ → Option Line
line_in lines line = if is_ram_line line then slice_get lines (line_place line) else None

-- the places of the stores of a line, and how many of the first of them are drained
abbrev pub places_in : List Line → ℕ → List ℕ
places_in lines line = option_map_or (λ l. l.places.items) (line_in lines line) []

abbrev pub taken_in : List Line → ℕ → ℕ
taken_in lines line = option_map_or (λ l. l.taken) (line_in lines line) 0

-- one more store on the line takes no memory
abbrev pub HasRoom : List Line → ℕ → Type 0
HasRoom lines line = IsSomeAnd (line_in lines line) (λ l. vec_len l.places < vec_capacity l.places)

-- the places are those of the stores of each line
abbrev pub FindPlaces : List Line → List Held → Type 0
FindPlaces lines held = (line : ℕ) → places_in lines line ≡ places_on line held

-- the places of the stores of one line become these
abbrev pub SetsPlaces : List Line → List Line → (line : ℕ) → List ℕ → Type 0
SetsPlaces old new line places = (other : ℕ) → places_in new other ≡ (if other == line then places else places_in old other)

-- of one line so many stores are drained
abbrev pub SetsTaken : List Line → List Line → (line taken : ℕ) → Type 0
SetsTaken old new line taken = (other : ℕ) → taken_in new other ≡ (if other == line then taken else taken_in old other)

abbrev pub KeepsPlaces : List Line → List Line → Type 0
KeepsPlaces old new = (other : ℕ) → places_in new other ≡ places_in old other

abbrev pub KeepsTaken : List Line → List Line → Type 0
KeepsTaken old new = (other : ℕ) → taken_in new other ≡ taken_in old other

use Rattle.std.proofs.Common.{◌≡◌, ℕ, zero, suc, ◌<◌, ◌≤◌, ◌+◌, ◌-◌, ◌%◌, ◌==◌, nat_le, nat_lt, Bool, true, false, if◌then◌else◌, Option, Some, None, List, [], ◌∷◌, ◌++◌, length, map, set, slice_get, get_or, IsSomeAnd, vec_len, vec_capacity, refl, sym, ap, ◌∙◌, inl, inr, arith, subst}
use Rattle.std.specs.Option.{option_map_or}
use Rattle.std.proofs.lemmas.Bool.{cases_Bool, cases_eq, eqb-true, eq-eqb, ne_eqb, leb-true, ltb-true, and_parts}
use Rattle.std.proofs.lemmas.Option.{slice_get-get_or, slice_get_past}
use Rattle.dt_record.specs.Lawful.{is_ram_line, is_in_ram}
use Rattle.dt_stores.specs.declared.lines.Line.{Line}
use Rattle.dt_stores.specs.Lines.{line_place, line_in, places_in, taken_in, HasRoom}
use Rattle.dt_stores.specs.Past.{without_last}

-- Lines of RAM are told apart by their places.

-- a line of RAM by its numbers
record IsLine (line : ℕ) : Type 0 where
  whole : line % 64 ≡ 0
  low : 0x8000_0000 ≤ line
  high : line < 0x8400_0000

line_is : (line : ℕ) → is_ram_line line ≡ true → IsLine line
line_is line ram =
    let parts = and_parts (line % 64 == 0) (is_in_ram line) ram in
    let bounds = and_parts (nat_le 0x8000_0000 line) (nat_lt line 0x8400_0000) parts.1 in
    record { whole = eqb-true (line % 64) 0 parts.0; low = leb-true 0x8000_0000 line bounds.0; high = ltb-true line 0x8400_0000 bounds.1 }

same_line : (a b : ℕ) → is_ram_line a ≡ true → is_ram_line b ≡ true → line_place a ≡ line_place b → a ≡ b
same_line a b in_a in_b same =
    let at_a : IsLine a = line_is a in_a in
    let at_b : IsLine b = line_is b in_b in
    omega arith

slice_get-set_same : {X : Type 0} (xs : List X) (i : ℕ) (x : X) → i < length xs → slice_get (set xs i x) i ≡ Some x
slice_get-set_same [] i x within = absurd (omega arith)
slice_get-set_same (y ∷ ys) zero x within = refl
slice_get-set_same (y ∷ ys) (suc i) x within = slice_get-set_same ys i x (omega arith)

slice_get-set_other : {X : Type 0} (xs : List X) (i j : ℕ) (x : X) → (j ≡ i → ⊥) → slice_get (set xs i x) j ≡ slice_get xs j
slice_get-set_other [] i j x other = refl
slice_get-set_other (y ∷ ys) zero zero x other = absurd (other refl)
slice_get-set_other (y ∷ ys) zero (suc j) x other = refl
slice_get-set_other (y ∷ ys) (suc i) zero x other = refl
slice_get-set_other (y ∷ ys) (suc i) (suc j) x other = slice_get-set_other ys i j x (λ same. other (ap suc same))

-- what a write to the place of a line leaves
line_in-set : (lines : List Line) (line other : ℕ) (l : Line) → is_ram_line line ≡ true → line_place line < length lines
    → line_in (set lines (line_place line) l) other ≡ (if other == line then Some l else line_in lines other)
line_in-set lines line other l ram within =
    elim (cases_eq other line) [
      | inl same ↦ (let here : (other == line) ≡ true = eq-eqb other line same in let in_ram : is_ram_line other ≡ true = ap is_ram_line same ∙ ram in
          rw (here, in_ram) (ap (λ place. slice_get (set lines (line_place line) l) place) (ap line_place same) ∙ slice_get-set_same lines (line_place line) l within))
      | inr apart ↦ (let off : (other == line) ≡ false = ne_eqb other line apart in
          elim (cases_Bool (is_ram_line other)) [
            | inl in_ram ↦ rw (off, in_ram) (slice_get-set_other lines (line_place line) (line_place other) l (λ same. apart (same_line other line in_ram ram same)))
            | inr no_ram ↦ rw (off, no_ram) refl
          ])
    ]

line_at : (lines : List Line) (line : ℕ) (d : Line) → is_ram_line line ≡ true → line_place line < length lines → line_in lines line ≡ Some (get_or lines (line_place line) d)
line_at lines line d ram within = rw ram (slice_get-get_or lines (line_place line) d within)

places_at : (lines : List Line) (line : ℕ) (d : Line) → is_ram_line line ≡ true → line_place line < length lines
    → places_in lines line ≡ (get_or lines (line_place line) d).places.items
places_at lines line d ram within = ap (λ (o : Option Line). option_map_or (λ l. l.places.items) o []) (line_at lines line d ram within)

taken_at : (lines : List Line) (line : ℕ) (d : Line) → is_ram_line line ≡ true → line_place line < length lines
    → taken_in lines line ≡ (get_or lines (line_place line) d).taken
taken_at lines line d ram within = ap (λ (o : Option Line). option_map_or (λ l. l.taken) o 0) (line_at lines line d ram within)

-- a choice behind a function
chosen : {X Y : Type 0} (f : X → Y) (b : Bool) (x y : X) → f (if b then x else y) ≡ (if b then f x else f y)
chosen f true x y = refl
chosen f false x y = refl

places-set : (lines : List Line) (line other : ℕ) (l : Line) → is_ram_line line ≡ true → line_place line < length lines
    → places_in (set lines (line_place line) l) other ≡ (if other == line then l.places.items else places_in lines other)
places-set lines line other l ram within =
    ap (λ (o : Option Line). option_map_or (λ l. l.places.items) o []) (line_in-set lines line other l ram within)
    ∙ chosen (λ (o : Option Line). option_map_or (λ l. l.places.items) o []) (other == line) (Some l) (line_in lines other)

taken-set : (lines : List Line) (line other : ℕ) (l : Line) → is_ram_line line ≡ true → line_place line < length lines
    → taken_in (set lines (line_place line) l) other ≡ (if other == line then l.taken else taken_in lines other)
taken-set lines line other l ram within =
    ap (λ (o : Option Line). option_map_or (λ l. l.taken) o 0) (line_in-set lines line other l ram within)
    ∙ chosen (λ (o : Option Line). option_map_or (λ l. l.taken) o 0) (other == line) (Some l) (line_in lines other)

-- where a line's own value stays
kept-at : {X : Type 0} (f : ℕ → X) (line other : ℕ) (x : X) → x ≡ f line → (if other == line then x else f other) ≡ f other
kept-at f line other x same =
    elim (cases_Bool (other == line)) [
      | inl here ↦ rw here (same ∙ sym (ap f (eqb-true other line here)))
      | inr off ↦ rw off refl
    ]

-- a line that has no stores yet
pub no_line : (lines : List Line) (line : ℕ) → is_ram_line line ≡ false → line_in lines line ≡ None
no_line lines line no_ram = rw no_ram refl

pub past_line : (lines : List Line) (line : ℕ) → length lines ≤ line_place line → line_in lines line ≡ None
past_line lines line past =
    elim (cases_Bool (is_ram_line line)) [
      | inl ram ↦ rw ram (slice_get_past lines (line_place line) past)
      | inr no_ram ↦ rw no_ram refl
    ]

pub more_taken : (lines : List Line) (line other place count : ℕ) (l d : Line) → is_ram_line line ≡ true → place ≡ line_place line → place < length lines
    → l.taken ≡ (get_or lines place d).taken + count
    → taken_in (set lines place l) other ≡ (if other == line then taken_in lines line + count else taken_in lines other)
more_taken lines line other place count l d ram place_is within more =
    let in_lines : line_place line < length lines = omega (arith, place_is) in
    let was : taken_in lines line ≡ (get_or lines place d).taken = taken_at lines line d ram in_lines ∙ ap (λ p. (get_or lines p d).taken) (sym place_is) in
    ap (λ p. taken_in (set lines p l) other) place_is
    ∙ taken-set lines line other l ram in_lines
    ∙ ap (λ n. if other == line then n else taken_in lines other) (more ∙ ap (λ n. n + count) (sym was))

pub more_places : (lines : List Line) (line other place new : ℕ) (l d : Line) → is_ram_line line ≡ true → place ≡ line_place line → place < length lines
    → l.places.items ≡ (get_or lines place d).places.items ++ new ∷ []
    → places_in (set lines place l) other ≡ (if other == line then places_in lines line ++ new ∷ [] else places_in lines other)
more_places lines line other place new l d ram place_is within more =
    let in_lines : line_place line < length lines = omega (arith, place_is) in
    let was : places_in lines line ≡ (get_or lines place d).places.items = places_at lines line d ram in_lines ∙ ap (λ p. (get_or lines p d).places.items) (sym place_is) in
    ap (λ p. places_in (set lines p l) other) place_is
    ∙ places-set lines line other l ram in_lines
    ∙ ap (λ (n : List ℕ). if other == line then n else places_in lines other) (more ∙ ap (λ (n : List ℕ). n ++ new ∷ []) (sym was))

pub same_taken : (lines : List Line) (line other place : ℕ) (l d : Line) → is_ram_line line ≡ true → place ≡ line_place line → place < length lines
    → l.taken ≡ (get_or lines place d).taken → taken_in (set lines place l) other ≡ taken_in lines other
same_taken lines line other place l d ram place_is within same =
    let in_lines : line_place line < length lines = omega (arith, place_is) in
    let was : taken_in lines line ≡ (get_or lines place d).taken = taken_at lines line d ram in_lines ∙ ap (λ p. (get_or lines p d).taken) (sym place_is) in
    ap (λ p. taken_in (set lines p l) other) place_is
    ∙ taken-set lines line other l ram in_lines
    ∙ kept-at (taken_in lines) line other l.taken (same ∙ sym was)

pub same_places : (lines : List Line) (line other place : ℕ) (l d : Line) → is_ram_line line ≡ true → place ≡ line_place line → place < length lines
    → l.places.items ≡ (get_or lines place d).places.items → places_in (set lines place l) other ≡ places_in lines other
same_places lines line other place l d ram place_is within same =
    let in_lines : line_place line < length lines = omega (arith, place_is) in
    let was : places_in lines line ≡ (get_or lines place d).places.items = places_at lines line d ram in_lines ∙ ap (λ p. (get_or lines p d).places.items) (sym place_is) in
    ap (λ p. places_in (set lines p l) other) place_is
    ∙ places-set lines line other l ram in_lines
    ∙ kept-at (places_in lines) line other l.places.items (same ∙ sym was)

-- none are taken on a line that is not there
pub none_taken : (lines : List Line) (line other count : ℕ) → line_in lines line ≡ None → taken_in lines line + count ≤ length (places_in lines line)
    → taken_in lines other ≡ (if other == line then taken_in lines line + count else taken_in lines other)
none_taken lines line other count absent few =
    let empty : places_in lines line ≡ [] = ap (λ (o : Option Line). option_map_or (λ l. l.places.items) o []) absent in
    let long : length (places_in lines line) ≡ 0 = ap length empty in
    sym (kept-at (taken_in lines) line other (taken_in lines line + count) (omega arith))

-- a line without room is not there
pub no_room : {X : Type 0} (lines : List Line) (line : ℕ) → line_in lines line ≡ None → HasRoom lines line → X
no_room {X} lines line absent room =
    let Room : Option Line → Type 0 = λ o. IsSomeAnd o (λ l. vec_len l.places < vec_capacity l.places) in
    let never : ⊥ = subst Room absent room in
    absurd never

pub room_there : (lines : List Line) (line place : ℕ) (l : Line) → is_ram_line line ≡ true → place ≡ line_place line → place < length lines → l ≡ get_or lines place l
    → HasRoom lines line → vec_len l.places < vec_capacity l.places
room_there lines line place l ram place_is within read room =
    let Room : Option Line → Type 0 = λ o. IsSomeAnd o (λ l. vec_len l.places < vec_capacity l.places) in
    let in_lines : line_place line < length lines = omega (arith, place_is) in
    let found : line_in lines line ≡ Some l = line_at lines line l ram in_lines ∙ ap (λ p. Some (get_or lines p l)) (sym place_is) ∙ ap Some (sym read) in
    subst Room found room

pub has_room : (lines : List Line) (line place : ℕ) (l : Line) → is_ram_line line ≡ true → place ≡ line_place line → place < length lines
    → vec_len l.places < vec_capacity l.places → HasRoom (set lines place l) line
has_room lines line place l ram place_is within room =
    let Room : Option Line → Type 0 = λ o. IsSomeAnd o (λ l. vec_len l.places < vec_capacity l.places) in
    let in_lines : line_place line < length lines = omega (arith, place_is) in
    let here : (line == line) ≡ true = eq-eqb line line refl in
    let found : line_in (set lines place l) line ≡ Some l =
    ap (λ p. line_in (set lines p l) line) place_is ∙ line_in-set lines line line l ram in_lines ∙ (rw here refl) in
    subst Room (sym found) room

-- a line more, without stores
grown : {X : Type 0} (f : Line → X) (none : X) (lines : List Line) (l : Line) (place : ℕ) → f l ≡ none
    → option_map_or f (slice_get (lines ++ l ∷ []) place) none ≡ option_map_or f (slice_get lines place) none
grown f none [] l zero empty = empty
grown f none [] l (suc place) empty = refl
grown f none (x ∷ lines) l zero empty = refl
grown f none (x ∷ lines) l (suc place) empty = grown f none lines l place empty

pub places-grown : (lines : List Line) (l : Line) (other : ℕ) → l.places.items ≡ [] → places_in (lines ++ l ∷ []) other ≡ places_in lines other
places-grown lines l other empty =
    elim (cases_Bool (is_ram_line other)) [
      | inl ram ↦ rw ram (grown (λ (l : Line). l.places.items) [] lines l (line_place other) empty)
      | inr no_ram ↦ rw no_ram refl
    ]

pub taken-grown : (lines : List Line) (l : Line) (other : ℕ) → l.taken ≡ 0 → taken_in (lines ++ l ∷ []) other ≡ taken_in lines other
taken-grown lines l other empty =
    elim (cases_Bool (is_ram_line other)) [
      | inl ram ↦ rw ram (grown (λ (l : Line). l.taken) 0 lines l (line_place other) empty)
      | inr no_ram ↦ rw no_ram refl
    ]

-- what a write to the place of a line leaves, whatever is written
pub set_places : (lines : List Line) (line other place : ℕ) (l : Line) (ps : List ℕ) → is_ram_line line ≡ true → place ≡ line_place line → place < length lines
    → l.places.items ≡ ps → places_in (set lines place l) other ≡ (if other == line then ps else places_in lines other)
set_places lines line other place l ps ram place_is within is =
    let in_lines : line_place line < length lines = omega (arith, place_is) in
    ap (λ p. places_in (set lines p l) other) place_is ∙ places-set lines line other l ram in_lines ∙ ap (λ (n : List ℕ). if other == line then n else places_in lines other) is

pub set_taken : (lines : List Line) (line other place : ℕ) (l : Line) (taken : ℕ) → is_ram_line line ≡ true → place ≡ line_place line → place < length lines
    → l.taken ≡ taken → taken_in (set lines place l) other ≡ (if other == line then taken else taken_in lines other)
set_taken lines line other place l taken ram place_is within is =
    let in_lines : line_place line < length lines = omega (arith, place_is) in
    ap (λ p. taken_in (set lines p l) other) place_is ∙ taken-set lines line other l ram in_lines ∙ ap (λ n. if other == line then n else taken_in lines other) is

pub there_places : (lines : List Line) (line place : ℕ) (d : Line) → is_ram_line line ≡ true → place ≡ line_place line → place < length lines
    → (get_or lines place d).places.items ≡ places_in lines line
there_places lines line place d ram place_is within =
    let in_lines : line_place line < length lines = omega (arith, place_is) in
    ap (λ p. (get_or lines p d).places.items) place_is ∙ sym (places_at lines line d ram in_lines)

pub there_taken : (lines : List Line) (line place : ℕ) (d : Line) → is_ram_line line ≡ true → place ≡ line_place line → place < length lines
    → (get_or lines place d).taken ≡ taken_in lines line
there_taken lines line place d ram place_is within =
    let in_lines : line_place line < length lines = omega (arith, place_is) in
    ap (λ p. (get_or lines p d).taken) place_is ∙ sym (taken_at lines line d ram in_lines)

-- a line that is not there has nothing to lose
pub no_places : (lines : List Line) (line other : ℕ) → line_in lines line ≡ None → places_in lines other ≡ (if other == line then without_last (places_in lines line) else places_in lines other)
no_places lines line other absent =
    let empty : places_in lines line ≡ [] = ap (λ (o : Option Line). option_map_or (λ l. l.places.items) o []) absent in
    sym (kept-at (places_in lines) line other (without_last (places_in lines line)) (ap (λ (l : List ℕ). without_last l) empty ∙ sym empty))

pub no_taken : (lines : List Line) (line other count : ℕ) → line_in lines line ≡ None → taken_in lines other ≡ (if other == line then taken_in lines line - count else taken_in lines other)
no_taken lines line other count absent =
    let none : taken_in lines line ≡ 0 = ap (λ (o : Option Line). option_map_or (λ l. l.taken) o 0) absent in
    sym (kept-at (taken_in lines) line other (taken_in lines line - count) (omega (arith, none)))

-- copies of the lines
abbrev pub parts : Line → List ℕ × ℕ
parts l = (l.places.items, l.taken)

slice_get-parts : {X : Type 0} (f : Line → X) (g : List ℕ × ℕ → X) (none : X) → ((l : Line) → f l ≡ g (parts l)) → (xs ys : List Line) (n : ℕ) → map parts xs ≡ map parts ys
    → option_map_or f (slice_get xs n) none ≡ option_map_or f (slice_get ys n) none
slice_get-parts f g none is [] [] n same = refl
slice_get-parts f g none is [] (y ∷ ys) n same = absurd (cc same)
slice_get-parts f g none is (x ∷ xs) [] n same = absurd (cc same)
slice_get-parts f g none is (x ∷ xs) (y ∷ ys) zero same = (let head : parts x ≡ parts y = cc same in is x ∙ ap g head ∙ sym (is y))
slice_get-parts f g none is (x ∷ xs) (y ∷ ys) (suc n) same = slice_get-parts f g none is xs ys n (cc same)

pub places-copied : (xs ys : List Line) (line : ℕ) → map parts xs ≡ map parts ys → places_in xs line ≡ places_in ys line
places-copied xs ys line same =
    elim (cases_Bool (is_ram_line line)) [
      | inl ram ↦ rw ram (slice_get-parts (λ (l : Line). l.places.items) (λ p. p.0) [] (λ l. refl) xs ys (line_place line) same)
      | inr no_ram ↦ rw no_ram refl
    ]

pub taken-copied : (xs ys : List Line) (line : ℕ) → map parts xs ≡ map parts ys → taken_in xs line ≡ taken_in ys line
taken-copied xs ys line same =
    elim (cases_Bool (is_ram_line line)) [
      | inl ram ↦ rw ram (slice_get-parts (λ (l : Line). l.taken) (λ p. p.1) 0 (λ l. refl) xs ys (line_place line) same)
      | inr no_ram ↦ rw no_ram refl
    ]

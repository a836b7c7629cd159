use Rattle.std.proofs.Common.{◌≡◌, ◌⊎◌, ℕ, zero, suc, ◌+◌, ◌-◌, ◌==◌, ◌&&◌, true, false, not, if◌then◌else◌, Option, Some, None, List, [], ◌∷◌, ◌++◌, length, take, map, nat_lt, slice_get, IsTrue, refl, sym, ap, ◌∙◌, inl, inr, arith, length-append}
use Rattle.std.specs.Prelude.{is_none}
use Rattle.std.specs.Option.{option_map_or}
use Rattle.std.proofs.lemmas.Bool.{cases_Bool, cases_eq, and_parts, and_from, eq-eqb, ne_eqb, lt-ltb, le-ltb, false≢true}
use Rattle.std.proofs.lemmas.List.{append-nil, take-append-le, take_all}
use Rattle.dt_lists.proofs.Lists.{slice_get-end}
use Rattle.dt_record.specs.declared.keys.Key.{Key}
use Rattle.dt_record.specs.Memory.{line_of}
use Rattle.dt_record.specs.Actions.{Held, is_on, is_waiting}
use Rattle.dt_stores.specs.declared.late.Late.{Late}
use Rattle.dt_stores.specs.declared.lines.Line.{Line}
use Rattle.dt_stores.specs.declared.steps.Step.TheVariants.{Commit, Drain}
use Rattle.dt_stores.specs.Draining.{is_waiting_on}
use Rattle.dt_stores.specs.Indexed.{on_line, places_on, splits}
use Rattle.dt_stores.specs.Lines.{places_in, FindPlaces, SetsPlaces}
use Rattle.dt_stores.specs.Past.{buffer_of, before_step, last_first, released, without_last}
use Rattle.dt_stores.proofs.DrainLaws.{marked}
use Rattle.dt_stores.proofs.Marking.{walk}
use Rattle.dt_stores.proofs.PlacesOn.{places_on-push, released-empty}

-- What undoes a store that came, and what undoes a drain.

-- ---- a store that came

pub without_last-push : {X : Type 0} (xs : List X) (x : X) → without_last (xs ++ x ∷ []) ≡ xs
without_last-push xs x =
    let long : length (xs ++ x ∷ []) - 1 ≡ length xs = omega (arith, length-append xs (x ∷ [])) in
    ap (λ n. take n (xs ++ x ∷ [])) long ∙ take-append-le (length xs) xs (x ∷ []) (omega arith) ∙ take_all (length xs) xs (omega arith)

pub undoes_commit : (held : List Held) (h : Held) (first : ℕ) (late : List Late) → before_step (buffer_of (held ++ h ∷ []) first late) Commit ≡ buffer_of held first late
undoes_commit held h first late = ap (λ l. buffer_of l first late) (without_last-push held h)

pub undoes_place : (held : List Held) (h : Held) (old new : List Line) → FindPlaces old (held ++ h ∷ [])
    → SetsPlaces old new (line_of h.store.addr) (without_last (places_in old (line_of h.store.addr))) → FindPlaces new held
undoes_place held h old new finds sets = λ line. elim (cases_eq line (line_of h.store.addr)) [
  | inl same ↦ (let here : (line == line_of h.store.addr) ≡ true = eq-eqb line (line_of h.store.addr) same in
      let on : is_on line h.store ≡ true = eq-eqb (line_of h.store.addr) line (sym same) in
      let kept : places_in new line ≡ without_last (places_in old (line_of h.store.addr)) = sets line ∙ (rw here refl) in
      let was : places_in old (line_of h.store.addr) ≡ places_on line held ++ length held ∷ [] = ap (places_in old) (sym same) ∙ finds line ∙ places_on-push line held h ∙ (rw on refl) in
      kept ∙ ap (λ (l : List ℕ). without_last l) was ∙ without_last-push (places_on line held) (length held))
  | inr apart ↦ (let off : (line == line_of h.store.addr) ≡ false = ne_eqb line (line_of h.store.addr) apart in
      let not_on : is_on line h.store ≡ false = ne_eqb (line_of h.store.addr) line (λ same. apart (sym same)) in
      let kept : places_in new line ≡ places_in old line = sets line ∙ (rw off refl) in
      let was : places_on line (held ++ h ∷ []) ≡ places_on line held ++ [] = places_on-push line held h ∙ (rw not_on refl) in
      kept ∙ finds line ∙ was ∙ append-nil (places_on line held))
]

-- ---- a drain

waits-again : (h : Held) → is_waiting h ≡ true → record h { drained = None } ≡ h
waits-again h waits = ap (λ d. record h { drained = d }) (sym (none h.drained waits)) where
  none : (d : Option Key) → is_none d ≡ true → d ≡ None
  none None waits = refl
  none (Some key) waits = absurd (cc waits)

abbrev Released : ℕ → ℕ → List Held → List Held → Type 0
Released line left old new = (n : ℕ) → IsTrue (splits is_waiting n (on_line line old)) → released line n left new ≡ old

released-here : (line : ℕ) (key : Key) (left : ℕ) (h : Held) (hs ms : List Held) → is_waiting h ≡ true → is_on line h.store ≡ true
    → Released line left hs ms → Released line (suc left) (h ∷ hs) (record h { drained = Some key } ∷ ms)
released-here line key left h hs ms waits on rest zero split =
    let parts = and_parts (is_waiting h) (splits is_waiting zero (on_line line hs)) (rw on at split) in
    let some : nat_lt 0 (suc left) ≡ true = lt-ltb 0 (suc left) (omega arith) in
    let one : suc left - 1 ≡ left = omega arith in
    rw (on, some, one) (ap (λ (g : Held). g ∷ released line 0 left ms) (waits-again h waits) ∙ ap (λ (l : List Held). h ∷ l) (rest zero parts.1))
released-here line key left h hs ms waits on rest (suc n) split =
    let parts = and_parts (not (is_waiting h)) (splits is_waiting n (on_line line hs)) (rw on at split) in
    let never : not true ≡ true = rw waits at parts.0 in
    absurd (cc never)

released-past : (line left : ℕ) (h : Held) (hs ms : List Held) → ((is_waiting_on line h ≡ false) ⊎ (left ≡ 0))
    → Released line left hs ms → Released line left (h ∷ hs) (h ∷ ms)
released-past line left h hs ms out rest zero split =
    elim (cases_Bool (is_on line h.store)) [
      | inl on ↦ (let parts = and_parts (is_waiting h) (splits is_waiting zero (on_line line hs)) (rw on at split) in
          elim out [
            | inl not_here ↦ (let never : is_waiting_on line h ≡ true = and_from (is_waiting h) (is_on line h.store) parts.0 on in absurd (false≢true (sym not_here ∙ never)))
            | inr none ↦ (let no_more : nat_lt 0 left ≡ false = le-ltb 0 left (omega arith) in rw (on, no_more) (ap (λ (l : List Held). h ∷ l) (rest zero parts.1)))
          ])
      | inr off ↦ rw off (ap (λ (l : List Held). h ∷ l) (rest zero (rw off at split)))
    ]
released-past line left h hs ms out rest (suc n) split =
    elim (cases_Bool (is_on line h.store)) [
      | inl on ↦ (let parts = and_parts (not (is_waiting h)) (splits is_waiting n (on_line line hs)) (rw on at split) in
          rw on (ap (λ (l : List Held). h ∷ l) (rest n parts.1)))
      | inr off ↦ rw off (ap (λ (l : List Held). h ∷ l) (rest (suc n) (rw off at split)))
    ]

pub released-marked : (line : ℕ) (key : Key) (count : ℕ) (held : List Held) (n : ℕ) → IsTrue (splits is_waiting n (on_line line held))
    → released line n count (marked line key count held) ≡ held
released-marked line key = walk line key (λ left old new. Released line left old new)
    (λ left n split. released-empty line n left)
    (λ left h hs ms waits on rest. released-here line key left h hs ms waits on rest)
    (λ left h hs ms out rest. released-past line left h hs ms out rest)

pub released-places : (on line n left : ℕ) (held : List Held) → places_on on (released line n left held) ≡ places_on on held
released-places on line n left [] = ap (places_on on) (released-empty line n left)
released-places on line zero left (h ∷ hs) =
    elim (cases_Bool (is_on line h.store && nat_lt 0 left)) [
      | inl again ↦ rw again (ap (λ (l : List ℕ). if is_on on h.store then 0 ∷ map suc l else map suc l) (released-places on line zero (left - 1) hs))
      | inr stays ↦ rw stays (ap (λ (l : List ℕ). if is_on on h.store then 0 ∷ map suc l else map suc l) (released-places on line zero left hs))
    ]
released-places on line (suc n) left (h ∷ hs) =
    ap (λ (l : List ℕ). if is_on on h.store then 0 ∷ map suc l else map suc l) (released-places on line (if is_on line h.store then n else suc n) left hs)

last_first-push : (late : List Late) (l : Late) (first : ℕ) → last_first (late ++ l ∷ []) first ≡ l.first
last_first-push late l first =
    let long : length (late ++ l ∷ []) - 1 ≡ length late = omega (arith, length-append late (l ∷ [])) in
    ap (λ (o : Option Late). option_map_or (λ l. l.first) o first) (ap (slice_get (late ++ l ∷ [])) long ∙ slice_get-end late l)

pub undoes_drain : (line : ℕ) (key : Key) (count n after : ℕ) (held : List Held) (late : List Late) (l : Late) → IsTrue (splits is_waiting n (on_line line held))
    → before_step (buffer_of (marked line key count held) after (late ++ l ∷ [])) (Drain line n count) ≡ buffer_of held l.first late
undoes_drain line key count n after held late l split =
    ap (λ hs. buffer_of hs (last_first (late ++ l ∷ []) after) (without_last (late ++ l ∷ []))) (released-marked line key count held n split)
    ∙ ap (λ k. buffer_of held k (without_last (late ++ l ∷ []))) (last_first-push late l after)
    ∙ ap (λ ls. buffer_of held l.first ls) (without_last-push late l)

-- so many fewer are drained on the line
pub taken-back : (line count : ℕ) (f g : ℕ → ℕ) → ((other : ℕ) → g other ≡ (if other == line then f line + count else f other)) → (other : ℕ)
    → (if other == line then g line - count else g other) ≡ f other
taken-back line count f g more other =
    let self : (line == line) ≡ true = eq-eqb line line refl in
    let there : g line ≡ f line + count = more line ∙ (rw self refl) in
    elim (cases_eq other line) [
      | inl same ↦ (let here : (other == line) ≡ true = eq-eqb other line same in
          let fewer : g line - count ≡ f line = omega (arith, there) in
          rw here (fewer ∙ ap f (sym same)))
      | inr apart ↦ (let off : (other == line) ≡ false = ne_eqb other line apart in
          let kept : g other ≡ f other = more other ∙ (rw off refl) in
          rw off kept)
    ]

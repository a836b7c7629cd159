use Rattle.std.specs.Prelude.{ℕ, zero, suc, ◌≡◌, ◌==◌, ◌&&◌, Bool, not, if◌then◌else◌, Option, Some, option_map, List, [], ◌∷◌, filter, find, map, reverse, slice_get, nat_le}
use Rattle.std.specs.List.{take_while, position_or_len}
use Rattle.dt_record.specs.Actions.{Held, is_on, is_undrained, store_covers}

-- Where the stores of a line stand among those of a hart (this project's own).

-- the stores on a line, the oldest first
abbrev pub on_line : ℕ → List Held → List Held
on_line line held = filter (λ h. is_on line h.store) held

-- their places
abbrev pub places_on : ℕ → List Held → List ℕ
places_on line [] = []
places_on line (h ∷ hs) = if is_on line h.store then 0 ∷ map suc (places_on line hs) else map suc (places_on line hs)

-- these stores stand at these places
abbrev pub AreAt : List Held → List ℕ → List Held → Type 0
AreAt held places hs = map (slice_get held) places ≡ map Some hs

-- the first n fail a test, and the others pass it
abbrev pub splits : {X : Type 0} → (X → Bool) → ℕ → List X → Bool
splits p n [] = n == 0
splits p zero (x ∷ xs) = p x && splits p zero xs
splits p (suc n) (x ∷ xs) = not (p x) && splits p n xs

-- a number of each rises from one number to another
abbrev pub rises : {X : Type 0} → (X → ℕ) → (low high : ℕ) → List X → Bool
rises f low high [] = nat_le low high
rises f low high (x ∷ xs) = nat_le low (f x) && rises f (f x) high xs

-- of some stores drains by a cycle have taken the first n
abbrev pub are_split : (at n : ℕ) → List Held → Bool
are_split at n hs = splits (is_undrained at) n hs

-- the youngest that covers a byte, where no drain by a cycle has taken it or one behind it
abbrev pub youngest_over : (addr at : ℕ) → List Held → Option Held
youngest_over addr at hs = find (λ h. store_covers addr h.store) (take_while (is_undrained at) (reverse hs))

-- the number of the oldest that no drain by a cycle has taken, and its place
abbrev pub oldest_seq : ℕ → List Held → Option ℕ
oldest_seq at hs = option_map (λ h. h.store.seq) (find (is_undrained at) hs)

abbrev pub oldest_place : ℕ → List Held → ℕ
oldest_place at hs = position_or_len (is_undrained at) hs

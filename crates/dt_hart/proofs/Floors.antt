use Rattle.std.proofs.Common.{ℕ, ◌≡◌, Option, Some, None, List, [], ◌∷◌, ◌++◌, max, refl, sym, ap, ◌∙◌, arith}
use Rattle.std.specs.Option.{option_to_list}
use Rattle.std.specs.Prelude.{if◌then◌else◌}
use Rattle.std.proofs.lemmas.List.{append-nil, append_assoc}
use Rattle.dt_record.specs.Actions.{Action, Stored, Drained, Fenced, Loaded, Atomic, last_read, asked_floor, order_floor, order_floor_after}
use Rattle.dt_hart.specs.Following.{floor_asked}

-- The order floor and the last read after one more action.

-- the cycle in which an action read memory, and 0 where it read none
abbrev cycle_read : Action → ℕ
cycle_read action = last_read (action ∷ [])

max_swap : (a b c d : ℕ) → b ≡ max c d → max a b ≡ max (max a c) d
max_swap a b c d is = omega (arith, is)

last_read-snoc : (actions : List Action) (action : Action) → last_read (actions ++ action ∷ []) ≡ max (last_read actions) (cycle_read action)
last_read-snoc [] action = omega arith
last_read-snoc (Stored s ∷ rest) action = last_read-snoc rest action
last_read-snoc (Drained key line count ∷ rest) action = last_read-snoc rest action
last_read-snoc (Fenced ww wr rr ∷ rest) action = last_read-snoc rest action
last_read-snoc (Loaded ask ∷ rest) action = max_swap ask.at _ (last_read rest) (cycle_read action) (last_read-snoc rest action)
last_read-snoc (Atomic key addr width reads acquires ∷ rest) action =
    max_swap (if reads then key.stamp else 0) _ (last_read rest) (cycle_read action) (last_read-snoc rest action)

order_floor_after-snoc : (before actions : List Action) (action : Action)
    → order_floor_after before (actions ++ action ∷ []) ≡ max (order_floor_after before actions) (asked_floor (before ++ actions) action)
order_floor_after-snoc before [] action = ap (λ (l : List Action). max (asked_floor l action) 0) (sym (append-nil before)) ∙ omega arith
order_floor_after-snoc before (x ∷ xs) action =
    max_swap (asked_floor before x) _ (order_floor_after (before ++ x ∷ []) xs) _ (order_floor_after-snoc (before ++ x ∷ []) xs action)
    ∙ ap (λ (l : List Action). max (max (asked_floor before x) (order_floor_after (before ++ x ∷ []) xs)) (asked_floor l action)) (append_assoc before (x ∷ []) xs)

order_floor-snoc : (actions : List Action) (action : Action) → order_floor (actions ++ action ∷ []) ≡ max (order_floor actions) (asked_floor actions action)
order_floor-snoc actions action = order_floor_after-snoc [] actions action

max-zero : (n : ℕ) → max n 0 ≡ n
max-zero n = omega arith

-- the last read and the order floor after what one more record does
pub last_read_after : (actions : List Action) (action : Option Action)
    → last_read (actions ++ option_to_list action) ≡ max (last_read actions) (last_read (option_to_list action))
last_read_after actions None = ap last_read (append-nil actions) ∙ sym (max-zero (last_read actions))
last_read_after actions (Some action) = last_read-snoc actions action

asked_is : (actions : List Action) (action : Action) → asked_floor actions action ≡ floor_asked (last_read actions) (Some action)
asked_is actions (Stored s) = refl
asked_is actions (Drained key line count) = refl
asked_is actions (Fenced ww wr rr) = refl
asked_is actions (Loaded ask) = refl
asked_is actions (Atomic key addr width reads acquires) = refl

pub order_floor_after_one : (actions : List Action) (action : Option Action)
    → order_floor (actions ++ option_to_list action) ≡ max (order_floor actions) (floor_asked (last_read actions) action)
order_floor_after_one actions None = ap order_floor (append-nil actions) ∙ sym (max-zero (order_floor actions))
order_floor_after_one actions (Some action) =
    order_floor-snoc actions action ∙ ap (max (order_floor actions)) (asked_is actions action)

use Rattle.std.proofs.Common.{◌≡◌, ◌≤◌, ◌<◌, true, false, List, [], ◌∷◌, ◌++◌, length, Option, Some, None, IfSome, refl, sym, subst, arith}
use Rattle.std.proofs.lemmas.List.{length-append}
use Rattle.std.proofs.lemmas.List.Elements.{All-weaker}
use Rattle.std.proofs.lemmas.Bool.Decides.{nat_tests}
use Rattle.dt_record.specs.declared.keys.Key.{Key}
use Rattle.dt_record.specs.Keys.{KeyBelow}
use Rattle.dt_stores.specs.GoingOn.{AreDrainedBelow, DrainsBelow, DrainsStayBelow}
use Rattle.dt_record.specs.Actions.{Action, Held, held_of, Stored, Drained, Fenced, Loaded, Atomic, ww_fences, wr_fences}
use Rattle.dt_stores.specs.Kept.{Kept}
use Rattle.dt_stores.specs.Standing.{GainsAction}
use Rattle.dt_hart.specs.Counting.{IsCounted, CountsOn, key_after}

-- A store buffer counts no more fences than its hart had records.

ww_few : (actions : List Action) → ww_fences actions ≤ length actions
ww_few [] = omega arith
ww_few (Stored s ∷ rest) = omega (arith, ww_few rest)
ww_few (Drained key line count ∷ rest) = omega (arith, ww_few rest)
ww_few (Fenced true wr rr ∷ rest) = omega (arith, ww_few rest)
ww_few (Fenced false wr rr ∷ rest) = omega (arith, ww_few rest)
ww_few (Loaded ask ∷ rest) = omega (arith, ww_few rest)
ww_few (Atomic key addr width reads acquires ∷ rest) = omega (arith, ww_few rest)

wr_few : (actions : List Action) → wr_fences actions ≤ length actions
wr_few [] = omega arith
wr_few (Stored s ∷ rest) = omega (arith, wr_few rest)
wr_few (Drained key line count ∷ rest) = omega (arith, wr_few rest)
wr_few (Fenced ww true rr ∷ rest) = omega (arith, wr_few rest)
wr_few (Fenced ww false rr ∷ rest) = omega (arith, wr_few rest)
wr_few (Loaded ask ∷ rest) = omega (arith, wr_few rest)
wr_few (Atomic key addr width reads acquires ∷ rest) = omega (arith, wr_few rest)

-- so there is room for one more fence
pub fences_fit : (stores : Kept) (next : Key) → IsCounted stores next → next.seq < 4194304 → (stores.ww < 4194304) × (stores.wr < 4194304)
fences_fit stores next counted room =
    let ww = ww_few counted.actions in
    let wr = wr_few counted.actions in
    (omega (arith, ww, counted.few, counted.stands.ww), omega (arith, wr, counted.few, counted.stands.wr))

-- a key stays below one that comes later
pub below_later : (low key later : Key) → key.stamp ≤ later.stamp → key.hart ≡ later.hart → key.seq ≤ later.seq → KeyBelow low key → KeyBelow low later
below_later low key later stamp hart seq below = grind (arith, nat_tests)

pub drained_later : (held : List Held) (key later : Key) → key.stamp ≤ later.stamp → key.hart ≡ later.hart → key.seq ≤ later.seq → AreDrainedBelow key held → AreDrainedBelow later held
drained_later held key later stamp hart seq = All-weaker (λ h. IfSome h.drained (λ k. KeyBelow k key)) (λ h. IfSome h.drained (λ k. KeyBelow k later))
    (λ h. IfSome_later h.drained) held
  where
    IfSome_later : (drained : Option Key) → IfSome drained (λ k. KeyBelow k key) → IfSome drained (λ k. KeyBelow k later)
    IfSome_later None below = tt
    IfSome_later (Some k) below = below_later k key later stamp hart seq below

pub counts_later : (stores : Kept) (key later : Key) → key.stamp ≤ later.stamp → key.hart ≡ later.hart → key.seq ≤ later.seq → IsCounted stores key → IsCounted stores later
counts_later stores key later stamp hart seq counted = record {
  actions = counted.actions;
  stands = counted.stands;
  few = omega (arith, counted.few);
  below = drained_later stores.held key later stamp hart seq counted.below;
}

pub counts_same : (key : Key) (old new : Kept) → new ≡ old → CountsOn key old new
counts_same key old new same counted =
    subst (λ (k : Kept). IsCounted k (key_after key)) (sym same) (counts_later old key (key_after key) (omega arith) refl (omega arith) counted)

pub counts_gained : DrainsStayBelow → (key : Key) (old new : Kept) (action : Action) → DrainsBelow (key_after key) action → GainsAction old new action → CountsOn key old new
counts_gained stay key old new action low gains counted =
    let long = length-append counted.actions (action ∷ []) in
    let later : AreDrainedBelow (key_after key) old.held = drained_later old.held key (key_after key) (omega arith) refl (omega arith) counted.below in
    let before : AreDrainedBelow (key_after key) (held_of counted.actions) = subst (AreDrainedBelow (key_after key)) counted.stands.held later in
    let stands = gains counted.actions counted.stands in
    record {
      actions = counted.actions ++ action ∷ [];
      stands = stands;
      few = omega (arith, long, counted.few);
      below = subst (AreDrainedBelow (key_after key)) (sym stands.held) (stay old counted.actions action (key_after key) counted.stands low before);
    }

-- the key of a record is below the least one after it
pub below_next : (key : Key) → KeyBelow key (key_after key)
below_next key = grind (arith, nat_tests)

use Rattle.std.proofs.Common.{◌≡◌, ◌&&◌, Bool, true, false, not, is_some, Option, Some, List, [], ◌∷◌, map, cond, refl, sym, ap, ◌∙◌, inl, inr, arith}
use Rattle.std.specs.List.{list_all, AllByRecursion}
use Rattle.std.specs.List.Sorted.{IsStrictlySortedBy}
use Rattle.std.specs.Map.{keys_of, values_of, lookup}
use Rattle.std.specs.BTreeMap.{insert_entry, is_at}
use Rattle.std.specs.declared.cmp.Ordering.{Ordering}
use Rattle.std.specs.declared.cmp.Ordering.TheVariants.{Less, Equal, Greater}
use Rattle.std.specs.Ordering.{is_eq, is_lt, is_gt, match_ordering}
use Rattle.std.proofs.lemmas.Bool.{and_parts, and_from, or_from, or_left, or_right, both_ways}
use Rattle.std.proofs.lemmas.Bool.Decides.{nat_tests}
use Rattle.std.proofs.lemmas.Map.Keys.{sorted_head, sorted_tail}
use Rattle.dt_writes.proofs.KeyOrder.{cmp-below}
use Rattle.dt_record.proofs.Inserting.{insert-first, insert-later}
use Rattle.dt_record.specs.declared.keys.Key.{Key}
use Rattle.dt_record.specs.declared.writes.Write.{Write}
use Rattle.dt_record.specs.Keys.{key_below}
use Rattle.dt_record.proofs.KeyLaws.{key_below-itself, key_below-cases}
use Rattle.dt_record.specs.Writes.{insert_write}
use Rattle.dt_record.specs.contracts.keys.KeyOrd.TheImpl.{ghosts}
use Rattle.dt_versions.specs.History.{are_in_order}
use Rattle.dt_writes.specs.Apart.{keys_differ}
use Rattle.dt_settled.specs.Waiting.{AreKeyed}

-- A map from keys to writes, in which each write stands under its key.

abbrev pub write_key : Write → Key
write_key w = w.key

-- the order that `Key` derives is that of the definition

cmp-above : (a b : Key) → is_gt (ghosts.cmp a b) ≡ key_below b a
cmp-above a b = grind (arith, nat_tests)

cmp-equal : (a b : Key) → ghosts.cmp a b ≡ Equal → a ≡ b
cmp-equal a b is = elim (key_below-cases a b) [
  | inl below ↦ absurd (both_ways (key_below a b) (sym (cmp-below a b) ∙ ap is_lt is) below)
  | inr rest ↦
      elim rest [
        | inl same ↦ same
        | inr above ↦ absurd (both_ways (key_below b a) (sym (cmp-above a b) ∙ ap is_gt is) above)
      ]
]

differs-itself : (a : Key) → keys_differ a a ≡ false
differs-itself a = or_from (key_below a a) (key_below a a) (key_below-itself a) (key_below-itself a)

-- a new write

heads : (j k : Key) (js ks : List Key) → j ∷ js ≡ k ∷ ks → (j ≡ k) × (js ≡ ks)
heads j k js ks same = (cc, cc)

-- before a first entry, at its place, or behind it
abbrev placed : Write → Key × Write → List (Key × Write) → Ordering → List (Key × Write)
placed w e es o = match_ordering o ((w.key, w) ∷ e ∷ es) ((e.0, w) ∷ es) (e ∷ insert_entry ghosts.cmp es w.key w)

module _ (w : Write) (e : Key × Write) (es : List (Key × Write)) (head : e.0 ≡ e.1.key) where
  below_as : (o : Ordering) → ghosts.cmp w.key e.0 ≡ o → key_below w.key e.1.key ≡ is_lt o
  below_as o is = ap (key_below w.key) (sym head) ∙ sym (cmp-below w.key e.0) ∙ ap is_lt is

  values-placed : keys_differ w.key e.1.key ≡ true → values_of (insert_entry ghosts.cmp es w.key w) ≡ insert_write w (values_of es)
      → (o : Ordering) → ghosts.cmp w.key e.0 ≡ o → values_of (placed w e es o) ≡ insert_write w (e.1 ∷ values_of es)
  values-placed apart rest Less is = sym (insert-first w e.1 (values_of es) (below_as Less is))
  values-placed apart rest Equal is =
      let same : w.key ≡ e.1.key = cmp-equal w.key e.0 is ∙ head in
      absurd (both_ways (keys_differ w.key e.1.key) (ap (keys_differ w.key) (sym same) ∙ differs-itself w.key) apart)
  values-placed apart rest Greater is = ap (λ (ws : List Write). e.1 ∷ ws) rest ∙ sym (insert-later w e.1 (values_of es) (below_as Greater is))

  keyed-placed : keys_of es ≡ map write_key (values_of es)
      → keys_of (insert_entry ghosts.cmp es w.key w) ≡ map write_key (values_of (insert_entry ghosts.cmp es w.key w))
      → (o : Ordering) → ghosts.cmp w.key e.0 ≡ o → keys_of (placed w e es o) ≡ map write_key (values_of (placed w e es o))
  keyed-placed tail rest Less is =
      ap (λ (k : Key). w.key ∷ k ∷ keys_of es) head ∙ ap (λ (ks : List Key). w.key ∷ e.1.key ∷ ks) tail
  keyed-placed tail rest Equal is =
      ap (λ (k : Key). k ∷ keys_of es) (sym (cmp-equal w.key e.0 is)) ∙ ap (λ (ks : List Key). w.key ∷ ks) tail
  keyed-placed tail rest Greater is =
      ap (λ (k : Key). k ∷ keys_of (insert_entry ghosts.cmp es w.key w)) head ∙ ap (λ (ks : List Key). e.1.key ∷ ks) rest

-- each write stands under its key
abbrev AreUnder : List (Key × Write) → Type 0
AreUnder es = keys_of es ≡ map write_key (values_of es)

under : (e : Key × Write) (es : List (Key × Write)) → AreUnder (e ∷ es) → (e.0 ≡ e.1.key) × AreUnder es
under e es keyed = heads e.0 e.1.key (keys_of es) (map write_key (values_of es)) keyed

pub values-insert : (w : Write) (es : List (Key × Write)) → AreUnder es → list_all (λ v. keys_differ w.key v.key) (values_of es) ≡ true
    → values_of (insert_entry ghosts.cmp es w.key w) ≡ insert_write w (values_of es)
values-insert w [] keyed apart = refl
values-insert w (e ∷ es) keyed apart =
    let this = under e es keyed in
    let parts = and_parts (keys_differ w.key e.1.key) (list_all (λ (v : Write). keys_differ w.key v.key) (values_of es)) apart in
    values-placed w e es this.0 parts.0 (values-insert w es this.1 parts.1) (ghosts.cmp w.key e.0) refl

-- whether a map holds the key of a write: some waiting write has it

found-at : (w : Write) (e : Key × Write) (rest : Option Write) (apart : Bool) → e.0 ≡ e.1.key → is_some rest ≡ not apart
    → (o : Ordering) → ghosts.cmp w.key e.0 ≡ o → is_some (cond (is_at (ghosts.cmp w.key) e.0) (Some e.1) rest) ≡ not (keys_differ w.key e.1.key && apart)
found-at w e rest apart head later Equal is =
    let same : w.key ≡ e.1.key = cmp-equal w.key e.0 is ∙ head in
    let none : keys_differ w.key e.1.key ≡ false = ap (keys_differ w.key) (sym same) ∙ differs-itself w.key in
    ap (λ o. is_some (cond (is_eq o) (Some e.1) rest)) is ∙ sym (ap (λ b. not (b && apart)) none)
found-at w e rest apart head later Less is =
    let below : key_below w.key e.1.key ≡ true = ap (key_below w.key) (sym head) ∙ sym (cmp-below w.key e.0) ∙ ap is_lt is in
    ap (λ o. is_some (cond (is_eq o) (Some e.1) rest)) is ∙ later ∙ sym (ap (λ b. not (b && apart)) (or_left (key_below w.key e.1.key) (key_below e.1.key w.key) below))
found-at w e rest apart head later Greater is =
    let above : key_below e.1.key w.key ≡ true = ap (λ (k : Key). key_below k w.key) (sym head) ∙ sym (cmp-above w.key e.0) ∙ ap is_gt is in
    ap (λ o. is_some (cond (is_eq o) (Some e.1) rest)) is ∙ later ∙ sym (ap (λ b. not (b && apart)) (or_right (key_below w.key e.1.key) (key_below e.1.key w.key) above))

pub found-key : (w : Write) (es : List (Key × Write)) → AreUnder es
    → is_some (lookup (is_at (ghosts.cmp w.key)) es) ≡ not (list_all (λ v. keys_differ w.key v.key) (values_of es))
found-key w [] keyed = refl
found-key w (e ∷ es) keyed =
    let this = under e es keyed in
    found-at w e (lookup (is_at (ghosts.cmp w.key)) es) (list_all (λ (v : Write). keys_differ w.key v.key) (values_of es)) this.0
    (found-key w es this.1) (ghosts.cmp w.key e.0) refl

keyed-insert : (w : Write) (es : List (Key × Write)) → AreUnder es → AreUnder (insert_entry ghosts.cmp es w.key w)
keyed-insert w [] keyed = refl
keyed-insert w (e ∷ es) keyed =
    let this = under e es keyed in
    keyed-placed w e es this.0 this.1 (keyed-insert w es this.1) (ghosts.cmp w.key e.0) refl

-- keys that rise

above_each : (k : Key) (ws : List Write) → AllByRecursion (λ q. ghosts.cmp k q ≡ Less) (map write_key ws) → list_all (λ v. key_below k v.key) ws ≡ true
above_each k [] all = refl
above_each k (w ∷ ws) all = and_from (key_below k w.key) (list_all (λ v. key_below k v.key) ws) (sym (cmp-below k w.key) ∙ ap is_lt all.0) (above_each k ws all.1)

in_order-sorted : (ws : List Write) → IsStrictlySortedBy ghosts.cmp (map write_key ws) → are_in_order ws ≡ true
in_order-sorted [] sorted = refl
in_order-sorted (w ∷ ws) sorted =
    and_from (list_all (λ v. key_below w.key v.key) ws) (are_in_order ws) (above_each w.key ws (sorted_head ghosts.cmp w.key (map write_key ws) sorted))
    (in_order-sorted ws (sorted_tail ghosts.cmp w.key (map write_key ws) sorted))

pub AreKeyed-insert : (w : Write) (old new : List (Key × Write)) → AreKeyed old → new ≡ insert_entry ghosts.cmp old w.key w → IsStrictlySortedBy ghosts.cmp (keys_of new) → AreKeyed new
AreKeyed-insert w old new keyed is sorted =
    let same : keys_of new ≡ map write_key (values_of new) = rw is (keyed-insert w old keyed.keyed) in
    record { keyed = same; in_order = in_order-sorted (values_of new) (rw same at sorted) }

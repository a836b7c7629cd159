use Rattle.std.specs.Prelude.{◌≡◌, ◌<◌, ◌≤◌, ◌⊎◌, false}
use Rattle.std.proofs.Common.{arith}
use Rattle.std.proofs.lemmas.Bool.Decides.{nat_tests}
use Rattle.dt_record.specs.declared.keys.Key.{Key}
use Rattle.dt_record.specs.Keys.{key_below, KeyBelow, KeysAreInOrder}

-- Keys are in a strict total order.

pub key_below-itself : (a : Key) → key_below a a ≡ false
key_below-itself a = grind (arith, nat_tests)

pub key_below-back : (a b : Key) → KeyBelow a b → key_below b a ≡ false
key_below-back a b below = grind (arith, nat_tests)

pub KeyBelow-chain : (a b c : Key) → KeyBelow a b → KeyBelow b c → KeyBelow a c
KeyBelow-chain a b c first second = grind (arith, nat_tests)

pub key_below-cases : (a b : Key) → KeyBelow a b ⊎ ((a ≡ b) ⊎ KeyBelow b a)
key_below-cases a b = grind (arith, nat_tests)

-- the cycle decides first
pub KeyBelow-stamps : (a b : Key) → KeyBelow a b → a.stamp ≤ b.stamp
KeyBelow-stamps a b below = grind (arith, nat_tests)

pub KeyBelow-from_stamps : (a b : Key) → a.stamp < b.stamp → KeyBelow a b
KeyBelow-from_stamps a b earlier = grind (arith, nat_tests)

pub keys-are_in_order : KeysAreInOrder
keys-are_in_order = record {
  not_itself = key_below-itself;
  one_way = key_below-back;
  chain = KeyBelow-chain;
  total = key_below-cases;
  stamps = KeyBelow-stamps;
  from_stamps = KeyBelow-from_stamps;
}

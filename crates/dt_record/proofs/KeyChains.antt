-- What follows of keys that are, or are not, below one another.
use Rattle.std.specs.Prelude.{◌≡◌, false}
use Rattle.std.proofs.Common.{arith}
use Rattle.std.proofs.lemmas.Bool.Decides.{nat_tests}
use Rattle.dt_record.specs.declared.keys.Key.{Key}
use Rattle.dt_record.specs.Keys.{key_below, KeyBelow}

pub below-not_above : (a b c : Key) → KeyBelow a b → key_below c b ≡ false → KeyBelow a c
below-not_above a b c below above = grind (arith, nat_tests)

pub below-chain : (a b c : Key) → key_below b a ≡ false → KeyBelow b c → KeyBelow a c
below-chain a b c above below = grind (arith, nat_tests)

pub key_not_below-chain : (a b c : Key) → key_below a b ≡ false → key_below b c ≡ false → key_below a c ≡ false
key_not_below-chain a b c first second = grind (arith, nat_tests)

use Rattle.std.specs.Prelude.{ℕ, ◌≡◌, ◌<◌, ◌≤◌, ◌==◌, ◌&&◌, ◌||◌, ◌⊎◌, Bool, false, List, filter, nat_lt, IsTrue}
use Rattle.dt_record.specs.declared.keys.Key.{Key}
use Rattle.dt_record.specs.declared.records.Record.{Record}

-- the records of one hart, in their order
abbrev pub records_of : ℕ → List Record → List Record
records_of hart records = filter (λ r. r.hart == hart) records

-- the key of the record with this number among its hart's records
abbrev pub key_of : ℕ → Record → Key
key_of seq r = record { stamp = r.stamp; hart = r.hart; seq = seq }

-- whether a key stands before another: by cycle, then by hart, then by number (this project's own order)
abbrev pub key_below : Key → Key → Bool
key_below a b = nat_lt a.stamp b.stamp
    || ((a.stamp == b.stamp) && (nat_lt a.hart b.hart || ((a.hart == b.hart) && nat_lt a.seq b.seq)))

abbrev pub KeyBelow : Key → Key → Type 0
KeyBelow a b = IsTrue (key_below a b)

-- keys are in a strict total order, in which the cycle decides first
pub record KeysAreInOrder : Type 0 where
  pub not_itself : (a : Key) → key_below a a ≡ false
  pub one_way : (a b : Key) → KeyBelow a b → key_below b a ≡ false
  pub chain : (a b c : Key) → KeyBelow a b → KeyBelow b c → KeyBelow a c
  pub total : (a b : Key) → KeyBelow a b ⊎ ((a ≡ b) ⊎ KeyBelow b a)
  pub stamps : (a b : Key) → KeyBelow a b → a.stamp ≤ b.stamp
  pub from_stamps : (a b : Key) → a.stamp < b.stamp → KeyBelow a b

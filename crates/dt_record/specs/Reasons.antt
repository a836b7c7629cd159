use Rattle.std.specs.Prelude.{ℕ, List, codes}
use Rattle.dt_record.specs.declared.reasons.Reason.{Reason}
use Rattle.dt_record.specs.declared.reasons.Reason.TheVariants.{Pc, Fetch, Raises, Kind, Cause, Tval, Interrupt, Value, Address, StoreData, Order, LoadSource, Adopt, Counter, Undrained, AtomicValue, AtomicWrite, Refill, ScSuccess, DrainCount, DrainData, Barrier, State}

-- the number of a reason, as reports print it (this project's own)
abbrev pub reason_number : Reason → ℕ
reason_number Pc = 1
reason_number Fetch = 2
reason_number Raises = 3
reason_number Kind = 4
reason_number Cause = 5
reason_number Tval = 6
reason_number Interrupt = 7
reason_number Value = 8
reason_number Address = 9
reason_number StoreData = 10
reason_number Order = 11
reason_number LoadSource = 12
reason_number Adopt = 13
reason_number Counter = 14
reason_number Undrained = 15
reason_number AtomicValue = 16
reason_number AtomicWrite = 17
reason_number Refill = 18
reason_number ScSuccess = 19
reason_number DrainCount = 20
reason_number DrainData = 21
reason_number Barrier = 22
reason_number State = 23

-- the name of a reason, in bytes
abbrev pub reason_name : Reason → List ℕ
reason_name Pc = codes "Pc"
reason_name Fetch = codes "Fetch"
reason_name Raises = codes "Raises"
reason_name Kind = codes "Kind"
reason_name Cause = codes "Cause"
reason_name Tval = codes "Tval"
reason_name Interrupt = codes "Interrupt"
reason_name Value = codes "Value"
reason_name Address = codes "Address"
reason_name StoreData = codes "StoreData"
reason_name Order = codes "Order"
reason_name LoadSource = codes "LoadSource"
reason_name Adopt = codes "Adopt"
reason_name Counter = codes "Counter"
reason_name Undrained = codes "Undrained"
reason_name AtomicValue = codes "AtomicValue"
reason_name AtomicWrite = codes "AtomicWrite"
reason_name Refill = codes "Refill"
reason_name ScSuccess = codes "ScSuccess"
reason_name DrainCount = codes "DrainCount"
reason_name DrainData = codes "DrainData"
reason_name Barrier = codes "Barrier"
reason_name State = codes "State"

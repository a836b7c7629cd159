use Rattle.std.specs.Prelude.{ℕ, Option, Some, None}
use Rattle.dt_csr.specs.declared.cause.TheConstants.{FETCH_ACCESS, FETCH_PAGE, LOAD_ACCESS, LOAD_PAGE, STORE_ACCESS, STORE_PAGE}
use Rattle.dt_walk.specs.declared.arguments.Access.{Access}
use Rattle.dt_walk.specs.declared.arguments.Access.TheVariants.{Fetch, Load, Store}
use Rattle.dt_walk.specs.declared.arguments.WalkAnswer.{WalkAnswer}
use Rattle.dt_walk.specs.declared.arguments.WalkAnswer.TheVariants.{Page, PageFault, AccessFault}

-- The causes of a page fault and of an access fault (Volume II, table 3.6).

abbrev pub page_cause : Access → ℕ
page_cause Fetch = FETCH_PAGE
page_cause Load = LOAD_PAGE
page_cause Store = STORE_PAGE

abbrev pub access_cause : Access → ℕ
access_cause Fetch = FETCH_ACCESS
access_cause Load = LOAD_ACCESS
access_cause Store = STORE_ACCESS

-- the cause that the outcome of a translation raises, and none where it is a page
abbrev pub fault_cause : Access → WalkAnswer → Option ℕ
fault_cause access (Page addr) = None
fault_cause access PageFault = Some (page_cause access)
fault_cause access AccessFault = Some (access_cause access)

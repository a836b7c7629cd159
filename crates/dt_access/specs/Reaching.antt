use Rattle.std.specs.Prelude.{ℕ, nat_lt, Bool, ◌&&◌, ◌||◌, not, if◌then◌else◌}
use Rattle.dt_record.specs.declared.limits.TheConstants.{RAM_START}
use Rattle.dt_record.specs.Lawful.{is_in_ram}
use Rattle.dt_walk.specs.declared.arguments.WalkAnswer.{WalkAnswer}
use Rattle.dt_walk.specs.declared.arguments.WalkAnswer.TheVariants.{Page, PageFault, AccessFault}

-- Which physical addresses an access may reach (this project's own address map).

-- devices lie below RAM
abbrev pub is_device : ℕ → Bool
is_device addr = nat_lt addr RAM_START

-- whether an access may reach a physical address: RAM always, a device unless RAM alone is allowed
abbrev pub is_reachable : Bool → ℕ → Bool
is_reachable ram_only addr = is_in_ram addr || (not ram_only && is_device addr)

-- an access fault in place of a page that the access may not reach
abbrev pub reached : Bool → WalkAnswer → WalkAnswer
reached ram_only (Page addr) = if is_reachable ram_only addr then Page addr else AccessFault
reached ram_only PageFault = PageFault
reached ram_only AccessFault = AccessFault

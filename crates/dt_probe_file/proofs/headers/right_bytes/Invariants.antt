use Rattle.std.proofs.Common.{ℕ, ◌<◌, IsTrue, get_or}
use Rattle.dt_probe_file.specs.Headers.{header_byte}
use Rattle.dt_probe_file.proofs.headers.right_bytes.Given as goal

-- the bytes before may stand in a header
abbrev pub invariant-loop-place : goal.invariant-loop-place
invariant-loop-place l = (i : ℕ) → i < l.place → IsTrue (header_byte i (get_or l.bytes i 0))

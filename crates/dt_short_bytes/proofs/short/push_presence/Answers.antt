use Rattle.std.proofs.Common.{◌≡◌, ◌+◌, ◌/◌, take, length, List, ℕ, ap, ◌∙◌, rules}
use Rattle.dt_record.specs.Spelling.{word, presence_bytes}
use Rattle.dt_short_bytes.proofs.ShortPresence.{eights}
use Rattle.dt_short_bytes.proofs.short.push_presence.Goals as goal

pub returns : goal.returns
unfolding word
returns c =
    let numbers = c.args.numbers.now in
    let count = c.div_ceil.ensures ∙ eights (length numbers) in
    let spelled : take c.div_ceil.result c.to_le_bytes-bits.result ≡ presence_bytes numbers =
    ap (λ (k : ℕ). take k c.to_le_bytes-bits.result) count ∙ ap (λ (t : List ℕ). take ((length numbers + 7) / 8) t) (c.to_le_bytes-bits.ensures ∙ ap word c.presence_of.ensures) in
    rw (← spelled) (search rules)

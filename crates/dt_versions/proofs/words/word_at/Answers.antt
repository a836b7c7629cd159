use Rattle.std.proofs.Common.{ℕ, ◌≡◌, ◌+◌, ◌<◌, lit<, refl, ap, ◌∙◌, arith}
use Rattle.dt_record.specs.Memory.{memory_at}
use Rattle.dt_versions.specs.Chains.{chain_of, line_place, newest_until}
use Rattle.dt_versions.specs.Words.{double_at}
use Rattle.dt_versions.proofs.Covers.{memory_at-row}
use Rattle.dt_versions.proofs.words.word_at.Goals as goal

newest_is : (c : goal.After-from_le_bytes) (addr : ℕ) → line_place c.args.addr ≡ line_place addr
    → c.newest_at-newest.result ≡ newest_until (chain_of c.args.lines.now (line_place addr)) c.args.k
newest_is c addr place = c.newest_at-newest.ensures ∙ ap (λ p. newest_until (chain_of c.args.lines.now p) c.args.k) (c.line_place.ensures ∙ place)

pub returns : goal.returns
unfolding double_at
returns c =
    let memory = memory_at c.args.base.now c.args.writes.now c.args.k in
    let row = memory_at-row c.args.base.now c.args.writes.now c.args.rows.now (chain_of c.args.lines.now) c.requires.chained c.args.k in
    let byte = λ (i : ℕ) (within : i < 8). row (c.args.addr + i) c.newest_at-newest.result c.requires.within (omega (arith, c.requires.in_ram))
    (newest_is c (c.args.addr + i) (omega (arith, c.requires.aligned, c.requires.in_ram))) in
    let b0 : c.byte_after.result ≡ memory c.args.addr = c.byte_after.ensures ∙ row c.args.addr c.newest_at-newest.result c.requires.within c.requires.in_ram (newest_is c c.args.addr refl) in
    let b1 : c.byte_after-2.result ≡ memory (c.args.addr + 1) = c.byte_after-2.ensures ∙ byte 1 (lit< tt) in
    let b2 : c.byte_after-3.result ≡ memory (c.args.addr + 2) = c.byte_after-3.ensures ∙ byte 2 (lit< tt) in
    let b3 : c.byte_after-4.result ≡ memory (c.args.addr + 3) = c.byte_after-4.ensures ∙ byte 3 (lit< tt) in
    let b4 : c.byte_after-5.result ≡ memory (c.args.addr + 4) = c.byte_after-5.ensures ∙ byte 4 (lit< tt) in
    let b5 : c.byte_after-6.result ≡ memory (c.args.addr + 5) = c.byte_after-6.ensures ∙ byte 5 (lit< tt) in
    let b6 : c.byte_after-7.result ≡ memory (c.args.addr + 6) = c.byte_after-7.ensures ∙ byte 6 (lit< tt) in
    let b7 : c.byte_after-8.result ≡ memory (c.args.addr + 7) = c.byte_after-8.ensures ∙ byte 7 (lit< tt) in
    omega (arith, c.from_le_bytes.ensures, b0, b1, b2, b3, b4, b5, b6, b7)

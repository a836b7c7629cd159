use Rattle.std.proofs.Common.{◌≡◌, ℕ, ◌+◌, ◌-◌, List, ◌++◌, length, take, replicate, ap, ◌∙◌, arith}
use Rattle.std.proofs.lemmas.List.{length-take-le}
use Rattle.dt_record.specs.Spelling.{double}
use Rattle.dt_record.proofs.Placed.{put-zeros}
use Rattle.dt_record.proofs.writes.line_bytes_with.Goals as goal

pub returns : goal.returns
unfolding double
returns c =
    let low = c.to_le_bytes-low.result in
    let eight : length low ≡ 8 = ap length c.to_le_bytes-low.ensures in
    let long : length (take c.args.width low) ≡ c.args.width = length-take-le c.args.width low (omega arith) in
    c.put.ensures ∙ put-zeros 64 c.args.place c.args.width (take c.args.width low) long c.requires.within
    ∙ ap (λ (l : List ℕ). replicate c.args.place 0 ++ take c.args.width l ++ replicate (64 - (c.args.place + c.args.width)) 0) c.to_le_bytes-low.ensures

use Rattle.std.proofs.Common.{get_or, subst, sym, arith}
use Rattle.dt_probe_file.proofs.Heading.{FollowsByte, whole_header, begun_header, wrong_header}
use Rattle.dt_record.specs.declared.spellings.Version.{Version}
use Rattle.dt_probe_file.proofs.headers.heading_of.Goals as goal
use Rattle.dt_probe_file.proofs.headers.heading_of.Goals.{then-bytes-eq1, else-bytes-eq1}

pub returns-then-right-eq-HEADER_LEN : goal.returns-then-right-eq-HEADER_LEN
returns-then-right-eq-HEADER_LEN c = whole_header c.args.bytes.now c.right_bytes-right.result c.if-bytes-eq1.version c.if-right-eq-HEADER_LEN.true c.right_bytes-right.ensures.inside c.right_bytes-right.ensures.right
    (elim c.if-bytes-eq1.branch [
      | then-bytes-eq1 w ↦ subst (λ (v : Version). FollowsByte v (get_or c.args.bytes.now 8 0)) (sym w.version-is) w.if-bytes-eq1.true
      | else-bytes-eq1 w ↦ subst (λ (v : Version). FollowsByte v (get_or c.args.bytes.now 8 0)) (sym w.version-is) w.if-bytes-eq1.false
    ])

pub returns-then-right-bytes : goal.returns-then-right-bytes
returns-then-right-bytes c =
    begun_header c.args.bytes.now c.right_bytes-right.result c.field_of-field.result (let no = c.if-right-eq-HEADER_LEN.false in omega (arith, no, c.right_bytes-right.ensures.within)) c.if-right-bytes.true c.right_bytes-right.ensures.right c.field_of-field.ensures

pub returns-else-right-bytes : goal.returns-else-right-bytes
returns-else-right-bytes c =
    wrong_header c.args.bytes.now c.right_bytes-right.result c.field_of-field.result (omega (arith, c.if-right-eq-HEADER_LEN.false, c.right_bytes-right.ensures.within)) (omega (arith, c.if-right-bytes.false, c.right_bytes-right.ensures.inside))
    c.right_bytes-right.ensures.right c.right_bytes-right.ensures.wrong c.field_of-field.ensures

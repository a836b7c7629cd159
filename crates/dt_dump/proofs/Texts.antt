-- The text of a dump, piece by piece.
use Rattle.std.proofs.Common.{◌≡◌, ◌∙◌, ℕ, List, [], ◌∷◌, ◌++◌, Option, Some, None, IfSome, length, take, drop, refl, sym, ap, subst, append_assoc}
use Rattle.std.proofs.lemmas.List.{append-nil, take-append-drop}
use Rattle.std.specs.Option.{option_map, option_map_or}
use Rattle.dt_source.specs.Known.{Appends}
use Rattle.dt_record.specs.declared.records.Record.{Record}
use Rattle.dt_record.specs.declared.streams.Next.{Next}
use Rattle.dt_record.specs.Keys.{records_of}
use Rattle.dt_text.specs.Line.{line_text}
use Rattle.dt_dump.specs.Dump.{lines_after, record_lines, records_in, end_of, last_line, dump_text, AppendsPart}

-- what is appended in two steps is appended in one
pub Appends-append : (before middle after : Option (List ℕ)) (xs ys : List ℕ) → Appends before xs middle → Appends middle ys after → Appends before (xs ++ ys) after
Appends-append None middle after xs ys first second = second ∙ ap (option_map (λ bytes. bytes ++ ys)) first
Appends-append (Some bytes) middle after xs ys first second =
    second ∙ ap (option_map (λ bytes. bytes ++ ys)) first ∙ ap Some (append_assoc bytes xs ys)

-- ---- lines

-- the lines of records and of one more
lines_more : (before records : List Record) (r : Record) → lines_after before (records ++ r ∷ []) ≡ lines_after before records ++ line_text (length (records_of r.hart (before ++ records))) r
unfolding lines_after
lines_more before [] r =
    append-nil (line_text (length (records_of r.hart before)) r)
    ∙ ap (λ (rs : List Record). line_text (length (records_of r.hart rs)) r) (sym (append-nil before))
lines_more before (q ∷ qs) r =
    let first = line_text (length (records_of q.hart before)) q in
    ap (λ (z : List ℕ). first ++ z) (lines_more (before ++ q ∷ []) qs r)
    ∙ ap (λ (rs : List Record). first ++ (lines_after (before ++ q ∷ []) qs ++ line_text (length (records_of r.hart rs)) r)) (append_assoc before (q ∷ []) qs)
    ∙ sym (append_assoc first (lines_after (before ++ q ∷ []) qs) (line_text (length (records_of r.hart (before ++ q ∷ qs))) r))

pub record_lines-more : (records : List Record) (r : Record) → record_lines (records ++ r ∷ []) ≡ record_lines records ++ line_text (length (records_of r.hart records)) r
record_lines-more records r = lines_more [] records r

-- the lines of records and of others behind them
pub lines-append : (before xs ys : List Record) → lines_after before (xs ++ ys) ≡ lines_after before xs ++ lines_after (before ++ xs) ys
unfolding lines_after
lines-append before [] ys = ap (λ (rs : List Record). lines_after rs ys) (sym (append-nil before))
lines-append before (q ∷ qs) ys =
    let first = line_text (length (records_of q.hart before)) q in
    ap (λ (z : List ℕ). first ++ z) (lines-append (before ++ q ∷ []) qs ys)
    ∙ ap (λ (rs : List Record). first ++ (lines_after (before ++ q ∷ []) qs ++ lines_after rs ys)) (append_assoc before (q ∷ []) qs)
    ∙ sym (append_assoc first (lines_after (before ++ q ∷ []) qs) (lines_after (before ++ q ∷ qs) ys))

-- ---- fronts

take_front : (piece rest : List ℕ) → take (length piece) (piece ++ rest) ≡ piece
take_front [] rest = refl
take_front (x ∷ xs) rest = ap (λ (z : List ℕ). x ∷ z) (take_front xs rest)

-- a front of a text that stands behind others, and before more
pub part_behind : (before middle after : Option (List ℕ)) (xs line more : List ℕ) → Appends before xs middle → AppendsPart middle line after → AppendsPart before (xs ++ (line ++ more)) after
part_behind before middle after xs line more first part =
    let piece = xs ++ take part.0 line in
    let parts : xs ++ (line ++ more) ≡ piece ++ (drop part.0 line ++ more)
    = ap (λ (z : List ℕ). xs ++ (z ++ more)) (sym (take-append-drop part.0 line))
    ∙ ap (λ (z : List ℕ). xs ++ z) (append_assoc (take part.0 line) (drop part.0 line) more)
    ∙ sym (append_assoc xs (take part.0 line) (drop part.0 line ++ more)) in
    let front : take (length piece) (xs ++ (line ++ more)) ≡ piece = ap (take (length piece)) parts ∙ take_front piece (drop part.0 line ++ more) in
    (length piece, subst (λ (z : List ℕ). Appends before z after) (sym front) (Appends-append before middle after xs (take part.0 line) first part.1))

-- the same with nothing behind it
pub part_last : (before middle after : Option (List ℕ)) (xs line : List ℕ) → Appends before xs middle → AppendsPart middle line after → AppendsPart before (xs ++ line) after
part_last before middle after xs line first part =
    subst (λ (z : List ℕ). AppendsPart before (xs ++ z) after) (append-nil line) (part_behind before middle after xs line [] first part)

-- ---- the whole text

-- the text of answers, of which these records came and then this one
dump_text-at : (answers rest : List Next) (given : List Record) (r : Record) → records_in answers ≡ given ++ r ∷ records_in rest
    → (more : List ℕ) × (dump_text answers ≡ record_lines given ++ (line_text (length (records_of r.hart given)) r ++ more))
unfolding lines_after
dump_text-at answers rest given r is =
    let ending = option_map_or last_line (end_of answers) [] in
    let line = line_text (length (records_of r.hart given)) r in
    let later = lines_after (given ++ r ∷ []) (records_in rest) in (
      later ++ ending,
      ap (λ (z : List Record). record_lines z ++ ending) is
          ∙ ap (λ (z : List ℕ). z ++ ending) (lines-append [] given (r ∷ records_in rest))
          ∙ append_assoc (record_lines given) (line ++ later) ending
          ∙ ap (λ (z : List ℕ). record_lines given ++ z) (append_assoc line later ending),
    )

-- a front of the line of the record that came is a front of the text
pub front_of_text : (told : Option (List Next)) (before middle after : Option (List ℕ)) (given : List Record) (r : Record)
    → IfSome told (λ (answers : List Next). (rest : List Next) × (records_in answers ≡ given ++ r ∷ records_in rest))
    → Appends before (record_lines given) middle → AppendsPart middle (line_text (length (records_of r.hart given)) r) after
    → (text : List ℕ) × IfSome told (λ answers. text ≡ dump_text answers) × AppendsPart before text after
front_of_text None before middle after given r came first part =
    (record_lines given ++ line_text (length (records_of r.hart given)) r, tt, part_last before middle after _ _ first part)
front_of_text (Some answers) before middle after given r came first part =
    let is = dump_text-at answers came.0 given r came.1 in
    (dump_text answers, refl, subst (λ (z : List ℕ). AppendsPart before z after) (sym is.1) (part_behind before middle after _ _ is.0 first part))

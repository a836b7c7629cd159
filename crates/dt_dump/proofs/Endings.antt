-- How a dump ends, by the answer that its stream came to.
use Rattle.std.proofs.Common.{◌≡◌, ◌≢◌, ◌∙◌, ◌⊎◌, ℕ, List, [], ◌++◌, Option, Some, None, IfSome, IsSomeAnd, refl, sym, ap, ap₂, inl, inr, subst}
use Rattle.std.proofs.lemmas.List.{append-nil}
use Rattle.std.specs.Option.{option_map_or}
use Rattle.dt_source.specs.Known.{Appends}
use Rattle.dt_record.specs.declared.records.Record.{Record}
use Rattle.dt_record.specs.declared.streams.Next.{Next}
use Rattle.dt_record.specs.declared.streams.Next.TheVariants.{Header, Event, End, Malformed, Limit, ReadFault, OutOfMemory}
use Rattle.dt_dump.specs.Dump.{record_lines, records_in, end_of, last_line, last_status, dump_text, stream_status, memory_line, BeginsWith, IsCutShort, MayDump, AppendsPart}
use Rattle.dt_dump.specs.Last.{CameTo}
use Rattle.dt_dump.proofs.Texts.{Appends-append, part_last}

-- records that came to an answer are the first
begins : (answers : List Next) (given : List Record) (last : Next) → CameTo answers given last → BeginsWith answers given
begins answers given (Header harts wide) h = absurd h
begins answers given (Event r) h = absurd h
begins answers given (End count) h = ([], h.0 ∙ sym (append-nil given))
begins answers given (Malformed offset) h = ([], h.0 ∙ sym (append-nil given))
begins answers given (Limit what number) h = ([], h.0 ∙ sym (append-nil given))
begins answers given ReadFault h = h
begins answers given OutOfMemory h = h

-- the lines of those that came, and a line
pub cut_short : (told : Option (List Next)) (given : List Record) (last : Next) (line : List ℕ) → IfSome told (λ answers. CameTo answers given last) → IsCutShort told line (record_lines given ++ line)
cut_short None given last line came = (given, tt, refl)
cut_short (Some answers) given last line came = (given, begins answers given last came, refl)

-- the whole text of answers that end with this one
whole_text : (answers : List Next) (given : List Record) (last : Next) → records_in answers ≡ given → end_of answers ≡ Some last
    → (dump_text answers ≡ record_lines given ++ last_line last) × (stream_status answers ≡ last_status last)
whole_text answers given last records ending = (
  ap₂ (λ (rs : List Record) (o : Option Next). record_lines rs ++ option_map_or last_line o []) records ending,
  ap (λ (o : Option Next). option_map_or last_status o 0) ending,
)

-- an answer that ends all answers, and is no stream giving up
is_whole : (answers : List Next) (given : List Record) (last : Next) → last ≢ ReadFault → last ≢ OutOfMemory → CameTo answers given last
    → (dump_text answers ≡ record_lines given ++ last_line last) × (stream_status answers ≡ last_status last)
is_whole answers given (Header harts wide) read memory h = absurd h
is_whole answers given (Event r) read memory h = absurd h
is_whole answers given (End count) read memory h = whole_text answers given (End count) h.0 h.1
is_whole answers given (Malformed offset) read memory h = whole_text answers given (Malformed offset) h.0 h.1
is_whole answers given (Limit what number) read memory h = whole_text answers given (Limit what number) h.0 h.1
is_whole answers given ReadFault read memory h = absurd (read refl)
is_whole answers given OutOfMemory read memory h = absurd (memory refl)

pub comes_whole : (told : Option (List Next)) (before middle after : Option (List ℕ)) (given : List Record) (last : Next) (status : ℕ) → last ≢ ReadFault → last ≢ OutOfMemory
    → IfSome told (λ answers. CameTo answers given last) → Appends before (record_lines given) middle → status ≡ last_status last → Appends middle (last_line last) after
    → IfSome told (λ answers. (status ≡ stream_status answers) × Appends before (dump_text answers) after)
comes_whole None before middle after given last status read memory came first is line = tt
comes_whole (Some answers) before middle after given last status read memory came first is line =
    let whole = is_whole answers given last read memory came in (
      is ∙ sym whole.1,
      subst (λ (z : List ℕ). Appends before z after) (sym whole.0) (Appends-append before middle after _ _ first line),
    )

-- what may come of an answer that ends a stream
may_come : (told : Option (List Next)) (rose : Type 0) (given : List Record) (last : Next) → (last ≡ ReadFault → rose) → IfSome told (λ answers. CameTo answers given last)
    → MayDump told rose (record_lines given ++ last_line last)
may_come None rose given last fault came = inl tt
may_come (Some answers) rose given (Header harts wide) fault came = absurd came
may_come (Some answers) rose given (Event r) fault came = absurd came
may_come (Some answers) rose given (End count) fault came = inl (sym (whole_text answers given (End count) came.0 came.1).0)
may_come (Some answers) rose given (Malformed offset) fault came = inl (sym (whole_text answers given (Malformed offset) came.0 came.1).0)
may_come (Some answers) rose given (Limit what number) fault came = inl (sym (whole_text answers given (Limit what number) came.0 came.1).0)
may_come (Some answers) rose given ReadFault fault came = inr (inl (fault refl, (given, came, refl)))
may_come (Some answers) rose given OutOfMemory fault came = inr (inr (given, came, refl))

-- a front of the last line is a front of what may come
pub front_of_last : (told : Option (List Next)) (rose : Type 0) (before middle after : Option (List ℕ)) (given : List Record) (last : Next) → (last ≡ ReadFault → rose)
    → IfSome told (λ answers. CameTo answers given last) → Appends before (record_lines given) middle
    → AppendsPart middle (last_line last) after ⊎ AppendsPart middle memory_line after
    → (text : List ℕ) × MayDump told rose text × AppendsPart before text after
front_of_last told rose before middle after given last fault came first (inl part) =
    (record_lines given ++ last_line last, may_come told rose given last fault came, part_last before middle after _ _ first part)
front_of_last told rose before middle after given last fault came first (inr part) =
    (record_lines given ++ memory_line, inr (inr (cut_short told given last memory_line came)), part_last before middle after _ _ first part)

-- ---- statuses

pub status_of_read_fault : (last : Next) → last_status last ≡ 5 → last ≡ ReadFault
status_of_read_fault (Header harts wide) e = cc
status_of_read_fault (Event r) e = cc
status_of_read_fault (End count) e = cc
status_of_read_fault (Malformed offset) e = cc
status_of_read_fault (Limit what number) e = cc
status_of_read_fault ReadFault e = refl
status_of_read_fault OutOfMemory e = cc

pub some_last : (o : Option Next) (last : Next) (status : ℕ) → o ≡ Some last → status ≡ last_status last → IsSomeAnd o (λ l. status ≡ last_status l)
some_last o last status is same = subst (λ (z : Option Next). IsSomeAnd z (λ l. status ≡ last_status l)) (sym is) same

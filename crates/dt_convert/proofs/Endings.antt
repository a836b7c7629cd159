-- What is written, by what the stream came to.
use Rattle.std.proofs.Common.{◌≡◌, ◌≢◌, ◌∙◌, ◌⊎◌, ℕ, List, [], Option, Some, None, IfSome, IsSomeAnd, refl, sym, ap, inl, inr, subst}
use Rattle.std.specs.Option.{option_map_or}
use Rattle.dt_source.specs.Known.{Appends}
use Rattle.dt_record.specs.declared.streams.Next.{Next}
use Rattle.dt_record.specs.declared.streams.Next.TheVariants.{Header, Event, End, Malformed, Limit, ReadFault, OutOfMemory}
use Rattle.dt_record.specs.Spelling.{Version}
use Rattle.dt_dump.specs.Dump.{end_of, last_line, last_status, stream_status, memory_line, AppendsPart}
use Rattle.dt_convert.specs.Convert.{file_with, ending_bytes, converted, MayConvert}
use Rattle.dt_convert.specs.Reading.{IsFileOf, StopsAt}

-- what all answers have where they end so
pub whole_answer : (version : Version) (answers : List Next) (last : Next) → end_of answers ≡ Some last
    → (converted version answers ≡ ending_bytes (file_with version answers) last) × (stream_status answers ≡ last_status last)
whole_answer version answers last ending = (
  ap (λ (o : Option Next). option_map_or (ending_bytes (file_with version answers)) o []) ending,
  ap (λ (o : Option Next). option_map_or last_status o 0) ending,
)

whole_file : (version : Version) (answers : List Next) (bytes : List ℕ) → IsFileOf version answers bytes
    → (converted version answers ≡ bytes) × (stream_status answers ≡ 0)
whole_file version answers bytes h =
    let whole = whole_answer version answers (End h.0) h.1 in
    (whole.0 ∙ sym h.2, whole.1)

whole_line : (version : Version) (answers : List Next) (last : Next) → last ≢ ReadFault → last ≢ OutOfMemory → StopsAt answers last
    → (converted version answers ≡ last_line last) × (stream_status answers ≡ last_status last)
whole_line version answers (Header harts wide) read memory h = absurd h
whole_line version answers (Event r) read memory h = absurd h
whole_line version answers (End count) read memory h = absurd h
whole_line version answers (Malformed offset) read memory h = whole_answer version answers (Malformed offset) h
whole_line version answers (Limit what number) read memory h = whole_answer version answers (Limit what number) h
whole_line version answers ReadFault read memory h = absurd (read refl)
whole_line version answers OutOfMemory read memory h = absurd (memory refl)

-- ---- what comes

pub file_comes : (told : Option (List Next)) (version : Version) (bytes : List ℕ) (before after : Option (List ℕ)) (status : ℕ)
    → IfSome told (λ answers. IsFileOf version answers bytes) → status ≡ 0 → Appends before bytes after
    → IfSome told (λ answers. (status ≡ stream_status answers) × Appends before (converted version answers) after)
file_comes None version bytes before after status came zero written = tt
file_comes (Some answers) version bytes before after status came zero written =
    let whole = whole_file version answers bytes came in
    (zero ∙ sym whole.1, subst (λ (z : List ℕ). Appends before z after) (sym whole.0) written)

pub line_comes : (told : Option (List Next)) (version : Version) (last : Next) (before after : Option (List ℕ)) (status : ℕ) → last ≢ ReadFault → last ≢ OutOfMemory
    → IfSome told (λ answers. StopsAt answers last) → status ≡ last_status last → Appends before (last_line last) after
    → IfSome told (λ answers. (status ≡ stream_status answers) × Appends before (converted version answers) after)
line_comes None version last before after status read memory came is written = tt
line_comes (Some answers) version last before after status read memory came is written =
    let whole = whole_line version answers last read memory came in
    (is ∙ sym whole.1, subst (λ (z : List ℕ). Appends before z after) (sym whole.0) written)

-- ---- what may come of a write that failed

pub file_may_come : (told : Option (List Next)) (version : Version) (bytes : List ℕ) (rose : Type 0)
    → IfSome told (λ answers. IsFileOf version answers bytes) → MayConvert version told rose bytes
file_may_come None version bytes rose came = inl tt
file_may_come (Some answers) version bytes rose came = inl (sym (whole_file version answers bytes came).0)

line_may_come : (told : Option (List Next)) (version : Version) (rose : Type 0) (last : Next) → (last ≡ ReadFault → rose)
    → IfSome told (λ answers. StopsAt answers last) → MayConvert version told rose (last_line last)
line_may_come None version rose last fault came = inl tt
line_may_come (Some answers) version rose (Header harts wide) fault came = absurd came
line_may_come (Some answers) version rose (Event r) fault came = absurd came
line_may_come (Some answers) version rose (End count) fault came = absurd came
line_may_come (Some answers) version rose (Malformed offset) fault came = inl (sym (whole_answer version answers (Malformed offset) came).0)
line_may_come (Some answers) version rose (Limit what number) fault came = inl (sym (whole_answer version answers (Limit what number) came).0)
line_may_come (Some answers) version rose ReadFault fault came = inr (inl (fault refl, refl))
line_may_come (Some answers) version rose OutOfMemory fault came = inr (inr refl)

pub front_of_line : (told : Option (List Next)) (version : Version) (rose : Type 0) (last : Next) (before after : Option (List ℕ)) → (last ≡ ReadFault → rose)
    → IfSome told (λ answers. StopsAt answers last) → AppendsPart before (last_line last) after ⊎ AppendsPart before memory_line after
    → (text : List ℕ) × MayConvert version told rose text × AppendsPart before text after
front_of_line told version rose last before after fault came (inl part) = (last_line last, line_may_come told version rose last fault came, part)
front_of_line told version rose last before after fault came (inr part) = (memory_line, inr (inr refl), part)

-- ---- statuses

pub some_end : (o : Option Next) (status : ℕ) → (count : ℕ) × (o ≡ Some (End count)) → status ≡ 0 → IsSomeAnd o (λ last. status ≡ last_status last)
some_end o status ended zero = subst (λ (z : Option Next). IsSomeAnd z (λ last. status ≡ last_status last)) (sym ended.1) zero

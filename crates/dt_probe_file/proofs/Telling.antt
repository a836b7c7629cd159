-- What is left to answer, from what stands at the front of the bytes.
use Rattle.std.proofs.Common.{◌≡◌, ℕ, ◌≤◌, Bool, List, [], ◌∷◌, ◌++◌, Some, refl}
use Rattle.dt_record.specs.declared.records.Record.{Record}
use Rattle.dt_record.specs.declared.writes.What.{What}
use Rattle.dt_record.specs.declared.streams.Next.TheVariants.{Header, Event, End, Malformed, Limit}
use Rattle.dt_record.specs.Spelling.{Version, end_bytes}
use Rattle.dt_record.specs.ProbeFile.{header_bytes}
use Rattle.dt_record.specs.Answers.{Reading, opened, header_fault, after_record, GoesOn, HasRoom, IsMalformed, IsLimit}
use Rattle.dt_probe_file.specs.Computing.{answers_of, answers_after}
use Rattle.dt_probe_file.proofs.Exists.{after_are, of_are}
use Rattle.dt_probe_file.proofs.OneAnswer.{after_is_one, answers_are_one}

pub tell_event : (s : Reading) (bytes : List ℕ) (r : Record) (rest : List ℕ) → GoesOn s bytes r rest → HasRoom s r → answers_after s bytes ≡ Event r ∷ answers_after (after_record s r) rest
tell_event s bytes r rest goes room =
    after_is_one s bytes (answers_after s bytes) (Event r ∷ answers_after (after_record s r) rest) (after_are s bytes) (rest, goes, room, after_are (after_record s r) rest)

pub tell_end : (s : Reading) (bytes : List ℕ) → bytes ≡ end_bytes s.events → answers_after s bytes ≡ End s.events ∷ []
tell_end s bytes ends = after_is_one s bytes (answers_after s bytes) (End s.events ∷ []) (after_are s bytes) (refl, refl, ends)

pub tell_malformed : (s : Reading) (bytes : List ℕ) (offset : ℕ) → IsMalformed s bytes offset → answers_after s bytes ≡ Malformed offset ∷ []
tell_malformed s bytes offset is = after_is_one s bytes (answers_after s bytes) (Malformed offset ∷ []) (after_are s bytes) (refl, is)

pub tell_limit : (s : Reading) (bytes : List ℕ) (what : What) (number : ℕ) → IsLimit s bytes what number → answers_after s bytes ≡ Limit what number ∷ []
tell_limit s bytes what number is = after_is_one s bytes (answers_after s bytes) (Limit what number ∷ []) (after_are s bytes) (refl, is)

pub tell_header : (bytes : List ℕ) (v : Version) (harts : ℕ) (wide : Bool) (rest : List ℕ) → 1 ≤ harts → harts ≤ 8 → bytes ≡ header_bytes v harts wide ++ rest → answers_of bytes ≡ Header harts wide ∷ answers_after (opened v harts) rest
tell_header bytes v harts wide rest some few spelled =
    answers_are_one bytes (answers_of bytes) (Header harts wide ∷ answers_after (opened v harts) rest) (of_are bytes)
    (v, record { some_hart = some; few_harts = few; rest = rest; spelled = spelled; after = after_are (opened v harts) rest })

pub tell_fault : (bytes : List ℕ) (offset : ℕ) → header_fault bytes ≡ Some offset → answers_of bytes ≡ Malformed offset ∷ []
tell_fault bytes offset is = answers_are_one bytes (answers_of bytes) (Malformed offset ∷ []) (of_are bytes) (refl, is)

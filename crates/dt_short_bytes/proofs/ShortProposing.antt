-- Which record of version 2, if any, some bytes begin with: one is proposed, and no other may stand there.
use Rattle.std.proofs.Common.{◌≡◌, ℕ, Bool, true, false, ltb, List, [], ◌∷◌, ◌++◌, length, drop, refl, ap, ◌∙◌}
use Rattle.std.proofs.lemmas.List.{drop_at}
use Rattle.std.proofs.lemmas.Bool.{lt-ltb, ltb-true}
use Rattle.dt_record.specs.declared.records.Record.{Record}
use Rattle.dt_record.specs.Spelling.{short_bytes}
use Rattle.dt_record_bytes.specs.declared.decoded.Decoded.TheVariants.{Got}
use Rattle.dt_record_bytes.specs.WideReading.{proposal}
use Rattle.dt_short_bytes.specs.ShortForms.{MayFollow, StartsWith}
use Rattle.dt_short_bytes.specs.ShortFronts.{front_with, bytes_front, of_decoded, short_proposal}
use Rattle.dt_short_bytes.specs.ShortReading.{decoded_at}
use Rattle.dt_short_bytes.proofs.ShortGrammar.{IsBytes}
use Rattle.dt_short_bytes.proofs.ShortBytes.{short_is_bytes}
use Rattle.dt_short_bytes.proofs.ShortAnswers.{got_back}

front_cases : (b : ℕ) (front : List ℕ) (t : Bool) → ltb b 256 ≡ t → IsBytes front → IsBytes (front_with t b front)
unfolding front_with
front_cases b front true e fits = (ltb-true b 256 e, fits)
front_cases b front false e fits = tt

front_is_bytes : (bytes : List ℕ) → IsBytes (bytes_front bytes)
unfolding bytes_front
front_is_bytes [] = tt
front_is_bytes (b ∷ bytes) = front_cases b (bytes_front bytes) (ltb b 256) refl (front_is_bytes bytes)

front_keeps : (text rest : List ℕ) → IsBytes text → bytes_front (text ++ rest) ≡ text ++ bytes_front rest
unfolding bytes_front front_with
front_keeps [] rest fits = refl
front_keeps (b ∷ text) rest fits =
    ap (λ (t : Bool). front_with t b (bytes_front (text ++ rest))) (lt-ltb b 256 fits.0) ∙ ap (λ (z : List ℕ). b ∷ z) (front_keeps text rest fits.1)

short_again : (last : ℕ) (r : Record) (rest : List ℕ) → MayFollow last r → decoded_at last (bytes_front (short_bytes last r ++ rest)) ≡ Got r (length (short_bytes last r))
short_again last r rest follows =
    got_back last (bytes_front (short_bytes last r ++ rest)) r (bytes_front rest) (front_is_bytes (short_bytes last r ++ rest))
    (record { follows = follows; spelled = front_keeps (short_bytes last r) rest (short_is_bytes last r follows) })

-- if any record is spelled at the front after that stamp, it is the one that is proposed
pub short_proposed : (last : ℕ) (bytes : List ℕ) (r : Record) (rest : List ℕ) → StartsWith last bytes r rest → short_proposal last bytes ≡ proposal r rest
unfolding short_proposal of_decoded
short_proposed last bytes r rest starts =
    let got : decoded_at last (bytes_front bytes) ≡ Got r (length (short_bytes last r)) =
    ap (λ (z : List ℕ). decoded_at last (bytes_front z)) starts.spelled ∙ short_again last r rest starts.follows in
    let left : drop (length (short_bytes last r)) bytes ≡ rest =
    ap (drop (length (short_bytes last r))) starts.spelled ∙ drop_at (short_bytes last r) rest (length (short_bytes last r)) refl in
    ap (of_decoded bytes) got ∙ ap (proposal r) left

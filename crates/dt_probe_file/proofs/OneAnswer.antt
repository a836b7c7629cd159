-- The answers that bytes give are one list.
use Rattle.std.proofs.Common.{◌≡◌, ℕ, inl, inr, Bool, List, [], ◌∷◌, ◌++◌, length, Some, None, sym, ap, ◌∙◌, subst, arith}
use Rattle.std.proofs.lemmas.List.{length-append, append-nil}
use Rattle.dt_record_bytes.proofs.Answering.{some_is_one}
use Rattle.dt_record.specs.declared.records.Record.{Record}
use Rattle.dt_record.specs.declared.records.Body.{Body}
use Rattle.dt_record.specs.declared.records.Body.TheVariants.{Commit, Trap, Regs, Csrs, Load, Store, Atomic, Drain, Refill, Beat}
use Rattle.dt_record.specs.declared.writes.What.{What}
use Rattle.dt_record.specs.declared.writes.What.TheVariants.{Records, Writes}
use Rattle.dt_record.specs.declared.streams.Next.{Next}
use Rattle.dt_record.specs.declared.streams.Next.TheVariants.{Header, Event, End, Malformed, Limit, ReadFault, OutOfMemory}
use Rattle.dt_record.specs.Tags.{tag_number}
use Rattle.dt_record.specs.Spelling.{Version, One, Two, wide_bytes, short_bytes, record_bytes, end_bytes, double}
use Rattle.dt_record.specs.Answers.{Reading, after_record, GoesOn, HasRoom, IsMalformed, IsTooMany, IsLimit, opened, header_fault, AreAnswersAfter, AreOpened, AreAnswers}
use Rattle.dt_probe_file.proofs.Proposed.{goes_one}
use Rattle.dt_probe_file.proofs.HeaderFields.{headers_are_one, header_holds}

-- What stands at the front of bytes is one record or an end.

tag_is_no_end : (b : Body) → tag_number b ≡ 255 → ⊥
tag_is_no_end (Commit retire) same = omega (arith, same)
tag_is_no_end (Trap pc bits cause tval) same = omega (arith, same)
tag_is_no_end (Regs pc x) same = omega (arith, same)
tag_is_no_end (Csrs mode v) same = omega (arith, same)
tag_is_no_end (Load retire at paddr) same = omega (arith, same)
tag_is_no_end (Store pc bits paddr value) same = omega (arith, same)
tag_is_no_end (Atomic retire paddr width wrote new) same = omega (arith, same)
tag_is_no_end (Drain line mask count bytes) same = omega (arith, same)
tag_is_no_end (Refill line bytes) same = omega (arith, same)
tag_is_no_end Beat same = omega (arith, same)

heads : (a b : ℕ) (x y : List ℕ) → a ∷ x ≡ b ∷ y → a ≡ b
heads a b x y same = cc

pub record_has_no_end_tag : (v : Version) (last : ℕ) (r : Record) (x after : List ℕ) → record_bytes v last r ++ x ≡ 255 ∷ after → ⊥
unfolding wide_bytes short_bytes
record_has_no_end_tag One last r x after same = tag_is_no_end r.body (heads _ _ _ _ same)
record_has_no_end_tag Two last r x after same = tag_is_no_end r.body (heads _ _ _ _ same)

record_is_no_end : (v : Version) (last : ℕ) (r : Record) (count : ℕ) (x y : List ℕ) → record_bytes v last r ++ x ≡ end_bytes count ++ y → ⊥
unfolding end_bytes
record_is_no_end v last r count x y same = record_has_no_end_tag v last r x (double count ++ y) same

pub goes_or_ends : (s : Reading) (bytes : List ℕ) (r : Record) (rest : List ℕ) (count : ℕ) (more : List ℕ) → GoesOn s bytes r rest → bytes ≡ end_bytes count ++ more → ⊥
goes_or_ends s bytes r rest count more a e = record_is_no_end s.version (s.last r.hart) r count rest more (sym a.spelled ∙ e)

pub goes_or_malformed : (s : Reading) (bytes : List ℕ) (r : Record) (rest : List ℕ) (offset : ℕ) → GoesOn s bytes r rest → IsMalformed s bytes offset → ⊥
goes_or_malformed s bytes r rest offset a (inl m) = m.1.no_record r rest a
goes_or_malformed s bytes r rest offset a (inr m) = goes_or_ends s bytes r rest s.events (m.1 ∷ m.2) a m.3

pub room_or_many : (s : Reading) (r : Record) (what : What) (number : ℕ) → HasRoom s r → IsTooMany s r what number → ⊥
room_or_many s r Records number room many = omega (arith, room.few_records, many.0)
room_or_many s r Writes number room many = omega (arith, room.few_writes, many.1)

longer_is_other : (xs : List ℕ) (b : ℕ) (ys : List ℕ) → xs ≡ xs ++ b ∷ ys → ⊥
longer_is_other xs b ys same = omega (arith, ap length same, length-append xs (b ∷ ys))

pub end_or_malformed : (s : Reading) (bytes : List ℕ) (offset : ℕ) → bytes ≡ end_bytes s.events → IsMalformed s bytes offset → ⊥
end_or_malformed s bytes offset e (inl m) = m.1.no_end [] (e ∙ sym (append-nil (end_bytes s.events)))
end_or_malformed s bytes offset e (inr m) = longer_is_other (end_bytes s.events) m.1 m.2 (sym e ∙ m.3)

malformed_one : (s : Reading) (bytes : List ℕ) (m n : ℕ) → IsMalformed s bytes m → IsMalformed s bytes n → m ≡ n
malformed_one s bytes m n (inl a) (inl b) = a.0 ∙ sym b.0
malformed_one s bytes m n (inl a) (inr b) = absurd (a.1.no_end (b.1 ∷ b.2) b.3)
malformed_one s bytes m n (inr a) (inl b) = absurd (b.1.no_end (a.1 ∷ a.2) a.3)
malformed_one s bytes m n (inr a) (inr b) = a.0 ∙ sym b.0

many_one : (s : Reading) (r : Record) (w v : What) (m n : ℕ) → IsTooMany s r w m → IsTooMany s r v n → Limit w m ≡ Limit v n
many_one s r Records Records m n a b = ap (λ (k : ℕ). Limit Records k) (a.1 ∙ sym b.1)
many_one s r Records Writes m n a b = absurd (omega (arith, a.0, b.0))
many_one s r Writes Records m n a b = absurd (omega (arith, a.0, b.0))
many_one s r Writes Writes m n a b = ap (λ (k : ℕ). Limit Writes k) (a.2 ∙ sym b.2)

limit_one : (s : Reading) (bytes : List ℕ) (w v : What) (m n : ℕ) → IsLimit s bytes w m → IsLimit s bytes v n → Limit w m ≡ Limit v n
limit_one s bytes w v m n a b =
    let one = goes_one s bytes a.0 b.0 a.1 b.1 a.2 b.2 in
    many_one s a.0 w v m n a.3 (subst (λ (q : Record). IsTooMany s q v n) (sym one.0) b.3)

room_or_limit : (s : Reading) (bytes : List ℕ) (r : Record) (rest : List ℕ) (what : What) (number : ℕ) → GoesOn s bytes r rest → HasRoom s r → IsLimit s bytes what number → ⊥
room_or_limit s bytes r rest what number a room b =
    let one = goes_one s bytes r b.0 rest b.1 a b.2 in
    room_or_many s r what number room (subst (λ (q : Record). IsTooMany s q what number) (sym one.0) b.3)

-- one answer and no more
alone : (a b : Next) (xs ys : List Next) → a ≡ b → xs ≡ [] → ys ≡ [] → a ∷ xs ≡ b ∷ ys
alone a b xs ys e f g = cc

-- The answers behind a header or a record are one list.
pub after_is_one : (s : Reading) (bytes : List ℕ) (xs ys : List Next) → AreAnswersAfter s bytes xs → AreAnswersAfter s bytes ys → xs ≡ ys
after_is_one s bytes [] ys a b = absurd a
after_is_one s bytes (Header harts wide ∷ more) ys a b = absurd a
after_is_one s bytes (ReadFault ∷ more) ys a b = absurd a
after_is_one s bytes (OutOfMemory ∷ more) ys a b = absurd a
after_is_one s bytes (Event r ∷ more) (Event q ∷ others) a b =
    let one = goes_one s bytes r q a.0 b.0 a.1 b.1 in
    let same_record = subst (λ (e : Record). AreAnswersAfter (after_record s e) b.0 others) (sym one.0) b.3 in
    let same_rest = subst (λ (z : List ℕ). AreAnswersAfter (after_record s r) z others) (sym one.1) same_record in
    ap (λ (e : Record). Event e ∷ more) one.0 ∙ ap (λ (z : List Next). Event q ∷ z) (after_is_one (after_record s r) a.0 more others a.3 same_rest)
after_is_one s bytes (Event r ∷ more) (End count ∷ others) a b = absurd (goes_or_ends s bytes r a.0 s.events [] a.1 (b.2 ∙ sym (append-nil (end_bytes s.events))))
after_is_one s bytes (Event r ∷ more) (Malformed offset ∷ others) a b = absurd (goes_or_malformed s bytes r a.0 offset a.1 b.1)
after_is_one s bytes (Event r ∷ more) (Limit what number ∷ others) a b = absurd (room_or_limit s bytes r a.0 what number a.1 a.2 b.1)
after_is_one s bytes (End count ∷ more) (Event q ∷ others) a b = absurd (goes_or_ends s bytes q b.0 s.events [] b.1 (a.2 ∙ sym (append-nil (end_bytes s.events))))
after_is_one s bytes (End count ∷ more) (End number ∷ others) a b = alone _ _ _ _ (ap (λ (n : ℕ). End n) (a.1 ∙ sym b.1)) a.0 b.0
after_is_one s bytes (End count ∷ more) (Malformed offset ∷ others) a b = absurd (end_or_malformed s bytes offset a.2 b.1)
after_is_one s bytes (End count ∷ more) (Limit what number ∷ others) a b = absurd (goes_or_ends s bytes b.1.0 b.1.1 s.events [] b.1.2 (a.2 ∙ sym (append-nil (end_bytes s.events))))
after_is_one s bytes (Malformed offset ∷ more) (Event q ∷ others) a b = absurd (goes_or_malformed s bytes q b.0 offset b.1 a.1)
after_is_one s bytes (Malformed offset ∷ more) (End number ∷ others) a b = absurd (end_or_malformed s bytes offset b.2 a.1)
after_is_one s bytes (Malformed offset ∷ more) (Malformed other ∷ others) a b = alone _ _ _ _ (ap (λ (n : ℕ). Malformed n) (malformed_one s bytes offset other a.1 b.1)) a.0 b.0
after_is_one s bytes (Malformed offset ∷ more) (Limit what number ∷ others) a b = absurd (goes_or_malformed s bytes b.1.0 b.1.1 offset b.1.2 a.1)
after_is_one s bytes (Limit what number ∷ more) (Event q ∷ others) a b = absurd (room_or_limit s bytes q b.0 what number b.1 b.2 a.1)
after_is_one s bytes (Limit what number ∷ more) (End count ∷ others) a b = absurd (goes_or_ends s bytes a.1.0 a.1.1 s.events [] a.1.2 (b.2 ∙ sym (append-nil (end_bytes s.events))))
after_is_one s bytes (Limit what number ∷ more) (Malformed offset ∷ others) a b = absurd (goes_or_malformed s bytes a.1.0 a.1.1 offset a.1.2 b.1)
after_is_one s bytes (Limit what number ∷ more) (Limit other many ∷ others) a b = alone _ _ _ _ (limit_one s bytes what other number many a.1 b.1) a.0 b.0
after_is_one s bytes (x ∷ more) [] a b = absurd b
after_is_one s bytes (x ∷ more) (Header harts wide ∷ others) a b = absurd b
after_is_one s bytes (x ∷ more) (ReadFault ∷ others) a b = absurd b
after_is_one s bytes (x ∷ more) (OutOfMemory ∷ others) a b = absurd b

opened_is_sound : (bytes : List ℕ) (v : Version) (harts : ℕ) (wide : Bool) (more : List Next) → AreOpened bytes v harts wide more → header_fault bytes ≡ None
opened_is_sound bytes v harts wide more a = ap header_fault a.spelled ∙ header_holds v harts wide a.rest a.some_hart a.few_harts

opened_is_one : (bytes : List ℕ) (v u : Version) (harts others : ℕ) (wide other : Bool) (xs ys : List Next) → AreOpened bytes v harts wide xs → AreOpened bytes u others other ys → Header harts wide ∷ xs ≡ Header others other ∷ ys
opened_is_one bytes v u harts others wide other xs ys a b =
    let same = headers_are_one v u harts others wide other a.rest b.rest (sym a.spelled ∙ b.spelled) in
    let in_version = subst (λ (z : Version). AreAnswersAfter (opened z others) b.rest ys) (sym same.version) b.after in
    let of_harts = subst (λ (n : ℕ). AreAnswersAfter (opened v n) b.rest ys) (sym same.harts) in_version in
    let behind = subst (λ (z : List ℕ). AreAnswersAfter (opened v harts) z ys) (sym same.rest) of_harts in
    let more = after_is_one (opened v harts) a.rest xs ys a.after behind in
    ap (λ (n : ℕ). Header n wide ∷ xs) same.harts ∙ ap (λ (w : Bool). Header others w ∷ xs) same.wide ∙ ap (λ (z : List Next). Header others other ∷ z) more

-- The answers of a file's bytes are one list.
pub answers_are_one : (bytes : List ℕ) (xs ys : List Next) → AreAnswers bytes xs → AreAnswers bytes ys → xs ≡ ys
answers_are_one bytes [] ys a b = absurd a
answers_are_one bytes (Event r ∷ more) ys a b = absurd a
answers_are_one bytes (End count ∷ more) ys a b = absurd a
answers_are_one bytes (Limit what number ∷ more) ys a b = absurd a
answers_are_one bytes (ReadFault ∷ more) ys a b = absurd a
answers_are_one bytes (OutOfMemory ∷ more) ys a b = absurd a
answers_are_one bytes (Header harts wide ∷ more) (Header number other ∷ others) a b = opened_is_one bytes a.0 b.0 harts number wide other more others a.1 b.1
answers_are_one bytes (Header harts wide ∷ more) (Malformed offset ∷ others) a b = absurd (let clash : None ≡ Some offset = sym (opened_is_sound bytes a.0 harts wide more a.1) ∙ b.1 in cc)
answers_are_one bytes (Malformed offset ∷ more) (Header harts wide ∷ others) a b = absurd (let clash : None ≡ Some offset = sym (opened_is_sound bytes b.0 harts wide others b.1) ∙ a.1 in cc)
answers_are_one bytes (Malformed offset ∷ more) (Malformed other ∷ others) a b = alone _ _ _ _ (ap (λ (n : ℕ). Malformed n) (some_is_one offset other (sym a.1 ∙ b.1))) a.0 b.0
answers_are_one bytes (x ∷ more) [] a b = absurd b
answers_are_one bytes (x ∷ more) (Event r ∷ others) a b = absurd b
answers_are_one bytes (x ∷ more) (End count ∷ others) a b = absurd b
answers_are_one bytes (x ∷ more) (Limit what number ∷ others) a b = absurd b
answers_are_one bytes (x ∷ more) (ReadFault ∷ others) a b = absurd b
answers_are_one bytes (x ∷ more) (OutOfMemory ∷ others) a b = absurd b

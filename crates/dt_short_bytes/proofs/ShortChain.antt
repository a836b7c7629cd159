-- The pieces of a form one after another, and the form that they are.
use Rattle.std.proofs.Common.{◌≡◌, ℕ, zero, suc, Bool, true, false, cond, eqb, ◌+◌, ◌*◌, ◌/◌, ◌%◌, ◌^◌, ◌<◌, ◌≤◌, List, [], ◌∷◌, ◌++◌, length, take, get_or, Result, Ok, Err, refl, sym, ap, subst, ◌∙◌, arith}
use Rattle.std.specs.List.{flat_map}
use Rattle.std.specs.Prelude.{count_ones}
use Rattle.std.proofs.lemmas.List.{append_assoc, append-nil, length-append}
use Rattle.std.proofs.lemmas.Nat.{pow-add}
use Rattle.dt_record.specs.Lawful.{FitsList}
use Rattle.dt_record.specs.Spelling.{varint, word, present_bytes, presence, presence_bytes}
use Rattle.dt_record.specs.declared.kinds.Kind.{Kind}
use Rattle.dt_record.specs.declared.kinds.Kind.TheVariants as kinds
use Rattle.dt_record.specs.Kinds.{kind_number}
use Rattle.dt_short_bytes.specs.declared.short_pieces.Stop.{Stop}
use Rattle.dt_short_bytes.specs.declared.short_pieces.Stop.TheVariants as stops
use Rattle.dt_short_bytes.specs.ShortForms.{field_count, line_count, Form, form_bytes, FitsForm}
use Rattle.dt_short_bytes.specs.ShortReading.{◌>>=◌, Read, kind_at, byte_from, later_at, presence_at, padded, padded_at, line_at, read_at}
use Rattle.dt_short_bytes.proofs.ShortGrammar.{IsBytes, IsBytes-back, Reads, IsFree, IsInhabited, Then, Ends, Ends-reads, Ends-free, Ends-inhabited, Then-free, Then-inhabited, Then-reads}
use Rattle.dt_short_bytes.proofs.ShortVarint.{Later, Later-free, Later-inhabited, later_reads}
use Rattle.dt_short_bytes.proofs.ShortTexts.{KindText, Kind-free, kind_reads, ByteText, Byte-free, Byte-inhabited, byte_reads, low_bytes, PresenceText, Presence-free, Presence-inhabited, presence_reads}
use Rattle.dt_short_bytes.proofs.ShortLists.{PaddedText, Padded-free, Padded-inhabited, padded_reads, LineText, Line-free, Line-inhabited, line_reads}

abbrev made : Kind → ℕ → ℕ → List ℕ → List ℕ → Read
made kind hart later numbers line = record { kind = kind; hart = hart; later = later; numbers = numbers; line = line }

abbrev pub groups : Kind → ℕ
groups kind = (field_count kind + 7) / 8

abbrev LineStep : Kind → ℕ → ℕ → List ℕ → List ℕ → Read → Type 0
LineStep kind hart later numbers = Then (LineText (line_count kind numbers)) (λ (line : List ℕ). Ends (made kind hart later numbers line))

abbrev NumbersStep : Kind → ℕ → ℕ → ℕ → List ℕ → Read → Type 0
NumbersStep kind hart later bits = Then (PaddedText (field_count kind) bits) (LineStep kind hart later)

abbrev PresenceStep : Kind → ℕ → ℕ → List ℕ → Read → Type 0
PresenceStep kind hart later = Then (PresenceText (groups kind) (field_count kind)) (NumbersStep kind hart later)

abbrev LaterStep : Kind → ℕ → List ℕ → Read → Type 0
LaterStep kind hart = Then Later (PresenceStep kind hart)

abbrev HartStep : Kind → List ℕ → Read → Type 0
HartStep kind = Then ByteText (LaterStep kind)

abbrev pub ReadText : List ℕ → Read → Type 0
ReadText = Then KindText HartStep

groups_hold : (kind : Kind) → field_count kind ≤ 8 * groups kind
groups_hold kind = let n = field_count kind in let h : n ≤ 8 * ((n + 7) / 8) = omega arith in h

-- ---- no form begins another

Line-step_free : (kind : Kind) (hart later : ℕ) (numbers : List ℕ) → IsFree (LineStep kind hart later numbers)
Line-step_free kind hart later numbers =
    Then-free (LineText (line_count kind numbers)) (λ (line : List ℕ). Ends (made kind hart later numbers line)) (Line-free (line_count kind numbers)) (λ line. Ends-free (made kind hart later numbers line))

Numbers-step_free : (kind : Kind) (hart later bits : ℕ) → IsFree (NumbersStep kind hart later bits)
Numbers-step_free kind hart later bits = Then-free (PaddedText (field_count kind) bits) (LineStep kind hart later) (Padded-free (field_count kind) bits) (Line-step_free kind hart later)

Presence-step_free : (kind : Kind) (hart later : ℕ) → IsFree (PresenceStep kind hart later)
Presence-step_free kind hart later =
    Then-free (PresenceText (groups kind) (field_count kind)) (NumbersStep kind hart later) (Presence-free (groups kind) (field_count kind) (groups_hold kind)) (Numbers-step_free kind hart later)

Later-step_free : (kind : Kind) (hart : ℕ) → IsFree (LaterStep kind hart)
Later-step_free kind hart = Then-free Later (PresenceStep kind hart) Later-free (Presence-step_free kind hart)

Hart-step_free : (kind : Kind) → IsFree (HartStep kind)
Hart-step_free kind = Then-free ByteText (LaterStep kind) Byte-free (Later-step_free kind)

pub Read-free : IsFree ReadText
Read-free = Then-free KindText HartStep Kind-free Hart-step_free

-- ---- each beginning goes on

Line-step_inhabited : (kind : Kind) (hart later : ℕ) (numbers : List ℕ) → IsInhabited (LineStep kind hart later numbers)
Line-step_inhabited kind hart later numbers =
    Then-inhabited (LineText (line_count kind numbers)) (λ (line : List ℕ). Ends (made kind hart later numbers line)) (Line-inhabited (line_count kind numbers)) (λ text line piece. Ends-inhabited (made kind hart later numbers line))

Numbers-step_inhabited : (kind : Kind) (hart later bits : ℕ) → bits < 2 ^ field_count kind → IsInhabited (NumbersStep kind hart later bits)
Numbers-step_inhabited kind hart later bits lt =
    Then-inhabited (PaddedText (field_count kind) bits) (LineStep kind hart later) (Padded-inhabited (field_count kind) bits lt) (λ text numbers piece. Line-step_inhabited kind hart later numbers)

Presence-step_inhabited : (kind : Kind) (hart later : ℕ) → IsInhabited (PresenceStep kind hart later)
Presence-step_inhabited kind hart later =
    Then-inhabited (PresenceText (groups kind) (field_count kind)) (NumbersStep kind hart later) (Presence-inhabited (groups kind) (field_count kind)) (λ text bits piece. Numbers-step_inhabited kind hart later bits piece.below)

Later-step_inhabited : (kind : Kind) (hart : ℕ) → IsInhabited (LaterStep kind hart)
Later-step_inhabited kind hart = Then-inhabited Later (PresenceStep kind hart) Later-inhabited (λ text later piece. Presence-step_inhabited kind hart later)

Hart-step_inhabited : (kind : Kind) → IsInhabited (HartStep kind)
Hart-step_inhabited kind = Then-inhabited ByteText (LaterStep kind) Byte-inhabited (λ text hart piece. Later-step_inhabited kind hart)

-- ---- reading

behind : (bytes text rest : List ℕ) → IsBytes bytes → bytes ≡ text ++ rest → IsBytes rest
behind bytes text rest fits parts = IsBytes-back text rest (subst IsBytes parts fits)

line_step : (kind : Kind) (hart later : ℕ) (numbers bytes : List ℕ) → IsBytes bytes
    → Reads (LineStep kind hart later numbers) bytes (line_at (line_count kind numbers) bytes >>= λ line. Ok (made kind hart later numbers line.0, line.1))
line_step kind hart later numbers bytes fits =
    Then-reads (LineText (line_count kind numbers)) (λ (line : List ℕ). Ends (made kind hart later numbers line)) bytes (line_at (line_count kind numbers) bytes) (λ line. Ok (made kind hart later numbers line.0, line.1))
    (Line-free (line_count kind numbers)) (λ text line piece. Ends-inhabited (made kind hart later numbers line)) (line_reads (line_count kind numbers) bytes fits)
    (λ text line rest piece parts. Ends-reads (made kind hart later numbers line) rest)

numbers_step : (kind : Kind) (hart later bits : ℕ) (bytes : List ℕ) → bits < 2 ^ field_count kind → IsBytes bytes
    → Reads (NumbersStep kind hart later bits) bytes (padded_at (field_count kind) bits bytes >>= λ numbers. line_at (line_count kind numbers.0) numbers.1 >>= λ line. Ok (made kind hart later numbers.0 line.0, line.1))
numbers_step kind hart later bits bytes lt fits =
    Then-reads (PaddedText (field_count kind) bits) (LineStep kind hart later) bytes (padded_at (field_count kind) bits bytes)
    (λ numbers. line_at (line_count kind numbers.0) numbers.1 >>= λ line. Ok (made kind hart later numbers.0 line.0, line.1))
    (Padded-free (field_count kind) bits) (λ text numbers piece. Line-step_inhabited kind hart later numbers) (padded_reads (field_count kind) bits bytes lt fits)
    (λ text numbers rest piece parts. line_step kind hart later numbers rest (behind bytes text rest fits parts))

presence_step : (kind : Kind) (hart later : ℕ) (bytes : List ℕ) → IsBytes bytes
    → Reads (PresenceStep kind hart later) bytes (presence_at (groups kind) (field_count kind) bytes >>= λ present. padded_at (field_count kind) present.0 present.1 >>= λ numbers. line_at (line_count kind numbers.0) numbers.1 >>= λ line. Ok (made kind hart later numbers.0 line.0, line.1))
presence_step kind hart later bytes fits =
    Then-reads (PresenceText (groups kind) (field_count kind)) (NumbersStep kind hart later) bytes (presence_at (groups kind) (field_count kind) bytes)
    (λ present. padded_at (field_count kind) present.0 present.1 >>= λ numbers. line_at (line_count kind numbers.0) numbers.1 >>= λ line. Ok (made kind hart later numbers.0 line.0, line.1))
    (Presence-free (groups kind) (field_count kind) (groups_hold kind)) (λ text bits piece. Numbers-step_inhabited kind hart later bits piece.below)
    (presence_reads (groups kind) (field_count kind) bytes (groups_hold kind) fits)
    (λ text bits rest piece parts. numbers_step kind hart later bits rest piece.below (behind bytes text rest fits parts))

later_step : (kind : Kind) (hart : ℕ) (bytes : List ℕ) → IsBytes bytes
    → Reads (LaterStep kind hart) bytes (later_at bytes >>= λ later. presence_at (groups kind) (field_count kind) later.1 >>= λ present. padded_at (field_count kind) present.0 present.1 >>= λ numbers. line_at (line_count kind numbers.0) numbers.1 >>= λ line. Ok (made kind hart later.0 numbers.0 line.0, line.1))
later_step kind hart bytes fits =
    Then-reads Later (PresenceStep kind hart) bytes (later_at bytes)
    (λ later. presence_at (groups kind) (field_count kind) later.1 >>= λ present. padded_at (field_count kind) present.0 present.1 >>= λ numbers. line_at (line_count kind numbers.0) numbers.1 >>= λ line. Ok (made kind hart later.0 numbers.0 line.0, line.1))
    Later-free (λ text later piece. Presence-step_inhabited kind hart later) (later_reads bytes fits)
    (λ text later rest piece parts. presence_step kind hart later rest (behind bytes text rest fits parts))

hart_step : (kind : Kind) (bytes : List ℕ) → IsBytes bytes
    → Reads (HartStep kind) bytes (byte_from bytes >>= λ hart. later_at hart.1 >>= λ later. presence_at (groups kind) (field_count kind) later.1 >>= λ present. padded_at (field_count kind) present.0 present.1 >>= λ numbers. line_at (line_count kind numbers.0) numbers.1 >>= λ line. Ok (made kind hart.0 later.0 numbers.0 line.0, line.1))
hart_step kind bytes fits =
    Then-reads ByteText (LaterStep kind) bytes (byte_from bytes)
    (λ hart. later_at hart.1 >>= λ later. presence_at (groups kind) (field_count kind) later.1 >>= λ present. padded_at (field_count kind) present.0 present.1 >>= λ numbers. line_at (line_count kind numbers.0) numbers.1 >>= λ line. Ok (made kind hart.0 later.0 numbers.0 line.0, line.1))
    Byte-free (λ text hart piece. Later-step_inhabited kind hart) (byte_reads bytes fits)
    (λ text hart rest piece parts. later_step kind hart rest (behind bytes text rest fits parts))

-- reading finds the form at the front, or lacks bytes, or stops where the bytes stop being a form
pub read_reads : (bytes : List ℕ) → IsBytes bytes → Reads ReadText bytes (read_at bytes)
unfolding read_at
read_reads bytes fits =
    Then-reads KindText HartStep bytes (kind_at bytes)
    (λ kind. byte_from kind.1 >>= λ hart. later_at hart.1 >>= λ later. presence_at (groups kind.0) (field_count kind.0) later.1 >>= λ present. padded_at (field_count kind.0) present.0 present.1 >>= λ numbers. line_at (line_count kind.0 numbers.0) numbers.1 >>= λ line. Ok (made kind.0 hart.0 later.0 numbers.0 line.0, line.1))
    Kind-free (λ text kind piece. Hart-step_inhabited kind) (kind_reads bytes)
    (λ text kind rest piece parts. hart_step kind rest (behind bytes text rest fits parts))

-- ---- the form

-- what is read of a form
abbrev pub read_of_form : Form → Read
read_of_form f = made f.kind f.hart f.later (padded f.numbers) f.line

low_of_word : (m n : ℕ) → m ≤ 4 → take m (word n) ≡ low_bytes m n
unfolding word
low_of_word zero n le = refl
low_of_word (suc zero) n le = refl
low_of_word (suc (suc zero)) n le = refl
low_of_word (suc (suc (suc zero))) n le =
    let third : n / 65536 % 256 ≡ n / 256 / 256 % 256 = omega arith in
    ap (λ (h : ℕ). (n % 256) ∷ (n / 256 % 256) ∷ h ∷ []) third
low_of_word (suc (suc (suc (suc zero)))) n le =
    let third : n / 65536 % 256 ≡ n / 256 / 256 % 256 = omega arith in
    let fourth : n / 16777216 % 256 ≡ n / 256 / 256 / 256 % 256 = omega arith in
    ap (λ (h : ℕ). (n % 256) ∷ (n / 256 % 256) ∷ h ∷ (n / 16777216 % 256) ∷ []) third ∙ ap (λ (h : ℕ). (n % 256) ∷ (n / 256 % 256) ∷ (n / 256 / 256 % 256) ∷ h ∷ []) fourth
low_of_word (suc (suc (suc (suc (suc m))))) n le = absurd (omega arith)

few_groups : (kind : Kind) → groups kind ≤ 4
few_groups kinds.Commit = omega arith
few_groups kinds.Trap = omega arith
few_groups kinds.Regs = omega arith
few_groups kinds.Csrs = omega arith
few_groups kinds.Load = omega arith
few_groups kinds.Store = omega arith
few_groups kinds.Atomic = omega arith
few_groups kinds.Drain = omega arith
few_groups kinds.Refill = omega arith
few_groups kinds.Beat = omega arith

pub presence_spelled : (kind : Kind) (numbers : List ℕ) → length numbers ≡ field_count kind → presence_bytes numbers ≡ low_bytes (groups kind) (presence numbers)
presence_spelled kind numbers long =
    ap (λ (n : ℕ). take ((n + 7) / 8) (word (presence numbers))) long ∙ low_of_word (groups kind) (presence numbers) (few_groups kind)

-- numbers in 32 places have the same second number
second_of : (numbers : List ℕ) → get_or (padded numbers) 1 0 ≡ get_or numbers 1 0
second_of [] = refl
second_of (n ∷ []) = refl
second_of (n ∷ m ∷ numbers) = refl

same_line : (kind : Kind) (numbers : List ℕ) → line_count kind (padded numbers) ≡ line_count kind numbers
same_line kinds.Commit numbers = refl
same_line kinds.Trap numbers = refl
same_line kinds.Regs numbers = refl
same_line kinds.Csrs numbers = refl
same_line kinds.Load numbers = refl
same_line kinds.Store numbers = refl
same_line kinds.Atomic numbers = refl
same_line kinds.Drain numbers = ap count_ones (second_of numbers)
same_line kinds.Refill numbers = refl
same_line kinds.Beat numbers = refl

one_bit_more : (n bits k : ℕ) → (t : Bool) → bits < 2 ^ k → cond t 0 1 + 2 * bits < 2 ^ suc k
one_bit_more n bits k t lt =
    let e : 2 ^ suc k ≡ 2 * 2 ^ k = ap (λ (j : ℕ). 2 ^ j) (let s : suc k ≡ 1 + k = omega arith in s) ∙ pow-add 2 1 k in
    elim t as (λ s. cond s 0 1 + 2 * bits < 2 ^ suc k) [ true ↦ omega arith | false ↦ omega arith ]

pub presence_below : (numbers : List ℕ) → presence numbers < 2 ^ length numbers
presence_below [] = omega arith
presence_below (n ∷ numbers) = one_bit_more n (presence numbers) (length numbers) (eqb n 0) (presence_below numbers)

-- a form, as it was read
pub record IsRead (text : List ℕ) (read : Read) : Type 0 where
  pub form : Form
  pub fits : FitsForm form
  pub text_is : text ≡ form_bytes form
  pub read_is : read ≡ read_of_form form

regroup : (v p n l : List ℕ) → v ++ (p ++ (n ++ l)) ≡ v ++ p ++ n ++ l
regroup v p n l = sym (append_assoc v p (n ++ l)) ∙ sym (append_assoc (v ++ p) n l)

pub to_form : (text : List ℕ) (read : Read) → ReadText text read → IsRead text read
to_form text read r =
    let h = r.back_piece in
    let l = h.back_piece in
    let p = l.back_piece in
    let n = p.back_piece in
    let f = n.front_piece in
    let e = n.back_piece in
    let kind = r.x in
    let numbers = f.x in
    let fields = f.front_piece in
    let e1 : text ≡ kind_number kind ∷ r.back = r.whole ∙ ap (λ (t : List ℕ). t ++ r.back) r.front_piece.same in
    let e2 : r.back ≡ h.x ∷ h.back = h.whole ∙ ap (λ (t : List ℕ). t ++ h.back) h.front_piece.same in
    let e3 : h.back ≡ varint l.x ++ l.back = l.whole ∙ ap (λ (t : List ℕ). t ++ l.back) l.front_piece.text_is in
    let bytes : p.front ≡ presence_bytes numbers =
    p.front_piece.text_is ∙ ap (low_bytes (groups kind)) (sym fields.bits_are) ∙ sym (presence_spelled kind numbers fields.fits.count_is) in
    let e4 : l.back ≡ presence_bytes numbers ++ p.back = p.whole ∙ ap (λ (t : List ℕ). t ++ p.back) bytes in
    let spelled : n.front ≡ flat_map present_bytes numbers =
    f.whole ∙ ap (λ (t : List ℕ). f.front ++ t) f.back_piece.nothing ∙ append-nil f.front ∙ fields.text_is in
    let e5 : p.back ≡ flat_map present_bytes numbers ++ n.back = n.whole ∙ ap (λ (t : List ℕ). t ++ n.back) spelled in
    let e6 : n.back ≡ e.x = e.whole ∙ ap (λ (t : List ℕ). e.front ++ t) e.back_piece.nothing ∙ append-nil e.front ∙ e.front_piece.same in
    let tail : h.back ≡ varint l.x ++ presence_bytes numbers ++ flat_map present_bytes numbers ++ e.x =
    e3 ∙ ap (λ (t : List ℕ). varint l.x ++ t) (e4 ∙ ap (λ (t : List ℕ). presence_bytes numbers ++ t) (e5 ∙ ap (λ (t : List ℕ). flat_map present_bytes numbers ++ t) e6))
    ∙ regroup (varint l.x) (presence_bytes numbers) (flat_map present_bytes numbers) e.x in
    let form : Form = record { kind = kind; hart = h.x; later = l.x; numbers = numbers; line = e.x } in
    let same : n.x ≡ padded numbers = f.back_piece.same in
    record {
      form = form;
      fits = record {
        hart = h.front_piece.below;
        later = l.front_piece.below;
        numbers = fields.fits;
        line = subst (λ (k : ℕ). FitsList k (2 ^ 8) e.x) (ap (line_count kind) same ∙ same_line kind numbers) e.front_piece.fits;
      };
      text_is = e1 ∙ ap (λ (t : List ℕ). kind_number kind ∷ t) e2 ∙ ap (λ (t : List ℕ). kind_number kind ∷ h.x ∷ t) tail;
      read_is = e.back_piece.same ∙ ap (λ (ns : List ℕ). made kind h.x l.x ns e.x) same;
    }

pub from_form : (f : Form) → FitsForm f → ReadText (form_bytes f) (read_of_form f)
from_form f fits =
    let p = presence_bytes f.numbers in
    let n = flat_map present_bytes f.numbers in
    let long : 2 ^ length f.numbers ≡ 2 ^ field_count f.kind = ap (λ (k : ℕ). 2 ^ k) fits.numbers.count_is in
    record {
      front = kind_number f.kind ∷ [];
      back = f.hart ∷ varint f.later ++ p ++ n ++ f.line;
      x = f.kind;
      front_piece = record { same = refl };
      back_piece = record {
        front = f.hart ∷ [];
        back = varint f.later ++ p ++ n ++ f.line;
        x = f.hart;
        front_piece = record { below = fits.hart; same = refl };
        back_piece = record {
          front = varint f.later;
          back = p ++ (n ++ f.line);
          x = f.later;
          front_piece = record { below = fits.later; text_is = refl };
          back_piece = record {
            front = p;
            back = n ++ f.line;
            x = presence f.numbers;
            front_piece = record {
              below = subst (λ (k : ℕ). presence f.numbers < k) long (presence_below f.numbers);
              text_is = presence_spelled f.kind f.numbers fits.numbers.count_is;
            };
            back_piece = record {
              front = n;
              back = f.line;
              x = padded f.numbers;
              front_piece = record {
                front = n;
                back = [];
                x = f.numbers;
                front_piece = record { fits = fits.numbers; bits_are = refl; text_is = refl };
                back_piece = record { nothing = refl; same = refl };
                whole = sym (append-nil n);
              };
              back_piece = record {
                front = f.line;
                back = [];
                x = f.line;
                front_piece = record { fits = subst (λ (k : ℕ). FitsList k (2 ^ 8) f.line) (sym (same_line f.kind f.numbers)) fits.line; same = refl };
                back_piece = record { nothing = refl; same = refl };
                whole = sym (append-nil f.line);
              };
              whole = refl;
            };
            whole = refl;
          };
          whole = sym (regroup (varint f.later) p n f.line);
        };
        whole = refl;
      };
      whole = refl;
    }

-- what is left is within the bytes
pub rest_within : (bytes : List ℕ) (read : Read) (rest : List ℕ) → IsBytes bytes → read_at bytes ≡ Ok (read, rest) → length rest ≤ length bytes
rest_within bytes read rest fits e =
    let h = subst (λ (r : Result (Read × List ℕ) Stop). Reads ReadText bytes r) e (read_reads bytes fits) in
    omega (arith, ap length h.parts, length-append h.text rest)

pub left_within : (bytes : List ℕ) (left : ℕ) → IsBytes bytes → read_at bytes ≡ Err (stops.Bad left) → left ≤ length bytes
left_within bytes left fits e =
    let h = subst (λ (r : Result (Read × List ℕ) Stop). Reads ReadText bytes r) e (read_reads bytes fits) in
    omega (arith, h.left_is, ap length h.parts, length-append h.good (h.wrong ∷ h.rest))

-- The other pieces of a form.
use Rattle.std.proofs.Common.{◌≡◌, ℕ, zero, suc, ◌+◌, ◌-◌, ◌*◌, ◌/◌, ◌%◌, ◌^◌, ◌<◌, ◌≤◌, Bool, true, false, cond, eqb, ltb, Option, Some, None, List, [], ◌∷◌, ◌++◌, Ok, refl, sym, ap, ◌∙◌, arith, inl, inr}
use Rattle.std.proofs.lemmas.Bool.{eqb-true, ltb-true, ltb-false, cases_lt}
use Rattle.std.proofs.lemmas.Nat.{pow-add, pow_pos, pow_below}
use Rattle.std.proofs.Math.Pow.{pow_mono}
use Rattle.dt_record.specs.declared.kinds.Kind.{Kind}
use Rattle.dt_record.specs.declared.kinds.Kind.TheVariants as kinds
use Rattle.dt_record.specs.Kinds.{kind_number, kind_with}
use Rattle.dt_short_bytes.specs.ShortReading.{◌>>=◌, bad, kind_or_bad, kind_at, byte_from, presence_at}
use Rattle.dt_short_bytes.proofs.ShortGrammar.{IsBytes, Reads, IsFree, IsInhabited, Behind, Reads-cons, Breaks-first}

-- ---- the tag

pub record KindText (text : List ℕ) (kind : Kind) : Type 0 where
  pub same : text ≡ kind_number kind ∷ []

with_number : (kind : Kind) → kind_with (kind_number kind) ≡ Some kind
with_number kinds.Commit = refl
with_number kinds.Trap = refl
with_number kinds.Regs = refl
with_number kinds.Csrs = refl
with_number kinds.Load = refl
with_number kinds.Store = refl
with_number kinds.Atomic = refl
with_number kinds.Drain = refl
with_number kinds.Refill = refl
with_number kinds.Beat = refl

chosen : (tag n : ℕ) (first kind : Kind) (others : Option Kind) (t : Bool) → eqb tag n ≡ t → kind_number first ≡ n → (others ≡ Some kind → kind_number kind ≡ tag)
    → cond t (Some first) others ≡ Some kind → kind_number kind ≡ tag
chosen tag n first kind others true et number others_are e =
    let same : first ≡ kind = cc in
    ap kind_number (sym same) ∙ number ∙ sym (eqb-true tag n et)
chosen tag n first kind others false et number others_are e = others_are e

number_with : (tag : ℕ) (kind : Kind) → kind_with tag ≡ Some kind → kind_number kind ≡ tag
number_with tag kind e =
    chosen tag 1 kinds.Commit kind _ (eqb tag 1) refl refl
    (chosen tag 2 kinds.Trap kind _ (eqb tag 2) refl refl
    (chosen tag 3 kinds.Regs kind _ (eqb tag 3) refl refl
    (chosen tag 4 kinds.Csrs kind _ (eqb tag 4) refl refl
    (chosen tag 5 kinds.Load kind _ (eqb tag 5) refl refl
    (chosen tag 6 kinds.Store kind _ (eqb tag 6) refl refl
    (chosen tag 7 kinds.Atomic kind _ (eqb tag 7) refl refl
    (chosen tag 8 kinds.Drain kind _ (eqb tag 8) refl refl
    (chosen tag 9 kinds.Refill kind _ (eqb tag 9) refl refl
    (chosen tag 10 kinds.Beat kind None (eqb tag 10) refl refl (λ f. absurd cc)))))))))) e

pub Kind-inhabited : IsInhabited KindText
Kind-inhabited = record { text = 1 ∷ []; x = kinds.Commit; piece = record { same = refl } }

some_same : (a b : Kind) (o : Option Kind) → o ≡ Some a → o ≡ Some b → a ≡ b
some_same a b o e f = cc

pub Kind-free : IsFree KindText
Kind-free = record {
  one = λ a b p q x y ga gb e.
      let both : kind_number x ∷ p ≡ kind_number y ∷ q = ap (λ (t : List ℕ). t ++ p) (sym ga.same) ∙ e ∙ ap (λ (t : List ℕ). t ++ q) gb.same in
      let numbers : kind_number x ≡ kind_number y = cc in
      let same : x ≡ y = some_same x y (kind_with (kind_number y)) (ap kind_with (sym numbers) ∙ with_number x) (with_number y) in
      (ga.same ∙ ap (λ (n : ℕ). n ∷ []) numbers ∙ sym gb.same, same);
}

kind_cases : (tag : ℕ) (after : List ℕ) (o : Option Kind) → kind_with tag ≡ o → Reads KindText (tag ∷ after) (kind_or_bad o after)
kind_cases tag after (Some kind) e =
    record { text = tag ∷ []; piece = record { same = ap (λ (n : ℕ). n ∷ []) (sym (number_with tag kind e)) }; parts = refl }
kind_cases tag after None e =
    Breaks-first KindText tag after Kind-inhabited (λ text tail after' y piece f.
    let both : kind_number y ∷ tail ≡ tag ∷ after' = ap (λ (t : List ℕ). t ++ tail) (sym piece.same) ∙ f in
    let number : kind_number y ≡ tag = cc in
    let found : kind_with tag ≡ Some y = ap kind_with (sym number) ∙ with_number y in
    absurd cc)

pub kind_reads : (bytes : List ℕ) → Reads KindText bytes (kind_at bytes)
unfolding kind_at
kind_reads [] = record { next = 1; more = []; x = kinds.Commit; piece = record { same = refl } }
kind_reads (tag ∷ after) = kind_cases tag after (kind_with tag) refl

-- ---- the hart

pub record ByteText (text : List ℕ) (b : ℕ) : Type 0 where
  pub below : b < 256
  pub same : text ≡ b ∷ []

pub Byte-inhabited : IsInhabited ByteText
Byte-inhabited = record { text = 0 ∷ []; x = 0; piece = record { below = omega arith; same = refl } }

pub Byte-free : IsFree ByteText
Byte-free = record {
  one = λ a b p q x y ga gb e.
      let both : x ∷ p ≡ y ∷ q = ap (λ (t : List ℕ). t ++ p) (sym ga.same) ∙ e ∙ ap (λ (t : List ℕ). t ++ q) gb.same in
      let same : x ≡ y = cc in
      (ga.same ∙ ap (λ (n : ℕ). n ∷ []) same ∙ sym gb.same, same);
}

pub byte_reads : (bytes : List ℕ) → IsBytes bytes → Reads ByteText bytes (byte_from bytes)
unfolding byte_from
byte_reads [] fits = record { next = 0; more = []; x = 0; piece = record { below = omega arith; same = refl } }
byte_reads (b ∷ after) fits = record { text = b ∷ []; piece = record { below = fits.0; same = refl }; parts = refl }

-- ---- the presence bytes

-- so many bytes of a number, the lowest first
abbrev pub low_bytes : ℕ → ℕ → List ℕ
low_bytes zero n = []
low_bytes (suc more) n = (n % 256) ∷ low_bytes more (n / 256)

pub record PresenceText (bytes fields : ℕ) (text : List ℕ) (bits : ℕ) : Type 0 where
  pub below : bits < 2 ^ fields
  pub text_is : text ≡ low_bytes bytes bits

none_text : (bytes fields : ℕ) → PresenceText bytes fields (low_bytes bytes 0) 0
none_text bytes fields = record { below = pow_pos fields; text_is = refl }

pub Presence-inhabited : (bytes fields : ℕ) → IsInhabited (PresenceText bytes fields)
Presence-inhabited bytes fields = record { text = low_bytes bytes 0; x = 0; piece = none_text bytes fields }

-- so many bytes hold so many bits
bits_fit : (bytes fields : ℕ) → fields ≤ 8 * suc bytes → (fields - 8 ≤ 8 * bytes)
bits_fit bytes fields le = omega arith

high_below : (fields n : ℕ) → n < 2 ^ fields → n / 256 < 2 ^ (fields - 8)
high_below fields n lt =
    elim (cases_lt fields 8) [
      | inr le ↦
          let e : 2 ^ fields ≡ 2 ^ 8 * 2 ^ (fields - 8) = ap (λ (k : ℕ). 2 ^ k) (let s : fields ≡ 8 + (fields - 8) = omega arith in s) ∙ pow-add 2 8 (fields - 8) in
          let f : n < 256 * 2 ^ (fields - 8) = omega arith in
          omega arith
      | inl small ↦
          let e : 2 ^ fields < 2 ^ 8 = pow_below fields 8 small in
          let none : fields - 8 ≡ 0 = omega arith in
          let one : 2 ^ (fields - 8) ≡ 1 = ap (λ (k : ℕ). 2 ^ k) none in
          omega arith
    ]

joined_below : (fields b n : ℕ) → b < 256 → b < 2 ^ fields → n < 2 ^ (fields - 8) → b + 256 * n < 2 ^ fields
joined_below fields b n byte low high =
    elim (cases_lt fields 8) [
      | inr le ↦
          let e : 2 ^ fields ≡ 2 ^ 8 * 2 ^ (fields - 8) = ap (λ (k : ℕ). 2 ^ k) (let s : fields ≡ 8 + (fields - 8) = omega arith in s) ∙ pow-add 2 8 (fields - 8) in
          let f : 2 ^ fields ≡ 256 * 2 ^ (fields - 8) = e in
          omega arith
      | inl small ↦
          let none : fields - 8 ≡ 0 = omega arith in
          let one : 2 ^ (fields - 8) ≡ 1 = ap (λ (k : ℕ). 2 ^ k) none in
          omega arith
    ]

low_one : (bytes x y : ℕ) (p q : List ℕ) → x < 2 ^ (8 * bytes) → y < 2 ^ (8 * bytes) → low_bytes bytes x ++ p ≡ low_bytes bytes y ++ q → x ≡ y
low_one zero x y p q lx ly e = omega arith
low_one (suc bytes) x y p q lx ly e =
    let head : x % 256 ≡ y % 256 = cc in
    let back : low_bytes bytes (x / 256) ++ p ≡ low_bytes bytes (y / 256) ++ q = cc in
    let wide : 2 ^ (8 * suc bytes) ≡ 256 * 2 ^ (8 * bytes) = ap (λ (k : ℕ). 2 ^ k) (let s : 8 * suc bytes ≡ 8 + 8 * bytes = omega arith in s) ∙ pow-add 2 8 (8 * bytes) in
    let high : x / 256 ≡ y / 256 = low_one bytes (x / 256) (y / 256) p q (omega arith) (omega arith) back in
    omega arith

within_bytes : (bytes fields n : ℕ) → fields ≤ 8 * bytes → n < 2 ^ fields → n < 2 ^ (8 * bytes)
within_bytes bytes fields n le lt =
    let wide : 2 ^ fields ≤ 2 ^ (8 * bytes) = pow_mono {i = fields} {j = 8 * bytes} le in
    omega arith

pub Presence-free : (bytes fields : ℕ) → fields ≤ 8 * bytes → IsFree (PresenceText bytes fields)
Presence-free bytes fields le = record {
  one = λ a b p q x y ga gb e.
      let both : low_bytes bytes x ++ p ≡ low_bytes bytes y ++ q = ap (λ (t : List ℕ). t ++ p) (sym ga.text_is) ∙ e ∙ ap (λ (t : List ℕ). t ++ q) gb.text_is in
      let same : x ≡ y = low_one bytes x y p q (within_bytes bytes fields x le ga.below) (within_bytes bytes fields y le gb.below) both in
      (ga.text_is ∙ ap (low_bytes bytes) same ∙ sym gb.text_is, same);
}

presence_up : (bytes fields b n : ℕ) (text : List ℕ) → b < 256 → b < 2 ^ fields → PresenceText bytes (fields - 8) text n → PresenceText (suc bytes) fields (b ∷ text) (b + 256 * n)
presence_up bytes fields b n text byte low piece =
    let head : (b + 256 * n) % 256 ≡ b = omega arith in
    let back : (b + 256 * n) / 256 ≡ n = omega arith in
    record {
      below = joined_below fields b n byte low piece.below;
      text_is = ap (λ (t : List ℕ). b ∷ t) piece.text_is ∙ ap (λ (h : ℕ). h ∷ low_bytes bytes n) (sym head) ∙ ap (λ (h : ℕ). ((b + 256 * n) % 256) ∷ low_bytes bytes h) (sym back);
    }

presence_down : (bytes fields b : ℕ) (text tail rest : List ℕ) (y : ℕ) → PresenceText (suc bytes) fields text y → text ++ tail ≡ b ∷ rest → Behind (PresenceText bytes (fields - 8)) tail rest
presence_down bytes fields b text tail rest y piece e =
    let whole : (y % 256) ∷ (low_bytes bytes (y / 256) ++ tail) ≡ b ∷ rest = ap (λ (t : List ℕ). t ++ tail) (sym piece.text_is) ∙ e in
    record {
      text = low_bytes bytes (y / 256);
      x = y / 256;
      piece = record { below = high_below fields y piece.below; text_is = refl };
      same = cc;
    }

presence_cases : (bytes fields b : ℕ) (after : List ℕ) → b < 256 → Reads (PresenceText bytes (fields - 8)) after (presence_at bytes (fields - 8) after)
    → (t : Bool) → ltb b (2 ^ fields) ≡ t
    → Reads (PresenceText (suc bytes) fields) (b ∷ after) (cond t (presence_at bytes (fields - 8) after >>= λ high. Ok (b + 256 * high.0, high.1)) (bad after))
presence_cases bytes fields b after byte others true et =
    let low : b < 2 ^ fields = ltb-true b (2 ^ fields) et in
    Reads-cons (PresenceText bytes (fields - 8)) (PresenceText (suc bytes) fields) b (λ n. b + 256 * n) (λ text n piece. presence_up bytes fields b n text byte low piece)
    (λ text tail rest y piece e. presence_down bytes fields b text tail rest y piece e) after (presence_at bytes (fields - 8) after) others
presence_cases bytes fields b after byte others false et =
    let past : 2 ^ fields ≤ b = ltb-false b (2 ^ fields) et in
    Breaks-first (PresenceText (suc bytes) fields) b after (Presence-inhabited (suc bytes) fields) (λ text tail after' y piece e.
    let below = piece.below in
    let whole : (y % 256) ∷ (low_bytes bytes (y / 256) ++ tail) ≡ b ∷ after' = ap (λ (t : List ℕ). t ++ tail) (sym piece.text_is) ∙ e in
    let head : y % 256 ≡ b = cc in
    omega arith)

pub presence_reads : (bytes fields : ℕ) (text : List ℕ) → fields ≤ 8 * bytes → IsBytes text → Reads (PresenceText bytes fields) text (presence_at bytes fields text)
unfolding presence_at
presence_reads zero fields text le fits =
    let none : fields ≡ 0 = omega arith in
    let one : 2 ^ fields ≡ 1 = ap (λ (k : ℕ). 2 ^ k) none in
    record { text = []; piece = record { below = omega arith; text_is = refl }; parts = refl }
presence_reads (suc bytes) fields [] le fits = record { next = 0; more = low_bytes bytes (0 / 256); x = 0; piece = none_text (suc bytes) fields }
presence_reads (suc bytes) fields (b ∷ after) le fits =
    presence_cases bytes fields b after fits.0 (presence_reads bytes (fields - 8) after (omega arith) fits.1) (ltb b (2 ^ fields)) refl

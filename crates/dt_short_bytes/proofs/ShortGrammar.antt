-- A piece at the front of some bytes, and pieces one after another: what was read, what lacks bytes
-- and where the bytes go wrong, each exactly.
use Rattle.std.proofs.Common.{◌≡◌, ℕ, ◌+◌, ◌<◌, suc, get_or, List, [], ◌∷◌, ◌++◌, length, Result, Ok, Err, refl, sym, ap, subst, ◌∙◌}
use Rattle.std.specs.List.{AllByRecursion}
use Rattle.std.proofs.lemmas.List.{append_assoc, append-nil, append_cancel_left}
use Rattle.dt_short_bytes.specs.declared.short_pieces.Stop.{Stop}
use Rattle.dt_short_bytes.specs.declared.short_pieces.Stop.TheVariants.{Short, Bad}
use Rattle.dt_short_bytes.specs.ShortReading.{◌>>=◌}

abbrev pub IsBytes : List ℕ → Type 0
IsBytes bytes = AllByRecursion (λ b. b < 256) bytes

pub IsBytes-back : (text rest : List ℕ) → IsBytes (text ++ rest) → IsBytes rest
IsBytes-back [] rest h = h
IsBytes-back (b ∷ text) rest h = IsBytes-back text rest h.1

pub IsBytes-front : (text rest : List ℕ) → IsBytes (text ++ rest) → IsBytes text
IsBytes-front [] rest h = tt
IsBytes-front (b ∷ text) rest h = (h.0, IsBytes-front text rest h.1)

-- a piece with this value stands at the front
pub record Takes {A : Type 0} (G : List ℕ → A → Type 0) (bytes : List ℕ) (x : A) (rest : List ℕ) : Type 0 where
  pub text : List ℕ
  pub piece : G text x
  pub parts : bytes ≡ text ++ rest

-- at least one more byte makes the bytes a piece
pub record Lacks {A : Type 0} (G : List ℕ → A → Type 0) (bytes : List ℕ) : Type 0 where
  pub next : ℕ
  pub more : List ℕ
  pub x : A
  pub piece : G (bytes ++ next ∷ more) x

-- the bytes before the wrong one begin a piece, and none goes on with it or stands before it
pub record Breaks {A : Type 0} (G : List ℕ → A → Type 0) (bytes : List ℕ) (left : ℕ) : Type 0 where
  pub good : List ℕ
  pub wrong : ℕ
  pub rest : List ℕ
  pub parts : bytes ≡ good ++ wrong ∷ rest
  pub left_is : left ≡ length rest + 1
  pub more : List ℕ
  pub x : A
  pub piece : G (good ++ more) x
  pub never : (text tail after : List ℕ) (y : A) → G text y → text ++ tail ≡ good ++ wrong ∷ after → ⊥

abbrev pub Reads : {A : Type 0} → (List ℕ → A → Type 0) → List ℕ → Result (A × List ℕ) Stop → Type 0
Reads G bytes (Ok x) = Takes G bytes x.0 x.1
Reads G bytes (Err Short) = Lacks G bytes
Reads G bytes (Err (Bad left)) = Breaks G bytes left

-- no piece begins another, and each text has one value
pub record IsFree {A : Type 0} (G : List ℕ → A → Type 0) : Type 0 where
  pub one : (a b p q : List ℕ) (x y : A) → G a x → G b y → a ++ p ≡ b ++ q → (a ≡ b) × (x ≡ y)

pub record IsInhabited {A : Type 0} (G : List ℕ → A → Type 0) : Type 0 where
  pub text : List ℕ
  pub x : A
  pub piece : G text x

-- a piece, and another that depends on its value and has the value of both
pub record Then {A Z : Type 0} (G : List ℕ → A → Type 0) (R : A → List ℕ → Z → Type 0) (text : List ℕ) (z : Z) : Type 0 where
  pub front : List ℕ
  pub back : List ℕ
  pub x : A
  pub front_piece : G front x
  pub back_piece : R x back z
  pub whole : text ≡ front ++ back

-- nothing more, with this value
pub record Ends {Z : Type 0} (made : Z) (text : List ℕ) (z : Z) : Type 0 where
  pub nothing : text ≡ []
  pub same : z ≡ made

pub Ends-reads : {Z : Type 0} (made : Z) (bytes : List ℕ) → Reads (Ends made) bytes (Ok (made, bytes))
Ends-reads made bytes = record { text = []; piece = record { nothing = refl; same = refl }; parts = refl }

pub Ends-inhabited : {Z : Type 0} (made : Z) → IsInhabited (Ends made)
Ends-inhabited made = record { text = []; x = made; piece = record { nothing = refl; same = refl } }

pub Ends-free : {Z : Type 0} (made : Z) → IsFree (Ends made)
Ends-free made = record { one = λ a b p q x y ga gb e. (ga.nothing ∙ sym gb.nothing, ga.same ∙ sym gb.same) }

pub same_front : (f g k l p q : List ℕ) → (a b : List ℕ) → a ≡ f ++ k → b ≡ g ++ l → a ++ p ≡ b ++ q → f ++ (k ++ p) ≡ g ++ (l ++ q)
same_front f g k l p q a b ea eb e =
    sym (append_assoc f k p) ∙ ap (λ (t : List ℕ). t ++ p) (sym ea) ∙ e ∙ ap (λ (t : List ℕ). t ++ q) eb ∙ append_assoc g l q

pub same_back : (f g u v : List ℕ) → f ≡ g → f ++ u ≡ g ++ v → u ≡ v
same_back f g u v s e = append_cancel_left g u v (ap (λ (t : List ℕ). t ++ u) (sym s) ∙ e)

module _ {A Z : Type 0} (G : List ℕ → A → Type 0) (R : A → List ℕ → Z → Type 0) where
  pub Then-free : IsFree G → ((x : A) → IsFree (R x)) → IsFree (Then G R)
  Then-free free frees = record {
    one = λ a b p q x y ga gb e.
        let e1 = same_front ga.front gb.front ga.back gb.back p q a b ga.whole gb.whole e in
        let fr = free.one ga.front gb.front (ga.back ++ p) (gb.back ++ q) ga.x gb.x ga.front_piece gb.front_piece e1 in
        let e2 = same_back ga.front gb.front (ga.back ++ p) (gb.back ++ q) fr.0 e1 in
        let moved : R gb.x ga.back x = subst (λ (w : A). R w ga.back x) fr.1 ga.back_piece in
        let bk = (frees gb.x).one ga.back gb.back p q x y moved gb.back_piece e2 in
        (ga.whole ∙ ap (λ (t : List ℕ). t ++ ga.back) fr.0 ∙ ap (λ (t : List ℕ). gb.front ++ t) bk.0 ∙ sym gb.whole, bk.1);
  }

  pub Then-inhabited : IsInhabited G → ((text : List ℕ) (x : A) → G text x → IsInhabited (R x)) → IsInhabited (Then G R)
  Then-inhabited first others =
      let back = others first.text first.x first.piece in
      record {
        text = first.text ++ back.text;
        x = back.x;
        piece = record { front = first.text; back = back.text; x = first.x; front_piece = first.piece; back_piece = back.piece; whole = refl };
      }

  -- what was read behind a piece was read behind the bytes before it
  lifted : (bytes text rest : List ℕ) (x : A) → IsFree G → G text x → bytes ≡ text ++ rest → (s : Result (Z × List ℕ) Stop) → Reads (R x) rest s → Reads (Then G R) bytes s
  lifted bytes text rest x free piece parts (Ok z) h = record {
    text = text ++ h.text;
    piece = record { front = text; back = h.text; x = x; front_piece = piece; back_piece = h.piece; whole = refl };
    parts = parts ∙ ap (λ (t : List ℕ). text ++ t) h.parts ∙ sym (append_assoc text h.text z.1);
  }
  lifted bytes text rest x free piece parts (Err Short) h = record {
    next = h.next;
    more = h.more;
    x = h.x;
    piece = record {
      front = text;
      back = rest ++ h.next ∷ h.more;
      x = x;
      front_piece = piece;
      back_piece = h.piece;
      whole = ap (λ (t : List ℕ). t ++ h.next ∷ h.more) parts ∙ append_assoc text rest (h.next ∷ h.more);
    };
  }
  lifted bytes text rest x free piece parts (Err (Bad left)) h = record {
    good = text ++ h.good;
    wrong = h.wrong;
    rest = h.rest;
    parts = parts ∙ ap (λ (t : List ℕ). text ++ t) h.parts ∙ sym (append_assoc text h.good (h.wrong ∷ h.rest));
    left_is = h.left_is;
    more = h.more;
    x = h.x;
    piece = record {
      front = text;
      back = h.good ++ h.more;
      x = x;
      front_piece = piece;
      back_piece = h.piece;
      whole = append_assoc text h.good h.more;
    };
    never = λ t tail after y both e.
        let e1 = same_front both.front text both.back h.good tail (h.wrong ∷ after) t (text ++ h.good) both.whole refl e in
        let fr = free.one both.front text (both.back ++ tail) (h.good ++ h.wrong ∷ after) both.x x both.front_piece piece e1 in
        let e2 = same_back both.front text (both.back ++ tail) (h.good ++ h.wrong ∷ after) fr.0 e1 in
        h.never both.back tail after y (subst (λ (w : A). R w both.back y) fr.1 both.back_piece) e2;
  }

  -- a step and then the others
  pub Then-reads : (bytes : List ℕ) (r : Result (A × List ℕ) Stop) (f : A × List ℕ → Result (Z × List ℕ) Stop) → IsFree G
      → ((text : List ℕ) (x : A) → G text x → IsInhabited (R x)) → Reads G bytes r
      → ((text : List ℕ) (x : A) (rest : List ℕ) → G text x → bytes ≡ text ++ rest → Reads (R x) rest (f (x, rest)))
      → Reads (Then G R) bytes (r >>= f)
  Then-reads bytes (Ok x) f free others h go = lifted bytes h.text x.1 x.0 free h.piece h.parts (f x) (go h.text x.0 x.1 h.piece h.parts)
  Then-reads bytes (Err Short) f free others h go =
      let back = others (bytes ++ h.next ∷ h.more) h.x h.piece in
      record {
        next = h.next;
        more = h.more ++ back.text;
        x = back.x;
        piece = record {
          front = bytes ++ h.next ∷ h.more;
          back = back.text;
          x = h.x;
          front_piece = h.piece;
          back_piece = back.piece;
          whole = sym (append_assoc bytes (h.next ∷ h.more) back.text);
        };
      }
  Then-reads bytes (Err (Bad left)) f free others h go =
      let back = others (h.good ++ h.more) h.x h.piece in
      record {
        good = h.good;
        wrong = h.wrong;
        rest = h.rest;
        parts = h.parts;
        left_is = h.left_is;
        more = h.more ++ back.text;
        x = back.x;
        piece = record {
          front = h.good ++ h.more;
          back = back.text;
          x = h.x;
          front_piece = h.piece;
          back_piece = back.piece;
          whole = sym (append_assoc h.good h.more back.text);
        };
        never = λ t tail after y both e.
            h.never both.front (both.back ++ tail) after both.x both.front_piece (same_front both.front [] both.back (h.good ++ h.wrong ∷ after) tail [] t (h.good ++ h.wrong ∷ after) both.whole refl (e ∙ sym (append-nil (h.good ++ h.wrong ∷ after))) ∙ append-nil (h.good ++ h.wrong ∷ after));
      }

module _ {A : Type 0} (G : List ℕ → A → Type 0) where
  no_more : (rest more : List ℕ) (next : ℕ) → rest ++ next ∷ more ≡ [] → ⊥
  no_more [] more next e = absurd cc
  no_more (b ∷ rest) more next e = absurd cc

  -- two texts of pieces, one of which goes on
  goes_on : IsFree G → (a b rest more : List ℕ) (next : ℕ) (x y : A) → G a x → G b y → b ≡ a ++ (rest ++ next ∷ more) → ⊥
  goes_on free a b rest more next x y ga gb e =
      let e1 : a ++ (rest ++ next ∷ more) ≡ b ++ [] = sym e ∙ sym (append-nil b) in
      let same = free.one a b (rest ++ next ∷ more) [] x y ga gb e1 in
      no_more rest more next (same_back a b (rest ++ next ∷ more) [] same.0 e1)

  -- what stands at the front is read
  pub Reads-done : IsFree G → (bytes text rest : List ℕ) (x : A) → G text x → bytes ≡ text ++ rest → (r : Result (A × List ℕ) Stop) → Reads G bytes r → r ≡ Ok (x, rest)
  Reads-done free bytes text rest x piece parts (Ok y) h =
      let e : h.text ++ y.1 ≡ text ++ rest = sym h.parts ∙ parts in
      let same = free.one h.text text y.1 rest y.0 x h.piece piece e in
      let back : y.1 ≡ rest = same_back h.text text y.1 rest same.0 e in
      ap (λ (w : A). Ok (w, y.1)) same.1 ∙ ap (λ (t : List ℕ). Ok (x, t)) back
  Reads-done free bytes text rest x piece parts (Err Short) h =
      absurd (goes_on free text (bytes ++ h.next ∷ h.more) rest h.more h.next x h.x piece h.piece (ap (λ (t : List ℕ). t ++ h.next ∷ h.more) parts ∙ append_assoc text rest (h.next ∷ h.more)))
  Reads-done free bytes text rest x piece parts (Err (Bad left)) h =
      absurd (h.never text rest h.rest x piece (sym parts ∙ h.parts))

  -- what lacks bytes is found short
  pub Reads-short : IsFree G → (bytes : List ℕ) → Lacks G bytes → (r : Result (A × List ℕ) Stop) → Reads G bytes r → r ≡ Err Short
  Reads-short free bytes lacks (Ok y) h =
      absurd (goes_on free h.text (bytes ++ lacks.next ∷ lacks.more) y.1 lacks.more lacks.next y.0 lacks.x h.piece lacks.piece (ap (λ (t : List ℕ). t ++ lacks.next ∷ lacks.more) h.parts ∙ append_assoc h.text y.1 (lacks.next ∷ lacks.more)))
  Reads-short free bytes lacks (Err Short) h = refl
  Reads-short free bytes lacks (Err (Bad left)) h =
      absurd (h.never (bytes ++ lacks.next ∷ lacks.more) [] (h.rest ++ lacks.next ∷ lacks.more) lacks.x lacks.piece
      (append-nil (bytes ++ lacks.next ∷ lacks.more) ∙ ap (λ (t : List ℕ). t ++ lacks.next ∷ lacks.more) h.parts ∙ append_assoc h.good (h.wrong ∷ h.rest) (lacks.next ∷ lacks.more)))

-- two ways to say a piece
pub Reads-same : {A : Type 0} (G H : List ℕ → A → Type 0) → ((text : List ℕ) (x : A) → G text x → H text x) → ((text : List ℕ) (x : A) → H text x → G text x)
    → (bytes : List ℕ) (r : Result (A × List ℕ) Stop) → Reads G bytes r → Reads H bytes r
Reads-same G H to from bytes (Ok x) h = record { text = h.text; piece = to h.text x.0 h.piece; parts = h.parts }
Reads-same G H to from bytes (Err Short) h = record { next = h.next; more = h.more; x = h.x; piece = to (bytes ++ h.next ∷ h.more) h.x h.piece }
Reads-same G H to from bytes (Err (Bad left)) h = record {
  good = h.good;
  wrong = h.wrong;
  rest = h.rest;
  parts = h.parts;
  left_is = h.left_is;
  more = h.more;
  x = h.x;
  piece = to (h.good ++ h.more) h.x h.piece;
  never = λ text tail after y piece e. h.never text tail after y (from text y piece) e;
}

pub free-same : {A : Type 0} (G H : List ℕ → A → Type 0) → ((text : List ℕ) (x : A) → H text x → G text x) → IsFree G → IsFree H
free-same G H from free = record { one = λ a b p q x y ha hb e. free.one a b p q x y (from a x ha) (from b y hb) e }

-- the text and the value of a piece that is left when a byte is taken off
pub record Behind {A : Type 0} (G : List ℕ → A → Type 0) (tail rest : List ℕ) : Type 0 where
  pub text : List ℕ
  pub x : A
  pub piece : G text x
  pub same : text ++ tail ≡ rest

-- a byte, and the rest of a piece behind it
pub Reads-cons : {A : Type 0} (G H : List ℕ → A → Type 0) (b : ℕ) (value : A → A)
    → ((text : List ℕ) (x : A) → G text x → H (b ∷ text) (value x))
    → ((text tail rest : List ℕ) (y : A) → H text y → text ++ tail ≡ b ∷ rest → Behind G tail rest)
    → (after : List ℕ) (r : Result (A × List ℕ) Stop) → Reads G after r → Reads H (b ∷ after) (r >>= λ high. Ok (value high.0, high.1))
Reads-cons G H b value up down after (Ok x) h = record { text = b ∷ h.text; piece = up h.text x.0 h.piece; parts = ap (λ (t : List ℕ). b ∷ t) h.parts }
Reads-cons G H b value up down after (Err Short) h = record { next = h.next; more = h.more; x = value h.x; piece = up (after ++ h.next ∷ h.more) h.x h.piece }
Reads-cons G H b value up down after (Err (Bad left)) h = record {
  good = b ∷ h.good;
  wrong = h.wrong;
  rest = h.rest;
  parts = ap (λ (t : List ℕ). b ∷ t) h.parts;
  left_is = h.left_is;
  more = h.more;
  x = value h.x;
  piece = up (h.good ++ h.more) h.x h.piece;
  never = λ text tail after' y piece e.
      let behind = down text tail (h.good ++ h.wrong ∷ after') y piece e in
      h.never behind.text tail after' behind.x behind.piece behind.same;
}

-- the wrong byte is the first
pub Breaks-first : {A : Type 0} (G : List ℕ → A → Type 0) (wrong : ℕ) (rest : List ℕ) → IsInhabited G
    → ((text tail after : List ℕ) (y : A) → G text y → text ++ tail ≡ wrong ∷ after → ⊥) → Breaks G (wrong ∷ rest) (length rest + 1)
Breaks-first G wrong rest some never = record { good = []; wrong = wrong; rest = rest; parts = refl; left_is = refl; more = some.text; x = some.x; piece = some.piece; never = never }

pub bytes_from : (bytes : List ℕ) → ((i : ℕ) → get_or bytes i 0 < 256) → IsBytes bytes
bytes_from [] h = tt
bytes_from (b ∷ bytes) h = (h 0, bytes_from bytes (λ i. h (suc i)))

-- A header from its bytes.
use Rattle.std.proofs.Common.{◌≡◌, ℕ, zero, suc, ◌+◌, ◌-◌, ◌<◌, ◌≤◌, inl, inr, Bool, true, false, not, IsTrue, List, [], ◌∷◌, ◌++◌, length, drop, get_or, Some, refl, sym, ap, ◌∙◌, subst, arith}
use Rattle.std.specs.Prelude.{◌==◌}
use Rattle.std.proofs.Math.ListN.{get_or-append}
use Rattle.std.proofs.lemmas.Bool.{cases_lt}
use Rattle.std.proofs.lemmas.List.{length-append, length-drop}
use Rattle.dt_record.specs.Spelling.{half, word, flag}
use Rattle.dt_record.specs.Spelling as spelling
use Rattle.dt_record.specs.ProbeFile.{header_bytes}
use Rattle.dt_record.specs.declared.spellings.Version.{Version}
use Rattle.dt_record.specs.declared.spellings.Version.TheVariants.{One, Two}
use Rattle.dt_probe_file.specs.declared.headers.Heading.TheVariants.{Whole, Begun, Wrong}
use Rattle.dt_record.specs.Versions.{version_of}
use Rattle.dt_probe_file.specs.Headers.{IsHeading, header_byte, field_start, plain_header}
use Rattle.dt_probe_file.proofs.HeaderFields.{AreRight, IsHeader, fault_at, no_fault, header_of, get_or_behind}

abbrev pub FollowsByte : Version → ℕ → Type 0
FollowsByte One b = b ≡ 1
FollowsByte Two b = b ≡ 1 → ⊥

flag_back : (w : Bool) (b : ℕ) → b ≡ flag w → not (b == 0) ≡ w
flag_back true b e = ap (λ (n : ℕ). not (n == 0)) e
flag_back false b e = ap (λ (n : ℕ). not (n == 0)) e

same_parts : (u : spelling.Version) (x : List ℕ) (harts : ℕ) (wide : Bool) (rest : List ℕ) → get_or x 10 0 ≡ harts → not (get_or x 11 0 == 0) ≡ wide → drop 16 x ≡ rest
    → header_bytes u (get_or x 10 0) (not (get_or x 11 0 == 0)) ++ drop 16 x ≡ header_bytes u harts wide ++ rest
same_parts u x harts wide rest a b d =
    ap (λ (n : ℕ). header_bytes u n (not (get_or x 11 0 == 0)) ++ drop 16 x) a ∙ ap (λ (w : Bool). header_bytes u harts w ++ drop 16 x) b ∙ ap (λ (z : List ℕ). header_bytes u harts wide ++ z) d

harts_in : (x : List ℕ) (u : spelling.Version) (harts : ℕ) (wide : Bool) (rest : List ℕ) → x ≡ header_bytes u harts wide ++ rest → get_or x 10 0 ≡ harts
unfolding header_bytes half word
harts_in x spelling.One harts wide rest e = ap (λ (z : List ℕ). get_or z 10 0) e
harts_in x spelling.Two harts wide rest e = ap (λ (z : List ℕ). get_or z 10 0) e

harts_are : (x : List ℕ) (h : IsHeader x) → get_or x 10 0 ≡ h.harts
harts_are x h = harts_in x h.version h.harts h.wide h.rest h.spelled

-- the version, the harts and the flag of a header stand in three of its bytes
told_header : (x : List ℕ) (v : Version) (u : spelling.Version) (harts : ℕ) (wide : Bool) (rest : List ℕ) → x ≡ header_bytes u harts wide ++ rest → FollowsByte v (get_or x 8 0)
    → x ≡ header_bytes (version_of v) (get_or x 10 0) (not (get_or x 11 0 == 0)) ++ drop 16 x
unfolding header_bytes half word
told_header x One spelling.One harts wide rest e is = e ∙ sym (same_parts spelling.One x harts wide rest (ap (λ (z : List ℕ). get_or z 10 0) e) (flag_back wide (get_or x 11 0) (ap (λ (z : List ℕ). get_or z 11 0) e)) (ap (drop 16) e))
told_header x Two spelling.Two harts wide rest e is = e ∙ sym (same_parts spelling.Two x harts wide rest (ap (λ (z : List ℕ). get_or z 10 0) e) (flag_back wide (get_or x 11 0) (ap (λ (z : List ℕ). get_or z 11 0) e)) (ap (drop 16) e))
told_header x One spelling.Two harts wide rest e is = absurd (let two : get_or x 8 0 ≡ 2 = ap (λ (z : List ℕ). get_or z 8 0) e in omega (arith, is, two))
told_header x Two spelling.One harts wide rest e is = absurd (is (ap (λ (z : List ℕ). get_or z 8 0) e))

pub whole_header : (x : List ℕ) (k : ℕ) (v : Version) → k ≡ 16 → k ≤ length x → AreRight x k → FollowsByte v (get_or x 8 0) → IsHeading x (Whole v (get_or x 10 0) (not (get_or x 11 0 == 0)))
whole_header x k v all within are is =
    let long : 16 ≤ length x = omega (arith, all, within) in
    let h = header_of x (no_fault x long (subst (AreRight x) all are)) in
    let harts = harts_are x h in
    (told_header x v h.version h.harts h.wide h.rest h.spelled is, subst (λ (n : ℕ). 1 ≤ n) (sym harts) h.some_hart, subst (λ (n : ℕ). n ≤ 8) (sym harts) h.few_harts, long)

-- A header from its beginning.

plain_right : (i : ℕ) → i < 16 → IsTrue (header_byte i (get_or plain_header i 0))
plain_right zero lt = refl
plain_right (suc zero) lt = refl
plain_right (suc (suc zero)) lt = refl
plain_right (suc (suc (suc zero))) lt = refl
plain_right (suc (suc (suc (suc zero)))) lt = refl
plain_right (suc (suc (suc (suc (suc zero))))) lt = refl
plain_right (suc (suc (suc (suc (suc (suc zero)))))) lt = refl
plain_right (suc (suc (suc (suc (suc (suc (suc zero))))))) lt = refl
plain_right (suc (suc (suc (suc (suc (suc (suc (suc zero)))))))) lt = refl
plain_right (suc (suc (suc (suc (suc (suc (suc (suc (suc zero))))))))) lt = refl
plain_right (suc (suc (suc (suc (suc (suc (suc (suc (suc (suc zero)))))))))) lt = refl
plain_right (suc (suc (suc (suc (suc (suc (suc (suc (suc (suc (suc zero))))))))))) lt = refl
plain_right (suc (suc (suc (suc (suc (suc (suc (suc (suc (suc (suc (suc zero)))))))))))) lt = refl
plain_right (suc (suc (suc (suc (suc (suc (suc (suc (suc (suc (suc (suc (suc zero))))))))))))) lt = refl
plain_right (suc (suc (suc (suc (suc (suc (suc (suc (suc (suc (suc (suc (suc (suc zero)))))))))))))) lt = refl
plain_right (suc (suc (suc (suc (suc (suc (suc (suc (suc (suc (suc (suc (suc (suc (suc zero))))))))))))))) lt = refl
plain_right (suc (suc (suc (suc (suc (suc (suc (suc (suc (suc (suc (suc (suc (suc (suc (suc i)))))))))))))))) lt = absurd (omega arith)

behind_at : (x y : List ℕ) (i j : ℕ) → length x + j ≡ i → get_or (x ++ y) i 0 ≡ get_or y j 0
behind_at [] y i j e = ap (λ (n : ℕ). get_or y n 0) (let same : i ≡ j = omega arith in same)
behind_at (b ∷ x) y zero j e = absurd (omega arith)
behind_at (b ∷ x) y (suc i) j e = behind_at x y i j (omega arith)

-- the bytes of the plain header behind those that are there
others : List ℕ → List ℕ
others x = drop (length x) plain_header

filled_right : (x : List ℕ) → length x < 16 → AreRight x (length x) → AreRight (x ++ others x) 16
unfolding others
filled_right x few are i lt =
    elim (cases_lt i (length x)) [
      | inl there ↦ subst (λ (b : ℕ). IsTrue (header_byte i b)) (sym (get_or-append x (others x) 0 i there)) (are i there)
      | inr behind ↦
          let place : length x + (i - length x) ≡ i = omega arith in
          let byte : get_or (x ++ others x) i 0 ≡ get_or plain_header i 0 =
          behind_at x (others x) i (i - length x) place ∙ get_or_behind plain_header (length x) (i - length x) ∙ ap (λ (n : ℕ). get_or plain_header n 0) place in
          subst (λ (b : ℕ). IsTrue (header_byte i b)) (sym byte) (plain_right i lt)
    ]

filled_long : (x : List ℕ) → length x < 16 → 16 ≤ length (x ++ others x)
unfolding others
filled_long x few = omega (arith, length-append x (others x), length-drop (length x) plain_header)

pub begun_header : (x : List ℕ) (k field : ℕ) → k < 16 → k ≡ length x → AreRight x k → field ≡ field_start k → IsHeading x (Begun field)
begun_header x k field few all are is =
    let fault = fault_at x k few (omega (arith, all)) are (λ less. absurd (omega (arith, all, less))) in
    let short : length x < 16 = omega (arith, few, all) in
    let right : AreRight x (length x) = subst (AreRight x) all are in
    (fault ∙ ap (λ (n : ℕ). Some n) (sym is), (short, others x, no_fault (x ++ others x) (filled_long x short) (filled_right x short right)))

pub wrong_header : (x : List ℕ) (k field : ℕ) → k < 16 → k < length x → AreRight x k → (k < 16 → k < length x → header_byte k (get_or x k 0) ≡ false) → field ≡ field_start k → IsHeading x (Wrong field)
wrong_header x k field few within are wrong is more =
    let here : (i : ℕ) → i < length x → get_or (x ++ more) i 0 ≡ get_or x i 0 = λ (i : ℕ) (lt : i < length x). get_or-append x more 0 i lt in
    fault_at (x ++ more) k few (omega (arith, within, length-append x more)) (λ i lt. subst (λ (b : ℕ). IsTrue (header_byte i b)) (sym (here i (omega arith))) (are i lt))
    (λ less. subst (λ (b : ℕ). header_byte k b ≡ false) (sym (here k within)) (wrong few within)) ∙ ap (λ (n : ℕ). Some n) (sym is)
